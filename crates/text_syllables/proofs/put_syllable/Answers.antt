-- A syllable is a field, and B7 parts them.
use Rattle.text_syllables.proofs.put_syllable.Goals as goal

pub returns : goal.returns
returns c = c.put_field.ensures
