-- An array of zeros is the table of zeros.
use Rattle.code.specs.Definitions.Lists.{tabulate}
use Rattle.code.specs.Definitions.Bans.{origin}
use Rattle.code.specs.Definitions.Enlarged.{plain_of, blank_enlarged}
use Rattle.code.specs.Definitions.Sheets.{blank_code, code_of}
use Rattle.ban_copies.proofs.blank_enlarged.Goals as goal

pub returns : goal.returns
unfolding blank_enlarged plain_of blank_code code_of tabulate origin
returns c = rw c.blank_code-code.ensures
