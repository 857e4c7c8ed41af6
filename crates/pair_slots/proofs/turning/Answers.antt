-- The source turns behind the start, the end of one word behind that word where openings matter, and no other pair does.
use Rattle.pair_slots.specs.Leaves.{turns_source, turns_end, turns_inside, turns_apart, turns_closed}
use Rattle.pair_slots.proofs.turning.Goals as goal

pub returns-then-place_count-low : goal.returns-then-place_count-low
returns-then-place_count-low c = search turns_source

pub returns-then-opens : goal.returns-then-opens
returns-then-opens c = search turns_end

pub returns-else-opens : goal.returns-else-opens
returns-else-opens c = search turns_closed

pub returns-else-is_end : goal.returns-else-is_end
returns-else-is_end c = search turns_inside

pub returns-else-low-pair : goal.returns-else-low-pair
returns-else-low-pair c = search turns_apart
