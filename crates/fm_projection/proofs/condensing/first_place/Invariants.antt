use Rattle.whole_numbers.proofs.Common.{◌≡◌, ◌+◌, drop}
use Rattle.fm_projection.specs.Condensed.{first_place}
use Rattle.fm_projection.proofs.condensing.first_place.Given as goal

abbrev pub invariant-loop-at : goal.invariant-loop-at
invariant-loop-at l = l.at + first_place (drop l.at l.numbers) ≡ first_place l.numbers
