use Rattle.whole_numbers.proofs.Common.{◌≡◌, ◌+◌, drop}
use Rattle.fm_projection.specs.steps.Places.{parallel_place}
use Rattle.fm_projection.proofs.tightest.parallel_place.Given as goal

abbrev pub invariant-loop-at : goal.invariant-loop-at
invariant-loop-at l = l.at + parallel_place l.form (drop l.at l.rows) ≡ parallel_place l.form l.rows
