use Rattle.whole_numbers.proofs.Common.{◌≡◌, ◌-◌, length}
use Rattle.farkas.specs.Run.{kept_from}
use Rattle.farkas.proofs.dropping.without_implied.Given as goal

abbrev pub invariant-loop-at : goal.invariant-loop-at
invariant-loop-at l = record {
  flat : l.system.parameters ≡ 0;
  dimensions : l.system.dimensions ≡ l.fn.system.dimensions;
  equalities : l.system.equalities ≡ l.fn.system.equalities;
  kept : kept_from l.budget l.system l.at ≡ kept_from l.budget l.fn.system l.first;
}

abbrev pub decreases-loop-at : goal.decreases-loop-at
decreases-loop-at l = length l.system.rows - l.at
