use Rattle.whole_numbers.proofs.Common.{◌≡◌, ◌≤◌, ◌-◌}
use Rattle.farkas.specs.Run.{left_run}
use Rattle.farkas.proofs.elimination.without_multipliers.Given as goal

abbrev pub invariant-loop-alloc : goal.invariant-loop-alloc
invariant-loop-alloc l = record {
  flat : l.system.parameters ≡ 0;
  inside : l.unknowns ≤ l.system.dimensions;
  left : left_run l.budget l.unknowns (l.system.dimensions - l.unknowns) l.system
      ≡ left_run l.budget l.unknowns (l.fn.system.dimensions - l.unknowns) l.fn.system;
}

abbrev pub decreases-loop-alloc : goal.decreases-loop-alloc
decreases-loop-alloc l = l.system.dimensions - l.unknowns
