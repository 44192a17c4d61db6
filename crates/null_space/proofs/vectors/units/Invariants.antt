use Rattle.whole_numbers.proofs.Common.{◌≡◌, ◌++◌, ◌-◌, map}
use Rattle.null_space.specs.Narrowing.{units_from}
use Rattle.null_space.proofs.vectors.units.Given as goal

abbrev pub invariant-loop-at : goal.invariant-loop-at
invariant-loop-at l =
    map (λ v. v.items) l.units.items ++ units_from l.columns l.at
    (l.columns - l.at) ≡ units_from l.columns 0 l.columns
