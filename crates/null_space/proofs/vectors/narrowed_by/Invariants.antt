use Rattle.whole_numbers.proofs.Common.{◌≡◌, ◌++◌, map, drop}
use Rattle.null_space.specs.Narrowing.{narrowed_by}
use Rattle.null_space.proofs.vectors.narrowed_by.Given as goal

abbrev pub invariant-loop-at : goal.invariant-loop-at
invariant-loop-at l =
    map (λ v. v.items) l.narrowed.items ++ narrowed_by l.row (drop l.at (map (λ v. v.items) l.vectors))
    ≡ narrowed_by l.row (map (λ v. v.items) l.vectors)
