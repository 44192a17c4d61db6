use Rattle.whole_numbers.proofs.Common.{◌≡◌, ◌+◌, ◌++◌, [], map, drop, get_or}
use Rattle.null_space.specs.Narrowing.{against}
use Rattle.null_space.proofs.vectors.push_orthogonal.Given as goal

abbrev pub invariant-loop-at : goal.invariant-loop-at
invariant-loop-at l =
    map (λ v. v.items) l.all.items ++ map (against l.row (get_or (map (λ v. v.items) l.vectors) l.goes []))
    (drop l.at (map (λ v. v.items) l.vectors))
    ≡ map (λ v. v.items) l.fn.narrowed.items
    ++ map (against l.row (get_or (map (λ v. v.items) l.vectors) l.goes []))
    (drop (l.goes + 1) (map (λ v. v.items) l.vectors))
