use Rattle.scop_syntax.proofs.Common.{◌≡◌, ◌++◌, drop, map, []}
use Rattle.null_space.specs.Narrowing.{kernel_vectors}
use Rattle.pluto_search.proofs.begin.first_vectors.Given as goal

abbrev pub invariant-loop-at : goal.invariant-loop-at
invariant-loop-at l =
    map (λ v. map (λ u. u.items) v.items) l.vectors.items
    ++ map (λ n. kernel_vectors n []) (drop l.at l.search.loops.now)
    ≡ map (λ n. kernel_vectors n []) l.search.loops.now
