use Rattle.whole_numbers.proofs.Common.{◌≡◌, map, take}
use Rattle.null_space.specs.Narrowing.{kernel_vectors}
use Rattle.null_space.proofs.vectors.kernel_vectors.Given as goal

abbrev pub invariant-loop-at : goal.invariant-loop-at
invariant-loop-at l =
    map (λ v. v.items) l.vectors.items ≡ kernel_vectors l.columns (take l.at (map (λ v. v.items) l.rows))
