use Rattle.scop_syntax.proofs.Common.{◌≡◌, take, map, values, size_of}
use Rattle.scop_meaning.proofs.layout.Layout.of.Given as goal

abbrev pub invariant-loop-array : goal.invariant-loop-array
invariant-loop-array l =
    map (λ s. s.items) l.arrays.items
    ≡ map (λ d. map size_of (values d.extents l.params)) (take l.array-index l.kernel.arrays.items)
