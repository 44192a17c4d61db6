use Rattle.scop_syntax.proofs.Common.{◌≡◌, take, map, Declaration, values, size_of}
use Rattle.data_text.proofs.extents.layout_of.Given as goal

abbrev pub invariant-loop-array : goal.invariant-loop-array
invariant-loop-array l = map (λ row. row.items) l.sizes.items
    ≡ map (λ (d : Declaration). map size_of (values d.extents l.params)) (take l.array-index l.arrays)
