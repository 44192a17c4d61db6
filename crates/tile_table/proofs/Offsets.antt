-- The number of an access's cell: modulo 2^64, and exactly where it lies in its array.
use Rattle.scop_syntax.proofs.Common.{◌≡◌, ◌∙◌, ap, refl, subst, ℕ, zero, suc, ◌+◌, ◌*◌, ◌≤◌, List, [], ◌∷◌, drop}
use Rattle.scop_syntax.proofs.Common.{length, min, arith, ℤ, pos, negsuc, ◌+ℤ◌, ◌*ℤ◌, ◌≤ℤ◌, slice_index_or, take, ints}
use Rattle.scop_syntax.proofs.Common.{cell_of, values, AreWithin, IsCell, cell_number, offset_from, size_of}
use Rattle.scop_syntax.proofs.Common.{total_cells, Access, Affine}
use Rattle.tile_table.specs.Numbers.{number_at, number_behind, row_major}
use Rattle.tile_table.specs.steps.Same.{AreSame, IsSame}
use Rattle.tile_table.proofs.Congruences.{lists_same, offset_same, sum_same, values_same}

offset_ended : (extents : List ℕ) (offset : ℤ) → row_major offset extents [] ≡ offset
offset_ended [] offset = refl
offset_ended (extent ∷ extents) offset = refl

-- one step of an offset that is made subscript by subscript
pub offset_more : (extents : List ℕ) (ss : List ℤ) (at extent : ℕ) (s offset next whole : ℤ)
    → drop at extents ≡ extent ∷ drop (at + 1) extents → drop at ss ≡ s ∷ drop (at + 1) ss
    → IsSame next (s +ℤ (pos extent *ℤ offset))
    → IsSame (row_major offset (drop at extents) (drop at ss)) whole
    → IsSame (row_major next (drop (at + 1) extents) (drop (at + 1) ss)) whole
offset_more extents ss at extent s offset next whole of_extents of_ss is same =
    let left = drop (at + 1) extents in
    let behind = drop (at + 1) ss in
    let entered : IsSame (row_major (s +ℤ (pos extent *ℤ offset)) left behind) whole =
    subst (λ (ts : List ℤ). IsSame (row_major offset (extent ∷ left) ts) whole) of_ss
    (subst (λ (es : List ℕ). IsSame (row_major offset es (drop at ss)) whole) of_extents same) in
    offset_same left next (s +ℤ (pos extent *ℤ offset)) behind behind is (lists_same behind) ∙ entered

-- nothing is left where one of the lists has ended
pub offset_whole : (extents : List ℕ) (ss : List ℤ) (at : ℕ) (offset : ℤ) → min (length extents) (length ss) ≤ at
    → row_major offset (drop at extents) (drop at ss) ≡ offset
offset_whole [] ss zero offset past = refl
offset_whole [] ss (suc at) offset past = refl
offset_whole (extent ∷ extents) [] zero offset past = refl
offset_whole (extent ∷ extents) [] (suc at) offset past = offset_ended (drop at extents) offset
offset_whole (extent ∷ extents) (s ∷ ss) zero offset past = absurd (omega (arith, past))
offset_whole (extent ∷ extents) (s ∷ ss) (suc at) offset past =
    offset_whole extents ss at offset (omega (arith, past))

-- at points that are the same the numbers are
pub number_same : (before : ℕ) (extents : List ℕ) (subscripts : List Affine) (p q : List ℤ) → AreSame p q
    → IsSame (number_behind before extents subscripts p) (number_behind before extents subscripts q)
number_same before extents subscripts p q all =
    let ss = values subscripts p in
    let ts = values subscripts q in
    sum_same (pos before) (pos before) (row_major (pos 0) extents ss) (row_major (pos 0) extents ts) refl
    (offset_same extents (pos 0) (pos 0) ss ts refl (values_same subscripts p q all))

step_exact : (extent offset : ℕ) (s : ℤ) → pos 0 ≤ℤ s
    → s +ℤ (pos extent *ℤ pos offset) ≡ pos (offset * extent + size_of s)
step_exact extent offset (pos m) low = omega (arith, ints)
step_exact extent offset (negsuc m) low = absurd (omega (arith, ints))

offset_exact : (extents : List ℕ) (offset : ℕ) (ss : List ℤ) → AreWithin ss extents
    → row_major (pos offset) extents ss ≡ pos (offset_from offset extents ss)
offset_exact [] offset [] within = refl
offset_exact [] offset (s ∷ ss) within = absurd within
offset_exact (extent ∷ extents) offset [] within = absurd within
offset_exact (extent ∷ extents) offset (s ∷ ss) within =
    ap (λ (z : ℤ). row_major z extents ss) (step_exact extent offset s within.0)
    ∙ offset_exact extents (offset * extent + size_of s) ss within.2

pub number_exact : (extents : List (List ℕ)) (access : Access) (point : List ℤ) → IsCell extents (cell_of access point)
    → number_at extents access point ≡ pos (cell_number extents (cell_of access point))
number_exact extents access point is =
    ap (λ (z : ℤ). pos (total_cells (take access.array extents)) +ℤ z)
    (offset_exact (slice_index_or extents access.array []) 0 (values access.subscripts point) is.subscripts)
