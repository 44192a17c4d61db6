-- The forms of a posed system are over all columns.
use Rattle.scop_syntax.proofs.Common.{◌≡◌, ℕ, zero, suc, ◌+◌, ◌<◌, ℤ, pos, negsuc, List, [], ◌∷◌, ◌++◌, refl, sym, ◌∙◌}
use Rattle.scop_syntax.proofs.Common.{ap, subst, inl, inr, arith, length, reverse, take, drop, map, All, ◌≤◌, ◌≤ℤ◌}
use Rattle.scop_syntax.proofs.Common.{slice_index_or, flat_map, ints, length-reverse, length-take-le, length-drop}
use Rattle.scop_syntax.proofs.Common.{All-nil, All-cons, All-head, All-tail, All-append, cases_Bool, Affine, zeros}
use Rattle.scop_syntax.proofs.Common.{length-zeros}
use Rattle.std.proofs.lemmas.List.{length-append}
use Rattle.affine_forms.specs.Parts.{variables_of}
use Rattle.fractions.specs.Farkas.{AreNotNegative}
use Rattle.integer_sets.specs.Constraints.{IsSized, variables_in}
use Rattle.null_space.specs.Sizes.{AreLong}
use Rattle.farkas.specs.Unknowns.{Part, part_numbers}
use Rattle.schedule_rows.specs.Items.{Row, part_of, numbers_of}
use Rattle.pluto_systems.specs.Placing.{columns_in, columns_of, is_end, placed_parts, placed, gathered_parts, gathered}
use Rattle.pluto_systems.specs.Placing.{AreShaped, IsShaped, row_from}
use Rattle.pluto_systems.specs.Posing.{RuledDep, IsRuled, IsBetween, equalities_for, rows_for, own_form, own_row}
use Rattle.pluto_systems.specs.Posing.{added, growth_rows, growth_from, AreSmallVectors}
use Rattle.pluto_systems.proofs.PlacedForms.{length-part, apart_front, gathered_end, gathered_other, placed_end}
use Rattle.pluto_systems.proofs.PlacedForms.{placed_other}
use Rattle.pluto_systems.proofs.GatheredUnknowns.{both_one}
use Rattle.pluto_systems.proofs.Rows.{row_numbers, row_shaped}
use Rattle.pluto_systems.proofs.LowerLaws.{RowLaws}
use Rattle.pluto_systems.proofs.Points.{Facts, facts, AreRuled, added_length, shaped_length, shaped_at}

parts_columns : (a b s : ℕ) (loops : List ℕ) (ps : List Part) (cs : List ℤ) → AreShaped loops ps
    → length cs ≡ length (gathered_parts a b s ps)
    → length (placed_parts a b s loops cs) ≡ columns_in loops
parts_columns a b s [] [] cs h e = refl
parts_columns a b s [] (p ∷ ps) cs h e = absurd h
parts_columns a b s (l ∷ ls) [] cs h e = absurd h
parts_columns a b s (l ∷ ls) (p ∷ ps) cs h e = elim (cases_Bool (is_end a b s)) [
  | inl t ↦
      let g = gathered_parts a b (suc s) ps in
      let k = length-part p in
      let q = h.0 in
      let size = e ∙ ap length (gathered_end a b s p ps t) ∙ length-append (part_numbers p) g in
      let d = length-drop (l + 1) cs in
      let r = parts_columns a b (suc s) ls ps (drop (l + 1) cs) h.1 (omega arith) in
      let w = ap length (placed_end a b s l ls cs t) ∙ length-append (take (l + 1) cs) (placed_parts a b (suc s) ls
      (drop (l + 1) cs)) in
      let f = length-take-le (l + 1) cs (omega arith) in
      omega arith
  | inr t ↦
      let r = parts_columns a b (suc s) ls ps cs h.1 (e ∙ ap length (gathered_other a b s p ps t)) in
      let w = ap length (placed_other a b s l ls cs t) ∙ length-append (zeros (l + 1)) (placed_parts a b
      (suc s) ls cs) in
      let f = length-zeros (l + 1) in
      omega arith
]

placed_sized : (m a b : ℕ) (loops : List ℕ) (f : Affine) (r : Row) → IsShaped m loops r
    → length f.coefficients ≡ length (gathered a b r)
    → variables_of (placed m a b loops f) ≡ columns_of m loops
placed_sized m a b loops f r h e =
    let cs = f.coefficients in
    let front = r.u ++ r.w ∷ [] in
    let g = gathered_parts a b 0 r.parts in
    let k = length-append r.u (r.w ∷ []) in
    let s = h.bounds in
    let size = e ∙ ap length (apart_front r.u g r.w) ∙ length-append front g in
    let d = length-drop (m + 1) cs in
    let t = length-take-le (m + 1) cs (omega arith) in
    let p = parts_columns a b 0 loops r.parts (drop (m + 1) cs) h.parts (omega arith) in
    let w = length-append (take (m + 1) cs) (placed_parts a b 0 loops (drop (m + 1) cs)) in
    omega arith

blank_shaped : (m : ℕ) (loops : List ℕ) → IsShaped m loops (row_from m loops (zeros (columns_of m loops)))
blank_shaped m loops = row_shaped m loops (zeros (columns_of m loops)) (length-zeros (columns_of m loops))

zeros_not_negative : (n : ℕ) → AreNotNegative (zeros n)
zeros_not_negative zero = All-nil (λ x. pos 0 ≤ℤ x)
zeros_not_negative (suc n) = All-cons (λ x. pos 0 ≤ℤ x) (pos 0) (zeros n) (omega (arith, ints)) (zeros_not_negative n)

blank_not_negative : (m : ℕ) (loops : List ℕ) → AreNotNegative (numbers_of (row_from m loops (zeros
    (columns_of m loops))))
blank_not_negative m loops =
    subst AreNotNegative (sym (row_numbers m loops (zeros (columns_of m loops)) (length-zeros
    (columns_of m loops)))) (zeros_not_negative (columns_of m loops))

abbrev Sized : ℕ → Affine → Type 0
Sized n f = variables_of f ≡ n

map_sized : (k n : ℕ) (h : Affine → Affine) (fs : List Affine) → ((f : Affine) → variables_of f ≡ k
    → variables_of (h f) ≡ n)
    → All (Sized k) fs → All (Sized n) (map h fs)
map_sized k n h [] e all = All-nil (Sized n)
map_sized k n h (f ∷ fs) e all =
    All-cons (Sized n) (h f) (map h fs) (e f (All-head (Sized k) f fs all)) (map_sized k n h fs e (All-tail
    (Sized k) f fs all))

dep_sized : RowLaws → (m : ℕ) (loops : List ℕ) (x : RuledDep) → IsRuled x → IsBetween m loops x.dep
    → All (Sized (columns_of m loops)) (equalities_for m loops x) × All (Sized (columns_of m loops))
    (rows_for m loops x)
dep_sized laws m loops x h b =
    let source = x.dep.source.statement in
    let target = x.dep.target.statement in
    let r = row_from m loops (zeros (columns_of m loops)) in
    let shape = blank_shaped m loops in
    let f : Facts m x r = facts laws m loops x r h b shape (blank_not_negative m loops) in
    let move = placed m source target loops in
    let n = columns_of m loops in
    let size : (k : ℕ) → length (gathered source target r) ≡ k → (q : Affine) → variables_of q ≡ k
    → variables_of (move q) ≡ n =
    λ k e q v. placed_sized m source target loops q r shape (v ∙ sym e) in
    let l = size (variables_in x.legal) f.legal_size in
    let u = size (variables_in x.bounded) f.bounded_size in (
      All-append (Sized n) (map move x.legal.equalities) (map move x.bounded.equalities)
          (map_sized (variables_in x.legal) n move x.legal.equalities l h.legal_sized.equalities_sized)
          (map_sized (variables_in x.bounded) n move x.bounded.equalities u h.bounded_sized.equalities_sized),
      All-append (Sized n) (map move x.legal.rows) (map move x.bounded.rows)
          (map_sized (variables_in x.legal) n move x.legal.rows l h.legal_sized.rows_sized)
          (map_sized (variables_in x.bounded) n move x.bounded.rows u h.bounded_sized.rows_sized),
    )

deps_sized : RowLaws → (m : ℕ) (loops : List ℕ) (ruled : List RuledDep) → AreRuled m loops ruled
    → All (Sized (columns_of m loops)) (flat_map (equalities_for m loops) ruled) × All (Sized (columns_of m loops))
    (flat_map (rows_for m loops) ruled)
deps_sized laws m loops [] h = (All-nil (Sized (columns_of m loops)), All-nil (Sized (columns_of m loops)))
deps_sized laws m loops (x ∷ ruled) h =
    let k = h x (inl refl) in
    let n = columns_of m loops in
    let one = dep_sized laws m loops x k.0 k.1 in
    let more = deps_sized laws m loops ruled (λ y i. h y (inr i)) in (
      All-append (Sized n) (equalities_for m loops x) (flat_map (equalities_for m loops) ruled) one.0 more.0,
      All-append (Sized n) (rows_for m loops x) (flat_map (rows_for m loops) ruled) one.1 more.1,
    )

own_sized : (m : ℕ) (loops : List ℕ) (s : ℕ) (k : ℤ) (v : List ℤ) → s < length loops
    → length v ≡ slice_index_or loops s 0
    → variables_of (own_row m loops s k v) ≡ columns_of m loops
own_sized m loops s k v l e =
    let r = row_from m loops (zeros (columns_of m loops)) in
    let shape = blank_shaped m loops in
    let p = part_of r s in
    let front = r.u ++ r.w ∷ [] in
    let count = shaped_length loops r.parts shape.parts in
    let at_s = shaped_at loops r.parts s shape.parts in
    let g = both_one s s 0 s r.parts (omega arith) (omega arith) (omega arith) in
    let whole : gathered s s r ≡ front ++ part_numbers p = ap (λ (z : List ℤ). r.u ++ r.w ∷ z) g
    ∙ apart_front r.u (part_numbers p) r.w in
    let f = length-append r.u (r.w ∷ []) in
    let b = shape.bounds in
    let rv = length-reverse v in
    let lb = length-append (reverse v) (pos 0 ∷ []) in
    let lo = length-append (zeros (m + 1)) (reverse v ++ pos 0 ∷ []) in
    let lz = length-zeros (m + 1) in
    let lp = length-part p in
    let lw = ap length whole ∙ length-append front (part_numbers p) in
    placed_sized m s s loops (own_form m v k) r shape (omega arith)

vectors_sized : (m : ℕ) (loops : List ℕ) (s : ℕ) (vs : List (List ℤ)) → s < length loops
    → AreLong (slice_index_or loops s 0) vs
    → All (Sized (columns_of m loops)) (map (own_row m loops s (pos 0)) vs)
vectors_sized m loops s [] l long = All-nil (Sized (columns_of m loops))
vectors_sized m loops s (v ∷ vs) l long =
    let P : List ℤ → Type 0 = λ u. length u ≡ slice_index_or loops s 0 in
    All-cons (Sized (columns_of m loops)) (own_row m loops s (pos 0) v) (map (own_row m loops s (pos 0)) vs)
    (own_sized m loops s (pos 0) v l (All-head P v vs long)) (vectors_sized m loops s vs l (All-tail P v vs long))

growth_sized : (m : ℕ) (loops : List ℕ) (s : ℕ) (vs : List (List ℤ)) → s < length loops
    → AreLong (slice_index_or loops s 0) vs
    → All (Sized (columns_of m loops)) (growth_rows m loops s vs)
growth_sized m loops s [] l long = All-nil (Sized (columns_of m loops))
growth_sized m loops s (v ∷ vs) l long =
    let P : List ℤ → Type 0 = λ u. length u ≡ slice_index_or loops s 0 in
    let n = columns_of m loops in
    let sum = added_length (slice_index_or loops s 0) v vs (All-head P v vs long) (All-tail P v vs long) in
    All-append (Sized n) (map (own_row m loops s (pos 0)) (v ∷ vs)) (own_row m loops s (negsuc 0) (added v vs) ∷ [])
    (vectors_sized m loops s (v ∷ vs) l long)
    (All-cons (Sized n) (own_row m loops s (negsuc 0) (added v vs)) [] (own_sized m loops s (negsuc 0)
    (added v vs) l sum) (All-nil (Sized n)))

from_sized : (m : ℕ) (loops : List ℕ) (s : ℕ) (vectors : List (List (List ℤ))) → s + length vectors ≤ length loops
    → ((k : ℕ) → k < length vectors → AreLong (slice_index_or loops (s + k) 0) (slice_index_or vectors k []))
    → All (Sized (columns_of m loops)) (growth_from m loops s vectors)
from_sized m loops s [] l long = All-nil (Sized (columns_of m loops))
from_sized m loops s (vs ∷ more) l long =
    let e : s + 0 ≡ s = omega arith in
    let first = subst (λ (z : ℕ). AreLong (slice_index_or loops z 0) vs) e (long zero (omega arith)) in
    All-append (Sized (columns_of m loops)) (growth_rows m loops s vs) (growth_from m loops (suc s) more)
    (growth_sized m loops s vs (omega (arith, l)) first)
    (from_sized m loops (suc s) more (omega (arith, l)) (λ k lk.
    let f : s + suc k ≡ suc s + k = omega arith in
    subst (λ (z : ℕ). AreLong (slice_index_or loops z 0) (slice_index_or more k [])) f (long (suc k) (omega
    (arith, lk)))))

pub posed_sized : RowLaws → (m : ℕ) (loops : List ℕ) (ruled : List RuledDep) (vectors : List (List (List ℤ)))
    → AreRuled m loops ruled → AreSmallVectors loops vectors
    → IsSized (columns_of m loops) (flat_map (equalities_for m loops) ruled) (flat_map (rows_for m loops) ruled
    ++ growth_from m loops 0 vectors)
posed_sized laws m loops ruled vectors h v =
    let d = deps_sized laws m loops ruled h in
    let z = v.size in
    record {
      equalities_sized = d.0;
      rows_sized = All-append (Sized (columns_of m loops)) (flat_map (rows_for m loops) ruled)
          (growth_from m loops 0 vectors) d.1
          (from_sized m loops 0 vectors (omega arith) (λ k lk.
          let e : k ≡ 0 + k = omega arith in
          subst (λ (i : ℕ). AreLong (slice_index_or loops i 0) (slice_index_or vectors k [])) e (v.long k
          (omega arith))));
    }
