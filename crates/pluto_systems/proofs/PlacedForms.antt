-- Values of placed forms.
use Rattle.scop_syntax.proofs.Common.{◌≡◌, ℕ, suc, ◌+◌, Bool, true, false, ℤ, List, [], ◌∷◌, ◌++◌, refl, sym, ◌∙◌, ap}
use Rattle.scop_syntax.proofs.Common.{inl, inr, arith, length, take, drop, reverse, append_assoc, ◌≤◌, ◌+ℤ◌}
use Rattle.scop_syntax.proofs.Common.{if◌then◌else◌, flat_map, ints, length-reverse, length-take-le, length-drop}
use Rattle.scop_syntax.proofs.Common.{take-append-drop, cases_Bool, Affine, value_of, dot, zeros, dot-append, dot-zeros}
use Rattle.scop_syntax.proofs.Common.{length-zeros}
use Rattle.std.proofs.lemmas.List.{length-append}
use Rattle.farkas.specs.Unknowns.{Part, part_numbers}
use Rattle.schedule_rows.specs.Items.{Row, numbers_of}
use Rattle.pluto_systems.specs.Placing.{is_end, placed_parts, placed, gathered_parts, gathered, AreShaped, IsShaped}

pub length-part : (p : Part) → length (part_numbers p) ≡ length p.coefficients + 1
length-part p = let a = length-append (reverse p.coefficients)
    (p.shift ∷ []) in let b = length-reverse p.coefficients in omega arith

pub placed_end : (a b s l : ℕ) (ls : List ℕ) (cs : List ℤ) → is_end a b s ≡ true
    → placed_parts a b s (l ∷ ls) cs ≡ take (l + 1) cs ++ placed_parts a b (suc s) ls (drop (l + 1) cs)
placed_end a b s l ls cs h =
    ap (λ (x : Bool). if x then take (l + 1) cs ++ placed_parts a b (suc s) ls (drop (l + 1) cs) else zeros
    (l + 1) ++ placed_parts a b (suc s) ls cs) h

pub placed_other : (a b s l : ℕ) (ls : List ℕ) (cs : List ℤ) → is_end a b s ≡ false
    → placed_parts a b s (l ∷ ls) cs ≡ zeros (l + 1) ++ placed_parts a b (suc s) ls cs
placed_other a b s l ls cs h =
    ap (λ (x : Bool). if x then take (l + 1) cs ++ placed_parts a b (suc s) ls (drop (l + 1) cs) else zeros
    (l + 1) ++ placed_parts a b (suc s) ls cs) h

pub gathered_end : (a b s : ℕ) (p : Part) (ps : List Part) → is_end a b s ≡ true
    → gathered_parts a b s (p ∷ ps) ≡ part_numbers p ++ gathered_parts a b (suc s) ps
gathered_end a b s p ps h = ap (λ (x : Bool). if x then part_numbers p
    ++ gathered_parts a b (suc s) ps else gathered_parts a b (suc s) ps) h

pub gathered_other : (a b s : ℕ) (p : Part) (ps : List Part) → is_end a b s ≡ false
    → gathered_parts a b s (p ∷ ps) ≡ gathered_parts a b (suc s) ps
gathered_other a b s p ps h = ap (λ (x : Bool). if x then part_numbers p
    ++ gathered_parts a b (suc s) ps else gathered_parts a b (suc s) ps) h

-- a list of factors in two parts
split_dot : (k : ℕ) (cs xs ys : List ℤ) → length xs ≡ k → k ≤ length cs
    → dot cs (xs ++ ys) ≡ dot (take k cs) xs +ℤ dot (drop k cs) ys
split_dot k cs xs ys h l =
    ap (λ (z : List ℤ). dot z (xs ++ ys)) (sym (take-append-drop k cs))
    ∙ dot-append (take k cs) (drop k cs) xs ys (length-take-le k cs l ∙ sym h)

pub parts_value : (a b s : ℕ) (loops : List ℕ) (ps : List Part) (cs : List ℤ) → AreShaped loops ps
    → length cs ≡ length (gathered_parts a b s ps)
    → dot (placed_parts a b s loops cs) (flat_map part_numbers ps) ≡ dot cs (gathered_parts a b s ps)
parts_value a b s [] [] [] h e = refl
parts_value a b s [] [] (c ∷ cs) h e = absurd (omega (arith, e))
parts_value a b s [] (p ∷ ps) cs h e = absurd h
parts_value a b s (l ∷ ls) [] cs h e = absurd h
parts_value a b s (l ∷ ls) (p ∷ ps) cs h e = elim (cases_Bool (is_end a b s)) [
  | inl t ↦
      let g = gathered_parts a b (suc s) ps in
      let k = length-part p ∙ ap (λ (n : ℕ). n + 1) h.0 in
      let size = e ∙ ap length (gathered_end a b s p ps t) ∙ length-append (part_numbers p) g in
      let le : l + 1 ≤ length cs = omega arith in
      let more = length-drop (l + 1) cs in
      ap (λ (z : List ℤ). dot z (part_numbers p ++ flat_map part_numbers ps)) (placed_end a b s l ls cs t)
      ∙ (dot-append (take (l + 1) cs) (placed_parts a b (suc s) ls (drop (l + 1) cs)) (part_numbers p)
      (flat_map part_numbers ps) (length-take-le (l + 1) cs le ∙ sym k)
      ∙ (ap (λ (z : ℤ). dot (take (l + 1) cs) (part_numbers p) +ℤ z) (parts_value a b (suc s) ls ps (drop
      (l + 1) cs) h.1 (omega arith))
      ∙ (sym (split_dot (l + 1) cs (part_numbers p) g k le) ∙ ap (λ (z : List ℤ). dot cs z) (sym
      (gathered_end a b s p ps t)))))
  | inr t ↦
      let k = length-part p ∙ ap (λ (n : ℕ). n + 1) h.0 in
      let z = dot-zeros (l + 1) (part_numbers p) in
      let r = parts_value a b (suc s) ls ps cs h.1 (e ∙ ap length (gathered_other a b s p ps t)) in
      let d = dot-append (zeros (l + 1)) (placed_parts a b (suc s) ls cs) (part_numbers p)
      (flat_map part_numbers ps) (length-zeros (l + 1) ∙ sym k) in
      ap (λ (z : List ℤ). dot z (part_numbers p ++ flat_map part_numbers ps)) (placed_other a b s l ls cs t)
      ∙ (omega (arith, ints) ∙ ap (λ (z : List ℤ). dot cs z) (sym (gathered_other a b s p ps t)))
]

pub apart_front : (us more : List ℤ) (w : ℤ) → us ++ w ∷ more ≡ (us ++ w ∷ []) ++ more
apart_front us more w = sym (append_assoc us (w ∷ []) more)

-- the value of a placed form is that of the form at the unknowns
pub placed_value : (m a b : ℕ) (loops : List ℕ) (f : Affine) (r : Row) → IsShaped m loops r
    → length f.coefficients ≡ length (gathered a b r)
    → value_of (placed m a b loops f) (numbers_of r) ≡ value_of f (gathered a b r)
placed_value m a b loops f r h e =
    let cs = f.coefficients in
    let front = r.u ++ r.w ∷ [] in
    let g = gathered_parts a b 0 r.parts in
    let k = length-append r.u (r.w ∷ []) in
    let s = h.bounds in
    let size = e ∙ ap length (apart_front r.u g r.w) ∙ length-append front g in
    let le : m + 1 ≤ length cs = omega arith in
    let more = length-drop (m + 1) cs in
    let one : length front ≡ m + 1 = omega arith in
    let whole = ap (λ (z : List ℤ). dot (placed m a b loops f).coefficients z) (apart_front r.u
    (flat_map part_numbers r.parts) r.w)
    ∙ dot-append (take (m + 1) cs) (placed_parts a b 0 loops (drop (m + 1) cs)) front
    (flat_map part_numbers r.parts) (length-take-le (m + 1) cs le ∙ sym one) in
    let parts = parts_value a b 0 loops r.parts (drop (m + 1) cs) h.parts (omega arith) in
    let back = split_dot (m + 1) cs front g one le in
    let same = ap (λ (z : List ℤ). dot cs z) (apart_front r.u g r.w) in
    ap (λ (z : ℤ). z +ℤ f.constant) (whole ∙ (ap (λ (z : ℤ). dot (take (m + 1) cs) front +ℤ z) parts ∙ (sym back
    ∙ sym same)))
