-- How many variables a scan set's forms have, and how large they are.
use Rattle.scop_syntax.proofs.Common.{◌≡◌, ℕ, suc, ◌+◌, ◌-◌, ◌*◌, ◌^◌, ◌<◌, ◌≤◌, Bool, true, false, ℤ, pos, negsuc}
use Rattle.scop_syntax.proofs.Common.{List, [], ◌∷◌, ◌++◌, refl, sym, ◌∙◌, ap, subst, arith, length, mul-le-mul}
use Rattle.scop_syntax.proofs.Common.{length-append, to_z, of_z, ◌-ℤ◌, neg_ℤ, unsigned_abs, if◌then◌else◌, All}
use Rattle.scop_syntax.proofs.Common.{FitsSigned, w64, w128, ints, to_z-of_z, fits_signed_from_abs, All-head, All-tail}
use Rattle.scop_syntax.proofs.Common.{Affine, sum_of_forms, multiple_of_form, zeros, multiples, length-zeros}
use Rattle.scop_syntax.proofs.Common.{length-sums, length-multiples, abs_at_most}
use Rattle.std.proofs.lemmas.Int.{to_z_pos}
use Rattle.affine_forms.specs.Parts.{variables_of}
use Rattle.iteration_domains.specs.Sizes.{size, form_size}
use Rattle.iteration_domains.specs.Rows.{variable}
use Rattle.iteration_domains.proofs.Surroundings.{length-variable}
use Rattle.iteration_domains.proofs.Sizes.{size-zeros, size-sum, size-multiple, size-variable}
use Rattle.loop_tree.specs.Tiling.{TileRow}
use Rattle.schedule_rows.specs.Sized.{IsSmall}
use Rattle.tile_skew.specs.declared.layout.Layout.{Layout}
use Rattle.tile_skew.specs.steps.Sizes.{FitsTurns, FitsWidth}
use Rattle.tile_skew.specs.ScanSets.{width, row_form, number_form, carried, carried_form}

pub size-append : (xs ys : List ℤ) → size (xs ++ ys) ≡ size xs + size ys
size-append [] ys = omega arith
size-append (x ∷ xs) ys = let r = size-append xs ys in omega arith

pub length-row : (l : Layout) (f : Affine) → variables_of f ≡ l.turns → variables_of (row_form l f) ≡ width l
length-row l f h =
    let a = length-append (zeros l.front) (f.coefficients ++ zeros (l.missing + l.parameters)) in
    let b = length-append f.coefficients (zeros (l.missing + l.parameters)) in
    let z = length-zeros l.front in
    let y = length-zeros (l.missing + l.parameters) in
    omega (arith, h)

pub size-row : (l : Layout) (f : Affine) → form_size (row_form l f) ≡ form_size f
size-row l f =
    let a = size-append (zeros l.front) (f.coefficients ++ zeros (l.missing + l.parameters)) in
    let b = size-append f.coefficients (zeros (l.missing + l.parameters)) in
    let z = size-zeros l.front in
    let y = size-zeros (l.missing + l.parameters) in
    omega arith

pub length-number : (l : Layout) (k : ℤ) → variables_of (number_form l k) ≡ width l
length-number l k = length-zeros (width l)

pub size-number : (l : Layout) (k : ℤ) → form_size (number_form l k) ≡ unsigned_abs k
size-number l k = let z = size-zeros (width l) in omega arith

pub size-carried : (rows : List TileRow) → size (carried rows) ≤ length rows
size-carried [] = omega arith
size-carried (r ∷ rs) = let more = size-carried rs in let one = entry r.carries in omega arith
  where
    entry : (b : Bool) → unsigned_abs (if b then pos 1 else pos 0) ≤ 1
    entry true = omega arith
    entry false = omega arith

pub length-carried : (rows : List TileRow) → length (carried rows) ≡ length rows
length-carried [] = refl
length-carried (r ∷ rs) = ap suc (length-carried rs)

pub length-carried_form : (l : Layout) (j : ℕ) (rows : List TileRow) → j + length rows ≤ width l
    → variables_of (carried_form l j rows) ≡ width l
length-carried_form l j rows h =
    let rest = zeros (width l - (j + length rows)) in
    let a = length-append (zeros j) (carried rows ++ rest) in
    let b = length-append (carried rows) rest in
    let z = length-zeros j in
    let y = length-zeros (width l - (j + length rows)) in
    let c = length-carried rows in
    omega (arith, h)

pub size-carried_form : (l : Layout) (j : ℕ) (rows : List TileRow) → form_size (carried_form l j rows) ≤ length rows
size-carried_form l j rows =
    let rest = zeros (width l - (j + length rows)) in
    let a = size-append (zeros j) (carried rows ++ rest) in
    let b = size-append (carried rows) rest in
    let z = size-zeros j in
    let y = size-zeros (width l - (j + length rows)) in
    let c = size-carried rows in
    omega arith

-- small numbers, few of them
pub small_number : (z : ℤ) → IsSmall z → unsigned_abs z ≤ 4096
small_number (pos n) k = let up = k.1 in omega (arith, ints)
small_number (negsuc n) k = let low = k.0 in absurd (omega (arith, ints))

pub size-few : (cs : List ℤ) → All IsSmall cs → size cs ≤ 4096 * length cs
size-few [] h = omega arith
size-few (c ∷ cs) h =
    let more = size-few cs (All-tail IsSmall c cs h) in
    let one = small_number c (All-head IsSmall c cs h) in
    omega arith

-- the size of a tile, its opposite and its last number
pub tile_held : (n : ℕ) → n ≤ 1024 → to_z w128 n ≡ pos n
tile_held n h = to_z_pos w128 n (omega arith)

pub opposite_size : (n : ℕ) → n ≤ 1024 → unsigned_abs (neg_ℤ (pos n)) ≤ 1024
opposite_size n h = abs_at_most (neg_ℤ (pos n)) 1024 (omega (arith, ints)) (omega (arith, ints))

pub opposite_held : (n : ℕ) → n ≤ 1024 → to_z w128 (of_z w128 (pos 0 -ℤ to_z w128 n)) ≡ neg_ℤ (pos n)
opposite_held n h =
    let opposite : pos 0 -ℤ pos n ≡ neg_ℤ (pos n) = omega (arith, ints) in
    ap (λ z. to_z w128 (of_z w128 z)) (ap (λ z. pos 0 -ℤ z) (tile_held n h) ∙ opposite)
    ∙ to_z-of_z w128 (neg_ℤ (pos n)) (fits_signed_from_abs w128 (neg_ℤ (pos n)) (omega (arith, opposite_size n h)))

last_size : (n : ℕ) → n ≤ 1024 → unsigned_abs (pos n -ℤ pos 1) ≤ 1024
last_size n h = abs_at_most (pos n -ℤ pos 1) 1024 (omega (arith, ints)) (omega (arith, ints))

-- a number of 64 bits is itself in 128 bits
pub narrow_held : (z : ℤ) → FitsSigned w64 z → to_z w128 (of_z w128 (to_z w64 (of_z w64 z))) ≡ z
narrow_held z narrow =
    let wide : FitsSigned w128 z = omega (arith, ints, narrow) in
    ap (λ n. to_z w128 (of_z w128 n)) (to_z-of_z w64 z narrow) ∙ to_z-of_z w128 z wide

-- a multiple of a dimension behind a form stays small
pub small_sum : (f d k : ℕ) → f ≤ 2 ^ 99 → k ≤ 1024 → d ≤ 1 → f + k * d ≤ 2 ^ 100
small_sum f d k h a b = let m : k * d ≤ 1024 * 1 = mul-le-mul a b in omega arith

-- the end of a tile less 0: size * T + size - 1
abbrev pub end_form : Layout → ℤ → ℕ → Affine
end_form l s at = sum_of_forms (number_form l (s -ℤ pos 1)) (multiple_of_form s (variable (width l) at))

pub length-end : (l : Layout) (s : ℤ) (at : ℕ) → variables_of (end_form l s at) ≡ width l
length-end l s at =
    let v = variable (width l) at in
    let m = length-multiples s v.coefficients ∙ length-variable (width l) at in
    length-sums (zeros (width l)) (multiples s v.coefficients) (length-zeros (width l) ∙ sym m) ∙ length-zeros (width l)

pub size-end : (l : Layout) (n at : ℕ) → n ≤ 1024 → form_size (end_form l (pos n) at) ≤ 2048
size-end l n at h =
    let v = variable (width l) at in
    let a = size-sum (number_form l (pos n -ℤ pos 1)) (multiple_of_form (pos n) v) in
    let o = size-number l (pos n -ℤ pos 1) in
    let m = size-multiple (pos n) v in
    let k = last_size n h in
    let p : unsigned_abs (pos n) * form_size v ≤ 1024 * 1 = mul-le-mul h (size-variable (width l) at) in
    omega arith

-- a form that is a row's or a number's
pub row_small : (l : Layout) (f g : Affine) → g ≡ row_form l f → FitsTurns l.turns f → width l < 2 ^ 64
    → FitsWidth l g
row_small l f g e h fits =
    let s = size-row l f in
    let k = h.1 in
    let small : form_size (row_form l f) ≤ 2 ^ 99 = omega (arith, fits, k, s) in
    (ap variables_of e ∙ length-row l f h.0, subst (λ (z : Affine). form_size z ≤ 2 ^ 99) (sym e) small)

pub number_small : (l : Layout) (k : ℤ) (g : Affine) → g ≡ number_form l k → unsigned_abs k < 2 ^ 64
    → FitsWidth l g
number_small l k g e h =
    let s = size-number l k in
    let small : form_size (number_form l k) ≤ 2 ^ 99 = omega arith in
    (ap variables_of e ∙ length-number l k, subst (λ (z : Affine). form_size z ≤ 2 ^ 99) (sym e) small)

pub carried_small : (l : Layout) (j : ℕ) (rows : List TileRow) (g : Affine) → g ≡ carried_form l j rows
    → j + length rows ≤ width l → width l < 2 ^ 64 → FitsWidth l g
carried_small l j rows g e h fits =
    let s = size-carried_form l j rows in
    let small : form_size (carried_form l j rows) ≤ 2 ^ 99 = omega (arith, h, fits) in
    (ap variables_of e ∙ length-carried_form l j rows h, subst (λ (z : Affine). form_size z ≤ 2 ^ 99) (sym e) small)
