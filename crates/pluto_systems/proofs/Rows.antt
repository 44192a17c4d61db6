-- Lists of numbers and rows are one, so least points are least rows.
use Rattle.scop_syntax.proofs.Common.{◌≡◌, ℕ, suc, ◌+◌, ◌<◌, ℤ, pos, List, [], ◌∷◌, ◌++◌, refl, sym, ◌∙◌, ap, ap₂}
use Rattle.scop_syntax.proofs.Common.{subst, arith, length, take, drop, add-one, drop-cons, get_or, slice_index_or}
use Rattle.scop_syntax.proofs.Common.{flat_map, length-reverse, length-take-le, length-drop, take-append-drop}
use Rattle.scop_syntax.proofs.Common.{reverse-reverse, LexLess}
use Rattle.std.proofs.lemmas.List.{length-append}
use Rattle.whole_numbers.specs.Lexicographic.{IsLeast}
use Rattle.fractions.specs.Farkas.{AreNotNegative}
use Rattle.integer_sets.specs.Constraints.{Constraints}
use Rattle.integer_sets.specs.Points.{Satisfies}
use Rattle.iteration_domains.specs.Dependence.{Dependence}
use Rattle.farkas.specs.Unknowns.{Part, part_numbers}
use Rattle.schedule_rows.specs.Items.{Row, numbers_of}
use Rattle.schedule_rows.specs.Posed.{IsPosed, HasNone}
use Rattle.schedule_rows.specs.Posed as posed
use Rattle.pluto_systems.specs.Placing.{columns_in, columns_of, AreShaped, IsShaped, parts_from, row_from}
use Rattle.farkas.specs.Minimum.{IsTaken}
use Rattle.pluto_systems.specs.Posing.{HasPosed}
use Rattle.pluto_systems.proofs.PlacedForms.{length-part, apart_front}

-- the front, one number, and what is behind
cut : (xs : List ℤ) (k : ℕ) → k < length xs → take k xs ++ get_or xs k (pos 0) ∷ drop (k + 1) xs ≡ xs
cut xs k h = ap (λ (z : List ℤ). take k xs ++ z) (ap (λ (n : ℕ). get_or xs k (pos 0) ∷ drop n xs) (add-one k)
    ∙ sym (drop-cons xs k (pos 0) h)) ∙ take-append-drop k xs

pub parts_numbers : (loops : List ℕ) (xs : List ℤ) → length xs ≡ columns_in loops
    → flat_map part_numbers (parts_from loops xs) ≡ xs
parts_numbers [] [] h = refl
parts_numbers [] (x ∷ xs) h = absurd (omega (arith, h))
parts_numbers (l ∷ ls) xs h =
    let d = length-drop (l + 1) xs in
    let r = parts_numbers ls (drop (l + 1) xs) (omega arith) in
    ap₂ (λ (a : List ℤ) (b : List ℤ). (a ++ get_or xs l (pos 0) ∷ []) ++ b) (reverse-reverse (take l xs)) r
    ∙ (sym (apart_front (take l xs) (drop (l + 1) xs) (get_or xs l (pos 0))) ∙ cut xs l (omega arith))

pub parts_shaped : (loops : List ℕ) (xs : List ℤ) → length xs ≡ columns_in loops
    → AreShaped loops (parts_from loops xs)
parts_shaped [] xs h = tt
parts_shaped (l ∷ ls) xs h =
    let d = length-drop (l + 1) xs in
    (length-reverse (take l xs) ∙ length-take-le l xs (omega arith), parts_shaped ls (drop (l + 1) xs) (omega arith))

pub row_numbers : (m : ℕ) (loops : List ℕ) (xs : List ℤ) → length xs ≡ columns_of m loops
    → numbers_of (row_from m loops xs) ≡ xs
row_numbers m loops xs h =
    let d = length-drop (m + 1) xs in
    ap (λ (z : List ℤ). take m xs ++ get_or xs m (pos 0) ∷ z) (parts_numbers loops (drop (m + 1) xs) (omega arith))
    ∙ cut xs m (omega arith)

pub row_shaped : (m : ℕ) (loops : List ℕ) (xs : List ℤ) → length xs ≡ columns_of m loops
    → IsShaped m loops (row_from m loops xs)
row_shaped m loops xs h =
    let d = length-drop (m + 1) xs in
    record { bounds = length-take-le m xs (omega arith); parts = parts_shaped loops (drop (m + 1) xs) (omega arith) }

pub parts_length : (loops : List ℕ) (ps : List Part) → AreShaped loops ps
    → length (flat_map part_numbers ps) ≡ columns_in loops
parts_length [] [] h = refl
parts_length [] (p ∷ ps) h = absurd h
parts_length (l ∷ ls) [] h = absurd h
parts_length (l ∷ ls) (p ∷ ps) h =
    let a = length-append (part_numbers p) (flat_map part_numbers ps) in
    let b = length-part p in
    let c = parts_length ls ps h.1 in
    let e = h.0 in
    omega arith

pub row_length : (m : ℕ) (loops : List ℕ) (r : Row) → IsShaped m loops r → length (numbers_of r) ≡ columns_of m loops
row_length m loops r h =
    let a = length-append r.u (r.w ∷ flat_map part_numbers r.parts) in
    let b = parts_length loops r.parts h.parts in
    let c = h.bounds in
    omega arith

shape_of : (loops : List ℕ) (ps : List Part) → length ps ≡ length loops
    → ((s : ℕ) → length (slice_index_or ps s (record { coefficients = []; shift = pos 0 })).coefficients
    ≡ slice_index_or loops s 0) → AreShaped loops ps
shape_of [] [] e h = tt
shape_of [] (p ∷ ps) e h = absurd (omega (arith, e))
shape_of (l ∷ ls) [] e h = absurd (omega (arith, e))
shape_of (l ∷ ls) (p ∷ ps) e h = (h 0, shape_of ls ps (omega (arith, e)) (λ s. h (suc s)))

pub posed_shape : (m : ℕ) (loops : List ℕ) (deps : List Dependence) (before : List Row) (r : Row)
    → IsPosed m loops deps before r → IsShaped m loops r
posed_shape m loops deps before r p = record { bounds = p.bounds; parts = shape_of loops r.parts p.statements p.sized }

-- the least point is the least row
pub least_row : (m : ℕ) (loops : List ℕ) (deps : List Dependence) (before : List Row) (s : Constraints)
    (xs : List ℤ) → HasPosed m loops deps before s
    → IsLeast (IsTaken s) (columns_of m loops) xs → posed.IsLeast m loops deps before (row_from m loops xs)
least_row m loops deps before s xs h l =
    let r = row_from m loops xs in
    let e = row_numbers m loops xs l.size in
    let nn = subst AreNotNegative (sym e) l.inside.0 in
    record {
      posed = (h r (row_shaped m loops xs l.size) nn).0 (subst (λ (z : List ℤ). Satisfies s z) (sym e) l.inside.1);
      least = λ other p less.
          let shape = posed_shape m loops deps before other p in
          l.least (numbers_of other) (row_length m loops other shape)
          (p.not_negative, (h other shape p.not_negative).1 p)
          (subst (λ (z : List ℤ). LexLess (numbers_of other) z) e less);
    }

pub no_row : (m : ℕ) (loops : List ℕ) (deps : List Dependence) (before : List Row) (s : Constraints)
    → HasPosed m loops deps before s
    → ((xs : List ℤ) → length xs ≡ columns_of m loops → IsTaken s xs → ⊥) → HasNone m loops deps before
no_row m loops deps before s h none r p =
    let shape = posed_shape m loops deps before r p in
    none (numbers_of r) (row_length m loops r shape) (p.not_negative, (h r shape p.not_negative).1 p)
