-- The numbers of cells among those of all arrays.
use Rattle.whole_numbers.proofs.Common.{◌≡◌, ℕ, zero, suc, ◌+◌, ◌<◌, ◌≤◌, ℤ, List, [], ◌∷◌, length, take, get_or, ap₂}
use Rattle.whole_numbers.proofs.Common.{subst, refl, arith, one-mul}
use Rattle.scop_syntax.specs.Cells.{Cell}
use Rattle.scop_syntax.specs.Execution.{AreWithin, IsCell, cell_count, total_cells, offset_from, offset_of, cell_number}
use Rattle.scop_syntax.proofs.Members.{nat_cases}
use Rattle.scop_syntax.proofs.Memory.{offsets_differ, offset_below}

-- an array's cells end before those of the arrays behind it
total_before : (es : List (List ℕ)) (a b : ℕ) → a < b → b ≤ length es
    → total_cells (take a es) + cell_count (get_or es a []) ≤ total_cells (take b es)
total_before [] a b h k = absurd (omega arith)
total_before (e ∷ es) a zero h k = absurd (omega arith)
total_before (e ∷ es) zero (suc b) h k = omega arith
total_before (e ∷ es) (suc a) (suc b) h k = let r = total_before es a b (omega arith) (omega arith) in omega arith

take_whole : (es : List (List ℕ)) → total_cells (take (length es) es) ≡ total_cells es
take_whole [] = refl
take_whole (e ∷ es) = let r = take_whole es in omega arith

pub offset_within : (es : List (List ℕ)) (c : Cell) → IsCell es c → offset_of es c < cell_count (get_or es c.array [])
offset_within es c is =
    let b = offset_below (get_or es c.array []) 0 c.subscripts is.subscripts in
    let one = one-mul (cell_count (get_or es c.array [])) in
    omega arith

pub number_below : (es : List (List ℕ)) (c : Cell) → IsCell es c → cell_number es c < total_cells es
number_below es c is =
    let o = offset_within es c is in
    let t = total_before es c.array (length es) is.array (omega arith) in
    let w = take_whole es in
    omega arith

numbers_of_row : (es : List (List ℕ)) (a b : ℕ) (ss ts : List ℤ) → a ≡ b → AreWithin ss (get_or es a [])
    → AreWithin ts (get_or es b [])
    → total_cells (take a es) + offset_from 0 (get_or es a []) ss ≡ total_cells (take b es) + offset_from 0
    (get_or es b []) ts → ss ≡ ts
numbers_of_row es a b ss ts same g h e =
    subst (λ k. AreWithin ts (get_or es k [])
    → total_cells (take a es) + offset_from 0 (get_or es a []) ss ≡ total_cells (take k es) + offset_from 0
    (get_or es k []) ts → ss ≡ ts) same
    (λ h e. (offsets_differ (get_or es a []) 0 0 ss ts g h (omega arith)).1) h e

pub number_apart : (es : List (List ℕ)) (c d : Cell) → IsCell es c → IsCell es d → cell_number es c ≡ cell_number es d
    → c ≡ d
number_apart es c d is_c is_d e =
    let o = offset_within es c is_c in
    let p = offset_within es d is_d in
    let same : c.array ≡ d.array = nat_cases c.array d.array
    (λ less. let t = total_before es c.array d.array less (let h = is_d.array in omega arith) in absurd (omega arith))
    (λ same. same)
    (λ more. let t = total_before es d.array c.array more (let h = is_c.array in omega arith) in
    absurd (omega arith)) in
    ap₂ (λ (a : ℕ) (ss : List ℤ). record { array = a; subscripts = ss }) same
    (numbers_of_row es c.array d.array c.subscripts d.subscripts same is_c.subscripts is_d.subscripts e)

pub ruleset number_laws = (number_below, number_apart)
