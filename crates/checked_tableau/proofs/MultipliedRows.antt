-- A row that has 0 in the pivot's column is only multiplied, and its lowest terms stay.
use Rattle.whole_numbers.proofs.Common.{◌≡◌, ℕ, zero, suc, ◌+◌, ◌<◌, ℤ, pos, negsuc, ◌-ℤ◌, ◌*ℤ◌, ◌<ℤ◌, Bool, true}
use Rattle.whole_numbers.proofs.Common.{false, List, [], ◌∷◌, length, get_or, All, refl, subst, ap, sym, ◌∙◌, arith}
use Rattle.whole_numbers.proofs.Common.{add-one, FitsSigned, Result, Ok, w64, w128, ints, All-head, All-tail}
use Rattle.whole_numbers.proofs.Common.{All-weaker, fits, multiples, lowest, fits_iff, mul_comm_int, mul_zero_left}
use Rattle.whole_numbers.proofs.Common.{mul_zero_right, mul_one_right}
use Rattle.std.proofs.Common.{IsTrue}
use Rattle.whole_numbers.proofs.Lowest.{lowest_of_multiples}
use Rattle.wide_math.specs.declared.Wide.{Wide}
use Rattle.wide_math.specs.declared.Op.TheVariants.{Sub, Mul}
use Rattle.wide_math.specs.Checked.{product_of, cross_of, ◌>>=◌}
use Rattle.wide_math.proofs.Steps.{checked-fits}
use Rattle.wide_math.proofs.Narrow.{product_fits}
use Rattle.tableau_rows.specs.Moves.{crossed_run, entries_run, line_run, lowest_line_run, placed_line_run}

-- numbers of 64 bits times one of 64 bits
pub narrow_fit : (a : ℤ) (xs : List ℤ) → FitsSigned w64 a → All (FitsSigned w64) xs
    → All (λ x. IsTrue (fits (x *ℤ a))) xs
narrow_fit a xs fa all =
    All-weaker (FitsSigned w64) (λ x. IsTrue (fits (x *ℤ a)))
    (λ (x : ℤ) (fx : FitsSigned w64 x). (fits_iff (x *ℤ a)).1 (product_fits x a fx fa)) xs all

-- numbers of 128 bits times 1
pub one_fits : (a : ℤ) (xs : List ℤ) → a ≡ pos 1 → All (FitsSigned w128) xs → All (λ x. IsTrue (fits (x *ℤ a))) xs
one_fits a xs one all =
    All-weaker (FitsSigned w128) (λ x. IsTrue (fits (x *ℤ a)))
    (λ (x : ℤ) (fx : FitsSigned w128 x). let e : x ≡ x *ℤ a = sym (ap (λ (k : ℤ). x *ℤ k) one ∙ mul_one_right x) in
    subst (λ (z : ℤ). IsTrue (fits z)) e ((fits_iff x).1 fx)) xs all

-- a product with 0
nothing_times : (y : ℤ) → product_of (pos 0) y ≡ Ok (pos 0)
nothing_times y =
    let e = mul_zero_left y in
    let f : IsTrue (fits (pos 0 *ℤ y)) = subst (λ (z : ℤ). IsTrue (fits z)) (sym e) refl in
    checked-fits Mul (pos 0) y (pos 0 *ℤ y) f ∙ ap (λ (z : ℤ). Ok z) e

-- an entry, with nothing of the pivot row taken off
crossed_alone : (x a y : ℤ) → IsTrue (fits (x *ℤ a)) → cross_of x a (pos 0) y ≡ Ok (a *ℤ x)
unfolding cross_of
crossed_alone x a y h =
    let e : (x *ℤ a) -ℤ pos 0 ≡ x *ℤ a = omega (arith, ints) in
    let f : IsTrue (fits ((x *ℤ a) -ℤ pos 0)) = subst (λ (z : ℤ). IsTrue (fits z)) (sym e) h in
    rw (checked-fits Mul x a (x *ℤ a) h, nothing_times y)
    (checked-fits Sub (x *ℤ a) (pos 0) ((x *ℤ a) -ℤ pos 0) f ∙ ap (λ (z : ℤ). Ok z) (e ∙ mul_comm_int x a))

-- a first number, then the rest
chained : (r : Result ℤ Wide) (q : Result (List ℤ) Wide) (z : ℤ) (zs : List ℤ) → r ≡ Ok z → q ≡ Ok zs
    → (r >>= λ k. q >>= λ ks. Ok (k ∷ ks)) ≡ Ok (z ∷ zs)
chained r q z zs h k = rw (h, k) refl

-- entries, with nothing of the pivot row taken off
crossed_all : (a : ℤ) (xs ys : List ℤ) → length xs ≡ length ys → All (λ x. IsTrue (fits (x *ℤ a))) xs
    → crossed_run a (pos 0) xs ys ≡ Ok (multiples a xs)
unfolding crossed_run
crossed_all a [] ys h all = refl
crossed_all a (x ∷ xs) [] h all = absurd (omega arith)
crossed_all a (x ∷ xs) (y ∷ ys) h all =
    let P : ℤ → Type 0 = λ x. IsTrue (fits (x *ℤ a)) in
    chained (cross_of x a (pos 0) y) (crossed_run a (pos 0) xs ys) (a *ℤ x) (multiples a xs)
    (crossed_alone x a y (All-head P x xs all))
    (crossed_all a xs ys (omega arith) (All-tail P x xs all))

-- the entries of a row with 0 in the pivot's column
entries_all : (s : ℕ) (a d : ℤ) (xs ys : List ℤ) → length xs ≡ length ys → get_or xs s (pos 0) ≡ pos 0
    → All (λ x. IsTrue (fits (x *ℤ a))) xs
    → entries_run s a (pos 0) d xs ys ≡ Ok (multiples a xs)
entries_all s a d [] ys h e all = refl
entries_all s a d (x ∷ xs) [] h e all = absurd (omega arith)
entries_all zero a d (x ∷ xs) (y ∷ ys) h e all =
    let P : ℤ → Type 0 = λ x. IsTrue (fits (x *ℤ a)) in
    let z : pos 0 ≡ a *ℤ x = sym (ap (λ (k : ℤ). a *ℤ k) e ∙ mul_zero_right a) in
    chained (product_of (pos 0) d) (crossed_run a (pos 0) xs ys) (a *ℤ x) (multiples a xs)
    (nothing_times d ∙ ap (λ (k : ℤ). Ok k) z)
    (crossed_all a xs ys (omega arith) (All-tail P x xs all))
entries_all (suc s) a d (x ∷ xs) (y ∷ ys) h e all =
    let P : ℤ → Type 0 = λ x. IsTrue (fits (x *ℤ a)) in
    chained (cross_of x a (pos 0) y) (entries_run s a (pos 0) d xs ys) (a *ℤ x) (multiples a xs)
    (crossed_alone x a y (All-head P x xs all))
    (entries_all s a d xs ys (omega arith) e (All-tail P x xs all))

-- the line, with its denominator in front, is multiplied
line_multiplied : (s : ℕ) (ps row : List ℤ) → length row ≡ length ps → 0 < length row
    → get_or row (s + 1) (pos 0) ≡ pos 0
    → All (λ x. IsTrue (fits (x *ℤ get_or ps (s + 1) (pos 0)))) row
    → line_run s ps row ≡ Ok (multiples (get_or ps (s + 1) (pos 0)) row)
unfolding line_run
line_multiplied s ps [] h some e all = absurd (omega arith)
line_multiplied s [] (x ∷ xs) h some e all = absurd (omega arith)
line_multiplied s (y ∷ ys) (x ∷ xs) h some e all =
    let a = get_or (y ∷ ys) (s + 1) (pos 0) in
    let P : ℤ → Type 0 = λ x. IsTrue (fits (x *ℤ a)) in
    let e2 : get_or xs s (pos 0) ≡ pos 0 = subst (λ (k : ℕ). get_or (x ∷ xs) k (pos 0) ≡ pos 0) (add-one s) e in
    rw e
    (chained (product_of x a) (entries_run s a (pos 0) y xs ys) (a *ℤ x) (multiples a xs)
    (checked-fits Mul x a (x *ℤ a) (All-head P x xs all) ∙ ap (λ (k : ℤ). Ok k) (mul_comm_int x a))
    (entries_all s a y xs ys (omega arith) e2 (All-tail P x xs all)))

-- a positive factor leaves the lowest terms
same_lowest : (a : ℤ) (xs : List ℤ) → pos 0 <ℤ a → lowest (multiples a xs) ≡ lowest xs
same_lowest (pos zero) xs h = absurd (omega (arith, ints))
same_lowest (pos (suc k)) xs h = lowest_of_multiples k xs
same_lowest (negsuc k) xs h = absurd (omega (arith, ints))

-- the row after the pivot has the lowest terms that it had
pub placed_alone : (b : Bool) (s : ℕ) (ps row new : List ℤ) → b ≡ false → length row ≡ length ps → 0 < length row
    → get_or row (s + 1) (pos 0) ≡ pos 0 → pos 0 <ℤ get_or ps (s + 1) (pos 0)
    → All (λ x. IsTrue (fits (x *ℤ get_or ps (s + 1) (pos 0)))) row → new ≡ lowest row
    → placed_line_run b s ps row ≡ Ok new
unfolding lowest_line_run
placed_alone true s ps row new n h some e positive all is = cc
placed_alone false s ps row new n h some e positive all is =
    let a = get_or ps (s + 1) (pos 0) in
    rw (line_multiplied s ps row h some e all) (ap (λ (zs : List ℤ). Ok zs) (same_lowest a row positive ∙ sym is))
