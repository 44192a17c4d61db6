-- A system's last dimension keeps its value where the others and the parameters are eliminated; values of forms of one
-- variable.
use Rattle.whole_numbers.proofs.Common.{◌≡◌, ℕ, zero, suc, ◌+◌, ◌-◌, ◌<◌, ℤ, pos, List, [], ◌∷◌, ◌++◌, length, get_or}
use Rattle.whole_numbers.proofs.Common.{refl, sym, ◌∙◌, ap, subst, All, arith, length-append, negsuc, ◌≤◌, ◌≤ℤ◌, ◌+ℤ◌}
use Rattle.whole_numbers.proofs.Common.{◌-ℤ◌, ◌*ℤ◌, ints, All-cons, All-head, All-nil, All-tail, All-append, dot, zeros}
use Rattle.whole_numbers.proofs.Common.{Affine, value_of}
use Rattle.whole_numbers.proofs.Common.{mul_zero_right, mul_one_left, mul_neg_left, dot-set_left, dot-zeros}
use Rattle.whole_numbers.proofs.Common.{get_or-zeros, length-zeros}
use Rattle.std.proofs.lemmas.List.{append-nil}
use Rattle.affine_forms.specs.Parts.{variables_of}
use Rattle.integer_sets.specs.Constraints.{Constraints, IsSized, variables_in}
use Rattle.integer_sets.specs.Points.{Satisfies}
use Rattle.fm_projection.specs.Projecting.{all_gone}
use Rattle.fm_projection.specs.Alone.{place_form, range_rows, ranged, last_alone, AreInRange, IsInRange}
use Rattle.fm_projection.proofs.WholePoints.{one_more}
use Rattle.fm_projection.proofs.FractionPoints.{all_to}
use Rattle.fm_projection.proofs.Law.{whole_point}
use Rattle.fm_projection.proofs.RangeRows.{least_row, most_row}

-- a list of n entries: the first of xs, then zeros
abbrev pub fitted : ℕ → List ℤ → List ℤ
fitted zero xs = []
fitted (suc n) [] = pos 0 ∷ fitted n []
fitted (suc n) (x ∷ xs) = x ∷ fitted n xs

pub fitted_length : (n : ℕ) (xs : List ℤ) → length (fitted n xs) ≡ n
fitted_length zero xs = refl
fitted_length (suc n) [] = ap suc (fitted_length n [])
fitted_length (suc n) (x ∷ xs) = ap suc (fitted_length n xs)

dot_fits : (cs xs : List ℤ) (n : ℕ) → length cs ≤ n → dot cs (fitted n xs) ≡ dot cs xs
dot_fits [] xs n few = refl
dot_fits (c ∷ cs) xs zero few = absurd (omega (arith, few))
dot_fits (c ∷ cs) [] (suc n) few =
    let more = dot_fits cs [] n (omega (arith, few)) in
    let z = mul_zero_right c in
    let none = dot_none cs in
    omega (arith, ints)
  where
    dot_none : (ks : List ℤ) → dot ks [] ≡ pos 0
    dot_none [] = refl
    dot_none (k ∷ ks) = refl
dot_fits (c ∷ cs) (x ∷ xs) (suc n) few = let more = dot_fits cs xs n (omega (arith, few)) in omega (arith, ints)

dot_fitted : (cs outer xs : List ℤ) (n : ℕ) → length cs ≤ length outer + n
    → dot cs (outer ++ fitted n xs) ≡ dot cs (outer ++ xs)
dot_fitted cs [] xs n few = dot_fits cs xs n (omega (arith, few))
dot_fitted [] (y ∷ outer) xs n few = refl
dot_fitted (c ∷ cs) (y ∷ outer) xs n few =
    let more = dot_fitted cs outer xs n (omega (arith, few)) in omega (arith, ints)

value_fitted : (f : Affine) (outer xs : List ℤ) (n : ℕ) → variables_of f ≡ length outer + n
    → value_of f (outer ++ fitted n xs) ≡ value_of f (outer ++ xs)
value_fitted f outer xs n size =
    let d = dot_fitted f.coefficients outer xs n (omega (arith, size)) in omega (arith, ints)

pub satisfies_fitted : (s : Constraints) (outer xs : List ℤ) (n : ℕ)
    → IsSized (length outer + n) s.equalities s.rows
    → Satisfies s (outer ++ xs) → Satisfies s (outer ++ fitted n xs)
satisfies_fitted s outer xs n sized h = (
  λ k d inside.
      value_fitted (get_or s.equalities k d) outer xs n (sized.equalities_sized k d inside) ∙ h.0 k d inside,
  λ k d inside.
      subst (λ (z : ℤ). pos 0 ≤ℤ z)
      (sym (value_fitted (get_or s.rows k d) outer xs n (sized.rows_sized k d inside))) (h.1 k d inside),
)

-- parameters in range, cut or filled with zeros, are so
zero_in_range : IsInRange (pos 0)
zero_in_range = (omega (arith, ints), omega (arith, ints))

pub fitted_range : (n : ℕ) (xs : List ℤ) → AreInRange xs → AreInRange (fitted n xs)
fitted_range zero xs range = All-nil IsInRange
fitted_range (suc n) [] range = All-cons IsInRange (pos 0) (fitted n []) zero_in_range (fitted_range n [] range)
fitted_range (suc n) (x ∷ xs) range = All-cons IsInRange x (fitted n xs) (All-head IsInRange x xs range)
    (fitted_range n xs (All-tail IsInRange x xs range))

at_each : (xs : List ℤ) → AreInRange xs → (k : ℕ) → IsInRange (get_or xs k (pos 0))
at_each [] h k = zero_in_range
at_each (x ∷ xs) h zero = h 0 (pos 0) (omega arith)
at_each (x ∷ xs) h (suc k) = at_each xs (λ j d inside. h (suc j) d (omega (arith, inside))) k

behind_range : (outer qs : List ℤ) → ((k : ℕ) → IsInRange (get_or qs k (pos 0))) → (k : ℕ) → length outer ≤ k
    → IsInRange (get_or (outer ++ qs) k (pos 0))
behind_range [] qs h k past = h k
behind_range (y ∷ outer) qs h zero past = absurd (omega (arith, past))
behind_range (y ∷ outer) qs h (suc k) past = behind_range outer qs h k (omega (arith, past))

pub place_value : (n i : ℕ) (k c : ℤ) (xs : List ℤ) → i < n
    → value_of (place_form n i k c) xs ≡ (k *ℤ get_or xs i (pos 0)) +ℤ c
place_value n i k c xs h =
    let within : i < length (zeros n) = omega (arith, h, length-zeros n) in
    let moved = dot-set_left (zeros n) xs i k within in
    let none = dot-zeros n xs in
    let entry = get_or-zeros n i in
    let less : k -ℤ get_or (zeros n) i (pos 0) ≡ k = omega (arith, ints) in
    let s = ap (λ (z : ℤ). z *ℤ get_or xs i (pos 0)) less in
    omega (arith, ints)

range_holds : (n i m : ℕ) (xs : List ℤ) → i + m ≤ n → ((k : ℕ) → i ≤ k → IsInRange (get_or xs k (pos 0)))
    → All (λ f. pos 0 ≤ℤ value_of f xs) (range_rows n i m)
range_holds n i zero xs few h = All-nil (λ f. pos 0 ≤ℤ value_of f xs)
range_holds n i (suc m) xs few h =
    let P : Affine → Type 0 = λ f. pos 0 ≤ℤ value_of f xs in
    let x = get_or xs i (pos 0) in
    let r = h i (omega arith) in
    let a = place_value n i (pos 1) (pos 0) xs (omega (arith, few)) in
    let b = place_value n i (negsuc 0) (pos 65536) xs (omega (arith, few)) in
    let p = mul_one_left x in
    let q = mul_neg_left (pos 1) x in
    let r0 = r.0 in
    let r1 = r.1 in
    let least : P (least_row n i) = omega (arith, ints) in
    let most : P (most_row n i) = omega (arith, ints) in
    All-cons P (least_row n i) (most_row n i ∷ range_rows n (suc i) m) least
    (All-cons P (most_row n i) (range_rows n (suc i) m) most
    (range_holds n (suc i) m xs (omega (arith, few)) (λ k past. h k (omega (arith, past)))))

-- the dimensions in front gone, and those behind one
front_gone : (s : Constraints) (outer rest : List ℤ) → Satisfies s (outer ++ rest)
    → Satisfies (all_gone 0 (length outer) s) rest
front_gone s outer rest h =
    (whole_point (all_gone 0 (length outer) s) rest).0
    (all_to 0 (length outer) s (pos 1) [] outer rest refl refl ((whole_point s (outer ++ rest)).1 h))

back_gone : (s : Constraints) (x : ℤ) (rest : List ℤ) → Satisfies s (x ∷ rest)
    → Satisfies (all_gone 1 (length rest) s) (x ∷ [])
back_gone s x rest h =
    (whole_point (all_gone 1 (length rest) s) (x ∷ [])).0
    (all_to 1 (length rest) s (pos 1) (x ∷ []) rest [] refl refl
    ((whole_point s (x ∷ (rest ++ []))).1 (subst (λ (zs : List ℤ). Satisfies s (x ∷ zs)) (sym (append-nil rest)) h)))

-- a point's parameters as dimensions, cut or filled with zeros to as many as there are
ranged_point : (s : Constraints) (outer : List ℤ) (x : ℤ) (params : List ℤ)
    → IsSized (variables_in s) s.equalities s.rows
    → length outer + 1 ≡ s.dimensions → AreInRange params → Satisfies s (outer ++ x ∷ params)
    → Satisfies (ranged s) (outer ++ x ∷ fitted s.parameters params)
ranged_point s outer x params sized size range h =
    let p = s.parameters in
    let qs = fitted p params in
    let front = outer ++ x ∷ [] in
    let total : length front ≡ s.dimensions = omega (arith, length-append outer (x ∷ []), size) in
    let own = subst (λ n. IsSized (n + p) s.equalities s.rows) (sym total) sized in
    let fit = satisfies_fitted s front params p own (subst (Satisfies s) (sym (one_more outer x params)) h) in
    let each = at_each qs (fitted_range p params range) in
    let rows = range_holds (s.dimensions + p) s.dimensions p (front ++ qs) (omega arith)
    (λ k past. behind_range front qs each k (omega (arith, past, total))) in
    let P : Affine → Type 0 = λ f. pos 0 ≤ℤ value_of f (front ++ qs) in
    subst (Satisfies (ranged s)) (one_more outer x qs)
    (fit.0, All-append P s.rows (range_rows (s.dimensions + p) s.dimensions p) fit.1 rows)

pub last_value : (s : Constraints) (outer : List ℤ) (x : ℤ) (params : List ℤ)
    → IsSized (variables_in s) s.equalities s.rows
    → length outer + 1 ≡ s.dimensions → AreInRange params → Satisfies s (outer ++ x ∷ params)
    → Satisfies (last_alone s) (x ∷ [])
last_value s outer x params sized size range h =
    let p = s.parameters in
    let qs = fitted p params in
    let front = front_gone (ranged s) outer (x ∷ qs) (ranged_point s outer x params sized size range h) in
    let n : length outer ≡ s.dimensions - 1 = omega (arith, size) in
    let last = back_gone (all_gone 0 (length outer) (ranged s)) x qs front in
    subst (λ k. Satisfies (all_gone 1 p (all_gone 0 k (ranged s))) (x ∷ [])) n
    (subst (λ k. Satisfies (all_gone 1 k (all_gone 0 (length outer) (ranged s))) (x ∷ [])) (fitted_length p params)
    last)
