-- Lowest terms of lists and forms: a list is its content times them, a positive multiple has the same, and their
-- content is 1.
use Rattle.std.proofs.Common.{◌≡◌, ℕ, zero, suc, ◌<◌, ◌≤◌, ◌*◌, ℤ, pos, ◌+ℤ◌, ◌*ℤ◌, ◌<ℤ◌, List, [], ◌∷◌, get_or, drop}
use Rattle.std.proofs.Common.{refl, sym, ◌∙◌, ap, ap₂, subst, All, arith}
use Rattle.std.proofs.lemmas.Int.{ints}
use Rattle.std.proofs.Math.Nat.{mul-add}
use Rattle.std.proofs.lemmas.List.Elements.{All-head, All-tail}
use Rattle.whole_numbers.specs.Lists.{multiples}
use Rattle.whole_numbers.specs.Affine.{Affine, form_of, multiple_of_form}
use Rattle.whole_numbers.specs.Divisors.{Divides}
use Rattle.whole_numbers.specs.Division.{IsFloor}
use Rattle.whole_numbers.specs.Floor.{floor, floors}
use Rattle.whole_numbers.specs.Content.{content, lowest, content_of_form, lowest_of_form}
use Rattle.whole_numbers.proofs.Ring.{mul_zero_left, mul_one_left, left_comm, mul_distrib_left}
use Rattle.whole_numbers.proofs.Order.{mul_le_left, mul_lt_left, mul_positive}
use Rattle.whole_numbers.proofs.Floors.{floor_is, floor_unique}
use Rattle.whole_numbers.proofs.Contents.{content_divides, content_of_multiples}

-- an exact quotient
pub exact_floor : (x d : ℤ) → pos 0 <ℤ d → Divides d x → x ≡ d *ℤ floor x d
exact_floor x d h k =
    let q = k.quotient in
    let p = k.product in
    let is : IsFloor x d q = record { below = omega (arith, ints); above = omega (arith, ints) } in
    p ∙ ap (λ (z : ℤ). d *ℤ z) (floor_unique x d q (floor x d) h is (floor_is x d h))

-- the list of exact quotients
pub exact_floors : (d : ℤ) (xs : List ℤ) → pos 0 <ℤ d → All (Divides d) xs → xs ≡ multiples d (floors d xs)
exact_floors d [] h all = refl
exact_floors d (x ∷ xs) h all =
    ap₂ (λ (z : ℤ) (zs : List ℤ). z ∷ zs) (exact_floor x d h (All-head (Divides d) x xs all))
    (exact_floors d xs h (All-tail (Divides d) x xs all))

-- 0 divides only 0, so what it divides is 0 times anything as long
zeros_are : (k : ℤ) (xs : List ℤ) → All (Divides (pos 0)) xs → xs ≡ multiples (pos 0) (floors k xs)
zeros_are k [] all = refl
zeros_are k (x ∷ xs) all =
    let d = All-head (Divides (pos 0)) x xs all in
    ap₂ (λ (z : ℤ) (zs : List ℤ). z ∷ zs)
    (d.product ∙ mul_zero_left d.quotient ∙ sym (mul_zero_left (floor x k)))
    (zeros_are k xs (All-tail (Divides (pos 0)) x xs all))

-- a list is its content times its lowest terms
pub lowest_is : (xs : List ℤ) → xs ≡ multiples (pos (content xs)) (lowest xs)
lowest_is xs = parts (content xs) (content_divides xs)
  where
    parts : (c : ℕ) → All (Divides (pos c)) xs → xs ≡ multiples (pos c) (floors (pos c) xs)
    parts zero all = zeros_are (pos 0) xs all
    parts (suc c) all = exact_floors (pos (suc c)) xs (omega (arith, ints)) all

-- a common factor of numerator and denominator changes no floor
floor_of_multiple : (k g : ℕ) (x : ℤ) → floor (pos (suc k) *ℤ x) (pos (suc k * suc g)) ≡ floor x (pos (suc g))
floor_of_multiple k g x =
    let d = pos (suc g) in
    let q = floor x d in
    let f = floor_is x d (omega (arith, ints)) in
    let below = mul_le_left (q *ℤ d) x (pos (suc k)) f.below (omega (arith, ints)) in
    let above = mul_lt_left x ((q *ℤ d) +ℤ d) (pos (suc k)) f.above (omega (arith, ints)) in
    let e : pos (suc k * suc g) ≡ pos (suc k) *ℤ d = omega (arith, ints) in
    let s = left_comm (pos (suc k)) q d in
    let t = ap (λ (z : ℤ). q *ℤ z) e in
    let u = mul_distrib_left (q *ℤ d) d (pos (suc k)) in
    let is : IsFloor (pos (suc k) *ℤ x) (pos (suc k * suc g)) q =
    record { below = omega (arith, ints); above = omega (arith, ints) } in
    let positive : pos 0 <ℤ pos (suc k * suc g) = subst (λ (z : ℤ). pos 0 <ℤ z) (sym e)
    (mul_positive (pos (suc k)) d (omega (arith, ints)) (omega (arith, ints))) in
    floor_unique (pos (suc k) *ℤ x) (pos (suc k * suc g))
    (floor (pos (suc k) *ℤ x) (pos (suc k * suc g))) q positive
    (floor_is (pos (suc k) *ℤ x) (pos (suc k * suc g)) positive) is

floors_of_multiples : (k g : ℕ) (xs : List ℤ)
    → floors (pos (suc k * suc g)) (multiples (pos (suc k)) xs) ≡ floors (pos (suc g)) xs
floors_of_multiples k g [] = refl
floors_of_multiples k g (x ∷ xs) =
    ap₂ (λ (z : ℤ) (zs : List ℤ). z ∷ zs) (floor_of_multiple k g x) (floors_of_multiples k g xs)

-- zeros stay zeros
multiples_of_zeros : (k c : ℤ) (xs : List ℤ) → All (Divides (pos 0)) xs → floors c (multiples k xs) ≡ floors c xs
multiples_of_zeros k c [] all = refl
multiples_of_zeros k c (x ∷ xs) all =
    let d = All-head (Divides (pos 0)) x xs all in
    let e : x ≡ pos 0 = d.product ∙ mul_zero_left d.quotient in
    let f : k *ℤ x ≡ x = ap (λ (z : ℤ). k *ℤ z) e ∙ omega (arith, ints) in
    ap₂ (λ (z : ℤ) (zs : List ℤ). floor z c ∷ zs) f
    (multiples_of_zeros k c xs (All-tail (Divides (pos 0)) x xs all))

-- a positive multiple has the same lowest terms
pub lowest_of_multiples : (k : ℕ) (xs : List ℤ) → lowest (multiples (pos (suc k)) xs) ≡ lowest xs
lowest_of_multiples k xs =
    ap (λ (c : ℕ). floors (pos c) (multiples (pos (suc k)) xs)) (content_of_multiples k xs)
    ∙ same (content xs) (content_divides xs)
  where
    same : (c : ℕ) → All (Divides (pos c)) xs
        → floors (pos (suc k * c)) (multiples (pos (suc k)) xs) ≡ floors (pos c) xs
    same zero all =
        let z : suc k * 0 ≡ 0 = omega arith in
        ap (λ (c : ℕ). floors (pos c) (multiples (pos (suc k)) xs)) z
        ∙ multiples_of_zeros (pos (suc k)) (pos 0) xs all
    same (suc g) all = floors_of_multiples k g xs

-- the content of lowest terms is 1, but for zeros
pub content_of_lowest : (xs : List ℤ) → 0 < content xs → content (lowest xs) ≡ 1
content_of_lowest xs h = parts (content xs) refl h
  where
    one_factor : (g c : ℕ) → suc g ≡ suc g * c → c ≡ 1
    one_factor g zero h = absurd (omega arith)
    one_factor g (suc zero) h = refl
    one_factor g (suc (suc c)) h = absurd (omega (arith, mul-add (suc g) (suc c) 1, mul-add (suc g) c 1))

    parts : (c : ℕ) → content xs ≡ c → 0 < c → content (floors (pos c) xs) ≡ 1
    parts zero e h = absurd (omega arith)
    parts (suc g) e h =
        let whole : xs ≡ multiples (pos (suc g)) (floors (pos (suc g)) xs) = rw e at (lowest_is xs) in
        one_factor g (content (floors (pos (suc g)) xs))
        (sym e ∙ ap content whole ∙ content_of_multiples g (floors (pos (suc g)) xs))

-- a list whose content is at most 1 is in lowest terms
pub lowest_stays : (xs : List ℤ) → content xs ≤ 1 → lowest xs ≡ xs
lowest_stays xs h = parts (content xs) (content_divides xs) h
  where
    ones : (zs : List ℤ) → multiples (pos 1) zs ≡ zs
    ones [] = refl
    ones (z ∷ zs) = ap₂ (λ (k : ℤ) (ks : List ℤ). k ∷ ks) (mul_one_left z) (ones zs)

    none : (zs : List ℤ) → All (Divides (pos 0)) zs → floors (pos 0) zs ≡ zs
    none [] all = refl
    none (z ∷ zs) all =
        let d = All-head (Divides (pos 0)) z zs all in
        let e : z ≡ pos 0 = d.product ∙ mul_zero_left d.quotient in
        ap₂ (λ (k : ℤ) (ks : List ℤ). k ∷ ks) (ap (λ (k : ℤ). floor k (pos 0)) e ∙ sym e)
        (none zs (All-tail (Divides (pos 0)) z zs all))

    parts : (c : ℕ) → All (Divides (pos c)) xs → c ≤ 1 → floors (pos c) xs ≡ xs
    parts zero all h = none xs all
    parts (suc zero) all h =
        sym (exact_floors (pos 1) xs (omega (arith, ints)) all ∙ ones (floors (pos 1) xs))
    parts (suc (suc c)) all h = absurd (omega arith)

-- a form is the list of its numbers
pub same_numbers : (f g : Affine) → f.constant ∷ f.coefficients ≡ g.constant ∷ g.coefficients → f ≡ g
same_numbers f g e =
    ap₂ (λ (xs : List ℤ) (x : ℤ). form_of xs x) (ap (λ (zs : List ℤ). drop 1 zs) e)
    (ap (λ (zs : List ℤ). get_or zs 0 (pos 0)) e)

-- a form is its content times its lowest terms
pub lowest_of_form_is : (f : Affine) → f ≡ multiple_of_form (pos (content_of_form f)) (lowest_of_form f)
unfolding lowest_of_form
lowest_of_form_is f =
    same_numbers f (multiple_of_form (pos (content_of_form f)) (lowest_of_form f))
    (lowest_is (f.constant ∷ f.coefficients))

-- a positive multiple has the same lowest terms
pub lowest_of_multiple : (k : ℕ) (f : Affine) → lowest_of_form (multiple_of_form (pos (suc k)) f) ≡ lowest_of_form f
unfolding lowest_of_form
lowest_of_multiple k f =
    same_numbers (lowest_of_form (multiple_of_form (pos (suc k)) f)) (lowest_of_form f)
    (lowest_of_multiples k (f.constant ∷ f.coefficients))

-- the content of lowest terms is 1, but where all numbers are 0
pub content_of_lowest_form : (f : Affine) → 0 < content_of_form f → content_of_form (lowest_of_form f) ≡ 1
unfolding lowest_of_form
content_of_lowest_form f h = content_of_lowest (f.constant ∷ f.coefficients) h

-- a form whose content is at most 1 is in lowest terms
pub lowest_form_stays : (f : Affine) → content_of_form f ≤ 1 → lowest_of_form f ≡ f
unfolding lowest_of_form
lowest_form_stays f h = same_numbers (lowest_of_form f) f (lowest_stays (f.constant ∷ f.coefficients) h)

pub ruleset lowest_laws = (lowest_is, lowest_of_multiples, content_of_lowest, lowest_stays)

pub ruleset form_laws = (lowest_of_form_is, lowest_of_multiple, content_of_lowest_form, lowest_form_stays)
