-- Rows that are dropped between eliminations, and the own rows that stay.
use Rattle.whole_numbers.proofs.Common.{◌≡◌, ℕ, zero, suc, ◌+◌, ◌≤◌, ℤ, pos, ◌*ℤ◌, ◌≤ℤ◌, ◌<ℤ◌, List, [], ◌∷◌, ◌++◌}
use Rattle.whole_numbers.proofs.Common.{length, get_or, ◌↔◌, refl, sym, ◌∙◌, ap, ap₂, subst, All, arith, map, ints}
use Rattle.whole_numbers.proofs.Common.{All-cons, All-nil, All-append, All-head, All-tail, multiples, zeros, Affine}
use Rattle.whole_numbers.proofs.Common.{form_of, mul_not_negative, length-multiples, content, content_from}
use Rattle.std.proofs.lemmas.List.{length-append}
use Rattle.whole_numbers.specs.Content.{lowest_of_form}
use Rattle.fractions.specs.Fractions.{value_over, HoldsOver}
use Rattle.fractions.specs.Elimination.{coefficient_of, removed, narrowed}
use Rattle.fractions.specs.Farkas.{HoldsForSomeMore, AreNotNegative, own_rows}
use Rattle.fractions.proofs.Matching.{own_rows_sized}
use Rattle.whole_numbers.proofs.Lowest.{lowest_form_stays}
use Rattle.whole_numbers.proofs.Contents.{gcd_of_nothing, content_from_one}

multiples_not_negative : (k : ℤ) (xs : List ℤ) → pos 0 <ℤ k → AreNotNegative xs → AreNotNegative (multiples k xs)
multiples_not_negative k [] hk all = All-nil (λ x. pos 0 ≤ℤ x)
multiples_not_negative k (x ∷ xs) hk all =
    All-cons (λ x. pos 0 ≤ℤ x) (k *ℤ x) (multiples k xs)
    (mul_not_negative k x (omega (arith, ints)) (All-head (λ x. pos 0 ≤ℤ x) x xs all))
    (multiples_not_negative k xs hk (All-tail (λ x. pos 0 ≤ℤ x) x xs all))

-- the kept rows hold where all do, say of what is still to be eliminated that it is not negative, and imply all where
-- nothing is negative: then they hold for some fractions exactly where all do
pub dropping_keeps : (n : ℕ) (es rs kept : List Affine) (d : ℤ) (xs : List ℤ) → AreNotNegative xs
    → ((e : ℤ) (point : List ℤ) → HoldsOver es rs e point → HoldsOver es kept e point)
    → ((e : ℤ) (point : List ℤ) → HoldsOver es kept e point
    → All (λ f. pos 0 ≤ℤ value_over f e point) (own_rows (length xs) n))
    → ((e : ℤ) (point : List ℤ) → length point ≡ length xs + n → AreNotNegative point → HoldsOver es kept e point
    → HoldsOver es rs e point)
    → HoldsForSomeMore n es kept d xs ↔ HoldsForSomeMore n es rs d xs
dropping_keeps n es rs kept d xs positive among own implied = (there, back)
  where
    there : HoldsForSomeMore n es kept d xs → HoldsForSomeMore n es rs d xs
    there s =
        let k = s.factor in
        let point = multiples k xs ++ s.more in
        let more = (own_rows_sized (multiples k xs) (k *ℤ d) s.more (length xs) n (length-multiples k xs) s.size).0
        (own (k *ℤ d) point s.holds) in
        let all = All-append (λ x. pos 0 ≤ℤ x) (multiples k xs) s.more
        (multiples_not_negative k xs s.positive positive) more in
        let size = length-append (multiples k xs) s.more
        ∙ ap₂ (λ (a b : ℕ). a + b) (length-multiples k xs) s.size in
        record {
          factor = k;
          more = s.more;
          positive = s.positive;
          size = s.size;
          holds = implied
              (k *ℤ d) point size all s.holds;
        }

    back : HoldsForSomeMore n es rs d xs → HoldsForSomeMore n es kept d xs
    back s =
        let point = multiples s.factor xs ++ s.more in
        record {
          factor = s.factor;
          more = s.more;
          positive = s.positive;
          size = s.size;
          holds = among
              (s.factor *ℤ d) point s.holds;
        }

-- an own row is in lowest terms
zeros_content : (b : ℕ) (xs : List ℤ) → content (zeros b ++ pos 1 ∷ xs) ≡ 1
zeros_content zero xs = ap (λ (g : ℕ). content_from g xs) (sym (gcd_of_nothing 1)) ∙ content_from_one xs
zeros_content (suc b) xs =
    ap (λ (g : ℕ). content_from g (zeros b ++ pos 1 ∷ xs)) (sym (gcd_of_nothing 0)) ∙ zeros_content b xs

own_lowest : (b n : ℕ) → lowest_of_form (form_of (zeros b ++ pos 1 ∷ zeros n) (pos 0))
    ≡ form_of (zeros b ++ pos 1 ∷ zeros n) (pos 0)
own_lowest b n = lowest_form_stays (form_of (zeros b ++ pos 1 ∷ zeros n) (pos 0))
    (omega (arith, zeros_content (suc b) (zeros n)))

removed_zero : (i c : ℕ) (rest : List ℤ) → i ≤ c → removed i (zeros (suc c) ++ rest) ≡ zeros c ++ rest
removed_zero zero c rest h = refl
removed_zero (suc i) zero rest h = absurd (omega arith)
removed_zero (suc i) (suc c) rest h = ap (λ (xs : List ℤ). pos 0 ∷ xs) (removed_zero i c rest (omega arith))

-- the own rows of what is behind an eliminated variable do not have it, and are the own rows one place further in
-- front
pub own_rows_stay : (i c n : ℕ) → i ≤ c → map (narrowed i) (map lowest_of_form (own_rows (suc c) n)) ≡ own_rows c n
own_rows_stay i c zero h = refl
own_rows_stay i c (suc n) h =
    let first = ap (narrowed i) (own_lowest (suc c) n)
    ∙ ap (λ (xs : List ℤ). form_of xs (pos 0)) (removed_zero i c (pos 1 ∷ zeros n) h) in
    let e : suc c + 1 ≡ suc (c + 1) = omega arith in
    ap₂ (λ (f : Affine) (fs : List Affine). f ∷ fs) first
    (ap (λ (b : ℕ). map (narrowed i) (map lowest_of_form (own_rows b n))) e
    ∙ own_rows_stay i (c + 1) n (omega arith))

get_or_front : (i c : ℕ) (rest : List ℤ) → i ≤ c → get_or (zeros (suc c) ++ rest) i (pos 0) ≡ pos 0
get_or_front zero c rest h = refl
get_or_front (suc i) zero rest h = absurd (omega arith)
get_or_front (suc i) (suc c) rest h = get_or_front i c rest (omega arith)

pub own_rows_absent : (i c n : ℕ) → i ≤ c → All (λ f. coefficient_of i f ≡ pos 0) (own_rows (suc c) n)
own_rows_absent i c zero h = All-nil (λ f. coefficient_of i f ≡ pos 0)
own_rows_absent i c (suc n) h =
    let e : suc (c + 1) ≡ suc c + 1 = omega arith in
    All-cons (λ f. coefficient_of i f ≡ pos 0) (form_of (zeros (suc c) ++ pos 1 ∷ zeros n) (pos 0))
    (own_rows (suc c + 1) n)
    (get_or_front i c (pos 1 ∷ zeros n) h)
    (subst (λ (b : ℕ). All (λ f. coefficient_of i f ≡ pos 0) (own_rows b n)) e
    (own_rows_absent i (c + 1) n (omega arith)))
