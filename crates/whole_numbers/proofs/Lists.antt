-- Multiples of lists in parts, lists behind zeros or others, without a negative entry, and that agree at each place.
use Rattle.std.proofs.Common.{◌≡◌, ℕ, zero, suc, ◌<◌, ℤ, pos, ◌+ℤ◌, ◌*ℤ◌, ◌≤ℤ◌, ◌↔◌, List, [], ◌∷◌, ◌++◌, length, set}
use Rattle.std.proofs.Common.{get_or, drop, refl, sym, ◌∙◌, ap, ap₂, All, arith}
use Rattle.std.proofs.lemmas.Int.{ints}
use Rattle.std.proofs.lemmas.List.Elements.{All-cons, All-nil, All-head, All-tail}
use Rattle.whole_numbers.specs.Lists.{dot, multiples, zeros, NotNegative}
use Rattle.whole_numbers.proofs.Ring.{mul_assoc_int, mul_one_left, mul_zero_right, mul_one_right}
use Rattle.whole_numbers.proofs.Order.{mul_not_negative, mul_opposite}
use Rattle.whole_numbers.proofs.Dot.{dot-nil}

pub multiples-append : (k : ℤ) (xs ys : List ℤ) → multiples k (xs ++ ys) ≡ multiples k xs ++ multiples k ys
multiples-append k [] ys = refl
multiples-append k (x ∷ xs) ys = ap (λ (zs : List ℤ). (k *ℤ x) ∷ zs) (multiples-append k xs ys)

pub multiples-multiples : (k l : ℤ) (xs : List ℤ) → multiples k (multiples l xs) ≡ multiples (k *ℤ l) xs
multiples-multiples k l [] = refl
multiples-multiples k l (x ∷ xs) =
    ap₂ (λ (z : ℤ) (zs : List ℤ). z ∷ zs) (sym (mul_assoc_int k l x)) (multiples-multiples k l xs)

pub multiples-one : (xs : List ℤ) → multiples (pos 1) xs ≡ xs
multiples-one [] = refl
multiples-one (x ∷ xs) = ap₂ (λ (z : ℤ) (zs : List ℤ). z ∷ zs) (mul_one_left x) (multiples-one xs)

pub drop-multiples : (n : ℕ) (k : ℤ) (xs : List ℤ) → drop n (multiples k xs) ≡ multiples k (drop n xs)
drop-multiples zero k xs = refl
drop-multiples (suc n) k [] = refl
drop-multiples (suc n) k (x ∷ xs) = drop-multiples n k xs

-- the entries behind others
pub dot-split : (xs ys zs : List ℤ) → dot xs (ys ++ zs) ≡ dot xs ys +ℤ dot (drop (length ys) xs) zs
dot-split xs [] zs = let e = dot-nil xs in omega (arith, ints)
dot-split [] (y ∷ ys) zs = refl
dot-split (x ∷ xs) (y ∷ ys) zs = let more = dot-split xs ys zs in omega (arith, ints)

-- the entries behind zeros
pub dot-behind : (n : ℕ) (xs ys : List ℤ) → dot xs (zeros n ++ ys) ≡ dot (drop n xs) ys
dot-behind zero xs ys = refl
dot-behind (suc n) [] ys = refl
dot-behind (suc n) (x ∷ xs) ys =
    let z = mul_zero_right x in let more = dot-behind n xs ys in omega (arith, ints)

-- lists that agree at each place have one dot product
pub dot_same : (xs ys zs : List ℤ) → ((i : ℕ) → get_or xs i (pos 0) ≡ get_or ys i (pos 0)) → dot xs zs ≡ dot ys zs
dot_same [] [] zs h = refl
dot_same xs ys [] h = dot-nil xs ∙ sym (dot-nil ys)
dot_same [] (y ∷ ys) (z ∷ zs) h =
    let first = ap (λ (k : ℤ). k *ℤ z) (h 0) in
    let more = dot_same [] ys zs (λ i. h (suc i)) in
    omega (arith, ints)
dot_same (x ∷ xs) [] (z ∷ zs) h =
    let first = ap (λ (k : ℤ). k *ℤ z) (h 0) in
    let more = dot_same xs [] zs (λ i. h (suc i)) in
    omega (arith, ints)
dot_same (x ∷ xs) (y ∷ ys) (z ∷ zs) h =
    let first = ap (λ (k : ℤ). k *ℤ z) (h 0) in
    let more = dot_same xs ys zs (λ i. h (suc i)) in
    omega (arith, ints)

-- and those of one length are one list
pub list_same : (xs ys : List ℤ) → length xs ≡ length ys
    → ((i : ℕ) → i < length xs → get_or xs i (pos 0) ≡ get_or ys i (pos 0)) → xs ≡ ys
list_same [] [] e h = refl
list_same [] (y ∷ ys) e h = absurd (omega arith)
list_same (x ∷ xs) [] e h = absurd (omega arith)
list_same (x ∷ xs) (y ∷ ys) e h =
    ap₂ (λ (z : ℤ) (zs : List ℤ). z ∷ zs) (h 0 (omega arith))
    (list_same xs ys (omega arith) (λ i inside. h (suc i) (omega arith)))

-- a list without a negative entry, entry by entry
pub not_negative_all : (xs : List ℤ) → NotNegative xs ↔ All (λ x. pos 0 ≤ℤ x) xs
not_negative_all [] = (λ h. All-nil (λ x. pos 0 ≤ℤ x), λ h. tt)
not_negative_all (x ∷ xs) =
    let P : ℤ → Type 0 = λ x. pos 0 ≤ℤ x in (
      λ h. All-cons P x xs h.0 ((not_negative_all xs).0 h.1),
      λ h. (All-head P x xs h, (not_negative_all xs).1 (All-tail P x xs h)),
    )

pub not_negative-at : (xs : List ℤ) (i : ℕ) → NotNegative xs → pos 0 ≤ℤ get_or xs i (pos 0)
not_negative-at [] i h = omega (arith, ints)
not_negative-at (x ∷ xs) zero h = h.0
not_negative-at (x ∷ xs) (suc i) h = not_negative-at xs i h.1

pub not_negative-append : (xs ys : List ℤ) → NotNegative xs → NotNegative ys → NotNegative (xs ++ ys)
not_negative-append [] ys h k = k
not_negative-append (x ∷ xs) ys h k = (h.0, not_negative-append xs ys h.1 k)

pub not_negative-set : (xs : List ℤ) (i : ℕ) (y : ℤ) → NotNegative xs → pos 0 ≤ℤ y → NotNegative (set xs i y)
not_negative-set [] i y h k = tt
not_negative-set (x ∷ xs) zero y h k = (k, h.1)
not_negative-set (x ∷ xs) (suc i) y h k = (h.0, not_negative-set xs i y h.1 k)

-- the sign of a dot product
pub dot_not_negative : (xs ys : List ℤ) → NotNegative xs → NotNegative ys → pos 0 ≤ℤ dot xs ys
dot_not_negative [] ys h k = omega (arith, ints)
dot_not_negative (x ∷ xs) [] h k = omega (arith, ints)
dot_not_negative (x ∷ xs) (y ∷ ys) h k =
    let one = mul_not_negative x y h.0 k.0 in let more = dot_not_negative xs ys h.1 k.1 in omega (arith, ints)

pub dot_not_positive : (xs ys : List ℤ) → ((i : ℕ) → i < length ys → get_or xs i (pos 0) ≤ℤ pos 0) → NotNegative ys
    → dot xs ys ≤ℤ pos 0
dot_not_positive [] ys h k = omega (arith, ints)
dot_not_positive (x ∷ xs) [] h k = omega (arith, ints)
dot_not_positive (x ∷ xs) (y ∷ ys) h k =
    let one = mul_opposite y x k.0 (h 0 (omega arith)) in
    let more = dot_not_positive xs ys (λ i inside. h (suc i) (omega arith)) k.1 in
    omega (arith, ints)

pub ruleset sign_laws = (dot_not_negative, not_negative_all)

pub ruleset part_laws = (dot-split, dot-behind)

-- and so are those of one length whose dot products are
rest_products : (x y : ℤ) (xs ys w : List ℤ) → (x *ℤ pos 0) +ℤ dot xs w ≡ (y *ℤ pos 0) +ℤ dot ys w
    → dot xs w ≡ dot ys w
rest_products x y xs ys w h = let a = mul_zero_right x in let b = mul_zero_right y in omega (arith, ints)

pub same_products : (xs ys : List ℤ) → length xs ≡ length ys → ((w : List ℤ) → dot xs w ≡ dot ys w) → xs ≡ ys
same_products [] [] h e = refl
same_products [] (y ∷ ys) h e = absurd (omega (arith, h))
same_products (x ∷ xs) [] h e = absurd (omega (arith, h))
same_products (x ∷ xs) (y ∷ ys) h e =
    let one = e (pos 1 ∷ []) in
    let a = mul_one_right x in
    let b = mul_one_right y in
    let c = dot-nil xs in
    let d = dot-nil ys in
    ap₂ (λ (v : ℤ) (vs : List ℤ). v ∷ vs) (omega (arith, ints))
    (same_products xs ys (omega (arith, h)) (λ w. rest_products x y xs ys w (e (pos 0 ∷ w))))
