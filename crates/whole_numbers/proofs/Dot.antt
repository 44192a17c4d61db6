-- Dot products: sums, multiples, zeros, append, padding, one entry replaced.
use Rattle.std.proofs.Common.{◌≡◌, ℕ, zero, suc, ◌<◌, ◌≤◌, ℤ, pos, ◌+ℤ◌, ◌-ℤ◌, ◌*ℤ◌, List, [], ◌∷◌, ◌++◌, length, set}
use Rattle.std.proofs.Common.{get_or, refl, ap, sym, ◌∙◌, arith, replicate}
use Rattle.std.proofs.lemmas.Int.{ints}
use Rattle.whole_numbers.specs.Lists.{dot, sums, multiples, zeros}
use Rattle.whole_numbers.proofs.Ring.{mul_distrib_left, mul_distrib_right, mul_sub_left, mul_assoc_int}
use Rattle.whole_numbers.proofs.Ring.{mul_zero_right}

-- a dot product with no entries is 0
pub dot-nil : (xs : List ℤ) → dot xs [] ≡ pos 0
dot-nil [] = refl
dot-nil (x ∷ xs) = refl

-- the order of the two lists is free
pub dot_comm : (xs ys : List ℤ) → dot xs ys ≡ dot ys xs
dot_comm [] ys = sym (dot-nil ys)
dot_comm (x ∷ xs) [] = refl
dot_comm (x ∷ xs) (y ∷ ys) = let more = dot_comm xs ys in omega (arith, ints)

-- a sum of coefficients gives the sum of the dot products
pub dot-sums : (xs ys zs : List ℤ) → dot (sums xs ys) zs ≡ dot xs zs +ℤ dot ys zs
dot-sums [] ys zs = omega (arith, ints)
dot-sums (x ∷ xs) [] zs = omega (arith, ints)
dot-sums (x ∷ xs) (y ∷ ys) [] = refl
dot-sums (x ∷ xs) (y ∷ ys) (z ∷ zs) =
    let more = dot-sums xs ys zs in let s = mul_distrib_right x y z in omega (arith, ints)

-- multiples of the coefficients give the multiple of the dot product
pub dot-multiples : (k : ℤ) (xs ys : List ℤ) → dot (multiples k xs) ys ≡ k *ℤ dot xs ys
dot-multiples k [] ys = sym (mul_zero_right k)
dot-multiples k (x ∷ xs) [] = sym (mul_zero_right k)
dot-multiples k (x ∷ xs) (y ∷ ys) =
    let more = dot-multiples k xs ys in
    let s = mul_distrib_left (x *ℤ y) (dot xs ys) k in
    let t = mul_assoc_int k x y in
    omega (arith, ints)

-- zeros give 0
pub dot-zeros : (n : ℕ) (xs : List ℤ) → dot (zeros n) xs ≡ pos 0
dot-zeros zero xs = refl
dot-zeros (suc n) [] = refl
dot-zeros (suc n) (x ∷ xs) = let more = dot-zeros n xs in omega (arith, ints)

-- appended lists, the fronts of one length, give the sum of the parts
pub dot-append : (front rest xs ys : List ℤ)
    → length front ≡ length xs → dot (front ++ rest) (xs ++ ys) ≡ dot front xs +ℤ dot rest ys
dot-append [] rest [] ys h = omega (arith, ints)
dot-append [] rest (x ∷ xs) ys h = absurd (omega arith)
dot-append (a ∷ front) rest [] ys h = absurd (omega arith)
dot-append (a ∷ front) rest (x ∷ xs) ys h =
    let more = dot-append front rest xs ys (omega arith) in omega (arith, ints)

-- coefficients padded by zeros give the same
pub dot-padded : (xs : List ℤ) (n : ℕ) (ys : List ℤ) → dot (xs ++ zeros n) ys ≡ dot xs ys
dot-padded [] n ys = dot-zeros n ys
dot-padded (x ∷ xs) n [] = refl
dot-padded (x ∷ xs) n (y ∷ ys) = let more = dot-padded xs n ys in omega (arith, ints)

-- entries past the coefficients' end do not count
pub dot-past : (xs ys more : List ℤ) → length xs ≤ length ys → dot xs (ys ++ more) ≡ dot xs ys
dot-past [] ys more h = refl
dot-past (x ∷ xs) [] more h = absurd (omega arith)
dot-past (x ∷ xs) (y ∷ ys) more h = let rest = dot-past xs ys more (omega arith) in omega (arith, ints)

-- a point with the entry i replaced by v changes the dot product by the coefficient times the difference
pub dot-set : (xs ys : List ℤ) (i : ℕ) (v : ℤ) → i < length ys
    → dot xs (set ys i v) ≡ dot xs ys +ℤ (get_or xs i (pos 0) *ℤ (v -ℤ get_or ys i (pos 0)))
dot-set [] ys i v h = omega (arith, ints)
dot-set (x ∷ xs) [] i v h = absurd (omega arith)
dot-set (x ∷ xs) (y ∷ ys) zero v h = let s = mul_sub_left v y x in omega (arith, ints)
dot-set (x ∷ xs) (y ∷ ys) (suc i) v h = let more = dot-set xs ys i v (omega arith) in omega (arith, ints)

-- a coefficient i replaced by c changes the dot product by the difference times the entry
pub dot-set_left : (xs ys : List ℤ) (i : ℕ) (c : ℤ) → i < length xs
    → dot (set xs i c) ys ≡ dot xs ys +ℤ ((c -ℤ get_or xs i (pos 0)) *ℤ get_or ys i (pos 0))
dot-set_left xs ys i c h =
    let e = dot-set ys xs i c h in
    let f = dot_comm (set xs i c) ys in
    let g = dot_comm xs ys in
    omega (arith, ints)

-- a multiple of a point gives the multiple of the dot product
pub dot-multiples_right : (k : ℤ) (xs ys : List ℤ) → dot xs (multiples k ys) ≡ k *ℤ dot xs ys
dot-multiples_right k xs ys =
    dot_comm xs (multiples k ys) ∙ dot-multiples k ys xs ∙ ap (λ (z : ℤ). k *ℤ z) (dot_comm ys xs)

-- multiples keep the length
pub length-multiples : (k : ℤ) (xs : List ℤ) → length (multiples k xs) ≡ length xs
length-multiples k [] = refl
length-multiples k (x ∷ xs) = let more = length-multiples k xs in omega arith

-- n zeros
pub length-zeros : (n : ℕ) → length (zeros n) ≡ n
length-zeros zero = refl
length-zeros (suc n) = let more = length-zeros n in omega arith

-- 0, repeated
pub replicate-zeros : (n : ℕ) → replicate n (pos 0) ≡ zeros n
replicate-zeros zero = refl
replicate-zeros (suc n) = ap (λ (zs : List ℤ). pos 0 ∷ zs) (replicate-zeros n)

-- a sum with no entries is the other list
pub sums-nil : (xs : List ℤ) → sums xs [] ≡ xs
sums-nil [] = refl
sums-nil (x ∷ xs) = refl

-- a sum of lists of one length has that length
pub length-sums : (xs ys : List ℤ) → length xs ≡ length ys → length (sums xs ys) ≡ length xs
length-sums [] ys h = sym h
length-sums (x ∷ xs) [] h = refl
length-sums (x ∷ xs) (y ∷ ys) h = let more = length-sums xs ys (omega arith) in omega arith

-- the entries of a sum
pub get_or-sums : (xs ys : List ℤ) (i : ℕ)
    → get_or (sums xs ys) i (pos 0) ≡ get_or xs i (pos 0) +ℤ get_or ys i (pos 0)
get_or-sums [] ys i = omega (arith, ints)
get_or-sums (x ∷ xs) [] i = omega (arith, ints)
get_or-sums (x ∷ xs) (y ∷ ys) zero = refl
get_or-sums (x ∷ xs) (y ∷ ys) (suc i) = get_or-sums xs ys i

-- the entries of a multiple
pub get_or-multiples : (k : ℤ) (xs : List ℤ) (i : ℕ)
    → get_or (multiples k xs) i (pos 0) ≡ k *ℤ get_or xs i (pos 0)
get_or-multiples k [] i = sym (mul_zero_right k)
get_or-multiples k (x ∷ xs) zero = refl
get_or-multiples k (x ∷ xs) (suc i) = get_or-multiples k xs i

-- the entries of zeros
pub get_or-zeros : (n i : ℕ) → get_or (zeros n) i (pos 0) ≡ pos 0
get_or-zeros zero i = refl
get_or-zeros (suc n) zero = refl
get_or-zeros (suc n) (suc i) = get_or-zeros n i

-- zeros with one entry 1 pick an entry
pub dot-unit : (n i : ℕ) (xs : List ℤ) → i < n → dot (set (zeros n) i (pos 1)) xs ≡ get_or xs i (pos 0)
dot-unit n i xs h =
    let within : i < length (zeros n) = omega (arith, length-zeros n) in
    let moved = dot-set_left (zeros n) xs i (pos 1) within in
    let none = dot-zeros n xs in
    let entry = get_or-zeros n i in
    let s = ap (λ (k : ℤ). (pos 1 -ℤ k) *ℤ get_or xs i (pos 0)) entry in
    omega (arith, ints)

pub ruleset linear_laws = (dot_comm, dot-sums, dot-multiples, dot-zeros)

pub ruleset part_laws = (dot-append, dot-padded, dot-past, dot-set)
