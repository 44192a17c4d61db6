-- How large the numbers of sums and multiples of forms get.
use Rattle.scop_syntax.proofs.Common.{◌≡◌, ℕ, zero, suc, ◌+◌, ◌*◌, ◌^◌, ◌≤◌, ℤ, pos, negsuc, true, nat_le, List, []}
use Rattle.scop_syntax.proofs.Common.{◌∷◌, length, set, ◌∙◌, arith, mul-le-mul, ◌*ℤ◌, unsigned_abs, list_all}
use Rattle.scop_syntax.proofs.Common.{unsigned_abs-mul, and_parts, sums, multiples, zeros, Affine, form_of}
use Rattle.scop_syntax.proofs.Common.{multiple_of_form, length-multiples, length-zeros, abs_sum, AreAtMost, IsForm}
use Rattle.scop_syntax.proofs.Common.{IsAffine, at_most_more}
use Rattle.std.proofs.Common.{length-set}
use Rattle.scop_syntax.proofs.Sizes.{at_most_zeros}
use Rattle.scop_roles.specs.Forms.{is_small, is_within}

pub at_most-set : (k : ℕ) (xs : List ℤ) (i : ℕ) (x : ℤ) → AreAtMost k xs → unsigned_abs x ≤ k → AreAtMost k (set xs i x)
at_most-set k [] i x h small = tt
at_most-set k (y ∷ xs) zero x h small = (small, h.1)
at_most-set k (y ∷ xs) (suc i) x h small = (h.0, at_most-set k xs i x h.1 small)

pub at_most-sums : (k l : ℕ) (xs ys : List ℤ) → AreAtMost k xs → AreAtMost l ys → AreAtMost (k + l) (sums xs ys)
at_most-sums k l [] ys h g = at_most_more l (k + l) ys (omega arith) g
at_most-sums k l (x ∷ xs) [] h g = at_most_more k (k + l) (x ∷ xs) (omega arith) h
at_most-sums k l (x ∷ xs) (y ∷ ys) h g =
    let a = abs_sum x y in
    let small = h.0 in
    let other = g.0 in
    (omega arith, at_most-sums k l xs ys h.1 g.1)

pub abs_product : (a b : ℤ) (k l : ℕ) → unsigned_abs a ≤ k → unsigned_abs b ≤ l → unsigned_abs (a *ℤ b) ≤ k * l
abs_product a b k l h g = rw (unsigned_abs-mul a b) (mul-le-mul h g)

pub at_most-multiples : (f k l : ℕ) (x : ℤ) (xs : List ℤ) → unsigned_abs x ≤ f → AreAtMost k xs → f * k ≤ l
    → AreAtMost l (multiples x xs)
at_most-multiples f k l x [] a h m = tt
at_most-multiples f k l x (y ∷ ys) a h m =
    let p = abs_product x y f k a h.0 in
    (omega arith, at_most-multiples f k l x ys a h.1 m)

-- an affine form is a form within the limits of sums
pub affine_wide : (n : ℕ) (f : Affine) → IsAffine n f → IsForm n (2 ^ 40) (2 ^ 40) f
affine_wide n f is =
    record {
      entries = is.entries;
      coefficients = at_most_more 16 (2 ^ 40) f.coefficients (omega arith) is.coefficients;
      constant = let c = is.constant in omega arith;
    }

pub multiple_wide : (n : ℕ) (x : ℤ) (f g : Affine) → g ≡ multiple_of_form x f → unsigned_abs x ≤ 2 ^ 20
    → IsAffine n f → IsForm n (2 ^ 40) (2 ^ 40) g
multiple_wide n x f g e a is =
    rw e record {
      entries = length-multiples x f.coefficients ∙ is.entries;
      coefficients = at_most-multiples (2 ^ 20) 16 (2 ^ 40) x f.coefficients a is.coefficients (omega arith);
      constant = let p = abs_product x f.constant (2 ^ 20) (2 ^ 20) a is.constant in omega arith;
    }

-- the test of the limits says them
all_within : (xs : List ℤ) → list_all is_small xs ≡ true → AreAtMost 16 xs
all_within [] h = tt
all_within (x ∷ xs) h =
    let b = and_parts (is_small x) (list_all is_small xs) h in
    let small = b.0 in
    (grind arith, all_within xs b.1)

pub within_affine : (n : ℕ) (f : Affine) → length f.coefficients ≡ n → is_within f ≡ true → IsAffine n f
within_affine n f e h =
    let b = and_parts (list_all is_small f.coefficients) (nat_le (unsigned_abs f.constant) (2 ^ 20)) h in
    let small = b.1 in
    record { entries = e; coefficients = all_within f.coefficients b.0; constant = grind arith }

pub variable_affine : (n k : ℕ) → IsAffine n (form_of (set (zeros n) k (pos 1)) (pos 0))
variable_affine n k =
    record {
      entries = length-set (zeros n) k (pos 1) ∙ length-zeros n;
      coefficients = at_most-set 16 (zeros n) k (pos 1) (at_most_zeros 16 n) (omega arith);
      constant = omega arith;
    }

pub constant_affine : (n v : ℕ) → v ≤ 2 ^ 20 → IsAffine n (form_of (zeros n) (pos v))
constant_affine n v h =
    record { entries = length-zeros n; coefficients = at_most_zeros 16 n; constant = omega arith }

pub opposite_affine : (n : ℕ) (f g : Affine) → g ≡ multiple_of_form (negsuc 0) f → IsAffine n f → IsAffine n g
opposite_affine n f g e is =
    rw e record {
      entries = length-multiples (negsuc 0) f.coefficients ∙ is.entries;
      coefficients = at_most-multiples 1 16 16 (negsuc 0) f.coefficients (omega arith) is.coefficients (omega arith);
      constant = let p = abs_product (negsuc 0) f.constant 1 (2 ^ 20) (omega arith) is.constant in omega arith;
    }
