-- Tests of numbers, and two tests at once; most tests are in std's `lemmas/Bool`.
use Rattle.std.proofs.Common.{◌≡◌, ℕ, ◌<◌, Bool, true, false, refl, arith, nat_eq, if◌then◌else◌}

-- one of two numbers is less, so they differ
pub nat_eq_below : (a b : ℕ) → a < b → nat_eq a b ≡ false
nat_eq_below a b h = grind arith

pub nat_eq_above : (a b : ℕ) → b < a → nat_eq a b ≡ false
nat_eq_above a b h = grind arith

-- two tests, the second asked where the first holds
pub if_both : (a b : Bool) → a ≡ true → b ≡ true → (if a then b else false) ≡ true
if_both true true h k = refl
if_both true false h k = k
if_both false b h k = h
