-- Shifts by 64 and more leave nothing.
use Rattle.std.proofs.Common.{
  ◌≡◌,
  ℕ,
  ◌+◌,
  ◌-◌,
  ◌*◌,
  ◌/◌,
  ◌%◌,
  ◌^◌,
  ◌<◌,
  ◌≤◌,
  ap,
  ◌∙◌,
  arith,
  mul_assoc,
  mul-le-mul_right,
}
use Rattle.std.proofs.lemmas.Nat.{pow-add, pow_pos}
use Rattle.std.proofs.Math.Nat.{mul-mod_left, div-eq_of_lt}

past : (k : ℕ) → 64 ≤ k → 2 ^ k ≡ 2 ^ (k - 64) * 2 ^ 64
past k h = let e : k ≡ (k - 64) + 64 = omega arith in ap (λ n. 2 ^ n) e ∙ pow-add 2 (k - 64) 64

pub none_left : (v k : ℕ) → 64 ≤ k → 0 ≡ (v * 2 ^ k) % 2 ^ 64
none_left v k h =
    let e = ap (λ n. (v * n) % 2 ^ 64) (past k h) in
    let f = ap (λ n. n % 2 ^ 64) (mul_assoc v (2 ^ (k - 64)) (2 ^ 64)) in
    let z = mul-mod_left (v * 2 ^ (k - 64)) (2 ^ 64) in
    omega arith

pub none_right : (v k : ℕ) → v < 2 ^ 64 → 64 ≤ k → 0 ≡ v / 2 ^ k
none_right v k small h =
    let e = past k h in
    let p : 1 ≤ 2 ^ (k - 64) = pow_pos (k - 64) in
    let m : 1 * 2 ^ 64 ≤ 2 ^ (k - 64) * 2 ^ 64 = mul-le-mul_right (2 ^ 64) p in
    let l : v < 2 ^ k = omega arith in
    let z = div-eq_of_lt l in
    omega arith
