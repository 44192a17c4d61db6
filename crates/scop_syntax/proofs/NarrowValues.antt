-- What an operator of 64 bits makes, kept to 32, is what one of 32 bits makes of what its sides are kept to.
use Rattle.whole_numbers.proofs.Common.{◌≡◌, ℕ, ◌+◌, ◌-◌, ◌*◌, ◌%◌, ◌^◌, ◌<◌, ◌∙◌, arith, mod_below}
use Rattle.std.specs.Int.Bits.{and_lt}
use Rattle.std.proofs.lemmas.Nat.{and_mod, or_mod, xor_mod, or_lt, xor_lt, mul-mod}
use Rattle.scop_syntax.specs.Tree.{Operator, plus, minus, times, bits_and, bits_or, bits_xor}
use Rattle.scop_syntax.specs.Values.{applied, applied_narrow}

pub moved_kept : (a : ℕ) → a % 2 ^ 64 % 2 ^ 32 ≡ a % 2 ^ 32
moved_kept a = omega arith

pub applied_kept : (k : Operator) (a b : ℕ) → b < 2 ^ 64
    → applied k a b % 2 ^ 32 ≡ applied_narrow k (a % 2 ^ 32) (b % 2 ^ 32)
applied_kept plus a b h = omega arith
applied_kept minus a b h = omega arith
applied_kept times a b h = moved_kept (a * b) ∙ mul-mod a b (2 ^ 32)
applied_kept bits_and a b h = and_mod a b 32
applied_kept bits_or a b h = or_mod a b 32
applied_kept bits_xor a b h = xor_mod a b 32

pub negated_kept : (a : ℕ) → a < 2 ^ 32 → (2 ^ 64 - a) % 2 ^ 64 % 2 ^ 32 ≡ (2 ^ 32 - a) % 2 ^ 32
negated_kept a h = omega arith

pub complemented_kept : (a : ℕ) → a < 2 ^ 32 → (2 ^ 64 - 1 - a) % 2 ^ 32 ≡ 2 ^ 32 - 1 - a
complemented_kept a h = omega arith

pub made_below : (k : Operator) (a b : ℕ) → a < 2 ^ 32 → b < 2 ^ 32 → applied_narrow k a b < 2 ^ 32
made_below plus a b h g = mod_below (a + b) (2 ^ 32) (omega arith)
made_below minus a b h g = mod_below (a + (2 ^ 32 - b)) (2 ^ 32) (omega arith)
made_below times a b h g = mod_below (a * b) (2 ^ 32) (omega arith)
made_below bits_and a b h g = and_lt 32 a b h g
made_below bits_or a b h g = or_lt 32 a b h g
made_below bits_xor a b h g = xor_lt 32 a b h g
