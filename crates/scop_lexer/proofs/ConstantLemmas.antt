-- A number grows with each digit.
use Rattle.std.proofs.Common.{◌≡◌, refl, ℕ, ◌+◌, ◌*◌, ◌^◌, ◌<◌, ◌≤◌, [], ◌∷◌, length, drop, get_or, add-one, drop-cons}
use Rattle.std.proofs.Common.{mul_comm, le-mul_of_pos_right, arith}
use Rattle.scop_lexer.specs.Bytes.{Text}
use Rattle.scop_lexer.specs.Constants.{number_behind, digit_value}

-- a number grows with each digit
pub number_grows : (radix n : ℕ) (digits : Text) → 0 < radix → n ≤ number_behind radix n digits
number_grows radix n [] some = omega arith
number_grows radix n (b ∷ bs) some =
    omega (arith, mul_comm radix n, le-mul_of_pos_right n some, number_grows radix (radix * n + digit_value b) bs some)

-- a number that leaves 64 bits with one more digit leaves them with all
pub number_too_large : (radix n i : ℕ) (digits : Text) → 0 < radix → i < length digits
    → number_behind radix n (drop i digits) ≡ number_behind radix 0 digits
    → 2 ^ 64 ≤ radix * n + digit_value (get_or digits i 0) → 2 ^ 64 ≤ number_behind radix 0 digits
number_too_large radix n i digits some within whole large =
    let grows = number_grows radix (radix * n + digit_value (get_or digits i 0)) (drop (i + 1) digits) some in
    let next : number_behind radix n (drop i digits) ≡ number_behind radix
    (radix * n + digit_value (get_or digits i 0)) (drop (i + 1) digits) =
    rw (add-one, drop-cons digits i 0) refl in
    omega (arith, grows, next, whole, large)
