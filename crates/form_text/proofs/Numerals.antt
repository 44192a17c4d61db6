-- Decimals are numerals.
use Rattle.whole_numbers.proofs.Common.{◌≡◌, ◌∙◌, sym, ap, ℕ, zero, suc, ◌+◌, ◌/◌, ◌%◌, ◌<◌, ◌≤◌, ◌^◌, List, [], ◌∷◌}
use Rattle.whole_numbers.proofs.Common.{◌++◌, map, decimal, arith, decimal_by_steps_wide}
use Rattle.std.specs.Int.Digits.{digits_of}
use Rattle.std.proofs.lemmas.Fmt.{decimal_digit}
use Rattle.std.proofs.lemmas.Int.Digits.{digits_of_step}
use Rattle.std.proofs.lemmas.List.{map_push}
use Rattle.scop_lexer.specs.Bytes.{Text}
use Rattle.form_text.specs.Numerals.{numeral}

-- the bytes of digits
abbrev pub bytes_of : List ℕ → Text
bytes_of ds = map (λ d. 48 + d) ds

-- a number of one digit, and one digit more
one_digit : (n : ℕ) → n < 10 → 0 < n → (48 + n) ∷ [] ≡ bytes_of (digits_of 10 n)
one_digit n less some =
    let none : n / 10 ≡ 0 = omega arith in
    let own : n % 10 ≡ n = omega arith in
    sym (ap bytes_of (digits_of_step 10 n (omega arith) some ∙ (λ i. digits_of 10 (none i) ++ (own i ∷ []))))

digit_more : (n : ℕ) (ds : List ℕ) → 10 ≤ n → (0 < n / 10 → ds ≡ bytes_of (digits_of 10 (n / 10))) → 0 < n
    → ds ++ (48 + n % 10) ∷ [] ≡ bytes_of (digits_of 10 n)
digit_more n ds more before some =
    ap (λ (z : List ℕ). z ++ (48 + n % 10) ∷ []) (before (omega arith))
    ∙ (sym (map_push (λ d. 48 + d) (digits_of 10 (n / 10)) (n % 10))
    ∙ ap bytes_of (sym (digits_of_step 10 n (omega arith) some)))

digits_are : (n : ℕ) → n < 10 ^ 64 → 0 < n → decimal n ≡ bytes_of (digits_of 10 n)
digits_are n small = decimal_by_steps_wide (λ m ds. 0 < m → ds ≡ bytes_of (digits_of 10 m)) one_digit digit_more n small

pub decimal_is_numeral : (n : ℕ) → n < 10 ^ 64 → decimal n ≡ numeral n
decimal_is_numeral zero small = decimal_digit 0 (omega arith)
decimal_is_numeral (suc n) small = digits_are (suc n) small (omega arith)
