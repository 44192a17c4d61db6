-- A number's decimals are read back, and what is read as a number is its decimals.
use Rattle.std.proofs.Common.{◌≡◌, ◌∙◌, ap, sym, subst, refl, ℕ, zero, suc, ◌+◌, ◌-◌, ◌*◌, ◌/◌, ◌%◌, ◌^◌, ◌<◌, ◌≤◌}
use Rattle.std.proofs.Common.{Bool, true, false, List, [], ◌∷◌, ◌++◌, get_or, ne_eqb, append-nil, arith, ◌==◌}
use Rattle.std.proofs.Common.{nat_le, if◌then◌else◌, Option, Some, None}
use Rattle.std.specs.Int.Digits.{digits_of, number_from_digits, number_from_digits_after, AllBelowBase}
use Rattle.std.proofs.lemmas.Int.Digits.{all_below_base_digits_of, digits_of_step, first_digits_of, number_digits_of}
use Rattle.std.proofs.lemmas.Bool.{and_parts, eq-eqb, eqb-true, leb-true, true≢false}
use Rattle.std.proofs.lemmas.List.{append_assoc}
use Rattle.std.proofs.lemmas.Option.{none-some, same_Some}
use Rattle.scop_lexer.specs.Bytes.{Text, is_digit}
use Rattle.form_text.specs.Numerals.{numeral}
use Rattle.form_text.specs.Reading.{number_in_front, behind_digits, when}
use Rattle.form_text.specs.View.{saturated}
use Rattle.form_text.proofs.Digits.{EndsDigits, is_digit_of, digits_front, digits_behind, stops, stays}
use Rattle.form_text.proofs.Numerals.{bytes_of}
use Rattle.schedule_lines.specs.Reading.{behind_number, numeral_in, whole_numeral_in}

digits_back : (n : ℕ) (ds : List ℕ) (rest : Text) → AllBelowBase 10 ds → 0 < get_or ds 0 0
    → number_from_digits 10 ds ≡ n → EndsDigits rest
    → whole_numeral_in (bytes_of ds ++ rest) ≡ Some (n, rest)
digits_back n [] rest below first is e = absurd (omega (arith, first))
digits_back n (d ∷ ds) rest below first is e =
    let number : number_in_front 0 (bytes_of (d ∷ ds) ++ rest) ≡ n =
    digits_front 0 (d ∷ ds) rest below ∙ (stops (number_from_digits 10 (d ∷ ds)) rest e ∙ is) in
    let behind : behind_digits (bytes_of (d ∷ ds) ++ rest) ≡ rest = digits_behind (d ∷ ds) rest below ∙ stays rest e in
    ap (λ (t : Bool). if t then Some (0, bytes_of ds ++ rest) else if is_digit (48 + d) then Some (
      number_in_front 0
          (bytes_of (d ∷ ds) ++ rest),
      behind_digits (bytes_of (d ∷ ds) ++ rest),
    ) else None)
    (ne_eqb (48 + d) 48 (λ z. absurd (omega (arith, z, first))))
    ∙ (ap (λ (t : Bool). if t then Some (
      number_in_front 0 (bytes_of (d ∷ ds) ++ rest),
      behind_digits
          (bytes_of (d ∷ ds) ++ rest),
    ) else None) (is_digit_of d below.0)
    ∙ (ap (λ k. Some (k, behind_digits (bytes_of (d ∷ ds) ++ rest))) number ∙ ap (λ t. Some (n, t)) behind))

-- a number's decimals are read as it
pub whole_numeral_back : (n : ℕ) (rest : Text) → EndsDigits rest → whole_numeral_in (numeral n ++ rest) ≡ Some (n, rest)
whole_numeral_back zero rest e = refl
whole_numeral_back (suc n) rest e =
    digits_back (suc n) (digits_of 10 (suc n)) rest (all_below_base_digits_of 10 (suc n) (omega arith))
    (first_digits_of 10 (suc n) (omega arith) (omega arith)) (number_digits_of 10 (suc n) (omega arith)) e

-- a number that was read, up to the greatest
abbrev saturated_in : Option (ℕ × Text) → Option (ℕ × Text)
saturated_in None = None
saturated_in (Some n) = Some (saturated n.0, n.1)

by_bytes : (zero_byte digit : Bool) (n : ℕ) (others behind : Text)
    → (if zero_byte then Some (0, others) else if digit then Some (saturated n, behind) else None)
    ≡ saturated_in (if zero_byte then Some (0, others) else if digit then Some (n, behind) else None)
by_bytes true digit n others behind = refl
by_bytes false true n others behind = refl
by_bytes false false n others behind = refl

pub numeral_is_saturated : (text : Text) → numeral_in text ≡ saturated_in (whole_numeral_in text)
numeral_is_saturated [] = refl
numeral_is_saturated (b ∷ bs) =
    by_bytes (b == 48) (is_digit b) (number_in_front 0 (b ∷ bs)) bs (behind_digits (b ∷ bs))

pub numeral_back : (n : ℕ) (rest : Text) → EndsDigits rest → numeral_in (numeral n ++ rest) ≡ Some (saturated n, rest)
numeral_back n rest e = numeral_is_saturated (numeral n ++ rest) ∙ ap saturated_in (whole_numeral_back n rest e)

-- below the greatest a number is told by what is read
same_number : (k n : ℕ) → k < 2 ^ 128 - 1 → (saturated n == k) ≡ (n == k)
same_number k n h = by_truth (n == k) refl
  where
    by_truth : (t : Bool) → (n == k) ≡ t → (saturated n == k) ≡ t
    by_truth true e =
        let is = eqb-true n k e in
        eq-eqb (saturated n) k (let s : saturated n ≡ k = omega (arith, is, h) in s)
    by_truth false e =
        ne_eqb (saturated n) k (λ s.
        let is : n ≡ k = omega (arith, s, h) in absurd (true≢false (sym (eq-eqb n k is) ∙ e)))

by_numeral : (k : ℕ) (o : Option (ℕ × Text)) → k < 2 ^ 128 - 1
    → when (saturated_in o) (λ n. if n.0 == k then Some n.1 else None)
    ≡ when o (λ n. if n.0 == k then Some n.1 else None)
by_numeral k None h = refl
by_numeral k (Some n) h = ap (λ (t : Bool). if t then Some n.1 else None) (same_number k n.0 h)

behind_by : (k : ℕ) (text : Text) → k < 2 ^ 128 - 1
    → when (numeral_in text) (λ n. if n.0 == k then Some n.1 else None) ≡ behind_number k text
behind_by k text h =
    ap (λ o. when o (λ n. if n.0 == k then Some n.1 else None)) (numeral_is_saturated text)
    ∙ by_numeral k (whole_numeral_in text) h

-- what stands behind a number, by what is read
pub behind_none : (at : ℕ) (text : Text) → at < 2 ^ 64 → None ≡ numeral_in text → None ≡ behind_number (suc at) text
behind_none at text h none =
    ap (λ o. when o (λ n. if n.0 == suc at then Some n.1 else None)) none
    ∙ behind_by (suc at) text (omega (arith, h))

pub behind_same : (at n : ℕ) (text rest : Text) → at < 2 ^ 64 → Some (n, rest) ≡ numeral_in text → n ≡ at + 1
    → Some rest ≡ behind_number (suc at) text
behind_same at n text rest h some same =
    sym (ap (λ (t : Bool). if t then Some rest else None) (eq-eqb n (suc at) (omega (arith, same))))
    ∙ (ap (λ o. when o (λ n. if n.0 == suc at then Some n.1 else None)) some
    ∙ behind_by (suc at) text (omega (arith, h)))

pub behind_other : (at n : ℕ) (text rest : Text) → at < 2 ^ 64 → Some (n, rest) ≡ numeral_in text → (n ≡ at + 1 → ⊥)
    → None ≡ behind_number (suc at) text
behind_other at n text rest h some other =
    sym (ap (λ (t : Bool). if t then Some rest else None) (ne_eqb n (suc at) (λ e. other (omega (arith, e)))))
    ∙ (ap (λ o. when o (λ n. if n.0 == suc at then Some n.1 else None)) some
    ∙ behind_by (suc at) text (omega (arith, h)))

pub ruleset behind_numbers = (behind_none, behind_same, behind_other)

-- digits in front of a text
abbrev Front : ℕ → ℕ → Text → Text → Type 0
Front v n text rest =
    (ds : List ℕ) × AllBelowBase 10 ds × (text ≡ bytes_of ds ++ rest) × (n ≡ number_from_digits_after 10 v ds)

digit_value : (b : ℕ) → is_digit b ≡ true → (48 ≤ b) × (b ≤ 57)
digit_value b e =
    let both = and_parts (nat_le 48 b) (nat_le b 57) e in (leb-true 48 b both.0, leb-true b 57 both.1)

front_more : (v b : ℕ) (bs : Text) (t : Bool) → is_digit b ≡ t
    → Front (v * 10 + (b - 48)) (number_in_front (v * 10 + (b - 48)) bs) bs (behind_digits bs)
    → Front v (if t then number_in_front (v * 10 + (b - 48)) bs else v) (b ∷ bs) (if t then behind_digits bs else b ∷ bs)
front_more v b bs false e f = ([], tt, refl, refl)
front_more v b bs true e f =
    let range = digit_value b e in
    let small : b - 48 < 10 = omega (arith, range.0, range.1) in
    let same : b ≡ 48 + (b - 48) = omega (arith, range.0) in
    let text = ap (λ x. x ∷ bs) same ∙ ap (λ (t : Text). (48 + (b - 48)) ∷ t) f.2 in
    ((b - 48) ∷ f.0, (small, f.1), text, f.3)

front_of : (v : ℕ) (text : Text) → Front v (number_in_front v text) text (behind_digits text)
front_of v [] = ([], tt, refl, refl)
front_of v (b ∷ bs) = front_more v b bs (is_digit b) refl (front_of (v * 10 + (b - 48)) bs)

-- digits behind a number that is not 0 are the last ones of what they write
digits_after : (v : ℕ) (ds : List ℕ) → 0 < v → AllBelowBase 10 ds
    → digits_of 10 (number_from_digits_after 10 v ds) ≡ digits_of 10 v ++ ds
digits_after v [] h below = sym (append-nil (digits_of 10 v))
digits_after v (d ∷ ds) h below =
    let small : d < 10 = below.0 in
    let front : (v * 10 + d) / 10 ≡ v = omega (arith, small) in
    let last : (v * 10 + d) % 10 ≡ d = omega (arith, small) in
    digits_after (v * 10 + d) ds (omega (arith, h)) below.1
    ∙ (ap (λ t. t ++ ds) (digits_of_step 10 (v * 10 + d) (omega arith) (omega (arith, h))
    ∙ (ap (λ k. digits_of 10 k ++ ((v * 10 + d) % 10 ∷ [])) front ∙ ap (λ k. digits_of 10 v ++ (k ∷ [])) last))
    ∙ append_assoc (digits_of 10 v) (d ∷ []) ds)

one_digit : (d : ℕ) → 0 < d → d < 10 → digits_of 10 d ≡ d ∷ []
one_digit d h small =
    let none : d / 10 ≡ 0 = omega (arith, small) in
    let last : d % 10 ≡ d = omega (arith, small) in
    digits_of_step 10 d (omega arith) h
    ∙ (ap (λ k. digits_of 10 k ++ (d % 10 ∷ [])) none ∙ ap (λ k. k ∷ []) last)

numeral_is : (n : ℕ) → 0 < n → numeral n ≡ bytes_of (digits_of 10 n)
numeral_is zero h = absurd (omega (arith, h))
numeral_is (suc n) h = refl

digits_positive : (v : ℕ) (ds : List ℕ) → 0 < v → 0 < number_from_digits_after 10 v ds
digits_positive v [] h = h
digits_positive v (d ∷ ds) h = digits_positive (v * 10 + d) ds (omega (arith, h))

-- a digit that is not 0, and those behind it
digits_read : (b : ℕ) (bs : Text) → ((b == 48) ≡ false) → is_digit b ≡ true
    → b ∷ bs ≡ numeral (number_in_front 0 (b ∷ bs)) ++ behind_digits (b ∷ bs)
digits_read b bs other e =
    let d = 0 * 10 + (b - 48) in
    let f = front_of d bs in
    let range = digit_value b e in
    let differs : b ≡ 48 → ⊥ = λ is. true≢false (sym (eq-eqb b 48 is) ∙ other) in
    let some : 0 < d = omega (arith, range.0, differs) in
    let small : d < 10 = omega (arith, range.1) in
    let same : b ≡ 48 + d = omega (arith, range.0) in
    let n = number_from_digits_after 10 d f.0 in
    let digits : digits_of 10 n ≡ d ∷ f.0 =
    digits_after d f.0 some f.1 ∙ ap (λ t. t ++ f.0) (one_digit d some small) in
    ap (λ x. x ∷ bs) same
    ∙ (ap (λ (t : Text). (48 + d) ∷ t) f.2
    ∙ (ap (λ ds. bytes_of ds ++ behind_digits bs) (sym digits)
    ∙ (ap (λ t. t ++ behind_digits bs) (sym (numeral_is n (digits_positive d f.0 some)))
    ∙ (ap (λ k. numeral k ++ behind_digits bs) (sym f.3)
    ∙ (ap (λ (t : Bool). numeral (if t then number_in_front d bs else 0) ++ behind_digits bs) (sym e)
    ∙ ap (λ (t : Bool). numeral (number_in_front 0 (b ∷ bs)) ++ (if t then behind_digits bs else b ∷ bs)) (sym e))))))

-- what is read as a number is its decimals
pub whole_numeral_read : (text : Text) (r : ℕ × Text) → whole_numeral_in text ≡ Some r → text ≡ numeral r.0 ++ r.1
whole_numeral_read [] r h = absurd (none-some r h)
whole_numeral_read (b ∷ bs) r h = by_byte (b == 48) (is_digit b) refl refl h
  where
    by_byte : (z d : Bool) → (b == 48) ≡ z → is_digit b ≡ d
        → (if z then Some (0, bs) else if d then Some (number_in_front 0 (b ∷ bs), behind_digits (b ∷ bs)) else None)
        ≡ Some r → b ∷ bs ≡ numeral r.0 ++ r.1
    by_byte true d e g h =
        subst (λ (r : ℕ × Text). b ∷ bs ≡ numeral r.0 ++ r.1) (same_Some (0, bs) r h)
        (ap (λ x. x ∷ bs) (eqb-true b 48 e))
    by_byte false true e g h =
        subst (λ (r : ℕ × Text). b ∷ bs ≡ numeral r.0 ++ r.1) (same_Some _ r h) (digits_read b bs e g)
    by_byte false false e g h = absurd (none-some r h)

-- a text is something printed with a rest behind it, which is read as something kept of it
abbrev pub IsRead : {A B : Type 0} → (A → B) → (A → Text → Text) → Text → B × Text → Type 0
IsRead {A} kept printed text r = (a : A) × (text ≡ printed a r.1) × (r.0 ≡ kept a)

saturated_some : (o : Option (ℕ × Text)) (r : ℕ × Text) → saturated_in o ≡ Some r
    → (n : ℕ × Text) × (o ≡ Some n) × ((saturated n.0, n.1) ≡ r)
saturated_some None r h = absurd (none-some r h)
saturated_some (Some n) r h = (n, refl, same_Some (saturated n.0, n.1) r h)

pub numeral_read : (text : Text) (r : ℕ × Text) → numeral_in text ≡ Some r
    → IsRead saturated (λ n rest. numeral n ++ rest) text r
numeral_read text r h =
    let n = saturated_some (whole_numeral_in text) r (sym (numeral_is_saturated text) ∙ h) in (
      n.0.0,
      whole_numeral_read text n.0 n.1 ∙ ap (λ (q : ℕ × Text). numeral n.0.0 ++ q.1) n.2,
      ap (λ (q : ℕ × Text). q.0) (sym n.2),
    )
