-- What stands in front of a text has bytes, and no more than the text.
use Rattle.std.proofs.Common.{◌≡◌, subst, refl, ℕ, zero, suc, ◌+◌, ◌-◌, ◌<◌, ◌≤◌, Bool, true, false, ◌&&◌}
use Rattle.std.proofs.Common.{if◌then◌else◌, [], ◌∷◌, length, take, drop, get_or, inl, inr, arith, length-drop, Option}
use Rattle.std.proofs.Common.{Some, None, option_map, nat_le, ◌==◌}
use Rattle.std.specs.Prelude.{⊤}
use Rattle.std.specs.List.{prefix_len}
use Rattle.std.proofs.lemmas.Bool.{cases_Bool}
use Rattle.std.proofs.lemmas.Bool.Decides.{nat_tests}
use Rattle.std.proofs.lemmas.List.Folds.{length-prefix_len}
use Rattle.std.proofs.lemmas.List.Sums.{prefix_len-le-length}
use Rattle.scop_lexer.specs.Bytes.{Text, is_blank, is_letter, is_digit, is_word_byte, is_in_line, is_fresh}
use Rattle.scop_lexer.specs.Words.{word_stands}
use Rattle.scop_lexer.specs.Constants.{constant_of, numeral_stands, numeral_stands_as}
use Rattle.scop_lexer.specs.Signs.{single, with_equal, doubled, doubled_with_equal, sign_or, sign_stands}
use Rattle.scop_lexer.specs.Gaps.{line_of, turns, close, comment_stands_as, is_directive, hash_stands}
use Rattle.scop_lexer.specs.Stands.{word_of, slash_stands, stands, stands_at, HasRoom}
use Rattle.scop_tokens.specs.declared.Suffix.{Suffix}
use Rattle.scop_tokens.specs.declared.Token.{Token as Kind}
use Rattle.scop_lexer.specs.declared.token.FaultKind.TheVariants.{Character}
use Rattle.scop_lexer.specs.declared.stand.Stand.{Stand}
use Rattle.scop_lexer.specs.declared.stand.Stand.TheVariants.{Gap, Wrong}
use Rattle.scop_lexer.proofs.SignLemmas.{doubled_byte}
use Rattle.scop_lexer.proofs.ByteLemmas.{byte_in_line}

-- a count that is there is at most m
abbrev IsAtMost : ℕ → Option ℕ → Type 0
IsAtMost m (Some n) = n ≤ m
IsAtMost m None = ⊤

-- one byte further back
atmost-suc : (m : ℕ) (found : Option ℕ) → IsAtMost m found → IsAtMost (suc m) (option_map suc found)
atmost-suc m (Some n) h = omega (arith, h)
atmost-suc m None h = tt

-- a comment ends within the text
close-within : (text : Text) → IsAtMost (length text) (close text)
close-within [] = tt
close-within (a ∷ []) = tt
close-within (a ∷ b ∷ bs) = elim (cases_Bool (turns true a b)) [
  | inl e ↦ rw e (omega arith)
  | inr e ↦ rw e (atmost-suc (length (b ∷ bs)) (close (b ∷ bs)) (close-within (b ∷ bs)))
]

-- a byte that is not 0 stands within the text
some_byte : (text : Text) (i : ℕ) → 0 < get_or text i 0 → i < length text
some_byte [] i h = absurd (omega (arith, h))
some_byte (b ∷ bs) zero h = omega arith
some_byte (b ∷ bs) (suc i) h = omega (arith, some_byte bs i h)

word_room : (word : Text) (m : ℕ) → 0 < length word → length word ≤ m → HasRoom m (word_stands word)
word_room word m some within = elim (cases_Bool (nat_le (length word) 63)) [
  | inl e ↦ rw e (some, within)
  | inr e ↦ rw e (grind (arith, nat_tests, e, within))
]

numeral_room : (found : Option (Suffix × ℕ)) (n m : ℕ) → 0 < n → n ≤ m → HasRoom m (numeral_stands_as found n)
numeral_room (Some constant) n m some within = (some, within)
numeral_room None n m some within = omega (arith, some, within)

sign_room : (found : Option Kind) (n m : ℕ) (otherwise : Stand) → 0 < n
    → ((sign : Kind) → found ≡ Some sign → n ≤ m) → HasRoom m otherwise
    → HasRoom m (sign_or found n otherwise)
sign_room (Some sign) n m otherwise some within room = (some, within sign refl)
sign_room None n m otherwise some within room = room

-- a sign that is there under a test has the byte that the test asks for
under_test : (text : Text) (i : ℕ) (test : Bool) (found : Option Kind) (sign : Kind)
    → (test ≡ true → found ≡ Some sign → 0 < get_or text i 0) → (if test then found else None) ≡ Some sign
    → i < length text
under_test text i true found sign is h = some_byte text i (is refl h)
under_test text i false found sign is h = absurd (cc)

signs_room : (text : Text) → 1 ≤ length text → HasRoom (length text) (sign_stands text)
signs_room text some =
    let a = get_or text 0 0 in
    let b = get_or text 1 0 in
    let c = get_or text 2 0 in
    let m = length text in
    let three : Option Kind = if b == a && c == 61 then doubled_with_equal a else None in
    let two : Option Kind = if b == a then doubled a else None in
    let equal : Option Kind = if b == 61 then with_equal a else None in
    let last : Stand = sign_or (single a) 1 (Wrong Character 0) in
    let last_room = sign_room (single a) 1 m (Wrong Character 0) (omega arith) (λ sign h. some) some in
    let equal_room = sign_room equal 2 m last (omega arith)
    (λ sign h. under_test text 1 (b == 61) (with_equal a) sign (λ e k. grind (arith, nat_tests, e)) h) last_room in
    let two_room = sign_room two 2 m (sign_or equal 2 last) (omega arith)
    (λ sign h. under_test text 1 (b == a) (doubled a) sign
    (λ e k. grind (arith, nat_tests, e, doubled_byte a sign k)) h) equal_room in
    sign_room three 3 m (sign_or two 2 (sign_or equal 2 last)) (omega arith)
    (λ sign h. under_test text 2 (b == a && c == 61) (doubled_with_equal a) sign
    (λ e k. grind (arith, nat_tests, e)) h) two_room

comment_room : (found : Option ℕ) (m : ℕ) → IsAtMost (m - 2) found → 2 ≤ m → HasRoom m (comment_stands_as found)
comment_room (Some n) m h two = (omega arith, omega (arith, h))
comment_room None m h two = omega (arith, two)

slash_room : (text : Text) → 1 ≤ prefix_len is_in_line text → HasRoom (length text) (slash_stands text)
slash_room text line =
    let within = prefix_len-le-length is_in_line text in
    elim (cases_Bool (get_or text 1 0 == 47)) [
      | inl e ↦ rw e (line, within)
      | inr e ↦ rw e (elim (cases_Bool (get_or text 1 0 == 42)) [
        | inl f ↦
            let two : 1 < length text = some_byte text 1 (grind (arith, nat_tests, f)) in
            let behind = subst (λ m. IsAtMost m (close (drop 2 text))) (length-drop 2 text)
            (close-within (drop 2 text)) in
            rw f (comment_room (close (drop 2 text)) (length text) behind two)
        | inr f ↦ rw f (signs_room text (omega (arith, line, within)))
      ])
    ]

hash_room : (fresh : Bool) (text : Text) → 1 ≤ prefix_len is_in_line text
    → HasRoom (length text) (hash_stands fresh text)
hash_room false text line = omega (arith, line, prefix_len-le-length is_in_line text)
hash_room true text line =
    let within = prefix_len-le-length is_in_line text in
    let long : length (line_of text) ≡ prefix_len is_in_line text = length-prefix_len is_in_line text in
    elim (cases_Bool (is_directive (line_of text))) [
      | inl e ↦ rw e (omega (arith, long, line), omega (arith, long, within))
      | inr e ↦ rw e (omega (arith, line, within))
    ]

-- a word is not empty, and no longer than the text
word_some : (b : ℕ) (bs : Text) → is_word_byte b ≡ true → 0 < length (word_of (b ∷ bs))
word_some b bs h =
    let long = length-prefix_len is_word_byte (b ∷ bs) in
    let some : prefix_len is_word_byte (b ∷ bs) ≡ 1 + prefix_len is_word_byte bs = rw h refl in
    omega (arith, long, some)

word_within : (text : Text) → length (word_of text) ≤ length text
word_within text = omega (arith, length-prefix_len is_word_byte text, prefix_len-le-length is_word_byte text)

-- a choice by a test
if_room : (m : ℕ) (test : Bool) (x y : Stand) → (test ≡ true → HasRoom m x) → (test ≡ false → HasRoom m y)
    → HasRoom m (if test then x else y)
if_room m true x y f g = f refl
if_room m false x y f g = g refl

-- what stands in front of a text
pub stands_room : (fresh : Bool) (text : Text) → HasRoom (length text) (stands fresh text)
stands_room fresh [] = refl
stands_room fresh (b ∷ bs) =
    let text : Text = b ∷ bs in
    let m = length text in
    let word = word_of text in
    let slash : Stand = if b == 47 then slash_stands text else sign_stands text in
    let hash : Stand = if b == 35 then hash_stands fresh text else slash in
    let digit : Stand = if is_digit b then numeral_stands word else hash in
    let letter : Stand = if is_letter b then word_stands word else digit in
    if_room m (is_blank b) (Gap 1) letter (λ e. (omega arith, omega arith))
    (λ e. if_room m (is_letter b) (word_stands word) digit
    (λ f. word_room word m (word_some b bs (grind (arith, f))) (word_within text))
    (λ f. if_room m (is_digit b) (numeral_stands word) hash
    (λ g. numeral_room (constant_of word) (length word) m (word_some b bs (grind (arith, f, g)))
    (word_within text))
    (λ g. if_room m (b == 35) (hash_stands fresh text) slash
    (λ h. hash_room fresh text (byte_in_line b bs (grind (arith, nat_tests, h))))
    (λ h. if_room m (b == 47) (slash_stands text) (sign_stands text)
    (λ k. slash_room text (byte_in_line b bs (grind (arith, nat_tests, k))))
    (λ k. signs_room text (omega arith))))))

-- what stands at a place of a text
pub stands_at_room : (text : Text) (at : ℕ) → HasRoom (length text - at) (stands_at text at)
unfolding stands_at
stands_at_room text at = subst (λ m. HasRoom m (stands (is_fresh (take at text)) (drop at text)))
    (length-drop at text) (stands_room (is_fresh (take at text)) (drop at text))
