-- The constants of a text have 64 bits.
use Rattle.scop_syntax.proofs.Common.{◌≡◌, ℕ, zero, suc, ◌^◌, ◌<◌, ◌≤◌, Bool, true, false, ◌&&◌, if◌then◌else◌, ◌==◌}
use Rattle.scop_syntax.proofs.Common.{List, [], ◌∷◌, length, take, drop, get_or, refl, subst, arith, nat_le, nat_lt}
use Rattle.scop_syntax.proofs.Common.{slice_get, Option, Some, None, ⊤, prefix_len, and_parts, leb-true, nat_tests}
use Rattle.std.specs.List.{take_while}
use Rattle.scop_lexer.specs.Bytes.{Text, is_blank, is_letter, is_digit, is_fresh}
use Rattle.scop_lexer.specs.Words.{kind_of_word, word_stands}
use Rattle.scop_lexer.specs.Constants.{number_behind, radix, is_digit_in, greatest, is_suffix, with_suffix, constant_in}
use Rattle.scop_lexer.specs.Constants.{is_hexadecimal, is_octal, constant_of, numeral_stands_as, numeral_stands}
use Rattle.scop_lexer.specs.Gaps.{close, comment_stands_as, comment_stands, is_directive, line_of, hash_stands}
use Rattle.scop_lexer.specs.Signs.{single, with_equal, doubled, doubled_with_equal, sign_or, sign_stands}
use Rattle.scop_lexer.specs.Stands.{word_of, slash_stands, stands, stands_at}
use Rattle.scop_lexer.specs.Tokens.{IsToken, AreTokens, HasTokens}
use Rattle.scop_lexer.specs.declared.stand.Stand.{Stand}
use Rattle.scop_lexer.specs.declared.stand.Stand.TheVariants as stand
use Rattle.scop_lexer.specs.declared.token.FaultKind.TheVariants as wrong
use Rattle.scop_expressions.specs.Base.{Base}
use Rattle.scop_expressions.specs.Base.TheVariants.{Decimal, Hexadecimal}
use Rattle.scop_expressions.specs.Suffix.{Suffix}
use Rattle.scop_expressions.specs.Suffix.TheVariants.{Absent, Present}
use Rattle.scop_expressions.specs.Token.{Token as Kind}
use Rattle.scop_lexer.specs.declared.token.Token.{Token}
use Rattle.scop_units.specs.Words.{worth_of, words_of, HasWorth}

-- a constant that stands somewhere has 64 bits
abbrev Small : Stand → Type 0
Small (stand.Lexeme k v n) = v < 2 ^ 64
Small _ = ⊤

abbrev MayBeSmall : Option (Suffix × ℕ) → Type 0
MayBeSmall (Some constant) = constant.1 < 2 ^ 64
MayBeSmall None = ⊤

small_if : (b : Bool) (x y : Stand) → Small x → Small y → Small (if b then x else y)
small_if true x y h k = h
small_if false x y h k = k

option_if : (b : Bool) (x y : Option (Suffix × ℕ)) → (b ≡ true → MayBeSmall x) → MayBeSmall y
    → MayBeSmall (if b then x else y)
option_if true x y h k = h refl
option_if false x y h k = k

word_small : (w : Text) → Small (word_stands w)
word_small w =
    small_if (nat_le (length w) 63) (stand.Lexeme (kind_of_word w) 0 (length w)) (stand.Wrong wrong.Character 63)
    (omega arith) tt

is_below : (a b : ℕ) → nat_lt a b ≡ true → a < b
is_below a b e = grind (arith, nat_tests, e)

upto_below : (a b c : ℕ) → a ≤ b → b < c → a < c
upto_below a b c h k = omega (arith, h, k)

greatest_small : (base : Base) → greatest base < 2 ^ 64
greatest_small Decimal = omega arith
greatest_small Hexadecimal = omega arith

suffix_small : (base : Base) (value : ℕ) (w : Text) → MayBeSmall (with_suffix base value w)
suffix_small base value [] =
    option_if (nat_le value (greatest base)) (Some (Absent base, value)) None
    (λ e. upto_below value (greatest base) (2 ^ 64) (leb-true value (greatest base) e) (greatest_small base)) tt
suffix_small base value (b ∷ bs) =
    option_if (is_suffix (b ∷ bs) && nat_lt value (2 ^ 64)) (Some (Present, value)) None
    (λ e. is_below value (2 ^ 64) (and_parts (is_suffix (b ∷ bs)) (nat_lt value (2 ^ 64)) e).1) tt

in_small : (base : Base) (w : Text) → MayBeSmall (constant_in base w)
in_small base w =
    let test = is_digit_in base in
    let value = number_behind (radix base) 0 (take_while test w) in
    option_if (prefix_len test w == 0) None (with_suffix base value (drop (prefix_len test w) w)) (λ e. tt)
    (suffix_small base value (drop (prefix_len test w) w))

constant_small : (w : Text) → MayBeSmall (constant_of w)
constant_small w =
    let decimal = constant_in Decimal w in
    let other : Option (Suffix × ℕ) = if is_octal w then None else decimal in
    option_if (is_hexadecimal w) (constant_in Hexadecimal (drop 2 w)) other (λ e. in_small Hexadecimal (drop 2 w))
    (option_if (is_octal w) None decimal (λ e. tt) (in_small Decimal w))

numeral_small : (o : Option (Suffix × ℕ)) (n : ℕ) → MayBeSmall o → Small (numeral_stands_as o n)
numeral_small (Some k) n h = h
numeral_small None n h = tt

sign_small : (o : Option Kind) (n : ℕ) (otherwise : Stand) → Small otherwise → Small (sign_or o n otherwise)
sign_small (Some s) n otherwise h = omega arith
sign_small None n otherwise h = h

signs_small : (text : Text) → Small (sign_stands text)
signs_small text =
    let a = get_or text 0 0 in
    let b = get_or text 1 0 in
    let c = get_or text 2 0 in
    let three : Option Kind = if b == a && c == 61 then doubled_with_equal a else None in
    let two : Option Kind = if b == a then doubled a else None in
    let equal : Option Kind = if b == 61 then with_equal a else None in
    let last : Stand = sign_or (single a) 1 (stand.Wrong wrong.Character 0) in
    sign_small three 3 (sign_or two 2 (sign_or equal 2 last))
    (sign_small two 2 (sign_or equal 2 last)
    (sign_small equal 2 last (sign_small (single a) 1 (stand.Wrong wrong.Character 0) tt)))

comment_small : (o : Option ℕ) → Small (comment_stands_as o)
comment_small (Some n) = tt
comment_small None = tt

slash_small : (text : Text) → Small (slash_stands text)
slash_small text =
    let other : Stand = if get_or text 1 0 == 42 then comment_stands text else sign_stands text in
    small_if (get_or text 1 0 == 47) (stand.Gap _) other tt
    (small_if (get_or text 1 0 == 42) (comment_stands text) (sign_stands text)
    (comment_small (close (drop 2 text))) (signs_small text))

hash_small : (fresh : Bool) (text : Text) → Small (hash_stands fresh text)
hash_small true text =
    small_if (is_directive (line_of text)) (stand.Gap (length (line_of text))) (stand.Wrong wrong.Directive 0) tt tt
hash_small false text = tt

stands_small : (fresh : Bool) (text : Text) → Small (stands fresh text)
stands_small fresh [] = tt
stands_small fresh (b ∷ bs) =
    let text : Text = b ∷ bs in
    let word = word_of text in
    let slash : Stand = if b == 47 then slash_stands text else sign_stands text in
    let hash : Stand = if b == 35 then hash_stands fresh text else slash in
    let digit : Stand = if is_digit b then numeral_stands word else hash in
    let letter : Stand = if is_letter b then word_stands word else digit in
    small_if (is_blank b) (stand.Gap 1) letter tt
    (small_if (is_letter b) (word_stands word) digit (word_small word)
    (small_if (is_digit b) (numeral_stands word) hash
    (numeral_small (constant_of word) (length word) (constant_small word))
    (small_if (b == 35) (hash_stands fresh text) slash (hash_small fresh text)
    (small_if (b == 47) (slash_stands text) (sign_stands text) (slash_small text) (signs_small text)))))

at_small : (text : Text) (at : ℕ) → Small (stands_at text at)
unfolding stands_at
at_small text at = stands_small (is_fresh (take at text)) (drop at text)

token_small : (text : Text) (t : Token) → IsToken text t → t.value < 2 ^ 64
token_small text t h = subst Small h.1 (at_small text t.start)

tokens_small : (text : Text) (from to : ℕ) (ts : List Token) (at : ℕ) → AreTokens text from ts to
    → worth_of (slice_get ts at) < 2 ^ 64
tokens_small text from to [] at h = omega arith
tokens_small text from to (t ∷ ts) zero h = token_small text t h.1
tokens_small text from to (t ∷ ts) (suc at) h = tokens_small text t.end to ts at h.2

-- so has what a place among the tokens of a text is worth
pub has_worth : (text : Text) (ts : List Token) → HasTokens text ts → HasWorth (words_of text ts)
has_worth text ts h at = tokens_small text 0 (length text) ts at h
