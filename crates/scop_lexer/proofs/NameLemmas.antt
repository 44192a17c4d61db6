-- What stands as a name is a name by itself: no constant, no sign and no gap is told as one.
use Rattle.std.proofs.Common.{◌≡◌, ◌∙◌, sym, ap, subst, refl, ℕ, ◌==◌, Bool, true, false, ◌&&◌, ◌||◌, if◌then◌else◌}
use Rattle.std.proofs.Common.{List, [], ◌∷◌, length, take, drop, get_or, nat_le, Option, Some, None, cond}
use Rattle.std.specs.Prelude.{⊤}
use Rattle.std.specs.List.{list_all, prefix_len, take_while}
use Rattle.std.proofs.lemmas.Bool.{and_parts}
use Rattle.std.proofs.lemmas.List.{length-take-le}
use Rattle.std.proofs.lemmas.List.Sums.{prefix_len-le-length, take_while-cons}
use Rattle.scop_lexer.specs.Bytes.{Text, is_blank, is_letter, is_digit, is_word_byte, is_fresh}
use Rattle.scop_lexer.specs.Words.{IsName, kind_of_word, word_stands}
use Rattle.scop_lexer.specs.Constants.{constant_of, numeral_stands_as, numeral_stands}
use Rattle.scop_lexer.specs.Gaps.{close, comment_stands_as, comment_stands, is_directive, line_of, hash_stands}
use Rattle.scop_lexer.specs.Signs.{single, with_equal, doubled, doubled_with_equal, sign_or, sign_stands, sign_in}
use Rattle.scop_lexer.specs.Signs.{singles, equals, doubles, doubles_with_equal}
use Rattle.scop_lexer.specs.Stands.{word_of, slash_stands, stands, stands_at}
use Rattle.scop_lexer.specs.declared.stand.Stand.{Stand}
use Rattle.scop_lexer.specs.declared.stand.Stand.TheVariants as stand
use Rattle.scop_lexer.specs.declared.token.FaultKind.TheVariants as wrong
use Rattle.scop_tokens.specs.declared.Suffix.{Suffix}
use Rattle.scop_tokens.specs.declared.Token.{Token as Kind}
use Rattle.scop_tokens.specs.declared.Token.TheVariants as kind

-- a name that stands in front of a text is one by itself
abbrev IsNamed : Text → Stand → Type 0
IsNamed text (stand.Lexeme kind.Name v n) = IsName (take n text)
IsNamed text _ = ⊤

named_if : (text : Text) (b : Bool) (x y : Stand) → (b ≡ true → IsNamed text x) → IsNamed text y
    → IsNamed text (if b then x else y)
named_if text true x y h k = h refl
named_if text false x y h k = k

-- the word that a text begins with has nothing but bytes of words
bytes_by : (b : ℕ) (rest : Text) (is : Bool) → is_word_byte b ≡ is → list_all is_word_byte rest ≡ true
    → list_all is_word_byte (cond is (b ∷ rest) []) ≡ true
bytes_by b rest true e all = ap (λ c. c && list_all is_word_byte rest) e ∙ all
bytes_by b rest false e all = refl

word_bytes : (text : Text) → list_all is_word_byte (take_while is_word_byte text) ≡ true
word_bytes [] = refl
word_bytes (b ∷ bs) = ap (list_all is_word_byte) (take_while-cons is_word_byte b bs)
    ∙ bytes_by b (take_while is_word_byte bs) (is_word_byte b) refl (word_bytes bs)

word_front : (text : Text) → take (length (word_of text)) text ≡ word_of text
word_front text = ap (λ n. take n text)
    (length-take-le (prefix_len is_word_byte text) text (prefix_len-le-length is_word_byte text))

-- where the lexer tells it as a name it is one
word_is : (b : ℕ) (bs : Text) → is_letter b ≡ true → nat_le (length (word_of (b ∷ bs))) 63 ≡ true
    → kind_of_word (word_of (b ∷ bs)) ≡ kind.Name → IsName (word_of (b ∷ bs))
word_is b bs letter short same =
    let w = word_of (b ∷ bs) in
    let byte : is_word_byte b ≡ true = ap (λ c. c || is_digit b) letter in
    let first : w ≡ b ∷ take_while is_word_byte bs = take_while-cons is_word_byte b bs
    ∙ ap (λ c. cond c (b ∷ take_while is_word_byte bs) []) byte in
    record {
      letter = ap (λ v. is_letter (get_or v 0 0)) first ∙ letter;
      bytes = word_bytes (b ∷ bs);
      word = ap (λ c. if c then stand.Lexeme (kind_of_word w) 0 (length w) else stand.Wrong wrong.Character 63) short
          ∙ ap (λ k. stand.Lexeme k 0 (length w)) same;
    }

kind_named : (text : Text) (k : Kind) (v n : ℕ) → (k ≡ kind.Name → IsName (take n text))
    → IsNamed text (stand.Lexeme k v n)
kind_named text kind.Name v n h = h refl
kind_named text _ v n h = tt

word_named : (b : ℕ) (bs : Text) → is_letter b ≡ true → IsNamed (b ∷ bs) (word_stands (word_of (b ∷ bs)))
word_named b bs letter =
    let w = word_of (b ∷ bs) in
    named_if (b ∷ bs) (nat_le (length w) 63) (stand.Lexeme (kind_of_word w) 0 (length w))
    (stand.Wrong wrong.Character 63)
    (λ short. kind_named (b ∷ bs) (kind_of_word w) 0 (length w)
    (λ same. subst IsName (sym (word_front (b ∷ bs))) (word_is b bs letter short same))) tt

-- what begins with a digit is a constant
numeral_named : (text : Text) (o : Option (Suffix × ℕ)) (n : ℕ) → IsNamed text (numeral_stands_as o n)
numeral_named text (Some constant) n = tt
numeral_named text None n = tt

-- no sign is a name
abbrev is_other : Kind → Bool
is_other kind.Name = false
is_other _ = true

abbrev IsOther : Option Kind → Type 0
IsOther (Some k) = is_other k ≡ true
IsOther None = ⊤

other_if : (b : Bool) (x y : Option Kind) → IsOther x → IsOther y → IsOther (if b then x else y)
other_if true x y h k = h
other_if false x y h k = k

others_in : (rows : List (ℕ × Kind)) (b : ℕ) → list_all (λ (row : ℕ × Kind). is_other row.1) rows ≡ true
    → IsOther (sign_in rows b)
others_in [] b h = tt
others_in (row ∷ rows) b h =
    let parts = and_parts (is_other row.1) (list_all (λ (row : ℕ × Kind). is_other row.1) rows) h in
    other_if (b == row.0) (Some row.1) (sign_in rows b) parts.0 (others_in rows b parts.1)

sign_named : (text : Text) (o : Option Kind) (n : ℕ) (otherwise : Stand) → IsOther o → IsNamed text otherwise
    → IsNamed text (sign_or o n otherwise)
sign_named text (Some k) n otherwise h named =
    kind_named text k 0 n (λ same. let none : false ≡ true = subst (λ j. is_other j ≡ true) same h in absurd (cc none))
sign_named text None n otherwise h named = named

signs_named : (text : Text) → IsNamed text (sign_stands text)
signs_named text =
    let a = get_or text 0 0 in
    let b = get_or text 1 0 in
    let c = get_or text 2 0 in
    let last : Stand = sign_or (single a) 1 (stand.Wrong wrong.Character 0) in
    let three : Option Kind = if b == a && c == 61 then doubled_with_equal a else None in
    let two : Option Kind = if b == a then doubled a else None in
    let equal : Option Kind = if b == 61 then with_equal a else None in
    sign_named text three 3 (sign_or two 2 (sign_or equal 2 last))
    (other_if (b == a && c == 61) (doubled_with_equal a) None (others_in doubles_with_equal a refl) tt)
    (sign_named text two 2 (sign_or equal 2 last) (other_if (b == a) (doubled a) None (others_in doubles a refl) tt)
    (sign_named text equal 2 last (other_if (b == 61) (with_equal a) None (others_in equals a refl) tt)
    (sign_named text (single a) 1 (stand.Wrong wrong.Character 0) (others_in singles a refl) tt)))

-- gaps
comment_named : (text : Text) (o : Option ℕ) → IsNamed text (comment_stands_as o)
comment_named text (Some n) = tt
comment_named text None = tt

slash_named : (text : Text) → IsNamed text (slash_stands text)
slash_named text =
    let other : Stand = if get_or text 1 0 == 42 then comment_stands text else sign_stands text in
    named_if text (get_or text 1 0 == 47) (stand.Gap _) other (λ e. tt)
    (named_if text (get_or text 1 0 == 42) (comment_stands text) (sign_stands text)
    (λ e. comment_named text (close (drop 2 text))) (signs_named text))

hash_named : (fresh : Bool) (text : Text) → IsNamed text (hash_stands fresh text)
hash_named true text = named_if text (is_directive (line_of text)) (stand.Gap (length (line_of text)))
    (stand.Wrong wrong.Directive 0) (λ e. tt) tt
hash_named false text = tt

stands_named : (fresh : Bool) (text : Text) → IsNamed text (stands fresh text)
stands_named fresh [] = tt
stands_named fresh (b ∷ bs) =
    let text : Text = b ∷ bs in
    let word = word_of text in
    let slash : Stand = if b == 47 then slash_stands text else sign_stands text in
    let hash : Stand = if b == 35 then hash_stands fresh text else slash in
    let digit : Stand = if is_digit b then numeral_stands word else hash in
    let letter : Stand = if is_letter b then word_stands word else digit in
    named_if text (is_blank b) (stand.Gap 1) letter (λ e. tt)
    (named_if text (is_letter b) (word_stands word) digit (word_named b bs)
    (named_if text (is_digit b) (numeral_stands word) hash
    (λ e. numeral_named text (constant_of word) (length word))
    (named_if text (b == 35) (hash_stands fresh text) slash (λ e. hash_named fresh text)
    (named_if text (b == 47) (slash_stands text) (sign_stands text) (λ e. slash_named text) (signs_named text)))))

at_named : (text : Text) (at : ℕ) → IsNamed (drop at text) (stands_at text at)
unfolding stands_at
at_named text at = stands_named (is_fresh (take at text)) (drop at text)

-- what stands as a name at a place of a text is a name by itself
pub name_at : (text : Text) (at v n : ℕ) → stands_at text at ≡ stand.Lexeme kind.Name v n
    → IsName (take n (drop at text))
name_at text at v n is = subst (IsNamed (drop at text)) is (at_named text at)
