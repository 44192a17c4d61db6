-- A number grows with each digit: decimals that are or are no number of 64 bits; a list of numbers, one more; cells.
use Rattle.scop_syntax.proofs.Common.{◌≡◌, ◌∙◌, sym, ap, subst, refl, inl, inr, ℕ, suc, ◌+◌, ◌*◌, ◌^◌, ◌<◌, ◌≤◌, Bool}
use Rattle.scop_syntax.proofs.Common.{true, false, ◌&&◌, ltb, if◌then◌else◌, List, [], ◌∷◌, ◌++◌, length, drop, get_or}
use Rattle.scop_syntax.proofs.Common.{drop-cons, arith, cases_lt, Option, Some, None, list_all}
use Rattle.std.proofs.Common.{lt-ltb, le-ltb, ltb-true}
use Rattle.std.proofs.lemmas.List.Sums.{AllPass-from_list_all, list_all-from_AllPass}
use Rattle.scop_lexer.specs.Bytes.{Text, is_digit}
use Rattle.scop_lexer.specs.Constants.{number_behind, digit_value}
use Rattle.data_lines.specs.Numbers.{HaveWidth, decimal_value, fitting, next_number, number_of}

-- numbers in front of numbers, where they are there
abbrev pub with_numbers : List ℕ → Option (List ℕ) → Option (List ℕ)
with_numbers front (Some numbers) = Some (front ++ numbers)
with_numbers front None = None

-- a number grows with each digit
pub number_grows : (n : ℕ) (digits : Text) → n ≤ number_behind 10 n digits
number_grows n [] = omega arith
number_grows n (b ∷ bs) = omega (arith, number_grows (10 * n + digit_value b) bs)

-- digits that are a number of 64 bits
pub number_is : (word : Text) (value : ℕ) → list_all is_digit word ≡ true → value ≡ decimal_value word
    → value < 2 ^ 64 → Some value ≡ number_of word
number_is word value digits is small =
    let fits : ltb (decimal_value word) (2 ^ 64) ≡ true = lt-ltb (decimal_value word) (2 ^ 64)
    (omega (arith, is, small)) in
    ap Some is ∙ rw (digits, fits) refl

-- no number behind one that leaves 64 bits, and none behind a byte that is no digit
stopped : (digit others : Bool) (next all : ℕ) → None ≡ (if digit && ltb next (2 ^ 64) then Some next else None)
    → next ≤ all
    → None ≡ (if (digit && others) && ltb all (2 ^ 64) then Some all else None)
stopped false others next all none grows = refl
stopped true false next all none grows = refl
stopped true true next all none grows = elim (cases_lt next (2 ^ 64)) [
  | inl small ↦ let wrong : None ≡ Some next = rw (lt-ltb next (2 ^ 64) small) at none in cc
  | inr large ↦ rw (le-ltb all (2 ^ 64) (omega (arith, large, grows))) refl
]

pub no_number : (word : Text) (i value : ℕ) → i < length word → list_all is_digit (drop i word) ≡ list_all is_digit word
    → number_behind 10 value (drop i word) ≡ decimal_value word → None ≡ next_number value (get_or word i 0)
    → None ≡ number_of word
no_number word i value within digits numbers none =
    let b = get_or word i 0 in
    let rest = drop (suc i) word in
    let all : is_digit b && list_all is_digit rest ≡ list_all is_digit word =
    ap (list_all is_digit) (sym (drop-cons word i 0 within)) ∙ digits in
    let whole : number_behind 10 (10 * value + digit_value b) rest ≡ decimal_value word =
    ap (number_behind 10 value) (sym (drop-cons word i 0 within)) ∙ numbers in
    let stop = stopped (is_digit b) (list_all is_digit rest) (10 * value + digit_value b) (decimal_value word) none
    (omega (arith, number_grows (10 * value + digit_value b) rest, whole)) in
    stop ∙ ap (λ (d : Bool). if d && ltb (decimal_value word) (2 ^ 64) then Some (decimal_value word) else None) all

-- cells are numbers of their width
have_narrow : (numbers cells : List ℕ) (narrow : Bool) → list_all (λ n. ltb n (2 ^ 32)) numbers ≡ narrow
    → (if narrow then Some numbers else None) ≡ Some cells → (Some numbers ≡ Some cells) × HaveWidth true cells
have_narrow numbers cells true all is =
    let same : numbers ≡ cells = cc in
    let each = AllPass-from_list_all (λ n. ltb n (2 ^ 32)) numbers all in
    (is, subst (HaveWidth true) same (λ i d within. ltb-true (get_or numbers i d) (2 ^ 32) (each i d within)))
have_narrow numbers cells false all is = cc

pub fitting_are : (narrow : Bool) (numbers : Option (List ℕ)) (cells : List ℕ) → fitting narrow numbers ≡ Some cells
    → (numbers ≡ Some cells) × HaveWidth narrow cells
fitting_are false numbers cells is = (is, tt)
fitting_are true None cells is = cc
fitting_are true (Some numbers) cells is =
    have_narrow numbers cells (list_all (λ n. ltb n (2 ^ 32)) numbers) refl is

-- and numbers of their width are cells
pub fitting_all : (narrow : Bool) (cells : List ℕ) → HaveWidth narrow cells → fitting narrow (Some cells) ≡ Some cells
fitting_all false cells have = refl
fitting_all true cells have =
    ap (λ (b : Bool). if b then Some cells else None)
    (list_all-from_AllPass (λ n. ltb n (2 ^ 32)) cells
    (λ i d within. lt-ltb (get_or cells i d) (2 ^ 32) (have i d within)))
