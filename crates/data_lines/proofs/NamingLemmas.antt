-- What a line names and lists is one thing, and blanks name nothing; the place of a name is one of the program's.
use Rattle.scop_syntax.proofs.Common.{◌≡◌, ◌∙◌, sym, ap, subst, refl, ℕ, suc, ◌+◌, ◌<◌, Bool, true, false, List, []}
use Rattle.scop_syntax.proofs.Common.{◌∷◌, length, map, arith, if◌then◌else◌, length-map, same_Some, Option, Some, None}
use Rattle.scop_syntax.proofs.Common.{cond, position_from, bytes_eq, Program}
use Rattle.scop_lexer.specs.Bytes.{Text}
use Rattle.scop_lexer.specs.Stands.{stands_at}
use Rattle.data_lines.specs.declared.places.Place.{Place}
use Rattle.data_lines.specs.declared.places.Place.TheVariants.{Parameter, Array}
use Rattle.data_lines.specs.Words.{words_of}
use Rattle.data_lines.specs.Heads.{named_list}
use Rattle.data_lines.specs.Sheets.{array_place, found, is_narrow, parameter_place, place_of}
use Rattle.data_lines.specs.Entries.{is_seed}
use Rattle.data_lines.specs.Naming.{AreLines, IsBlank, Lists, are_narrow, numerals}

no_list : named_list [] ≡ None
unfolding stands_at
no_list = refl

pub some_not_none : {X : Type 0} → (x : X) → Some x ≡ None → ⊥
some_not_none x is = cc

pub cons_not_nil : {X : Type 0} → (x : X) (xs : List X) → x ∷ xs ≡ [] → ⊥
cons_not_nil x xs is = cc

pub true_not_false : true ≡ false → ⊥
true_not_false is = cc

pub blank_lists : (program : Program) (place : Place) (words : List Text) (line : Text) → IsBlank line
    → Lists program place words line → ⊥
blank_lists program place words line blank lists =
    some_not_none (lists.name, lists.list) (sym lists.head ∙ (ap named_list blank ∙ no_list))

-- a line names one thing, and lists the words that it lists
pub same_line : (program : Program) (p q : Place) (words others : List Text) (line : Text)
    → Lists program p words line → Lists program q others line → (p ≡ q) × (words ≡ others)
same_line program p q words others line one other =
    let head : Text × Text = (one.name, one.list) in
    let same = same_Some head (other.name, other.list) (sym one.head ∙ other.head) in (
      sym one.place_is ∙ (ap (λ (h : Text × Text). place_of program h.0) same ∙ other.place_is),
      sym one.words_are ∙ (ap (λ (h : Text × Text). words_of h.1) same ∙ other.words_are),
    )

-- two lines that name one thing are one, with the same words
pub same_words : (program : Program) (lines : ℕ → Text) (place : Place) (m n : ℕ) (words others : List Text)
    → AreLines program lines → Lists program place words (lines m) → Lists program place others (lines n)
    → words ≡ others
same_words program lines place m n words others are first second =
    let one = are.once m n place (words, first) (others, second) in
    (same_line program place place words others (lines n)
    (subst (λ k. Lists program place words (lines k)) one first) second).1

-- the place of a name is one of the program's
position_step : (X : Type 0) (t : X → Bool) (k i : ℕ) (x : X) (xs : List X) (passes : Bool)
    → cond passes (Some k) (position_from t (k + 1) xs) ≡ Some i
    → (position_from t (k + 1) xs ≡ Some i → i < (k + 1) + length xs) → i < k + suc (length xs)
position_step X t k i x xs true is rest = let same : k ≡ i = cc in omega (arith, same)
position_step X t k i x xs false is rest = omega (arith, rest is)

position_within : (X : Type 0) (t : X → Bool) (k i : ℕ) (xs : List X) → position_from t k xs ≡ Some i
    → i < k + length xs
position_within X t k i [] is = cc
position_within X t k i (x ∷ xs) is = position_step X t k i x xs (t x) is (position_within X t (k + 1) i xs)

first_place : (i : ℕ) (o q : Option ℕ) → parameter_place o (array_place q) ≡ Parameter i → o ≡ Some i
first_place i (Some k) q is = cc
first_place i None (Some k) is = cc
first_place i None None is = cc

second_place : (j : ℕ) (o q : Option ℕ) → parameter_place o (array_place q) ≡ Array j → q ≡ Some j
second_place j (Some k) q is = cc
second_place j None (Some k) is = cc
second_place j None None is = cc

pub parameter_within : (program : Program) (i : ℕ) (words : List Text) (line : Text)
    → Lists program (Parameter i) words line → i < length program.parameters
parameter_within program i words line lists =
    let is = first_place i (found lists.name program.parameters)
    (found lists.name (map (λ d. d.name) program.arrays)) lists.place_is in
    let within = position_within Text (λ other. bytes_eq other lists.name) 0 i program.parameters is in
    omega (arith, within)

pub array_within : (program : Program) (j : ℕ) (words : List Text) (line : Text)
    → Lists program (Array j) words line → j < length program.arrays
array_within program j words line lists =
    let is = second_place j (found lists.name program.parameters)
    (found lists.name (map (λ d. d.name) program.arrays)) lists.place_is in
    let within = position_within Text (λ other. bytes_eq other lists.name) 0 j (map (λ d. d.name) program.arrays) is in
    omega (arith, within, length-map program.arrays (λ d. d.name))

-- which words are to be numbers
pub numerals_all : (first : Text) (words : List Text) → is_seed first ≡ false → numerals (first ∷ words) ≡ first ∷ words
numerals_all first words plain = ap (λ (b : Bool). if b then words else first ∷ words) plain

pub numerals_behind : (first : Text) (words : List Text) → is_seed first ≡ true → numerals (first ∷ words) ≡ words
numerals_behind first words keyword = ap (λ (b : Bool). if b then words else first ∷ words) keyword

-- and their width
pub width_all : (program : Program) (j : ℕ) (first : Text) (words : List Text) → is_seed first ≡ false
    → are_narrow program (Array j) (first ∷ words) ≡ is_narrow program j
width_all program j first words plain = ap (λ (b : Bool). if b then false else is_narrow program j) plain

pub width_behind : (program : Program) (j : ℕ) (first : Text) (words : List Text) → is_seed first ≡ true
    → are_narrow program (Array j) (first ∷ words) ≡ false
width_behind program j first words keyword = ap (λ (b : Bool). if b then false else is_narrow program j) keyword
