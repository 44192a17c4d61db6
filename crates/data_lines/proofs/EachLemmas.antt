-- Lines that name a program's parameters and arrays, a line for each, in the order of declaration.
use Rattle.scop_syntax.proofs.Common.{◌≡◌, ◌∙◌, sym, ap, subst, refl, inl, inr, ◌⊎◌, ℕ, zero, suc, ◌+◌, ◌-◌, ◌<◌, ◌≤◌}
use Rattle.scop_syntax.proofs.Common.{Bool, true, false, List, [], ◌∷◌, ◌++◌, map, length, get_or, length-append, arith}
use Rattle.scop_syntax.proofs.Common.{cases_lt, false_from_ne_true, get_or_append_left, get_or-append-add, length-map}
use Rattle.scop_syntax.proofs.Common.{bytes_eq-Decides, ◌≢◌, Option, Some, None, cond, position_from, bytes_eq, In}
use Rattle.scop_syntax.proofs.Common.{Sorted, Declaration, Program, in_front, in_back, in_at}
use Rattle.scop_lexer.specs.Bytes.{Text}
use Rattle.data_lines.specs.declared.places.Place.{Place}
use Rattle.data_lines.specs.declared.places.Place.TheVariants.{Nowhere, Parameter, Array}
use Rattle.data_lines.specs.Words.{unindented, words_of}
use Rattle.data_lines.specs.Heads.{named_list}
use Rattle.data_lines.specs.Sheets.{array_place, found, is_narrow, names_of, parameter_place, place_of}
use Rattle.data_lines.specs.Naming.{AreLines, AreNumbers, IsBlank, IsValue, Lists, Names, SaysCells, SaysValue}
use Rattle.data_lines.proofs.NamingLemmas.{blank_lists, same_line}

-- a line has this name and lists these words
pub record HasHead (name : Text) (words : List Text) (line : Text) : Type 0 where
  pub list : Text
  pub head : named_list (unindented line) ≡ Some (name, list)
  pub words_are : words_of list ≡ words

-- the lines from 1 on have the names of the program, one by one, and list these words; all others are blank
pub record NameEach (program : Program) (lines : ℕ → Text) (words : ℕ → List Text) : Type 0 where
  pub apart : Sorted (λ (v w : Text). v ≢ w) (names_of program)
  pub named : (i : ℕ) → i < length (names_of program)
      → HasHead (get_or (names_of program) i []) (words i) (lines (suc i))
  pub first : IsBlank (lines 0)
  pub rest : (i : ℕ) → length (names_of program) ≤ i → IsBlank (lines (suc i))

-- names that are distinct, and parts of them
abbrev AreApart : List Text → Type 0
AreApart names = Sorted (λ (v w : Text). v ≢ w) names

apart_left : (xs ys : List Text) → AreApart (xs ++ ys) → AreApart xs
apart_left [] ys h = tt
apart_left (x ∷ xs) ys h = (λ y m. h.0 y (in_front y xs ys m), apart_left xs ys h.1)

apart_right : (xs ys : List Text) → AreApart (xs ++ ys) → AreApart ys
apart_right [] ys h = h
apart_right (x ∷ xs) ys h = apart_right xs ys h.1

in_one : (xs ys : List Text) (w : Text) → AreApart (xs ++ ys) → In w xs → In w ys → ⊥
in_one [] ys w h a b = a
in_one (x ∷ xs) ys w h (inl e) b = h.0 w (in_back w xs ys b) (sym e)
in_one (x ∷ xs) ys w h (inr m) b = in_one xs ys w h.1 m b

-- where a name stands among them
abbrev found_from : ℕ → Text → List Text → Option ℕ
found_from k w names = position_from (λ other. bytes_eq other w) k names

found_step : (k : ℕ) (v w : Text) (names : List Text) (same : Bool) → bytes_eq v w ≡ same
    → found_from k w (v ∷ names) ≡ cond same (Some k) (found_from (k + 1) w names)
found_step k v w names same is = ap (λ (b : Bool). cond b (Some k) (found_from (k + 1) w names)) is

other_bytes : (v w : Text) → (v ≡ w → ⊥) → bytes_eq v w ≡ false
other_bytes v w apart = false_from_ne_true (bytes_eq v w) (λ is. apart ((bytes_eq-Decides v w).0 is))

found_at : (names : List Text) (k i : ℕ) → AreApart names → i < length names
    → found_from k (get_or names i []) names ≡ Some (k + i)
found_at [] k i apart within = absurd (omega (arith, within))
found_at (name ∷ names) k zero apart within =
    let same : k ≡ k + 0 = omega arith in
    found_step k name name names true ((bytes_eq-Decides name name).1 refl) ∙ ap (λ n. Some n) same
found_at (name ∷ names) k (suc i) apart within =
    let there : i < length names = omega (arith, within) in
    let w = get_or names i [] in
    let same : (k + 1) + i ≡ k + suc i = omega arith in
    found_step k name w names false (other_bytes name w (apart.0 w (in_at names i [] there)))
    ∙ (found_at names (k + 1) i apart.1 there ∙ ap (λ n. Some n) same)

not_found : (names : List Text) (k : ℕ) (w : Text) → (In w names → ⊥) → found_from k w names ≡ None
not_found [] k w none = refl
not_found (name ∷ names) k w none =
    found_step k name w names false (other_bytes name w (λ same. none (inl (sym same))))
    ∙ not_found names (k + 1) w (λ m. none (inr m))

-- the places of the names
abbrev array_names : Program → List Text
array_names program = map (λ (d : Declaration). d.name) program.arrays

parameter_at : (program : Program) (i : ℕ) → AreApart (names_of program) → i < length program.parameters
    → place_of program (get_or program.parameters i []) ≡ Parameter i
parameter_at program i apart within =
    let w = get_or program.parameters i [] in
    let same : 0 + i ≡ i = omega arith in
    ap (λ o. parameter_place o (array_place (found w (array_names program))))
    (found_at program.parameters 0 i (apart_left program.parameters (array_names program) apart) within
    ∙ ap (λ n. Some n) same)

array_at : (program : Program) (j : ℕ) → AreApart (names_of program) → j < length (array_names program)
    → place_of program (get_or (array_names program) j []) ≡ Array j
array_at program j apart within =
    let ps = program.parameters in
    let names = array_names program in
    let w = get_or names j [] in
    let same : 0 + j ≡ j = omega arith in
    ap (λ o. parameter_place o (array_place (found w names)))
    (not_found ps 0 w (λ m. in_one ps names w apart m (in_at names j [] within)))
    ∙ ap array_place (found_at names 0 j (apart_right ps names apart) within ∙ ap (λ n. Some n) same)

-- the place of the name behind i others, where n are those of parameters
abbrev IsPlaceAt : ℕ → ℕ → Place → Type 0
IsPlaceAt n i Nowhere = ⊥
IsPlaceAt n i (Parameter k) = k ≡ i
IsPlaceAt n i (Array j) = n + j ≡ i

abbrev place_at : Program → ℕ → Place
place_at program i = place_of program (get_or (names_of program) i [])

parameter_place_at : (program : Program) (i : ℕ) → AreApart (names_of program) → i < length program.parameters
    → place_at program i ≡ Parameter i
parameter_place_at program i apart within =
    ap (place_of program) (get_or_append_left program.parameters (array_names program) [] i within)
    ∙ parameter_at program i apart within

array_place_at : (program : Program) (j : ℕ) → AreApart (names_of program) → j < length (array_names program)
    → place_at program (length program.parameters + j) ≡ Array j
array_place_at program j apart within =
    ap (place_of program) (get_or-append-add program.parameters (array_names program) j [])
    ∙ array_at program j apart within

is_place_at : (program : Program) (i : ℕ) → AreApart (names_of program) → i < length (names_of program)
    → IsPlaceAt (length program.parameters) i (place_at program i)
is_place_at program i apart within = elim (cases_lt i (length program.parameters)) [
  | inl before ↦ subst (IsPlaceAt (length program.parameters) i) (sym (parameter_place_at program i apart before)) refl
  | inr behind ↦ let n = length program.parameters in
      let j : ℕ = i - n in
      let same : n + j ≡ i = omega (arith, behind) in
      let there : j < length (array_names program) =
      omega (arith, within, behind, length-append program.parameters (array_names program)) in
      subst (λ k. IsPlaceAt n i (place_at program k)) same
      (subst (IsPlaceAt n i) (sym (array_place_at program j apart there)) same)
]

one_place : (n i j : ℕ) (place : Place) → IsPlaceAt n i place → IsPlaceAt n j place → i ≡ j
one_place n i j Nowhere a b = absurd a
one_place n i j (Parameter k) a b = sym a ∙ b
one_place n i j (Array k) a b = sym a ∙ b

known_place : (n i : ℕ) (place : Place) → IsPlaceAt n i place → place ≡ Nowhere → ⊥
known_place n i Nowhere a same = a
known_place n i (Parameter k) a same = cc
known_place n i (Array k) a same = cc

-- each line is blank, or has the name of its place
abbrev IsNamed : Program → (ℕ → Text) → (ℕ → List Text) → ℕ → Type 0
IsNamed program lines words n = (i : ℕ) × (n ≡ suc i) × (i < length (names_of program))
    × Lists program (place_at program i) (words i) (lines n)

line_named : (program : Program) (lines : ℕ → Text) (words : ℕ → List Text) (i : ℕ) → NameEach program lines words
    → i < length (names_of program) → Lists program (place_at program i) (words i) (lines (suc i))
line_named program lines words i each within =
    let has = each.named i within in
    record {
      name = get_or (names_of program) i [];
      list = has.list;
      head = has.head;
      place_is = refl;
      words_are = has.words_are;
    }

line_kind : (program : Program) (lines : ℕ → Text) (words : ℕ → List Text) (n : ℕ) → NameEach program lines words
    → IsBlank (lines n) ⊎ IsNamed program lines words n
line_kind program lines words zero each = inl each.first
line_kind program lines words (suc i) each = elim (cases_lt i (length (names_of program))) [
  | inl within ↦ inr (i, refl, within, line_named program lines words i each within)
  | inr past ↦ inl (each.rest i past)
]

line_place : (program : Program) (lines : ℕ → Text) (words : ℕ → List Text) (n : ℕ) (place : Place)
    → NameEach program lines words → Names program place (lines n)
    → (i : ℕ) × (n ≡ suc i) × IsPlaceAt (length program.parameters) i place
line_place program lines words n place each names = elim (line_kind program lines words n each) [
  | inl blank ↦ absurd (blank_lists program place names.0 (lines n) blank names.1)
  | inr named ↦ let same = same_line program (place_at program named.0) place (words named.0) names.0 (lines n) named.3
      names.1 in (
        named.0,
        named.1,
        subst (IsPlaceAt (length program.parameters) named.0) same.0
            (is_place_at program named.0 each.apart named.2),
      )
]

pub each_are_lines : (program : Program) (lines : ℕ → Text) (words : ℕ → List Text) → NameEach program lines words
    → AreLines program lines
each_are_lines program lines words each = record {
  each = λ n. elim (line_kind program lines words n each) [
    | inl blank ↦ inl blank
    | inr named ↦ inr (
      place_at program named.0,
      known_place (length program.parameters) named.0 (place_at program named.0)
          (is_place_at program named.0 each.apart named.2),
      (words named.0, named.3),
    )
  ];
  once = λ m n place first second.
      let one = line_place program lines words m place each first in
      let other = line_place program lines words n place each second in
      let same = one_place (length program.parameters) one.0 other.0 place one.2 other.2 in
      one.1 ∙ (ap (λ i. suc i) same ∙ sym other.1);
}

-- what they say
pub each_says_value : (program : Program) (lines : ℕ → Text) (words : ℕ → List Text) (i value : ℕ)
    → NameEach program lines words → i < length program.parameters → IsValue value (words i)
    → SaysValue program i value lines
each_says_value program lines words i value each within is =
    let there : i < length (names_of program) =
    omega (arith, within, length-append program.parameters (array_names program)) in
    let lists = line_named program lines words i each there in (
      suc i,
      words i,
      subst (λ place. Lists program place (words i) (lines (suc i))) (parameter_place_at program i each.apart within)
          lists,
      is,
    )

pub each_says_cells : (program : Program) (lines : ℕ → Text) (words : ℕ → List Text) (j : ℕ) (cells : List ℕ)
    → NameEach program lines words → j < length program.arrays
    → AreNumbers (is_narrow program j) cells (words (length program.parameters + j)) → SaysCells program j cells lines
each_says_cells program lines words j cells each within are =
    let n = length program.parameters in
    let here : j < length (array_names program) =
    omega (arith, within, length-map program.arrays (λ (d : Declaration). d.name)) in
    let there : n + j < length (names_of program) =
    omega (arith, here, length-append program.parameters (array_names program)) in
    let lists = line_named program lines words (n + j) each there in (
      suc (n + j),
      words (n + j),
      subst (λ place. Lists program place (words (n + j)) (lines (suc (n + j))))
          (array_place_at program j each.apart here) lists,
      are,
    )
