-- Lines that are in order say one thing of each parameter and each array, and break no rule.
use Rattle.scop_syntax.proofs.Common.{◌≡◌, ◌∙◌, sym, ap, ap₂, subst, refl, inl, inr, ℕ, Bool, true, false, not, List}
use Rattle.scop_syntax.proofs.Common.{[], ◌∷◌, arith, false_from_ne_true, bytes_eq-Decides, same_Some, Some, None}
use Rattle.scop_syntax.proofs.Common.{codes, Program}
use Rattle.scop_lexer.specs.Bytes.{Text}
use Rattle.data_lines.specs.declared.places.Place.{Place}
use Rattle.data_lines.specs.declared.places.Place.TheVariants.{Nowhere, Parameter, Array}
use Rattle.data_lines.specs.declared.refusal.DataRefusal.{DataRefusal}
use Rattle.data_lines.specs.declared.refusal.DataRefusal.TheVariants.{Line, UnknownName, Repeated, Number}
use Rattle.data_lines.specs.declared.refusal.DataRefusal.TheVariants.{ParameterRange, Missing, Extent, Cells, Count}
use Rattle.data_lines.specs.Entries.{is_seed}
use Rattle.data_lines.specs.Numbers.{cells_of, fitting, number_of, numbers_of, with_number}
use Rattle.data_lines.specs.Sheets.{is_narrow}
use Rattle.data_lines.specs.Naming.{AreLines, AreNumbers, AreSound, Breaks, IsAbove, IsFormless, IsSeed, IsValue, Lists}
use Rattle.data_lines.specs.Naming.{SayInOrder, SaysCells, SaysSeed, SaysValue, are_narrow, numerals, takes}
use Rattle.data_lines.proofs.NamingLemmas.{array_within, blank_lists, parameter_within, same_line, same_words}
use Rattle.data_lines.proofs.NamingLemmas.{numerals_all, numerals_behind, some_not_none, width_all, width_behind}
use Rattle.data_lines.proofs.NumberLemmas.{fitting_all}

-- `seed` is no number, and is not among numbers
seed_no_number : (word : Text) → is_seed word ≡ true → number_of word ≡ None
seed_no_number word keyword = ap number_of ((bytes_eq-Decides word (codes "seed")).0 keyword)

seed_no_numbers : (word : Text) (words : List Text) (cells : List ℕ) → is_seed word ≡ true
    → numbers_of (word ∷ words) ≡ Some cells → ⊥
seed_no_numbers word words cells keyword is = some_not_none cells
    (sym is ∙ ap (λ o. with_number o (numbers_of words)) (seed_no_number word keyword))

plain_first : (word : Text) (words : List Text) (cells : List ℕ) → numbers_of (word ∷ words) ≡ Some cells
    → is_seed word ≡ false
plain_first word words cells is =
    false_from_ne_true (is_seed word) (λ keyword. seed_no_numbers word words cells keyword is)

one_number : (word : Text) (value : ℕ) → number_of word ≡ Some value → numbers_of (word ∷ []) ≡ Some (value ∷ [])
one_number word value is = ap (λ o. with_number o (Some [])) is

-- words say one value, one list or one seed
one_value : (words : List Text) (v w : ℕ) → IsValue v words → IsValue w words → v ≡ w
one_value words v w first second =
    let same : first.word ∷ [] ≡ second.word ∷ [] = sym first.one ∙ second.one in
    let word : first.word ≡ second.word = cc in
    same_Some v w (sym first.number ∙ (ap number_of word ∙ second.number))

one_seed : (words : List Text) (v w : ℕ) → IsSeed v words → IsSeed w words → v ≡ w
one_seed words v w first second =
    let same : first.first ∷ first.word ∷ [] ≡ second.first ∷ second.word ∷ [] = sym first.two ∙ second.two in
    let word : first.word ≡ second.word = cc in
    same_Some v w (sym first.number ∙ (ap number_of word ∙ second.number))

not_both : (narrow : Bool) (words : List Text) (cells : List ℕ) (seed : ℕ) → AreNumbers narrow cells words
    → IsSeed seed words → ⊥
not_both narrow words cells seed numbers is = seed_no_numbers is.first (is.word ∷ []) cells is.keyword
    (sym (ap numbers_of is.two) ∙ numbers.numbers)

pub values_agree : (program : Program) (lines : ℕ → Text) (i v w : ℕ) → AreLines program lines
    → SaysValue program i v lines → SaysValue program i w lines → v ≡ w
values_agree program lines i v w are first second =
    let same = same_words program lines (Parameter i) first.0 second.0 first.1 second.1 are first.2 second.2 in
    one_value second.1 v w (subst (IsValue v) same first.3) second.3

pub cells_agree : (program : Program) (lines : ℕ → Text) (j : ℕ) (cells others : List ℕ) → AreLines program lines
    → SaysCells program j cells lines → SaysCells program j others lines → cells ≡ others
cells_agree program lines j cells others are first second =
    let same = same_words program lines (Array j) first.0 second.0 first.1 second.1 are first.2 second.2 in
    same_Some cells others (sym first.3.numbers ∙ (ap numbers_of same ∙ second.3.numbers))

pub seeds_agree : (program : Program) (lines : ℕ → Text) (j v w : ℕ) → AreLines program lines
    → SaysSeed program j v lines → SaysSeed program j w lines → v ≡ w
seeds_agree program lines j v w are first second =
    let same = same_words program lines (Array j) first.0 second.0 first.1 second.1 are first.2 second.2 in
    one_seed second.1 v w (subst (IsSeed v) same first.3) second.3

pub cells_or_seed : (program : Program) (lines : ℕ → Text) (j : ℕ) (cells : List ℕ) (seed : ℕ)
    → AreLines program lines → SaysCells program j cells lines → SaysSeed program j seed lines → ⊥
cells_or_seed program lines j cells seed are first second =
    let same = same_words program lines (Array j) first.0 second.0 first.1 second.1 are first.2 second.2 in
    not_both (is_narrow program j) second.1 cells seed (subst (AreNumbers (is_narrow program j) cells) same first.3)
    second.3

-- what the words of a line in order are
in_order : (program : Program) (lines : ℕ → Text) (place : Place) (n : ℕ) (words : List Text)
    → AreSound program lines → (place ≡ Nowhere → ⊥) → Lists program place words (lines n)
    → SayInOrder program place words
in_order program lines Nowhere n words sound known lists = known refl
in_order program lines (Parameter i) n words sound known lists =
    let says = sound.value i (parameter_within program i words (lines n) lists) in
    let same = same_words program lines (Parameter i) says.1.0 n says.1.1 words sound.lines_are says.1.2 lists in
    (says.0, subst (IsValue says.0) same says.1.3)
in_order program lines (Array j) n words sound known lists =
    elim (sound.row j (array_within program j words (lines n) lists)) [
      | inl out ↦ absurd (out n words lists)
      | inr said ↦ elim said [
        | inl says ↦ let same = same_words program lines (Array j) says.1.0 n says.1.1 words sound.lines_are says.1.2
            lists in
            inl (says.0, subst (AreNumbers (is_narrow program j) says.0) same says.1.3)
        | inr says ↦ let same = same_words program lines (Array j) says.1.0 n says.1.1 words sound.lines_are says.1.2
            lists in
            inr (says.0, subst (IsSeed says.0) same says.1.3)
      ]
    ]

-- such words are as many as their place takes, and numbers where they are to be
numbers_taken : (narrow : Bool) (j : ℕ) (words : List Text) (cells : List ℕ) → AreNumbers narrow cells words
    → takes (Array j) words ≡ true
numbers_taken narrow j [] cells are = absurd (omega (arith, are.some))
numbers_taken narrow j (word ∷ []) cells are = ap not (plain_first word [] cells are.numbers)
numbers_taken narrow j (word ∷ other ∷ []) cells are = refl
numbers_taken narrow j (word ∷ other ∷ third ∷ words) cells are =
    ap not (plain_first word (other ∷ third ∷ words) cells are.numbers)

taken : (program : Program) (place : Place) (words : List Text) → SayInOrder program place words
    → takes place words ≡ true
taken program Nowhere words order = absurd order
taken program (Parameter i) words order =
    ap (takes (Parameter i)) order.1.one
    ∙ ap not (plain_first order.1.word [] (order.0 ∷ []) (one_number order.1.word order.0 order.1.number))
taken program (Array j) words (inl order) = numbers_taken (is_narrow program j) j words order.0 order.1
taken program (Array j) words (inr order) = ap (takes (Array j)) order.1.two

plain_numbers : (words : List Text) (cells : List ℕ) → numbers_of words ≡ Some cells
    → numbers_of (numerals words) ≡ None → ⊥
plain_numbers [] cells is none = some_not_none cells (sym is ∙ none)
plain_numbers (word ∷ words) cells is none =
    let same : numerals (word ∷ words) ≡ word ∷ words = numerals_all word words (plain_first word words cells is) in
    some_not_none cells (sym is ∙ (ap numbers_of (sym same) ∙ none))

plain_cells : (program : Program) (j : ℕ) (words : List Text) (cells : List ℕ)
    → AreNumbers (is_narrow program j) cells words
    → cells_of (are_narrow program (Array j) words) (numerals words) ≡ None → ⊥
plain_cells program j [] cells are none = omega (arith, are.some)
plain_cells program j (word ∷ words) cells are none =
    let plain = plain_first word words cells are.numbers in
    some_not_none cells (sym (fitting_all (is_narrow program j) cells are.width)
    ∙ (ap (fitting (is_narrow program j)) (sym are.numbers)
    ∙ (sym (ap₂ cells_of (width_all program j word words plain) (numerals_all word words plain)) ∙ none)))

all_numbers : (program : Program) (place : Place) (words : List Text) → SayInOrder program place words
    → cells_of (are_narrow program place words) (numerals words) ≡ None → ⊥
all_numbers program Nowhere words order none = order
all_numbers program (Parameter i) words order none = plain_numbers words (order.0 ∷ [])
    (ap numbers_of order.1.one ∙ one_number order.1.word order.0 order.1.number) none
all_numbers program (Array j) words (inl order) none = plain_cells program j words order.0 order.1 none
all_numbers program (Array j) words (inr order) none =
    let two = order.1.two in
    let behind = order.1.word ∷ [] in
    let width = ap (are_narrow program (Array j)) two ∙ width_behind program j order.1.first behind order.1.keyword in
    let same = ap numerals two ∙ numerals_behind order.1.first behind order.1.keyword in
    some_not_none (order.0 ∷ []) (sym (one_number order.1.word order.0 order.1.number)
    ∙ (sym (ap₂ cells_of width same) ∙ none))

-- so no line breaks a rule
formless_not : (program : Program) (lines : ℕ → Text) (n : ℕ) → AreSound program lines
    → IsFormless program (lines n) → ⊥
formless_not program lines n sound is = elim (sound.lines_are.each n) [
  | inl blank ↦ is.marked blank
  | inr named ↦ not_false (sym (taken program named.0 named.2.0
      (in_order program lines named.0 n named.2.0 sound named.1 named.2.1))
      ∙ is.formless named.0 named.2.0 named.2.1)
]
  where
    not_false : true ≡ false → ⊥
    not_false same = cc

-- a line in order names a parameter or an array
known_line : (program : Program) (lines : ℕ → Text) (place : Place) (n : ℕ) (words : List Text)
    → AreSound program lines → Lists program place words (lines n) → place ≡ Nowhere → ⊥
known_line program lines place n words sound lists same = elim (sound.lines_are.each n) [
  | inl blank ↦ blank_lists program place words (lines n) blank lists
  | inr named ↦ named.1 ((same_line program named.0 place named.2.0 words (lines n) named.2.1 lists).0 ∙ same)
]

above_not : (program : Program) (lines : ℕ → Text) (n : ℕ) → AreSound program lines → IsAbove program (lines n) → ⊥
above_not program lines n sound above =
    let words = above.word ∷ [] in
    let order = in_order program lines (Parameter above.parameter) n words sound
    (known_line program lines (Parameter above.parameter) n words sound above.lists) above.lists in
    let same : above.word ∷ [] ≡ order.1.word ∷ [] = order.1.one in
    let word : above.word ≡ order.1.word = cc in
    let value = same_Some above.value order.0 (sym above.number ∙ (ap number_of word ∙ order.1.number)) in
    omega (arith, value, above.above, order.1.small)

pub sound_lines : (program : Program) (lines : ℕ → Text) (refusal : DataRefusal) → AreSound program lines
    → Breaks program lines refusal → ⊥
sound_lines program lines (Line n) sound breaks = formless_not program lines n sound breaks
sound_lines program lines (UnknownName n) sound breaks =
    known_line program lines Nowhere n breaks.0 sound breaks.1 refl
sound_lines program lines (Repeated n) sound breaks =
    let same = sound.lines_are.once breaks.earlier n breaks.place breaks.first breaks.second in
    omega (arith, same, breaks.before)
sound_lines program lines (Number n) sound breaks =
    all_numbers program breaks.0 breaks.1 (in_order program lines breaks.0 n breaks.1 sound
    (known_line program lines breaks.0 n breaks.1 sound breaks.2) breaks.2) breaks.3
sound_lines program lines (ParameterRange n) sound breaks = above_not program lines n sound breaks
sound_lines program lines (Missing i) sound breaks = breaks
sound_lines program lines (Extent j k value) sound breaks = breaks
sound_lines program lines (Cells total) sound breaks = breaks
sound_lines program lines (Count n expected found) sound breaks = breaks
