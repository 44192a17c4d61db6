-- The sheet behind each line holds exactly what the lines so far say; a line that is refused breaks the rule told.
use Rattle.scop_syntax.proofs.Common.{◌≡◌, ◌∙◌, sym, ap, ap₂, subst, refl, inl, inr, ◌⊎◌, ℕ, zero, suc, ◌+◌, ◌<◌, Bool}
use Rattle.scop_syntax.proofs.Common.{true, false, leb, if◌then◌else◌, List, [], ◌∷◌, ◌++◌, length, get_or, set}
use Rattle.scop_syntax.proofs.Common.{append_assoc, append-nil, arith, length-append, get_or-append_seam, cases_lt}
use Rattle.scop_syntax.proofs.Common.{get_or_append_left, get_or_past, length-replicate, Option, Some, None, Result, Ok}
use Rattle.scop_syntax.proofs.Common.{Err, replicate, is_some, not, Program, most_parameter}
use Rattle.std.proofs.Common.{leb-true, leb-false, length-set, get_or-set_same, get_or-set_other}
use Rattle.std.proofs.lemmas.Bool.{cases_eq}
use Rattle.scop_lexer.specs.Bytes.{Text}
use Rattle.data_lines.specs.declared.places.Place.{Place}
use Rattle.data_lines.specs.declared.places.Place.TheVariants.{Nowhere, Parameter, Array}
use Rattle.data_lines.specs.declared.refusal.DataRefusal.{DataRefusal}
use Rattle.data_lines.specs.declared.refusal.DataRefusal.TheVariants.{Line, UnknownName, Repeated, Number}
use Rattle.data_lines.specs.declared.refusal.DataRefusal.TheVariants.{ParameterRange}
use Rattle.data_lines.specs.Words.{lines_of, unindented, words_of}
use Rattle.data_lines.specs.Heads.{named_list}
use Rattle.data_lines.specs.Numbers.{cells_of, number_of, numbers_of, with_number}
use Rattle.data_lines.specs.Sheets.{Given, nothing, listed, seeded, Sheet, empty_sheet, is_narrow, place_of}
use Rattle.data_lines.specs.Entries.{is_given, is_seed, list_said, row_said, seed_of_number, seed_said, sheet_said}
use Rattle.data_lines.specs.Entries.{value_of_number, value_said, with_line, with_lines, with_list, with_row, with_text}
use Rattle.data_lines.specs.Entries.{with_value, with_words, written_at}
use Rattle.data_lines.specs.Naming.{AreInOrder, AreLines, Breaks, Holds, HoldsRow, HoldsValue, IsBlank, IsFirstBroken}
use Rattle.data_lines.specs.Naming.{IsInOrder, IsRepeated, IsUnnamed, IsValue, KeepsForm, KeepsLesser, Lists, Names}
use Rattle.data_lines.specs.Naming.{are_narrow, at, line_of, line_told, numerals, takes}
use Rattle.data_lines.proofs.NamingLemmas.{array_within, blank_lists, cons_not_nil, numerals_all}
use Rattle.data_lines.proofs.NamingLemmas.{numerals_behind, parameter_within, same_line, some_not_none, true_not_false}
use Rattle.data_lines.proofs.NamingLemmas.{width_all, width_behind}
use Rattle.data_lines.proofs.NumberLemmas.{fitting_are}
use Rattle.data_lines.proofs.OrderLemmas.{all_in_order, line_in_order, none_again}

-- a line is met behind others, which the sheet holds, among all lines
record Spot : Type 0 where
  program : Program
  sheet : Sheet
  k : ℕ
  line : Text
  old : ℕ → Text
  new : ℕ → Text
  all : ℕ → Text
  empty : old k ≡ []
  next : new k ≡ line
  others : (n : ℕ) → (n ≡ k → ⊥) → new n ≡ old n
  here : all k ≡ line
  front : (n : ℕ) (place : Place) (words : List Text) → Lists program place words (old n)
      → (n < k) × Lists program place words (all n)
  before : (n : ℕ) → n < k → all n ≡ old n
  holds : Holds program old sheet

abbrev ListsAt : Spot → Place → List Text → Type 0
ListsAt s place words = Lists s.program place words s.line

-- the line does not name it
abbrev IsOther : Spot → Place → Type 0
IsOther s place = (words : List Text) → ListsAt s place words → ⊥

-- what the line leaves
abbrev Leaves : Spot → Result Sheet DataRefusal → Type 0
Leaves s (Ok sheet) = Holds s.program s.new sheet
Leaves s (Err refusal) = IsFirstBroken s.program s.all refusal

-- a line among the new ones is this line or an old one
lists_before : (s : Spot) (n : ℕ) (place : Place) (words : List Text) → Lists s.program place words (s.old n)
    → Lists s.program place words (s.new n)
lists_before s n place words lists = elim (cases_eq n s.k) [
  | inl same ↦ absurd (blank_lists s.program place words (s.old n) (ap unindented (ap s.old same ∙ s.empty)) lists)
  | inr apart ↦ subst (Lists s.program place words) (sym (s.others n apart)) lists
]

lists_after : (s : Spot) (n : ℕ) (place : Place) (words : List Text) → Lists s.program place words (s.new n)
    → ((n ≡ s.k) × ListsAt s place words) ⊎ Lists s.program place words (s.old n)
lists_after s n place words lists = elim (cases_eq n s.k) [
  | inl same ↦ inl (same, subst (Lists s.program place words) (ap s.new same ∙ s.next) lists)
  | inr apart ↦ inr (subst (Lists s.program place words) (s.others n apart) lists)
]

lists_new : (s : Spot) (place : Place) (words : List Text) → ListsAt s place words
    → Lists s.program place words (s.new s.k)
lists_new s place words lists = subst (Lists s.program place words) (sym s.next) lists

lists_all : (s : Spot) (place : Place) (words : List Text) → ListsAt s place words
    → Lists s.program place words (s.all s.k)
lists_all s place words lists = subst (Lists s.program place words) (sym s.here) lists

-- what the line does not name stays as it is
unnamed_still : (s : Spot) (place : Place) → IsOther s place → IsUnnamed s.program place s.old
    → IsUnnamed s.program place s.new
unnamed_still s place other unnamed n words lists = elim (lists_after s n place words lists) [
  | inl here ↦ other words here.1
  | inr there ↦ unnamed n words there
]

value_still : (s : Spot) (i : ℕ) (o : Option ℕ) → IsOther s (Parameter i) → HoldsValue s.program i s.old o
    → HoldsValue s.program i s.new o
value_still s i None other held = unnamed_still s (Parameter i) other held
value_still s i (Some value) other held =
    (held.0, held.1, lists_before s held.0 (Parameter i) held.1 held.2, held.3)

row_still : (s : Spot) (j : ℕ) (given : Given) → IsOther s (Array j) → HoldsRow s.program j s.old given
    → HoldsRow s.program j s.new given
row_still s j nothing other held = unnamed_still s (Array j) other held
row_still s j (listed line cells) other held =
    (held.0, lists_before s line (Array j) held.0 held.1, held.2)
row_still s j (seeded seed) other held =
    (held.0, held.1, lists_before s held.0 (Array j) held.1 held.2, held.3)

-- the lines stand apart where the line names nothing that an old one names
once_more : (s : Spot) (place : Place) (m n : ℕ) → ((words : List Text) → ListsAt s place words
    → IsUnnamed s.program place s.old) → Names s.program place (s.new m) → Names s.program place (s.new n) → m ≡ n
once_more s place m n apart first second =
    elim (lists_after s m place first.0 first.1) [
      | inl one ↦ elim (lists_after s n place second.0 second.1) [
        | inl other ↦ one.0 ∙ sym other.0
        | inr old ↦ absurd (apart first.0 one.1 n second.0 old)
      ]
      | inr one ↦ elim (lists_after s n place second.0 second.1) [
        | inl other ↦ absurd (apart second.0 other.1 m first.0 one)
        | inr old ↦ s.holds.lines_are.once m n place (first.0, one) (second.0, old)
      ]
    ]

abbrev IsGood : Program → Text → Type 0
IsGood program line = IsBlank line ⊎ ((place : Place) × (place ≡ Nowhere → ⊥) × Names program place line)

good_line : (s : Spot) (n : ℕ) → IsGood s.program s.line → IsGood s.program (s.new n)
good_line s n good = elim (cases_eq n s.k) [
  | inl same ↦ subst (IsGood s.program) (sym (ap s.new same ∙ s.next)) good
  | inr apart ↦ subst (IsGood s.program) (sym (s.others n apart)) (s.holds.lines_are.each n)
]

lines_next : (s : Spot) → IsGood s.program s.line
    → ((place : Place) (words : List Text) → ListsAt s place words → IsUnnamed s.program place s.old)
    → AreLines s.program s.new
lines_next s good apart = record {
  each = λ n. good_line s n good;
  once = λ m n place. once_more s place m n (apart place);
}

-- a blank line
blank_leaves : (s : Spot) → IsBlank s.line → Leaves s (Ok s.sheet)
blank_leaves s blank =
    let none : (place : Place) → IsOther s place = λ place words. blank_lists s.program place words s.line blank in
    record {
      lines_are = lines_next s (inl blank) (λ place words lists. absurd (none place words lists));
      value_count = s.holds.value_count;
      row_count = s.holds.row_count;
      value = λ i. value_still s i (get_or s.sheet.values i None) (none (Parameter i)) (s.holds.value i);
      row = λ j. row_still s j (get_or s.sheet.rows j nothing) (none (Array j)) (s.holds.row j);
    }

-- a line that names what no old line names
named_lines : (s : Spot) (place : Place) (words : List Text) → (place ≡ Nowhere → ⊥) → ListsAt s place words
    → IsUnnamed s.program place s.old → AreLines s.program s.new
named_lines s place words known lists unnamed = lines_next s (inr (place, known, (words, lists)))
    (λ p others other. subst (λ q. IsUnnamed s.program q s.old)
    (same_line s.program place p words others s.line lists other).0 unnamed)

other_place : (s : Spot) (p q : Place) (words : List Text) → ListsAt s p words → (p ≡ q → ⊥) → IsOther s q
other_place s p q words lists apart others other = apart (same_line s.program p q words others s.line lists other).0

value_next : (s : Spot) (i m value : ℕ) (words : List Text) → ListsAt s (Parameter i) words → IsValue value words
    → HoldsValue s.program m s.new (get_or (set s.sheet.values i (Some value)) m None)
value_next s i m value words lists is = elim (cases_eq m i) [
  | inl same ↦ let within = parameter_within s.program i words s.line lists in
      let count = s.holds.value_count in
      let there : i < length s.sheet.values = omega (arith, within, count) in
      subst (HoldsValue s.program m s.new)
      (sym (ap (λ n. get_or (set s.sheet.values i (Some value)) n None) same
      ∙ get_or-set_same s.sheet.values i (Some value) None there)) (
        s.k,
        words,
        subst (λ n. Lists s.program (Parameter n) words (s.new s.k)) (sym same)
            (lists_new s (Parameter i) words lists),
        is,
      )
  | inr apart ↦ subst (HoldsValue s.program m s.new)
      (sym (get_or-set_other s.sheet.values i m (Some value) None apart))
      (value_still s m (get_or s.sheet.values m None)
      (other_place s (Parameter i) (Parameter m) words lists (λ same. let e : i ≡ m = cc in apart (sym e)))
      (s.holds.value m))
]

value_holds : (s : Spot) (i value : ℕ) (words : List Text) → ListsAt s (Parameter i) words
    → IsUnnamed s.program (Parameter i) s.old → IsValue value words
    → Leaves s (with_value s.sheet i (Ok value))
value_holds s i value words lists unnamed is = record {
  lines_are = named_lines s (Parameter i) words (λ same. cc) lists unnamed;
  value_count = length-set s.sheet.values i (Some value) ∙ s.holds.value_count;
  row_count = s.holds.row_count;
  value = λ m. value_next s i m value words lists is;
  row = λ j. row_still s j (get_or s.sheet.rows j nothing)
      (other_place s (Parameter i) (Array j) words lists (λ same. cc)) (s.holds.row j);
}

row_next : (s : Spot) (j m : ℕ) (given : Given) (words : List Text) → ListsAt s (Array j) words
    → ((l : ℕ) → l ≡ j → HoldsRow s.program l s.new given)
    → HoldsRow s.program m s.new (get_or (set s.sheet.rows j given) m nothing)
row_next s j m given words lists is = elim (cases_eq m j) [
  | inl same ↦ let within = array_within s.program j words s.line lists in
      let count = s.holds.row_count in
      let there : j < length s.sheet.rows = omega (arith, within, count) in
      subst (HoldsRow s.program m s.new)
      (sym (ap (λ n. get_or (set s.sheet.rows j given) n nothing) same
      ∙ get_or-set_same s.sheet.rows j given nothing there)) (is m same)
  | inr apart ↦ subst (HoldsRow s.program m s.new)
      (sym (get_or-set_other s.sheet.rows j m given nothing apart))
      (row_still s m (get_or s.sheet.rows m nothing)
      (other_place s (Array j) (Array m) words lists (λ same. let e : j ≡ m = cc in apart (sym e)))
      (s.holds.row m))
]

row_holds : (s : Spot) (j : ℕ) (given : Given) (words : List Text) → ListsAt s (Array j) words
    → IsUnnamed s.program (Array j) s.old → HoldsRow s.program j s.new given
    → Leaves s (with_row s.sheet j (Ok given))
row_holds s j given words lists unnamed is = record {
  lines_are = named_lines s (Array j) words (λ same. cc) lists unnamed;
  value_count = s.holds.value_count;
  row_count = length-set s.sheet.rows j given ∙ s.holds.row_count;
  value = λ i. value_still s i (get_or s.sheet.values i None)
      (other_place s (Array j) (Parameter i) words lists (λ same. cc)) (s.holds.value i);
  row = λ m. row_next s j m given words lists
      (λ l same. subst (λ n. HoldsRow s.program n s.new given) (sym same) is);
}

-- the lines before this one break no rule
line_before : (s : Spot) (n : ℕ) → n < s.k → IsInOrder s.program (s.all n)
line_before s n within = subst (IsInOrder s.program) (sym (s.before n within))
    (line_in_order s.program s.old s.sheet n s.holds)

apart_before : (s : Spot) (n : ℕ) → n < s.k → IsRepeated s.program s.all n → ⊥
apart_before s n within is = none_again s.program s.old n s.holds.lines_are (record {
  earlier = is.earlier;
  place = is.place;
  known = is.known;
  before = is.before;
  first = subst (Names s.program is.place) (s.before is.earlier (omega (arith, within, is.before))) is.first;
  second = subst (Names s.program is.place) (s.before n within) is.second;
})

-- so the first rule that it breaks is told
told_here : (s : Spot) (refusal : DataRefusal) → line_told refusal ≡ s.k → Breaks s.program s.all refusal
    → KeepsLesser s.program s.all refusal → Leaves s (Err refusal)
told_here s refusal here broken lesser = record {
  broken = broken;
  lesser = lesser;
  before = record {
    each = λ n within. line_before s n (omega (arith, within, here));
    apart = λ n within. apart_before s n (omega (arith, within, here));
  };
}

-- what no old line names is not named again
not_again : (s : Spot) (place : Place) (words : List Text) → ListsAt s place words
    → IsUnnamed s.program place s.old → IsRepeated s.program s.all s.k → ⊥
not_again s place words lists unnamed is =
    let same = same_line s.program is.place place is.second.0 words (s.all s.k) is.second.1
    (lists_all s place words lists) in
    unnamed is.earlier is.first.0 (subst (λ p. Lists s.program p is.first.0 (s.old is.earlier)) same.0
    (subst (Lists s.program is.place is.first.0) (s.before is.earlier is.before) is.first.1))

-- a line with other words than its place takes
formless : (s : Spot) (place : Place) (words : List Text) → ListsAt s place words → takes place words ≡ false
    → KeepsLesser s.program s.all (Line s.k) → Leaves s (Err (Line s.k))
formless s place words lists none lesser = told_here s (Line s.k) refl (record {
  marked = λ blank. blank_lists s.program place words (s.all s.k) blank (lists_all s place words lists);
  formless = λ other others there.
      let same = same_line s.program place other words others (s.all s.k) (lists_all s place words lists) there in
      sym (ap₂ takes same.0 same.1) ∙ none;
}) lesser

unfit : (s : Spot) (place : Place) (words : List Text) → ListsAt s place words → IsUnnamed s.program place s.old
    → takes place words ≡ false → Leaves s (Err (Line s.k))
unfit s place words lists unnamed none =
    formless s place words lists none (λ again. absurd (not_again s place words lists unnamed again))

wordless : (s : Spot) (place : Place) → ListsAt s place [] → takes place [] ≡ false → Leaves s (Err (Line s.k))
wordless s place lists none = formless s place [] lists none (λ again. record {
  marked = λ blank. blank_lists s.program place [] (s.all s.k) blank (lists_all s place [] lists);
  wordless = λ other others there.
      sym (same_line s.program place other [] others (s.all s.k) (lists_all s place [] lists) there).1;
})

-- a line that names what an old line names
repeated : (s : Spot) (place : Place) (word : Text) (words : List Text) → (place ≡ Nowhere → ⊥)
    → ListsAt s place (word ∷ words) → (n : ℕ) (others : List Text) → Lists s.program place others (s.old n)
    → Leaves s (Err (Repeated s.k))
repeated s place word words known lists n others there = told_here s (Repeated s.k) refl (record {
  earlier = n;
  place = place;
  known = known;
  before = (s.front n place others there).0;
  first = (others, (s.front n place others there).1);
  second = (word ∷ words, lists_all s place (word ∷ words) lists);
}) (λ none. cons_not_nil word words (none.wordless place (word ∷ words) (lists_all s place (word ∷ words) lists)))

-- a line whose name is known and new, with as many words as its place takes
keeps_form : (s : Spot) (place : Place) (words : List Text) → (place ≡ Nowhere → ⊥) → ListsAt s place words
    → IsUnnamed s.program place s.old → takes place words ≡ true → KeepsForm s.program s.all s.k
keeps_form s place words known lists unnamed taken = record {
  formed = λ none. true_not_false (sym taken ∙ none.formless place words (lists_all s place words lists));
  known = λ other. known (same_line s.program place Nowhere words other.0 (s.all s.k) (lists_all s place words lists)
      other.1).0;
  new = not_again s place words lists unnamed;
}

-- a line with a word that is no number
no_number_told : (s : Spot) (place : Place) (words : List Text) → (place ≡ Nowhere → ⊥) → ListsAt s place words
    → IsUnnamed s.program place s.old → takes place words ≡ true
    → cells_of (are_narrow s.program place words) (numerals words) ≡ None → Leaves s (Err (Number s.k))
no_number_told s place words known lists unnamed taken none = told_here s (Number s.k) refl
    (place, words, lists_all s place words lists, none) (keeps_form s place words known lists unnamed taken)

one_number : (word : Text) → number_of word ≡ None → numbers_of (word ∷ []) ≡ None
one_number word none = ap (λ o. with_number o (Some [])) none

-- a line that names a parameter
value_by_size : (s : Spot) (i value : ℕ) (word : Text) (small : Bool) → ListsAt s (Parameter i) (word ∷ [])
    → IsUnnamed s.program (Parameter i) s.old → is_seed word ≡ false → number_of word ≡ Some value
    → leb value most_parameter ≡ small
    → Leaves s (with_value s.sheet i (if small then Ok value else Err (ParameterRange s.k)))
value_by_size s i value word true lists unnamed plain number is = value_holds s i value (word ∷ []) lists unnamed
    (record { word = word; one = refl; number = number; small = omega (arith, leb-true value most_parameter is) })
value_by_size s i value word false lists unnamed plain number is =
    let here = lists_all s (Parameter i) (word ∷ []) lists in
    let numeral : numbers_of (numerals (word ∷ [])) ≡ Some (value ∷ []) =
    ap numbers_of (numerals_all word [] plain) ∙ ap (λ o. with_number o (Some [])) number in
    told_here s (ParameterRange s.k) refl (record {
      parameter = i;
      word = word;
      value = value;
      lists = here;
      number = number;
      above = leb-false value most_parameter is;
    }) (
      keeps_form s (Parameter i) (word ∷ []) (λ same. cc) lists unnamed (ap not plain),
      λ other. let same = same_line s.program (Parameter i) other.0 (word ∷ []) other.1 (s.all s.k) here other.2 in
          some_not_none (value ∷ []) (sym numeral
          ∙ (ap₂ (λ p ws. cells_of (are_narrow s.program p ws) (numerals ws)) same.0 same.1 ∙ other.3)),
    )

value_by_number : (s : Spot) (i : ℕ) (word : Text) (o : Option ℕ) → ListsAt s (Parameter i) (word ∷ [])
    → IsUnnamed s.program (Parameter i) s.old → is_seed word ≡ false → number_of word ≡ o
    → Leaves s (with_value s.sheet i (value_of_number s.k o))
value_by_number s i word (Some value) lists unnamed plain is =
    value_by_size s i value word (leb value most_parameter) lists unnamed plain is refl
value_by_number s i word None lists unnamed plain is =
    no_number_told s (Parameter i) (word ∷ []) (λ same. cc) lists unnamed (ap not plain)
    (ap numbers_of (numerals_all word [] plain) ∙ one_number word is)

value_by_word : (s : Spot) (i : ℕ) (word : Text) (seed : Bool) → ListsAt s (Parameter i) (word ∷ [])
    → IsUnnamed s.program (Parameter i) s.old → is_seed word ≡ seed
    → Leaves s (with_value s.sheet i (if seed then Err (Line s.k) else value_of_number s.k (number_of word)))
value_by_word s i word true lists unnamed is = unfit s (Parameter i) (word ∷ []) lists unnamed (ap not is)
value_by_word s i word false lists unnamed is = value_by_number s i word (number_of word) lists unnamed is refl

value_leaves : (s : Spot) (i : ℕ) (word : Text) (words : List Text) → ListsAt s (Parameter i) (word ∷ words)
    → IsUnnamed s.program (Parameter i) s.old → Leaves s (with_value s.sheet i (value_said s.k (word ∷ words)))
value_leaves s i word [] lists unnamed = value_by_word s i word (is_seed word) lists unnamed refl
value_leaves s i word (other ∷ words) lists unnamed =
    unfit s (Parameter i) (word ∷ other ∷ words) lists unnamed refl

parameter_leaves : (s : Spot) (i : ℕ) (word : Text) (words : List Text) (o : Option ℕ)
    → ListsAt s (Parameter i) (word ∷ words) → HoldsValue s.program i s.old o
    → Leaves s (if is_some o then Err (Repeated s.k) else with_value s.sheet i (value_said s.k (word ∷ words)))
parameter_leaves s i word words (Some value) lists held =
    repeated s (Parameter i) word words (λ same. cc) lists held.0 held.1 held.2
parameter_leaves s i word words None lists held = value_leaves s i word words lists held

-- a line that names an array
seed_by_number : (s : Spot) (j : ℕ) (first word : Text) (o : Option ℕ) → ListsAt s (Array j) (first ∷ word ∷ [])
    → IsUnnamed s.program (Array j) s.old → is_seed first ≡ true → number_of word ≡ o
    → Leaves s (with_row s.sheet j (seed_of_number s.k o))
seed_by_number s j first word (Some seed) lists unnamed keyword is =
    row_holds s j (seeded seed) (first ∷ word ∷ []) lists unnamed (
      s.k,
      first ∷ word ∷ [],
      lists_new s (Array j) (first ∷ word ∷ []) lists,
      record { first = first; word = word; two = refl; keyword = keyword; number = is },
    )
seed_by_number s j first word None lists unnamed keyword is =
    no_number_told s (Array j) (first ∷ word ∷ []) (λ same. cc) lists unnamed refl
    (ap₂ cells_of (width_behind s.program j first (word ∷ []) keyword) (numerals_behind first (word ∷ []) keyword)
    ∙ one_number word is)

seed_leaves : (s : Spot) (j : ℕ) (first : Text) (words : List Text) → ListsAt s (Array j) (first ∷ words)
    → IsUnnamed s.program (Array j) s.old → is_seed first ≡ true
    → Leaves s (with_row s.sheet j (seed_said s.k words))
seed_leaves s j first [] lists unnamed keyword =
    unfit s (Array j) (first ∷ []) lists unnamed (ap not keyword)
seed_leaves s j first (word ∷ []) lists unnamed keyword =
    seed_by_number s j first word (number_of word) lists unnamed keyword refl
seed_leaves s j first (word ∷ other ∷ words) lists unnamed keyword =
    unfit s (Array j) (first ∷ word ∷ other ∷ words) lists unnamed (ap not keyword)

plain_taken : (j : ℕ) (first : Text) (words : List Text) → is_seed first ≡ false
    → takes (Array j) (first ∷ words) ≡ true
plain_taken j first [] plain = ap not plain
plain_taken j first (word ∷ []) plain = refl
plain_taken j first (word ∷ other ∷ words) plain = ap not plain

list_leaves : (s : Spot) (j : ℕ) (first : Text) (words : List Text) (o : Option (List ℕ))
    → ListsAt s (Array j) (first ∷ words) → IsUnnamed s.program (Array j) s.old → is_seed first ≡ false
    → cells_of (is_narrow s.program j) (first ∷ words) ≡ o → Leaves s (with_row s.sheet j (list_said s.k o))
list_leaves s j first words (Some cells) lists unnamed plain is =
    let are = fitting_are (is_narrow s.program j) (numbers_of (first ∷ words)) cells is in
    row_holds s j (listed s.k cells) (first ∷ words) lists unnamed (
      first ∷ words,
      lists_new s (Array j) (first ∷ words) lists,
      record { numbers = are.0; some = omega arith; width = are.1 },
    )
list_leaves s j first words None lists unnamed plain is =
    no_number_told s (Array j) (first ∷ words) (λ same. cc) lists unnamed (plain_taken j first words plain)
    (ap₂ cells_of (width_all s.program j first words plain) (numerals_all first words plain) ∙ is)

row_by_word : (s : Spot) (j : ℕ) (first : Text) (words : List Text) (seed : Bool)
    → ListsAt s (Array j) (first ∷ words) → IsUnnamed s.program (Array j) s.old → is_seed first ≡ seed
    → Leaves s (with_row s.sheet j
    (if seed then seed_said s.k words else list_said s.k (cells_of (is_narrow s.program j) (first ∷ words))))
row_by_word s j first words true lists unnamed is = seed_leaves s j first words lists unnamed is
row_by_word s j first words false lists unnamed is =
    list_leaves s j first words (cells_of (is_narrow s.program j) (first ∷ words)) lists unnamed is refl

array_leaves : (s : Spot) (j : ℕ) (first : Text) (words : List Text) (given : Given)
    → ListsAt s (Array j) (first ∷ words) → HoldsRow s.program j s.old given
    → Leaves s (if is_given given then Err (Repeated s.k)
    else with_row s.sheet j (row_said (is_narrow s.program j) s.k (first ∷ words)))
array_leaves s j first words nothing lists held = row_by_word s j first words (is_seed first) lists held refl
array_leaves s j first words (listed line cells) lists held =
    repeated s (Array j) first words (λ same. cc) lists line held.0 held.1
array_leaves s j first words (seeded seed) lists held =
    repeated s (Array j) first words (λ same. cc) lists held.0 held.1 held.2

-- a line by its name and its words
written_leaves : (s : Spot) (place : Place) (word : Text) (words : List Text) → ListsAt s place (word ∷ words)
    → Leaves s (written_at s.program s.sheet s.k place (word ∷ words))
written_leaves s Nowhere word words lists =
    let here = lists_all s Nowhere (word ∷ words) lists in
    told_here s (UnknownName s.k) refl (word ∷ words, here)
    (λ none. true_not_false (none.formless Nowhere (word ∷ words) here))
written_leaves s (Parameter i) word words lists =
    parameter_leaves s i word words (get_or s.sheet.values i None) lists (s.holds.value i)
written_leaves s (Array j) word words lists =
    array_leaves s j word words (get_or s.sheet.rows j nothing) lists (s.holds.row j)

words_leave : (s : Spot) (name : Text) (words : List Text) → ListsAt s (place_of s.program name) words
    → Leaves s (with_words s.program s.sheet s.k name words)
words_leave s name [] lists = wordless s (place_of s.program name) lists refl
words_leave s name (word ∷ words) lists = written_leaves s (place_of s.program name) word words lists

no_head : (program : Program) (line : Text) (place : Place) (words : List Text) {P : Type 0}
    → named_list (unindented line) ≡ None → Lists program place words line → P
no_head program line place words none lists =
    absurd (some_not_none (lists.name, lists.list) (sym lists.head ∙ none))

list_leaves_of : (s : Spot) (o : Option (Text × Text)) → (IsBlank s.line → ⊥)
    → named_list (unindented s.line) ≡ o → Leaves s (with_list s.program s.sheet s.k o)
list_leaves_of s None marked is =
    let here : named_list (unindented (s.all s.k)) ≡ None = ap (λ line. named_list (unindented line)) s.here ∙ is in
    let full : IsBlank (s.all s.k) → ⊥ = subst (λ line. IsBlank line → ⊥) (sym s.here) marked in
    told_here s (Line s.k) refl
    (record { marked = full; formless = λ place words. no_head s.program (s.all s.k) place words here })
    (λ again. record { marked = full; wordless = λ place words. no_head s.program (s.all s.k) place words here })
list_leaves_of s (Some (name, list)) marked is = words_leave s name (words_of list)
    (record { name = name; list = list; head = is; place_is = refl; words_are = refl })

text_leaves : (s : Spot) (text : Text) → unindented s.line ≡ text
    → Leaves s (with_text s.program s.sheet s.k text)
text_leaves s [] is = blank_leaves s is
text_leaves s (b ∷ text) is = list_leaves_of s (named_list (b ∷ text))
    (λ blank. cons_not_nil b text (sym is ∙ blank)) (ap named_list is)

-- a list behind another, entry by entry
one_more : (front : List Text) (line : Text) (n : ℕ) → (n ≡ length front → ⊥) → at (front ++ line ∷ []) n ≡ at front n
one_more front line n apart = elim (cases_lt n (length front)) [
  | inl before ↦ get_or_append_left front (line ∷ []) [] n before
  | inr behind ↦ get_or_past (front ++ line ∷ []) n [] (omega (arith, behind, apart, length-append front (line ∷ [])))
      ∙ sym (get_or_past front n [] behind)
]

in_front : (program : Program) (front back : List Text) (n : ℕ) (place : Place) (words : List Text)
    → Lists program place words (at front n) → (n < length front) × Lists program place words (at (front ++ back) n)
in_front program front back n place words lists = elim (cases_lt n (length front)) [
  | inl before ↦ (before, subst (Lists program place words) (sym (get_or_append_left front back [] n before)) lists)
  | inr behind ↦ absurd (blank_lists program place words (at front n)
      (ap unindented (get_or_past front n [] behind)) lists)
]

abbrev spot_at : (program : Program) (sheet : Sheet) (front back : List Text) (line : Text)
    → Holds program (at front) sheet → Spot
spot_at program sheet front back line holds = record {
  program = program;
  sheet = sheet;
  k = length front;
  line = line;
  old = at front;
  new = at (front ++ line ∷ []);
  all = at (front ++ line ∷ back);
  empty = get_or_past front (length front) [] (omega arith);
  next = get_or-append_seam front line [] [];
  others = one_more front line;
  here = get_or-append_seam front line back [];
  front = in_front program front (line ∷ back);
  before = get_or_append_left front (line ∷ back) [];
  holds = holds;
}

-- lines, one after another, behind others
abbrev Stands : Program → List Text → List Text → Result Sheet DataRefusal → Type 0
Stands program front back (Ok sheet) = Holds program (at front) sheet
Stands program front back (Err refusal) = IsFirstBroken program (at (front ++ back)) refusal

stands_next : (program : Program) (sheet : Sheet) (front back : List Text) (line : Text)
    (holds : Holds program (at front) sheet) (result : Result Sheet DataRefusal)
    → Leaves (spot_at program sheet front back line holds) result → Stands program (front ++ line ∷ []) back result
stands_next program sheet front back line holds (Ok after) leaves = leaves
stands_next program sheet front back line holds (Err refusal) leaves =
    subst (λ lines. IsFirstBroken program (at lines) refusal) (sym (append_assoc front (line ∷ []) back)) leaves

lines_stand : (program : Program) (k : ℕ) (result : Result Sheet DataRefusal) (front back : List Text)
    → k ≡ length front → Stands program front back result
    → Stands program (front ++ back) [] (with_lines program k result back)
lines_stand program k (Err refusal) front back count stands =
    subst (λ lines. IsFirstBroken program (at lines) refusal) (sym (append-nil (front ++ back))) stands
lines_stand program k (Ok sheet) front [] count stands =
    subst (λ lines. Holds program (at lines) sheet) (sym (append-nil front)) stands
lines_stand program k (Ok sheet) front (line ∷ back) count stands =
    let s = spot_at program sheet front back line stands in
    let leaves : Leaves s (with_line program sheet k line) =
    subst (λ n. Leaves s (with_line program sheet n line)) (sym count)
    (text_leaves s (unindented line) refl) in
    let after = stands_next program sheet front back line stands (with_line program sheet k line) leaves in
    subst (λ lines. Stands program lines [] (with_lines program (k + 1) (with_line program sheet k line) back))
    (append_assoc front (line ∷ []) back)
    (lines_stand program (k + 1) (with_line program sheet k line) (front ++ line ∷ []) back
    (omega (arith, count, length-append front (line ∷ []))) after)

-- of no lines a sheet on which nothing is said holds what they say
at_none : (n : ℕ) → at ([] ∷ []) n ≡ []
at_none zero = refl
at_none (suc n) = refl

all_same : {X : Type 0} → (n i : ℕ) (x : X) → get_or (replicate n x) i x ≡ x
all_same zero i x = refl
all_same (suc n) zero x = refl
all_same (suc n) (suc i) x = all_same n i x

none_named : (program : Program) (place : Place) → IsUnnamed program place (at ([] ∷ []))
none_named program place n words lists =
    blank_lists program place words (at ([] ∷ []) n) (ap unindented (at_none n)) lists

nothing_held : (program : Program) → Holds program (at ([] ∷ [])) (empty_sheet program)
nothing_held program = record {
  lines_are = record {
    each = λ n. inl (ap unindented (at_none n));
    once = λ m n place first second. absurd (none_named program place m first.0 first.1);
  };
  value_count = length-replicate (length program.parameters) None;
  row_count = length-replicate (length program.arrays) nothing;
  value = λ i. subst (HoldsValue program i (at ([] ∷ []))) (sym (all_same (length program.parameters) i None))
      (none_named program (Parameter i));
  row = λ j. subst (HoldsRow program j (at ([] ∷ []))) (sym (all_same (length program.arrays) j nothing))
      (none_named program (Array j));
}

-- what all lines leave
text_stands : (program : Program) (text : Text)
    → Stands program (([] ∷ []) ++ lines_of text) [] (sheet_said program text)
text_stands program text = lines_stand program 1 (Ok (empty_sheet program)) ([] ∷ []) (lines_of text) refl
    (nothing_held program)

pub sheet_holds : (program : Program) (text : Text) (sheet : Sheet) → sheet_said program text ≡ Ok sheet
    → Holds program (line_of text) sheet
sheet_holds program text sheet is = subst (Stands program (([] ∷ []) ++ lines_of text) []) is (text_stands program text)

pub lines_in_order : (program : Program) (text : Text) (sheet : Sheet) → sheet_said program text ≡ Ok sheet
    → AreInOrder program (line_of text)
lines_in_order program text sheet is =
    all_in_order program (line_of text) sheet (sheet_holds program text sheet is)

pub line_breaks : (program : Program) (text : Text) (refusal : DataRefusal) → sheet_said program text ≡ Err refusal
    → IsFirstBroken program (line_of text) refusal
line_breaks program text refusal is =
    subst (λ lines. IsFirstBroken program (at lines) refusal) (append-nil (([] ∷ []) ++ lines_of text))
    (subst (Stands program (([] ∷ []) ++ lines_of text) []) is (text_stands program text))
