-- The lines that a sheet holds break no rule.
use Rattle.scop_syntax.proofs.Common.{◌≡◌, subst, refl, inl, inr, ℕ, List, get_or, arith, Option, Some, None, Program}
use Rattle.scop_lexer.specs.Bytes.{Text}
use Rattle.data_lines.specs.declared.places.Place.{Place}
use Rattle.data_lines.specs.declared.places.Place.TheVariants.{Nowhere, Parameter, Array}
use Rattle.data_lines.specs.Sheets.{Given, nothing, listed, seeded, Sheet, is_narrow}
use Rattle.data_lines.specs.Naming.{AreInOrder, AreLines, AreNumbers, Holds, HoldsRow, HoldsValue, IsInOrder}
use Rattle.data_lines.specs.Naming.{IsRepeated, IsSeed, IsValue, Lists, SayInOrder}
use Rattle.data_lines.proofs.NamingLemmas.{same_words}

value_in_order : (program : Program) (lines : ℕ → Text) (i n : ℕ) (words : List Text) (o : Option ℕ)
    → AreLines program lines → HoldsValue program i lines o → Lists program (Parameter i) words (lines n)
    → SayInOrder program (Parameter i) words
value_in_order program lines i n words None are held lists = absurd (held n words lists)
value_in_order program lines i n words (Some value) are held lists =
    let same = same_words program lines (Parameter i) held.0 n held.1 words are held.2 lists in
    (value, subst (IsValue value) same held.3)

row_in_order : (program : Program) (lines : ℕ → Text) (j n : ℕ) (words : List Text) (given : Given)
    → AreLines program lines → HoldsRow program j lines given → Lists program (Array j) words (lines n)
    → SayInOrder program (Array j) words
row_in_order program lines j n words nothing are held lists = absurd (held n words lists)
row_in_order program lines j n words (listed line cells) are held lists =
    let same = same_words program lines (Array j) line n held.0 words are held.1 lists in
    inl (cells, subst (AreNumbers (is_narrow program j) cells) same held.2)
row_in_order program lines j n words (seeded seed) are held lists =
    let same = same_words program lines (Array j) held.0 n held.1 words are held.2 lists in
    inr (seed, subst (IsSeed seed) same held.3)

words_in_order : (program : Program) (lines : ℕ → Text) (sheet : Sheet) (place : Place) (n : ℕ) (words : List Text)
    → Holds program lines sheet → (place ≡ Nowhere → ⊥) → Lists program place words (lines n)
    → SayInOrder program place words
words_in_order program lines sheet Nowhere n words holds known lists = known refl
words_in_order program lines sheet (Parameter i) n words holds known lists =
    value_in_order program lines i n words (get_or sheet.values i None) holds.lines_are (holds.value i) lists
words_in_order program lines sheet (Array j) n words holds known lists =
    row_in_order program lines j n words (get_or sheet.rows j nothing) holds.lines_are (holds.row j) lists

pub line_in_order : (program : Program) (lines : ℕ → Text) (sheet : Sheet) (n : ℕ) → Holds program lines sheet
    → IsInOrder program (lines n)
line_in_order program lines sheet n holds = elim (holds.lines_are.each n) [
  | inl blank ↦ inl blank
  | inr named ↦ inr (
    named.0,
    named.2.0,
    named.2.1,
    words_in_order program lines sheet named.0 n named.2.0 holds named.1 named.2.1,
  )
]

pub none_again : (program : Program) (lines : ℕ → Text) (n : ℕ) → AreLines program lines
    → IsRepeated program lines n → ⊥
none_again program lines n are is =
    let same = are.once is.earlier n is.place is.first is.second in omega (arith, same, is.before)

pub all_in_order : (program : Program) (lines : ℕ → Text) (sheet : Sheet) → Holds program lines sheet
    → AreInOrder program lines
all_in_order program lines sheet holds end = record {
  each = λ n within. line_in_order program lines sheet n holds;
  apart = λ n within. none_again program lines n holds.lines_are;
}
