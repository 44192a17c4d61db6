-- What lines say, each by itself: what a line names and lists. Here no sheet is filled, and lines stand in order only
-- where it is said which rule they break first. Lines are numbered from 1.
use Rattle.std.specs.Prelude.{◌≡◌, ◌≢◌, ◌⊎◌, ℕ, ◌<◌, ◌≤◌, Bool, true, false, not, if◌then◌else◌, List, []}
use Rattle.std.specs.Prelude.{◌∷◌, length, slice_index_or, Option, Some, None, ⊤}
use Rattle.scop_lexer.specs.Bytes.{Text}
use Rattle.scop_syntax.specs.Limits.{most_parameter}
use Rattle.scop_syntax.specs.Tree.{Program}
use Rattle.data_lines.specs.declared.places.Place.{Place}
use Rattle.data_lines.specs.declared.places.Place.TheVariants.{Nowhere, Parameter, Array}
use Rattle.data_lines.specs.declared.refusal.DataRefusal.{DataRefusal}
use Rattle.data_lines.specs.declared.refusal.DataRefusal.TheVariants.{Line, UnknownName, Repeated, Number}
use Rattle.data_lines.specs.declared.refusal.DataRefusal.TheVariants.{ParameterRange}
use Rattle.data_lines.specs.Words.{lines_of, words_of, unindented}
use Rattle.data_lines.specs.Numbers.{HaveWidth, cells_of, number_of, numbers_of}
use Rattle.data_lines.specs.Heads.{named_list}
use Rattle.data_lines.specs.Sheets.{Given, nothing, listed, seeded, Sheet, is_narrow, place_of}
use Rattle.data_lines.specs.Entries.{is_seed}

-- the line with this number: an empty one where there is none
abbrev pub at : List Text → ℕ → Text
at lines n = slice_index_or lines n []

-- the lines of a text by their numbers
abbrev pub line_of : Text → ℕ → Text
line_of text = at ([] ∷ lines_of text)

-- nothing but blanks
abbrev pub IsBlank : Text → Type 0
IsBlank line = unindented line ≡ []

-- a line names what has this place in the program, and lists these words
pub record Lists (program : Program) (place : Place) (words : List Text) (line : Text) : Type 0 where
  pub name : Text
  pub list : Text
  pub head : named_list (unindented line) ≡ Some (name, list)
  pub place_is : place_of program name ≡ place
  pub words_are : words_of list ≡ words

-- a line names what has this place in the program
abbrev pub Names : Program → Place → Text → Type 0
Names program place line = (words : List Text) × Lists program place words line

-- no line names it
abbrev pub IsUnnamed : Program → Place → (ℕ → Text) → Type 0
IsUnnamed program place lines = (n : ℕ) (words : List Text) → Lists program place words (lines n) → ⊥

-- no line names this parameter
abbrev pub IsMissing : Program → ℕ → (ℕ → Text) → Type 0
IsMissing program i lines = IsUnnamed program (Parameter i) lines

-- no line names this array
abbrev pub IsLeftOut : Program → ℕ → (ℕ → Text) → Type 0
IsLeftOut program j lines = IsUnnamed program (Array j) lines

-- every line that is not blank names a parameter or an array, and no two lines name the same one
pub record AreLines (program : Program) (lines : ℕ → Text) : Type 0 where
  pub each : (n : ℕ) → IsBlank (lines n) ⊎ ((place : Place) × (place ≢ Nowhere) × Names program place (lines n))
  pub once : (m n : ℕ) (place : Place) → Names program place (lines m) → Names program place (lines n) → m ≡ n

-- one word, a number that a parameter may be
pub record IsValue (value : ℕ) (words : List Text) : Type 0 where
  pub word : Text
  pub one : words ≡ word ∷ []
  pub number : number_of word ≡ Some value
  pub small : value ≤ most_parameter

-- numbers, at least one, which the cells of an array hold, be it narrow or not
pub record AreNumbers (narrow : Bool) (cells : List ℕ) (words : List Text) : Type 0 where
  pub numbers : numbers_of words ≡ Some cells
  pub some : 0 < length words
  pub width : HaveWidth narrow cells

-- `seed` and one word, a number
pub record IsSeed (seed : ℕ) (words : List Text) : Type 0 where
  pub first : Text
  pub word : Text
  pub two : words ≡ first ∷ word ∷ []
  pub keyword : is_seed first ≡ true
  pub number : number_of word ≡ Some seed

-- a line names an array and lists these cells
abbrev pub ListsCells : Program → ℕ → List ℕ → Text → Type 0
ListsCells program j cells line =
    (words : List Text) × Lists program (Array j) words line × AreNumbers (is_narrow program j) cells words

-- some line names what has this place, and lists such words
abbrev pub SomeLine : Program → Place → (List Text → Type 0) → (ℕ → Text) → Type 0
SomeLine program place Are lines = (n : ℕ) × (words : List Text) × Lists program place words (lines n) × Are words

-- a line says the value of a parameter
abbrev pub SaysValue : Program → ℕ → ℕ → (ℕ → Text) → Type 0
SaysValue program i value = SomeLine program (Parameter i) (IsValue value)

-- a line says the cells of an array
abbrev pub SaysCells : Program → ℕ → List ℕ → (ℕ → Text) → Type 0
SaysCells program j cells = SomeLine program (Array j) (AreNumbers (is_narrow program j) cells)

-- a line says a seed for the cells of an array
abbrev pub SaysSeed : Program → ℕ → ℕ → (ℕ → Text) → Type 0
SaysSeed program j seed = SomeLine program (Array j) (IsSeed seed)

-- what a sheet holds of a parameter is what the lines say
abbrev pub HoldsValue : Program → ℕ → (ℕ → Text) → Option ℕ → Type 0
HoldsValue program i lines None = IsMissing program i lines
HoldsValue program i lines (Some value) = SaysValue program i value lines

-- what a sheet holds of an array is what the lines say
abbrev pub HoldsRow : Program → ℕ → (ℕ → Text) → Given → Type 0
HoldsRow program j lines nothing = IsLeftOut program j lines
HoldsRow program j lines (listed line cells) = ListsCells program j cells (lines line)
HoldsRow program j lines (seeded seed) = SaysSeed program j seed lines

-- a sheet holds exactly what lines say
pub record Holds (program : Program) (lines : ℕ → Text) (sheet : Sheet) : Type 0 where
  pub lines_are : AreLines program lines
  pub value_count : length sheet.values ≡ length program.parameters
  pub row_count : length sheet.rows ≡ length program.arrays
  pub value : (i : ℕ) → HoldsValue program i lines (slice_index_or sheet.values i None)
  pub row : (j : ℕ) → HoldsRow program j lines (slice_index_or sheet.rows j nothing)

-- words that a place takes: one that is not `seed` for a parameter; for an array `seed` and one more, or others
abbrev pub takes : Place → List Text → Bool
takes place [] = false
takes Nowhere (word ∷ words) = true
takes (Parameter i) (word ∷ []) = not (is_seed word)
takes (Parameter i) (word ∷ other ∷ words) = false
takes (Array j) (word ∷ []) = not (is_seed word)
takes (Array j) (word ∷ other ∷ []) = true
takes (Array j) (word ∷ other ∷ third ∷ words) = not (is_seed word)

-- a line is not blank, and no name with words that its place takes
pub record IsFormless (program : Program) (line : Text) : Type 0 where
  pub marked : IsBlank line → ⊥
  pub formless : (place : Place) (words : List Text) → Lists program place words line → takes place words ≡ false

-- the words that are to be numbers: those behind `seed`, else all
abbrev pub numerals : List Text → List Text
numerals [] = []
numerals (word ∷ words) = if is_seed word then words else word ∷ words

-- whether they are to have 32 bits: as cells of a narrow array
abbrev pub are_narrow : Program → Place → List Text → Bool
are_narrow program (Array j) (word ∷ words) = if is_seed word then false else is_narrow program j
are_narrow program place words = false

-- a line lists a word that is no number where one is to stand, or none of 32 bits where one of these is
abbrev pub ListsNoNumber : Program → Text → Type 0
ListsNoNumber program line = (place : Place) × (words : List Text) × Lists program place words line
    × (cells_of (are_narrow program place words) (numerals words) ≡ None)

-- a line gives a parameter a number above the greatest
pub record IsAbove (program : Program) (line : Text) : Type 0 where
  pub parameter : ℕ
  pub word : Text
  pub value : ℕ
  pub lists : Lists program (Parameter parameter) (word ∷ []) line
  pub number : number_of word ≡ Some value
  pub above : most_parameter < value

-- a line names what an earlier line names
pub record IsRepeated (program : Program) (lines : ℕ → Text) (n : ℕ) : Type 0 where
  pub earlier : ℕ
  pub place : Place
  pub known : place ≢ Nowhere
  pub before : earlier < n
  pub first : Names program place (lines earlier)
  pub second : Names program place (lines n)

-- which rule a refusal of a line says that the lines break
abbrev pub Breaks : Program → (ℕ → Text) → DataRefusal → Type 0
Breaks program lines (Line n) = IsFormless program (lines n)
Breaks program lines (UnknownName n) = Names program Nowhere (lines n)
Breaks program lines (Repeated n) = IsRepeated program lines n
Breaks program lines (Number n) = ListsNoNumber program (lines n)
Breaks program lines (ParameterRange n) = IsAbove program (lines n)
Breaks program lines other = ⊥

-- words that say what their place asks for: a value of a parameter; cells of an array, or a seed
abbrev pub SayInOrder : Program → Place → List Text → Type 0
SayInOrder program Nowhere words = ⊥
SayInOrder program (Parameter i) words = (value : ℕ) × IsValue value words
SayInOrder program (Array j) words =
    ((cells : List ℕ) × AreNumbers (is_narrow program j) cells words) ⊎ ((seed : ℕ) × IsSeed seed words)

-- a line by itself breaks no rule: it is blank, or names a parameter or an array and says what that asks for
abbrev pub IsInOrder : Program → Text → Type 0
IsInOrder program line = IsBlank line
    ⊎ ((place : Place) × (words : List Text) × Lists program place words line × SayInOrder program place words)

-- the lines below this number break no rule: each is in order, and none names what an earlier one names
pub record AreInOrderBefore (program : Program) (lines : ℕ → Text) (end : ℕ) : Type 0 where
  pub each : (n : ℕ) → n < end → IsInOrder program (lines n)
  pub apart : (n : ℕ) → n < end → IsRepeated program lines n → ⊥

-- no line breaks a rule
abbrev pub AreInOrder : Program → (ℕ → Text) → Type 0
AreInOrder program lines = (end : ℕ) → AreInOrderBefore program lines end

-- a line is not blank, and no name with a word
pub record IsWordless (program : Program) (line : Text) : Type 0 where
  pub marked : IsBlank line → ⊥
  pub wordless : (place : Place) (words : List Text) → Lists program place words line → words ≡ []

-- a line keeps rules 1 to 3: it has the form that its place takes, and its name is known and that of no earlier line
pub record KeepsForm (program : Program) (lines : ℕ → Text) (n : ℕ) : Type 0 where
  pub formed : IsFormless program (lines n) → ⊥
  pub known : Names program Nowhere (lines n) → ⊥
  pub new : IsRepeated program lines n → ⊥

-- the line that a refusal tells breaks no lesser rule. Rule 1 has two parts: whether a line is a name with a word is
-- looked at before rules 2 and 3, which words its place takes behind them
abbrev pub KeepsLesser : Program → (ℕ → Text) → DataRefusal → Type 0
KeepsLesser program lines (Line n) = IsRepeated program lines n → IsWordless program (lines n)
KeepsLesser program lines (UnknownName n) = IsFormless program (lines n) → ⊥
KeepsLesser program lines (Repeated n) = IsWordless program (lines n) → ⊥
KeepsLesser program lines (Number n) = KeepsForm program lines n
KeepsLesser program lines (ParameterRange n) = KeepsForm program lines n × (ListsNoNumber program (lines n) → ⊥)
KeepsLesser program lines other = ⊤

-- the line that a refusal tells
abbrev pub line_told : DataRefusal → ℕ
line_told (Line n) = n
line_told (UnknownName n) = n
line_told (Repeated n) = n
line_told (Number n) = n
line_told (ParameterRange n) = n
line_told other = 0

-- what a refusal of a line says of the lines: they break this rule, the line breaks no lesser one, and those before it
-- none
pub record IsFirstBroken (program : Program) (lines : ℕ → Text) (refusal : DataRefusal) : Type 0 where
  pub broken : Breaks program lines refusal
  pub lesser : KeepsLesser program lines refusal
  pub before : AreInOrderBefore program lines (line_told refusal)

-- every line is in order: of each parameter they say a value, and of each array nothing, or cells, or a seed
pub record AreSound (program : Program) (lines : ℕ → Text) : Type 0 where
  pub lines_are : AreLines program lines
  pub value : (i : ℕ) → i < length program.parameters → (value : ℕ) × SaysValue program i value lines
  pub row : (j : ℕ) → j < length program.arrays → IsLeftOut program j lines
      ⊎ (((cells : List ℕ) × SaysCells program j cells lines) ⊎ ((seed : ℕ) × SaysSeed program j seed lines))
