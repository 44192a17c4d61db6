-- What a line says, or which rule it breaks first: its form, its name, a second line for the name, as many words as
-- its place takes, and numbers, which are as wide as the cells of its place.
use Rattle.std.specs.Prelude.{◌≡◌, ℕ, ◌+◌, Bool, true, false, nat_le, if◌then◌else◌, List, [], ◌∷◌, codes, Option}
use Rattle.std.specs.Prelude.{Some, None, slice_index_or, slice_set, is_some, Result, Ok, Err, ⊤}
use Rattle.std.specs.Str.{bytes_eq}
use Rattle.scop_syntax.specs.Limits.{most_parameter}
use Rattle.scop_syntax.specs.Tree.{Program}
use Rattle.scop_lexer.specs.Bytes.{Text}
use Rattle.data_lines.specs.declared.refusal.DataRefusal.{DataRefusal}
use Rattle.data_lines.specs.declared.refusal.DataRefusal.TheVariants.{Line, UnknownName, Repeated, Number}
use Rattle.data_lines.specs.declared.refusal.DataRefusal.TheVariants.{ParameterRange}
use Rattle.data_lines.specs.declared.refusal.DataStop.{DataStop}
use Rattle.data_lines.specs.declared.refusal.DataStop.TheVariants.{Refused, NoMemory}
use Rattle.data_lines.specs.declared.places.Place.{Place}
use Rattle.data_lines.specs.declared.places.Place.TheVariants.{Nowhere, Parameter, Array}
use Rattle.data_lines.specs.Words.{lines_of, words_of, unindented}
use Rattle.data_lines.specs.Numbers.{number_of, cells_of}
use Rattle.data_lines.specs.Heads.{named_list}
use Rattle.data_lines.specs.Sheets.{Given, nothing, listed, seeded, Sheet, empty_sheet, is_narrow, place_of}

-- `seed`
abbrev pub is_seed : Text → Bool
is_seed word = bytes_eq word (codes "seed")

-- the value that a number gives a parameter
abbrev pub value_of_number : ℕ → Option ℕ → Result ℕ DataRefusal
value_of_number line (Some value) = if nat_le value most_parameter then Ok value else Err (ParameterRange line)
value_of_number line None = Err (Number line)

-- the value that words give a parameter: one word, which is a number within the limit
abbrev pub value_said : ℕ → List Text → Result ℕ DataRefusal
value_said line [] = Err (Line line)
value_said line (word ∷ []) = if is_seed word then Err (Line line) else value_of_number line (number_of word)
value_said line (word ∷ other ∷ words) = Err (Line line)

-- the seed that a number gives
abbrev pub seed_of_number : ℕ → Option ℕ → Result Given DataRefusal
seed_of_number line (Some seed) = Ok (seeded seed)
seed_of_number line None = Err (Number line)

-- the seed that the words behind `seed` say: one word, which is a number
abbrev pub seed_said : ℕ → List Text → Result Given DataRefusal
seed_said line [] = Err (Line line)
seed_said line (word ∷ []) = seed_of_number line (number_of word)
seed_said line (word ∷ other ∷ words) = Err (Line line)

-- the cells that words list
abbrev pub list_said : ℕ → Option (List ℕ) → Result Given DataRefusal
list_said line (Some cells) = Ok (listed line cells)
list_said line None = Err (Number line)

-- what words say of an array, narrow or not: `seed` and a number, or a list of cells
abbrev pub row_said : Bool → ℕ → List Text → Result Given DataRefusal
row_said narrow line [] = Err (Line line)
row_said narrow line (word ∷ words) =
    if is_seed word then seed_said line words else list_said line (cells_of narrow (word ∷ words))

-- the sheet with a value in a parameter's place
abbrev pub with_value : Sheet → ℕ → Result ℕ DataRefusal → Result Sheet DataRefusal
with_value sheet i (Ok value) = Ok (record sheet { values = slice_set sheet.values i (Some value) })
with_value sheet i (Err refusal) = Err refusal

-- the sheet with what is said of an array in its place
abbrev pub with_row : Sheet → ℕ → Result Given DataRefusal → Result Sheet DataRefusal
with_row sheet j (Ok given) = Ok (record sheet { rows = slice_set sheet.rows j given })
with_row sheet j (Err refusal) = Err refusal

-- something is said already
abbrev pub is_given : Given → Bool
is_given nothing = false
is_given (listed line cells) = true
is_given (seeded seed) = true

-- the sheet with what words say of a parameter
abbrev pub value_at : Sheet → ℕ → ℕ → List Text → Result Sheet DataRefusal
value_at sheet line i words = if is_some (slice_index_or sheet.values i None) then Err (Repeated line)
    else with_value sheet i (value_said line words)

-- the sheet with what words say of an array, narrow or not
abbrev pub row_at : Bool → Sheet → ℕ → ℕ → List Text → Result Sheet DataRefusal
row_at narrow sheet line j words = if is_given (slice_index_or sheet.rows j nothing) then Err (Repeated line)
    else with_row sheet j (row_said narrow line words)

-- the sheet with what words say in a name's place
abbrev pub written_at : Program → Sheet → ℕ → Place → List Text → Result Sheet DataRefusal
written_at program sheet line Nowhere words = Err (UnknownName line)
written_at program sheet line (Parameter i) words = value_at sheet line i words
written_at program sheet line (Array j) words = row_at (is_narrow program j) sheet line j words

-- a line by its name and its words: there is a word
abbrev pub with_words : Program → Sheet → ℕ → Text → List Text → Result Sheet DataRefusal
with_words program sheet line name [] = Err (Line line)
with_words program sheet line name (word ∷ words) =
    written_at program sheet line (place_of program name) (word ∷ words)

-- a line by its name and list, if it has the form
abbrev pub with_list : Program → Sheet → ℕ → Option (Text × Text) → Result Sheet DataRefusal
with_list program sheet line None = Err (Line line)
with_list program sheet line (Some (name, list)) = with_words program sheet line name (words_of list)

-- a line without the blanks in front of it: one that is empty says nothing
abbrev pub with_text : Program → Sheet → ℕ → Text → Result Sheet DataRefusal
with_text program sheet line [] = Ok sheet
with_text program sheet line (b ∷ text) = with_list program sheet line (named_list (b ∷ text))

-- a line: the blanks in front of it say nothing
abbrev pub with_line : Program → Sheet → ℕ → Text → Result Sheet DataRefusal
with_line program sheet line text = with_text program sheet line (unindented text)

-- lines, the first of which has this number, one after another up to the first refusal
abbrev pub with_lines : Program → ℕ → Result Sheet DataRefusal → List Text → Result Sheet DataRefusal
with_lines program line (Err refusal) texts = Err refusal
with_lines program line (Ok sheet) [] = Ok sheet
with_lines program line (Ok sheet) (text ∷ texts) =
    with_lines program (line + 1) (with_line program sheet line text) texts

-- what the lines of a text say of a program
abbrev pub sheet_said : Program → Text → Result Sheet DataRefusal
sheet_said program text = with_lines program 1 (Ok (empty_sheet program)) (lines_of text)

-- a call that stopped did so for the refusal of this answer; of memory nothing is said
abbrev pub StopsAs : {A : Type 0} → Result A DataRefusal → DataStop → Type 0
StopsAs answer (Refused refusal) = answer ≡ Err refusal
StopsAs answer NoMemory = ⊤
