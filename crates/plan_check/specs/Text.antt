-- A certificate's text: lines of items, then of goals, each with the lines of its derivation.
use Rattle.std.specs.Prelude.{ℕ, zero, suc, ◌==◌, ◌≤◌, All, Bool, if◌then◌else◌, List, [], ◌∷◌, length, codes, Option, Some, None}
use Rattle.std.specs.List.{slice_split}
use Rattle.std.specs.Option.{option_map}
use Rattle.scop_lexer.specs.Bytes.{Text}
use Rattle.form_text.specs.Reading.{strip, when}
use Rattle.schedule_lines.specs.Lines.{Row, Scalar}
use Rattle.schedule_lines.specs.Reading.{numeral_in, row_in, scalar_in, whole, with_first}

-- a line feed
abbrev pub is_line_feed : ℕ → Bool
is_line_feed b = b == 10

-- parts without a last one that is empty
abbrev pub without_end : List Text → List Text
without_end [] = []
without_end ([] ∷ []) = []
without_end ((b ∷ bs) ∷ []) = (b ∷ bs) ∷ []
without_end (l ∷ m ∷ ls) = l ∷ without_end (m ∷ ls)

-- the lines of a text; the last one may lack its line feed
abbrev pub lines_of : Text → List Text
lines_of text = without_end (slice_split is_line_feed text)

-- `K:M`: a row's number, and how often it is taken
pub record TermLine : Type 0 where
  pub row : ℕ
  pub factor : ℕ

abbrev pub term_line : ℕ → ℕ → TermLine
term_line k m = record { row = k; factor = m }

-- `line D K:M K:M ..`
pub record StepLine : Type 0 where
  pub divisor : ℕ
  pub terms : List TermLine

abbrev pub step_line : ℕ → List TermLine → StepLine
step_line d terms = record { divisor = d; terms = terms }

-- D and each M are at least 1
pub record IsStep (s : StepLine) : Type 0 where
  pub divisor : 1 ≤ s.divisor
  pub factors : All (λ t. 1 ≤ t.factor) s.terms

-- a number that is at least 1
abbrev pub positive_in : Text → Option (ℕ × Text)
positive_in text = when (numeral_in text) (λ n. if n.0 == 0 then None else Some n)

-- ` K:M`
abbrev pub term_in : Text → Option (TermLine × Text)
term_in text = when (strip (codes " ") text) (λ a. when (numeral_in a) (λ k. when (strip (codes ":") k.1)
    (λ c. when (positive_in c) (λ m. Some (term_line k.0 m.0, m.1)))))

-- terms up to the line's end, in so many steps at most
abbrev pub terms_in : ℕ → Text → Option (List TermLine × Text)
terms_in zero text = None
terms_in (suc k) [] = Some ([], [])
terms_in (suc k) (b ∷ bs) = when (term_in (b ∷ bs)) (λ t. with_first t.0 (terms_in k t.1))

-- one term at least
abbrev pub some_terms_in : Text → Option (List TermLine × Text)
some_terms_in [] = None
some_terms_in (b ∷ bs) = terms_in (length (b ∷ bs)) (b ∷ bs)

-- `line D K:M K:M ..`, D and each M at least 1
abbrev pub step_in : Text → Option StepLine
step_in text = when (strip (codes "line ") text) (λ a. when (positive_in a) (λ d. when (some_terms_in d.1)
    (λ ts. Some (step_line d.0 ts.0))))

-- `goal G`
abbrev pub goal_in : Text → Option ℕ
goal_in text = when (strip (codes "goal ") text) (λ a. when (numeral_in a) (λ g. whole g.0 g.1))

-- what a line says
pub data Said : Type 0 where
  row : Row → Said
  scalar : Scalar → Said
  goal : ℕ → Said
  step : StepLine → Said

-- the first, or else the second
abbrev pub or_else : {A : Type 0} → Option A → Option A → Option A
or_else (Some a) other = Some a
or_else None other = other

-- a goal's line or a step's
abbrev pub proof_in : Text → Option Said
proof_in line = or_else (option_map (λ g. goal g) (goal_in line)) (option_map (λ s. step s) (step_in line))

-- what a line says, if it says anything, of statements with so many loops each
abbrev pub said_in : List ℕ → Text → Option Said
said_in loops line =
    or_else (option_map (λ r. row r) (row_in loops line))
    (or_else (option_map (λ s. scalar s) (scalar_in (length loops) line)) (proof_in line))
