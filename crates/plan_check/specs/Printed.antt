-- How the lines of a certificate are printed, and which lines are, of statements with so many loops each. Numbers beyond
-- 128 bits are read as 2^128 - 1.
use Rattle.std.specs.Prelude.{◌≡◌, ◌≢◌, ℕ, List, [], ◌∷◌, ◌++◌, map, length, codes, ⊤}
use Rattle.scop_lexer.specs.Bytes.{Text}
use Rattle.form_text.specs.Numerals.{numeral}
use Rattle.form_text.specs.View.{saturated}
use Rattle.schedule_lines.specs.Lines.{row_text, scalar_text}
use Rattle.schedule_lines.specs.Saturated.{saturated_row, saturated_scalar}
use Rattle.plan_check.specs.Text.{IsStep, Said, StepLine, TermLine, goal, row, scalar, step, step_line, term_line}

-- `goal G`
abbrev pub goal_text : ℕ → Text
goal_text g = codes "goal " ++ numeral g

-- ` K:M` of each term
abbrev pub terms_text : List TermLine → Text
terms_text [] = []
terms_text (t ∷ ts) = (codes " " ++ (numeral t.row ++ (codes ":" ++ numeral t.factor))) ++ terms_text ts

-- `line D K:M K:M ..`
abbrev pub step_text : StepLine → Text
step_text s = codes "line " ++ (numeral s.divisor ++ terms_text s.terms)

-- what a line says, printed
abbrev pub said_text : Said → Text
said_text (row r) = row_text r
said_text (scalar s) = scalar_text s
said_text (goal g) = goal_text g
said_text (step s) = step_text s

-- a row has a part for each statement with a coefficient for each loop round it, a scalar a number for each statement,
-- a step a divisor and factors of at least 1 and one term at least
abbrev pub IsSaid : List ℕ → Said → Type 0
IsSaid loops (row r) = map (λ p. length p.coefficients) r.parts ≡ loops
IsSaid loops (scalar s) = length s.values ≡ length loops
IsSaid loops (goal g) = ⊤
IsSaid loops (step s) = IsStep s × (s.terms ≢ [])

-- each number at most 2^128 - 1
abbrev pub saturated_term : TermLine → TermLine
saturated_term t = term_line (saturated t.row) (saturated t.factor)

abbrev pub saturated_said : Said → Said
saturated_said (row r) = row (saturated_row r)
saturated_said (scalar s) = scalar (saturated_scalar s)
saturated_said (goal g) = goal (saturated g)
saturated_said (step s) = step (step_line (saturated s.divisor) (map saturated_term s.terms))
