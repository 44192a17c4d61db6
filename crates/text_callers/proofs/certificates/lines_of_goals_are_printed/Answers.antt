-- What is read as a goal was printed as one.
use Rattle.scop_syntax.proofs.Common.{◌≡◌, ap, subst, ℕ, ⊤}
use Rattle.form_text.specs.View.{saturated}
use Rattle.scop_lexer.specs.Bytes.{Text}
use Rattle.plan_check.specs.Printed.{goal_text, said_text, saturated_said}
use Rattle.plan_check.specs.Text.{Said, row, scalar, goal as says_goal, step}
use Rattle.text_callers.proofs.certificates.lines_of_goals_are_printed.Goals as goal

abbrev number_of : Said → ℕ → ℕ
number_of (says_goal g) h = g
number_of (row r) h = h
number_of (scalar s) h = h
number_of (step s) h = h

abbrev IsGoal : Said → Type 0
IsGoal (says_goal g) = ⊤
IsGoal (row r) = ⊥
IsGoal (scalar s) = ⊥
IsGoal (step s) = ⊥

printed_goal : (line : Text) (g : ℕ) (s : Said) → line ≡ said_text s → says_goal g ≡ saturated_said s
    → (h : ℕ) × (line ≡ goal_text h) × (g ≡ saturated h)
printed_goal line g (says_goal h) printed same = (h, printed, ap (λ t. number_of t g) same)
printed_goal line g (row r) printed same = absurd (subst IsGoal same tt)
printed_goal line g (scalar s) printed same = absurd (subst IsGoal same tt)
printed_goal line g (step s) printed same = absurd (subst IsGoal same tt)

pub returns : goal.returns
returns c loops line g said =
    let from = c.lines_are_read_where_they_are_printed.ensures.read loops line (says_goal g) said in
    printed_goal line g from.0 from.2 from.3
