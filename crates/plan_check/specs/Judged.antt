-- What is wrong with a certificate, and at which line: the first line with a fault, at one line the least kind. The state
-- goes from line to line: items are laid, then goals are proved one by one.
use Rattle.std.specs.Prelude.{◌≡◌, ℕ, suc, ◌^◌, ◌==◌, ◌&&◌, nat_lt, nat_le, not, Bool, true, false, pos}
use Rattle.std.specs.Prelude.{if◌then◌else◌, List, [], ◌∷◌, ◌++◌, map, length, Option, Some, Result, Ok, Err}
use Rattle.std.specs.List.{list_all}
use Rattle.whole_numbers.specs.Affine.{Affine, form_of}
use Rattle.scop_lexer.specs.Bytes.{Text}
use Rattle.scop_syntax.specs.Tree.{Program}
use Rattle.iteration_domains.specs.Model.{KernelModel, model_of}
use Rattle.schedule_lines.specs.Lines.{Part, Row, Scalar}
use Rattle.plan_check.specs.Plans.{rows, numbers, Plan}
use Rattle.plan_check.specs.Goals.{goals_in, loops_in}
use Rattle.plan_check.specs.Derivations.{Step}
use Rattle.plan_check.specs.Progress.{Progress, goal_begun, line_added, none_left, opening}
use Rattle.plan_check.specs.Text.{TermLine, StepLine, Said, row, scalar, goal, step, said_in, lines_of}
use Rattle.plan_check.specs.declared.lines.Term.{Term}
use Rattle.plan_check.specs.declared.lines.Fault.{Fault}
use Rattle.plan_check.specs.declared.lines.Fault.TheVariants as fault
use Rattle.plan_check.specs.declared.kinds.FaultKind.{FaultKind}
use Rattle.plan_check.specs.declared.kinds.FaultKind.TheVariants as kind

-- a kind of fault, and the line that has it, counted from 1
pub record Rejected : Type 0 where
  pub kind : FaultKind
  pub line : ℕ

abbrev pub rejected_at : FaultKind → ℕ → Rejected
rejected_at k line = record { kind = k; line = line }

-- 128 bits hold the number, and each of these
abbrev pub is_held : ℕ → Bool
is_held n = nat_lt n (2 ^ 127)

abbrev pub are_held : List ℕ → Bool
are_held ns = list_all is_held ns

abbrev pub part_held : Part → Bool
part_held p = are_held p.coefficients && is_held p.shift

abbrev pub row_held : Row → Bool
row_held r = are_held r.u && (is_held r.w && list_all part_held r.parts)

-- The items so far: how many bands and rows, whether the last one is a row, and their plan.
pub record Laid : Type 0 where
  pub bands : ℕ
  pub rows : ℕ
  pub in_band : Bool
  pub plan : Plan

abbrev pub nothing_laid : Laid
nothing_laid =
    record {
      bands = 0;
      rows = 0;
      in_band = false;
      plan = record { leading = []; band = []; behind = [] };
    }

-- the form of a part, and those of a row
abbrev pub form_of_part : Part → Affine
form_of_part p = form_of (map (λ n. pos n) p.coefficients) (pos p.shift)

abbrev pub forms_of : Row → List Affine
forms_of r = map form_of_part r.parts

-- a row behind a plan: of the first band, or behind it
abbrev pub with_row : Plan → ℕ → Bool → List Affine → Plan
with_row p band parallel forms =
    if band == 1
    then record p { band = p.band ++ record { forms = forms; parallel = parallel } ∷ [] }
    else record p { behind = p.behind ++ rows forms ∷ [] }

-- a scalar behind a plan: before the first row, or behind it
abbrev pub with_scalar : ℕ → Plan → List ℕ → Plan
with_scalar bands p ns =
    if bands == 0 then record p { leading = p.leading ++ ns ∷ [] }
    else record p { behind = p.behind ++ numbers ns ∷ [] }

-- the band is the open one, or the next new one
abbrev pub is_next_band : Laid → ℕ → Bool
is_next_band l b = if l.in_band && b == l.bands then true else b == suc l.bands

-- the items with a row more, and with a scalar
abbrev pub row_laid : Laid → ℕ → Bool → List Affine → Laid
row_laid l band parallel forms =
    record { bands = band; rows = suc l.rows; in_band = true; plan = with_row l.plan band parallel forms }

abbrev pub scalar_laid : Laid → List ℕ → Laid
scalar_laid l ns =
    record { bands = l.bands; rows = l.rows; in_band = false; plan = with_scalar l.bands l.plan ns }

-- an item behind k others, or what is wrong with its line
abbrev pub row_judged : ℕ → Laid → Row → Result Laid Rejected
row_judged k l r =
    if not (r.number == suc k) then Err (rejected_at kind.Form (suc k))
    else if not (is_next_band l r.band) then Err (rejected_at kind.Form (suc k))
    else if not (row_held r) then Err (rejected_at kind.Wide (suc k))
    else Ok (row_laid l r.band r.parallel (forms_of r))

abbrev pub scalar_judged : ℕ → Laid → Scalar → Result Laid Rejected
scalar_judged k l s =
    if not (s.number == suc k) then Err (rejected_at kind.Form (suc k))
    else if not (are_held s.values) then Err (rejected_at kind.Wide (suc k))
    else Ok (scalar_laid l s.values)

-- no statement has fewer rows than loops
abbrev pub has_rows : List ℕ → Laid → Bool
has_rows loops l = list_all (λ n. nat_le n l.rows) loops

-- what is wrong with a step
abbrev pub kind_of : Fault → FaultKind
kind_of fault.Row = kind.Row
kind_of fault.Division = kind.Division
kind_of fault.Goal = kind.Goal
kind_of fault.Wide = kind.Wide

-- items are laid, or goals are proved
pub data Stage : Type 0 where
  laying : Laid → Stage
  proving : Progress → Stage

-- goals go on, or a line is at fault
abbrev pub went_on : ℕ → Result Progress Fault → Result Progress Rejected
went_on line (Ok p) = Ok p
went_on line (Err f) = Err (rejected_at (kind_of f) line)

-- `goal G` behind k lines: the last line of the goal before it is a contradiction, and G is the next number
abbrev pub goal_judged : ℕ → Progress → ℕ → Result Progress Rejected
goal_judged k p g =
    if not p.ended then Err (rejected_at kind.Goal k)
    else if not (g == suc p.begun) then Err (rejected_at kind.Goal (suc k))
    else went_on (suc k) (goal_begun p)

abbrev pub factor_held : TermLine → Bool
factor_held t = is_held t.factor

abbrev pub step_held : StepLine → Bool
step_held s = is_held s.divisor && list_all factor_held s.terms

-- the term names one of n rows
abbrev pub names_row : ℕ → TermLine → Bool
names_row n t = if t.row == 0 then false else nat_le t.row n

-- the number of a row, or 0, which names none, where it leaves 64 bits
abbrev pub row_named : ℕ → ℕ
row_named k = if nat_lt k (2 ^ 64) then k else 0

abbrev pub term_named : TermLine → Term
term_named t = record { row = row_named t.row; factor = pos t.factor }

abbrev pub step_of_line : StepLine → Step
step_of_line s = record { divisor = pos s.divisor; terms = map term_named s.terms }

-- what is wrong with a step that 128 bits do not hold, over n rows
abbrev pub unheld : ℕ → StepLine → FaultKind
unheld n s = if list_all (names_row n) s.terms then kind.Wide else kind.Row

-- a step of the open goal behind k lines
abbrev pub step_judged : ℕ → Progress → StepLine → Result Progress Rejected
step_judged k p s =
    if not (step_held s) then Err (rejected_at (unheld (length p.rows) s) (suc k))
    else went_on (suc k) (line_added p (step_of_line s))

-- the goals of a plan behind k lines, if it has its rows
abbrev pub goals_opened : KernelModel → ℕ → Laid → Result Progress Rejected
goals_opened model k l =
    if not (has_rows (loops_in model) l) then Err (rejected_at kind.Form (suc k))
    else Ok (opening (goals_in model l.plan))

-- what comes of goals, if nothing is wrong with them
abbrev pub then_goals : {A : Type 0} → Result Progress Rejected → (Progress → Result A Rejected) → Result A Rejected
then_goals (Ok p) next = next p
then_goals (Err r) next = Err r

-- items go on, and goals do
abbrev pub laid_stage : Result Laid Rejected → Result Stage Rejected
laid_stage (Ok l) = Ok (laying l)
laid_stage (Err r) = Err r

abbrev pub proving_stage : Result Progress Rejected → Result Stage Rejected
proving_stage r = then_goals r (λ p. Ok (proving p))

-- what a line behind k others makes of a stage, by what it says
abbrev pub line_judged : KernelModel → ℕ → Stage → Option Said → Result Stage Rejected
line_judged model k (laying l) (Some (row r)) = laid_stage (row_judged k l r)
line_judged model k (laying l) (Some (scalar s)) = laid_stage (scalar_judged k l s)
line_judged model k (laying l) (Some (goal g)) =
    proving_stage (then_goals (goals_opened model k l) (λ p. goal_judged k p g))
line_judged model k (proving p) (Some (goal g)) = proving_stage (goal_judged k p g)
line_judged model k (proving p) (Some (step s)) = proving_stage (step_judged k p s)
line_judged model k _ _ = Err (rejected_at kind.Form (suc k))

-- the end behind k lines: the last goal is proved, and none is left
abbrev pub goals_ended : ℕ → Progress → Result Bool Rejected
goals_ended k p =
    if not p.ended then Err (rejected_at kind.Goal k)
    else if not (none_left p.left) then Err (rejected_at kind.Goal (suc k))
    else Ok true

abbrev pub end_judged : KernelModel → ℕ → Stage → Result Bool Rejected
end_judged model k (laying l) = then_goals (goals_opened model k l) (goals_ended k)
end_judged model k (proving p) = goals_ended k p

-- lines behind k others
abbrev pub then_lines : Result Stage Rejected → (Stage → Result Bool Rejected) → Result Bool Rejected
then_lines (Ok s) next = next s
then_lines (Err r) next = Err r

abbrev pub lines_judged : KernelModel → ℕ → Stage → List Text → Result Bool Rejected
lines_judged model k s [] = end_judged model k s
lines_judged model k s (l ∷ ls) =
    then_lines (line_judged model k s (said_in (loops_in model) l)) (λ t. lines_judged model (suc k) t ls)

-- whether a text is a certificate of a plan of the program, or the first fault
abbrev pub judged : Program → Text → Result Bool Rejected
judged program text = lines_judged (model_of program) 0 (laying nothing_laid) (lines_of text)

-- what comes of an item's line
abbrev pub plan_behind : Laid → Option Said → (Laid → Plan) → Plan
plan_behind l (Some (row r)) next = next (row_laid l r.band r.parallel (forms_of r))
plan_behind l (Some (scalar s)) next = next (scalar_laid l s.values)
plan_behind l _ next = l.plan

-- the plan of the items that lines say from these on, up to the first line that says none
abbrev pub plan_of_lines : List ℕ → Laid → List Text → Plan
plan_of_lines loops l [] = l.plan
plan_of_lines loops l (t ∷ ts) = plan_behind l (said_in loops t) (λ m. plan_of_lines loops m ts)

-- the text's items are this plan
abbrev pub SaysPlan : Program → Text → Plan → Type 0
SaysPlan program text plan = plan ≡ plan_of_lines (loops_in (model_of program)) nothing_laid (lines_of text)
