use Rattle.whole_numbers.proofs.Common.{rules, arith, ◌≡◌, ◌∙◌, ℕ, Bool, true, false, length, ap, sym, Option, Some}
use Rattle.whole_numbers.proofs.Common.{Result, Ok, Err, if◌then◌else◌}
use Rattle.wide_math.specs.declared.Wide.{Wide}
use Rattle.wide_math.specs.Checked.{◌>>=◌}
use Rattle.tableau_rows.specs.Moves.{line_row, rows_in, better_run}
use Rattle.checked_tableau.proofs.RowScans.{better-compared}
use Rattle.checked_tableau.proofs.scans.better.Goals.{After-precedes}
use Rattle.checked_tableau.proofs.scans.better.Goals as goal

pub returns-then-not-is_positive_at-clause-leads : goal.returns-then-not-is_positive_at-clause-leads
returns-then-not-is_positive_at-clause-leads c s h = c.requires.best s (cc h)

pub precedes-requires-clause-best : goal.precedes-requires-clause-best
precedes-requires-clause-best c =
    let h : c.args.best ≡ Some c.in-Some.champion = search rules in
    let l = c.requires.best c.in-Some.champion h in
    omega (arith, l.0)

-- the best so far is compared
compared : (c : After-precedes)
    → better_run (rows_in (length c.args.pivot.now) c.args.count c.args.unknowns.now) (line_row c.args.pivot.now)
    c.args.column c.args.best
    ≡ (c.precedes.result >>= λ first. Ok (Some (if first then c.args.column else c.in-Some.champion)))
compared c =
    let rows = rows_in (length c.args.pivot.now) c.args.count c.args.unknowns.now in
    ap (λ (best : Option ℕ). better_run rows (line_row c.args.pivot.now) c.args.column best) c.in-Some.is
    ∙ better-compared rows c.args.pivot.now c.args.column c.in-Some.champion c.precedes.result
    (sym c.if-not-is_positive_at.ensures.value) c.precedes.ensures

-- an answer of the comparison
given : (c : After-precedes) (r : Result Bool Wide) → c.precedes.result ≡ r
    → (r >>= λ first. Ok (Some (if first then c.args.column else c.in-Some.champion)))
    ≡ better_run (rows_in (length c.args.pivot.now) c.args.count c.args.unknowns.now) (line_row c.args.pivot.now)
    c.args.column c.args.best
given c r is =
    sym (compared c ∙ ap (λ (r : Result Bool Wide). r >>= λ first. Ok
    (Some (if first then c.args.column else c.in-Some.champion))) is)

pub returns-in-Err-clause-run : goal.returns-in-Err-clause-run
returns-in-Err-clause-run c =
    given (goal.at.returns-in-Err-clause-run c).After-precedes (Err c.in-Err.wide) c.in-Err.is

pub returns-in-Ok-true-clause-run : goal.returns-in-Ok-true-clause-run
returns-in-Ok-true-clause-run c =
    given (goal.at.returns-in-Ok-true-clause-run c).After-precedes (Ok true)
    (c.in-Ok-true.is ∙ ap (λ (b : Bool). Ok b) c.in-Ok-true.field-0-test)

pub returns-in-Ok-false-clause-run : goal.returns-in-Ok-false-clause-run
returns-in-Ok-false-clause-run c =
    given (goal.at.returns-in-Ok-false-clause-run c).After-precedes (Ok false)
    (c.in-Ok-false.is ∙ ap (λ (b : Bool). Ok b) c.in-Ok-false.field-0-test)
