use Rattle.whole_numbers.proofs.Common.{rules, ◌≡◌, ℕ, ◌<◌, ◌-◌, ◌∙◌, ap, refl, subst, sym, arith, suc, Err, None}
use Rattle.whole_numbers.proofs.Common.{Option, Ok, Result}
use Rattle.wide_math.specs.declared.Wide.{Wide}
use Rattle.tableau_rows.specs.Moves.{row_at, cut_run}
use Rattle.tableau_rows.specs.Run.{run, cuts, next}
use Rattle.checked_tableau.specs.Table.{Table, Cuts, resumed}
use Rattle.checked_tableau.specs.declared.stop.TableauStop.TheVariants as moved
use Rattle.pip_solver.specs.declared.question.QuestionStop.{QuestionStop}
use Rattle.pip_solver.specs.steps.Promises.{Advances, stop_of}
use Rattle.pip_solver.proofs.QuestionRuns.{run_spent, run_cuts, run_cuts-wide}
use Rattle.pip_solver.proofs.question.pay_for_cut.Goals as goal

-- a cut that stops
stopped : (t new : Table) (left row : ℕ) (e : moved.the_data) → t.stopped ≡ None
    → next t.unknowns t.rows ≡ cuts row → 0 < left
    → Cuts {U = Unit {0}} t (cut_run t.unknowns None (row_at t.rows row)) new (Err e)
    → Advances {U = Unit {0}} t left new left (Err (stop_of e))
stopped t new left row (moved.Wide w) going is some told =
    let cut = cut_run t.unknowns None (row_at t.rows row) in (
      w,
      run_cuts-wide t.unknowns left row t.rows w is some (subst (λ (o : Option Wide). resumed o cut ≡ Err w) going
          told.0),
    )
stopped t new left row moved.NoMemory going is some told = tt

pub returns-then-left-eq0-clause-advances : goal.returns-then-left-eq0-clause-advances
returns-then-left-eq0-clause-advances c =
    let t = c.args.rows.now in
    let none : c.args.left.now ≡ 0 = search rules in
    (run_spent t.unknowns c.args.left.now t.rows (cuts c.args.row) c.requires.next refl none, none)

pub returns-in_err-cut-clause-advances : goal.returns-in_err-cut-clause-advances
returns-in_err-cut-clause-advances c =
    let t = c.args.rows.now in
    let left = c.args.left.now in
    let e = c.in_err-cut.field-0.0 in
    let is : c.from_residual.result ≡ Err (stop_of e) = search rules in
    subst (λ (r : Result (Unit {0}) QuestionStop). Advances t left c.cut.new.self left r) (sym is)
    (stopped t c.cut.new.self left c.args.row e c.requires.going c.requires.next (omega arith)
    c.in_err-cut.ensures.run)

pub returns-clause-advances : goal.returns-clause-advances
returns-clause-advances c =
    let t = c.args.rows.now in
    let left = c.args.left.now in
    let more : left ≡ suc (left - 1) = omega arith in
    let made = c.in_ok-cut.ensures.run in
    let cut = cut_run t.unknowns None (row_at t.rows c.args.row) in
    let formed = subst (λ (o : Option Wide). resumed o cut ≡ Ok made.0) c.requires.going made.1 in
    let step = run_cuts t.unknowns left (left - 1) c.args.row t.rows made.0 c.requires.next more formed in (
      more,
      ap (λ t. t.stopped) made.2,
      ap (λ t. t.unknowns) made.2,
      step ∙ ap (λ rows. run t.unknowns (left - 1) rows) (sym (ap (λ t. t.rows) made.2)),
    )
