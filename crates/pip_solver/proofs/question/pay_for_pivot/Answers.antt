use Rattle.whole_numbers.proofs.Common.{rules, ◌≡◌, ◌-◌, ap, refl, subst, arith, suc, Ok, Err, Option}
use Rattle.wide_math.specs.declared.Wide.{Wide}
use Rattle.tableau_rows.specs.Moves.{pivot_run}
use Rattle.checked_tableau.specs.Table.{resumed}
use Rattle.tableau_rows.specs.Run.{pivots}
use Rattle.pip_solver.proofs.QuestionRuns.{run_spent, run_pivots, run_pivots-wide}
use Rattle.pip_solver.proofs.question.pay_for_pivot.Goals as goal

pub returns-then-left-eq0-clause-advances : goal.returns-then-left-eq0-clause-advances
returns-then-left-eq0-clause-advances c =
    let t = c.args.rows.now in
    let none : c.args.left.now ≡ 0 = search rules in
    (run_spent t.unknowns c.args.left.now t.rows (pivots c.args.row) c.requires.next refl none, none)

pub returns-in-Err-clause-advances : goal.returns-in-Err-clause-advances
returns-in-Err-clause-advances c =
    let t = c.args.rows.now in
    let w = c.in-Err.field-0 in
    let failed = subst (λ (o : Option Wide). resumed o (pivot_run t.unknowns t.rows c.args.row) ≡ Err w)
    c.requires.going c.in-Err.ensures.0 in
    (w, run_pivots-wide t.unknowns c.args.left.now c.args.row t.rows w c.requires.next (omega arith) failed)

pub returns-in-Ok-clause-advances : goal.returns-in-Ok-clause-advances
returns-in-Ok-clause-advances c =
    let t = c.args.rows.now in
    let left = c.args.left.now in
    let more : left ≡ suc (left - 1) = omega arith in
    let made = c.in-Ok.ensures in
    let run = subst (λ (o : Option Wide). resumed o (pivot_run t.unknowns t.rows c.args.row)
    ≡ Ok c.pivot_on.new.self.rows) c.requires.going made.0 in (
      more,
      ap (λ t. t.stopped) made.1,
      ap (λ t. t.unknowns) made.1,
      run_pivots t.unknowns left (left - 1) c.args.row t.rows c.pivot_on.new.self.rows c.requires.next more run,
    )
