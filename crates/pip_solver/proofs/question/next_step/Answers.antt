use Rattle.whole_numbers.proofs.Common.{rules, ◌≡◌, ◌∙◌, sym, refl, true, false, take, None}
use Rattle.tableau_rows.specs.Moves.{row_at}
use Rattle.tableau_rows.specs.Run.{point, none, quotients, some_positive}
use Rattle.pip_solver.proofs.QuestionRuns.{next_pivots, next_empty, next_cuts, next_point}
use Rattle.pip_solver.proofs.question.next_step.Goals as goal

pub has_positive-requires : goal.has_positive-requires
has_positive-requires c = c.first_below.ensures.inside c.in-Some.row c.in-Some.is

pub returns-then-has_positive : goal.returns-then-has_positive
returns-then-has_positive c =
    let t = c.args.rows.now in
    let some : some_positive (row_at t.rows c.in-Some.row) 0 t.unknowns ≡ true = search rules in (
      next_pivots t.unknowns t.rows c.in-Some.row (sym c.first_below.ensures.first ∙ c.in-Some.is) some,
      c.first_below.ensures.inside c.in-Some.row c.in-Some.is,
    )

pub returns-else-has_positive : goal.returns-else-has_positive
returns-else-has_positive c =
    let t = c.args.rows.now in
    let some : some_positive (row_at t.rows c.in-Some.row) 0 t.unknowns ≡ false = search rules in
    (none, next_empty t.unknowns t.rows c.in-Some.row (sym c.first_below.ensures.first ∙ c.in-Some.is) some, refl)

pub returns-in-Some-first_fraction : goal.returns-in-Some-first_fraction
returns-in-Some-first_fraction c =
    let t = c.args.rows.now in
    let r = c.in-Some-first_fraction.row in
    let below : c.first_below.result ≡ None = search rules in (
      next_cuts t.unknowns t.rows r (sym c.first_below.ensures.first ∙ below)
          (sym c.first_fraction.ensures.first ∙ c.in-Some-first_fraction.is),
      c.first_fraction.ensures.inside r c.in-Some-first_fraction.is,
    )

pub returns-in-None-first_fraction : goal.returns-in-None-first_fraction
returns-in-None-first_fraction c =
    let t = c.args.rows.now in
    let below : c.first_below.result ≡ None = search rules in
    let whole : c.first_fraction.result ≡ None = search rules in (
      point (quotients t.unknowns (take t.unknowns t.rows)),
      next_point t.unknowns t.rows (sym c.first_below.ensures.first ∙ below)
          (sym c.first_fraction.ensures.first ∙ whole),
      refl,
    )
