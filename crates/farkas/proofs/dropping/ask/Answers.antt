use Rattle.whole_numbers.proofs.Common.{◌∙◌, sym, subst, get_or}
use Rattle.farkas.specs.declared.stuck.Stuck.TheVariants as stuck
use Rattle.farkas.specs.Run.{implied_run, others}
use Rattle.farkas.specs.Gives.{Halts}
use Rattle.farkas.proofs.RowQuestions.{implied-unformed, implied-unanswered, implied-gives, asked-inside, settled-is}
use Rattle.farkas.proofs.dropping.ask.Goals as goal

pub returns-in-Err : goal.returns-in-Err
returns-in-Err c d =
    let s = c.args.system in
    let rest = others s.rows c.args.at in
    let row = get_or s.rows c.args.at d in
    subst (λ (e : stuck.the_data). Halts c.args.budget e (implied_run c.args.budget s.dimensions s.equalities rest row))
    (sym c.by_form.ensures)
    (implied-unformed c.args.budget s.dimensions s.equalities rest row c.in-Err.stop (c.in-Err.ensures.question d))

pub returns-in-Err-is_empty : goal.returns-in-Err-is_empty
returns-in-Err-is_empty c d =
    let s = c.args.system in
    let rest = others s.rows c.args.at in
    let row = get_or s.rows c.args.at d in
    let told = c.in-Ok.ensures.question d in
    subst (λ (e : stuck.the_data). Halts c.args.budget e (implied_run c.args.budget s.dimensions s.equalities rest row))
    (sym c.by_solver.ensures)
    (implied-unanswered c.args.budget s.dimensions s.equalities rest row told.1 c.in-Ok.posed.0
    c.in-Err-is_empty.stop told.2 told.3 c.in-Err-is_empty.ensures.run)

pub settle-requires-clause-place : goal.settle-requires-clause-place
settle-requires-clause-place c =
    let told = c.in-Ok.ensures.question c.in-Ok.posed.1 in
    asked-inside c.args.system c.in-Ok.posed.0 c.args.at told.1 c.requires.place told.3

pub returns-in-Ok-settle : goal.returns-in-Ok-settle
returns-in-Ok-settle c d =
    let s = c.args.system in
    let rest = others s.rows c.args.at in
    let p = c.in-Ok.posed in
    let lost = c.in-Ok-is_empty.lost in
    let own = c.in-Ok.ensures.question p.1 in
    let told = c.in-Ok.ensures.question d in (
      lost,
      implied-gives c.args.budget s.dimensions s.equalities rest (get_or s.rows c.args.at d) told.1 p.0 lost told.2
          told.3 c.in-Ok-is_empty.ensures.run,
      c.in-Ok-settle.ensures ∙ settled-is s p.0 c.args.at own.1 p.1 lost c.requires.place own.0 own.3,
    )
