use Rattle.scop_syntax.proofs.Common.{◌∙◌, ◌++◌, List, append-nil, map, subst, sym, ap}
use Rattle.iteration_domains.specs.Dependence.{Dependence}
use Rattle.schedule_rows.specs.Items.{band_rows, rows_in}
use Rattle.schedule_rows.specs.Next.{Uncuts}
use Rattle.schedule_rows.specs.Schedule.{block_of, marked_of}
use Rattle.schedule_rows.proofs.Measures.{rows_scalar}
use Rattle.schedule_rows.proofs.RunInvariants.{uncuts_from}
use Rattle.pluto_search.specs.steps.Steps.{state_of}
use Rattle.pluto_search.proofs.NextStates.{fresh}
use Rattle.pluto_search.proofs.next.cut.Goals as goal

pub invariant_of-result : goal.invariant_of-result
invariant_of-result c =
    let p = c.args.progress in
    let g = p.search.now in
    let s = state_of p in
    let numbers = c.in-Ok.numbers.items in
    let kept = c.in-Ok-uncut.kept.items in
    rw (c.new.ensures.items, c.new-in-Ok-with_scalar.ensures.items)
    (record {
      good = fresh g.parameters g.loops.now s _ (map block_of c.in-Ok-with_scalar.closed.items) kept p.good
          (ap rows_in c.in-Ok-with_scalar.ensures ∙ (rows_scalar s.closed numbers ∙ (sym (append-nil (rows_in s.closed))
          ∙ ap (λ z. rows_in s.closed ++ band_rows (map marked_of z)) (sym c.requires.none))))
          (λ d i. p.good.between d (uncuts_from c.deref-2.result.now s.remaining kept d
          (subst (λ (l : List Dependence). Uncuts c.deref-2.result.now l kept) c.requires.left c.in-Ok-uncut.ensures) i));
    })
