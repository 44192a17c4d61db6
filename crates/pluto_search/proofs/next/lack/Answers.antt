use Rattle.scop_syntax.proofs.Common.{rules, ◌≡◌, List, length, map, sym, ap, subst, arith, length-map, nil_from_length}
use Rattle.iteration_domains.specs.Dependence.{Dependence}
use Rattle.schedule_rows.specs.declared.item.Marked as code
use Rattle.schedule_rows.specs.Schedule.{marked_of}
use Rattle.pluto_search.specs.steps.StepParts.{AreWithin}
use Rattle.pluto_search.specs.steps.Steps.{state_of, Steps}
use Rattle.pluto_search.proofs.NextStates.{are_within, cut_steps, band_steps}
use Rattle.pluto_search.proofs.next.lack.Goals as goal

pub returns-then-not-is_empty : goal.returns-then-not-is_empty
returns-then-not-is_empty c =
    let p = c.args.progress in
    let some : length p.rows.items ≡ 0 → ⊥ = search rules in
    let l = length-map p.rows.items marked_of in
    subst (Steps p.search.now (state_of p)) (sym c.goes.ensures)
    (band_steps p c.close_band.result c.requires.more c.requires.none
    (λ e. some (let n = ap length e in omega arith)) c.close_band.ensures.closed c.close_band.ensures.answered
    c.close_band.ensures.stops)

pub cut-requires-clause-none : goal.cut-requires-clause-none
cut-requires-clause-none c = nil_from_length c.args.progress.rows.items (search rules)

pub cut-requires-clause-within : goal.cut-requires-clause-within
cut-requires-clause-within c =
    let p = c.args.progress in
    let g = p.search.now in
    subst (λ (l : List Dependence). AreWithin (length g.loops.now) l) (sym c.in-Ok.ensures)
    (are_within g.parameters g.loops.now (state_of p).remaining p.good.between)

pub returns : goal.returns
returns c =
    let p = c.args.progress in
    let none : length p.rows.items ≡ 0 = search rules in
    subst (Steps p.search.now (state_of p)) (sym c.goes-2.ensures)
    (cut_steps p c.in-Ok.deps.items c.args.posed c.cut.result c.in-Ok.ensures c.requires.more c.requires.none
    (ap (λ (z : List code.Marked). map marked_of z) (nil_from_length p.rows.items none)) c.requires.posed c.cut.ensures)
