use Rattle.scop_syntax.proofs.Common.{◌≡◌, ◌∙◌, ◌+◌, List, ◌∷◌, All, all_in, arith, in_map, member_at, map, drop, sym, ap, subst, drop_all}
use Rattle.iteration_domains.specs.Dependence.{Dependence}
use Rattle.schedule_rows.specs.declared.item.Marked as code
use Rattle.schedule_rows.specs.Items.{Marked}
use Rattle.schedule_rows.specs.Next.{restricted}
use Rattle.schedule_rows.specs.Schedule.{row_of, marked_of}
use Rattle.pluto_search.specs.steps.Sizes.{CanTell}
use Rattle.pluto_search.proofs.RestrictedDependences.{next_of, all_tell_more}
use Rattle.pluto_search.proofs.restricting.restricted.Goals as goal
use Rattle.pluto_search.proofs.restricting.restricted.Goals.{After-marked-item}

row_next : (c : After-marked-item) → drop c.loop-marked.marked-index c.args.rows.now
    ≡ c.marked-item.result ∷ drop (c.loop-marked.marked-index + 1) c.args.rows.now
row_next c =
    next_of c.args.rows.now c.loop-marked.marked-index c.marked-item.result c.marked-item.result
    (omega (arith, c.loop-marked-test.true)) c.marked-item.is

pub equal_at-requires : goal.equal_at-requires
equal_at-requires c =
    let rows = c.args.rows.now in
    let own = c.marked-item.result in
    all_in (λ (q : Marked). CanTell c.args.parameters q.row c.loop-marked.equal) (map marked_of rows) (marked_of own)
    c.loop-marked.invariant.1 (in_map marked_of own rows (member_at rows c.loop-marked.marked-index own c.marked-item.is
    (omega (arith, c.loop-marked-test.true))))

pub loop-marked-preserved : goal.loop-marked-preserved
loop-marked-preserved c =
    let at = (goal.at.loop-marked-preserved c).After-marked-item in
    let m = c.args.parameters in
    let rows = c.args.rows.now in
    let old = c.loop-marked.equal in
    let rest = map marked_of (drop (c.loop-marked.marked-index + 1) rows) in
    let r = row_of c.marked-item.result.row in (
      ap (λ (z : Dependence). restricted m rest z) c.in-Ok.ensures
          ∙ (sym (ap (λ (z : List code.Marked). restricted m (map marked_of z) old) (row_next at)) ∙
          c.loop-marked.invariant.0),
      subst (λ (z : Dependence). All (λ (q : Marked). CanTell m q.row z) (map marked_of rows)) (sym c.in-Ok.ensures)
          (all_tell_more m (map marked_of rows) r old c.loop-marked.invariant.1),
    )

pub returns : goal.returns
returns c =
    let m = c.args.parameters in
    let rows = c.args.rows.now in
    sym (ap (λ (z : List code.Marked). restricted m (map marked_of z) c.loop-marked.equal)
    (drop_all c.loop-marked.marked-index rows (omega (arith, c.loop-marked-test.false)))) ∙ c.loop-marked.invariant.0

pub loop-marked-init : goal.loop-marked-init
loop-marked-init c =
    let m = c.args.parameters in
    let rows = map marked_of c.args.rows.now in (
      ap (λ (z : Dependence). restricted m rows z) c.in_ok-equal.ensures,
      subst (λ (z : Dependence). All (λ (q : Marked). CanTell m q.row z) rows) (sym c.in_ok-equal.ensures) c.requires,
    )
