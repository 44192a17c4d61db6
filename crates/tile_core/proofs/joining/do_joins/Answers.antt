use Rattle.scop_syntax.proofs.Common.{rules, ◌≡◌, ◌≤◌, ◌∙◌, ◌+◌, ℕ, List, ap, arith, length, subst, suc}
use Rattle.tile_table.specs.Joins.{IsJoinAt}
use Rattle.tile_core.specs.Plans.{plain_shape}
use Rattle.tile_list.specs.Stretches.{turns_on}
use Rattle.tile_core.specs.Stretches.{moved}
use Rattle.tile_core.specs.steps.Acts.{after_instances, after_place}
use Rattle.tile_core.proofs.Joins.{all_within}
use Rattle.tile_core.proofs.joining.do_joins.Goals as goal

pub do_join-requires : goal.do_join-requires
do_join-requires c =
    let r = c.requires in
    let j = c.loop.counter in
    let whole = r.wide in
    let wide : (plain_shape r.plan).cells ≤ length c.loop.cells = search rules in
    all_within r.plan r.row r.steps (moved r.instance r.steps j) c.loop.lanes (record {
      tells = r.from.tells j c.loop-test.true;
      laid = (c.loop.invariant r.plan r.row r.steps r.instance r.tile r.first r.from).1;
    }) c.loop.cells wide

pub loop-preserved : goal.loop-preserved
loop-preserved c plan row steps x t k from =
    let j = c.loop.counter in
    let cells = c.loop.cells in
    let inv = c.loop.invariant plan row steps x t k from in
    let next : suc j ≡ j + 1 = omega arith in (
      c.do_join.ensures.cells plan row steps (moved x steps j)
          (record { tells = from.tells j c.loop-test.true; laid = inv.1 })
          ∙ (ap (λ (p : ℕ). after_place (plain_shape plan) p cells) (from.place j c.loop-test.true)
          ∙ (ap (λ (ys : List ℕ). after_place (plain_shape plan) ((plain_shape plan).place t (k + j)) ys) inv.0
          ∙ ap (λ (n : ℕ). after_instances (plain_shape plan) t k n c.args.cells.now) next)),
      subst (λ (n : ℕ). IsJoinAt row steps (turns_on x.turns steps n) c.do_join.new.lanes) next
          (c.do_join.ensures.lanes row steps _ inv.1),
    )

pub returns : goal.returns
returns c plan row steps x t k from =
    let over = c.loop-test.false in
    let within = c.loop.auto.counter-end in
    let all : c.loop.counter ≡ c.args.count = omega (arith, over, within) in
    (c.loop.invariant plan row steps x t k from).0
    ∙ ap (λ (n : ℕ). after_instances (plain_shape plan) t k n c.args.cells.now) all
