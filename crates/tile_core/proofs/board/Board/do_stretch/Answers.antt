use Rattle.scop_syntax.proofs.Common.{rules, ◌∙◌, ◌+◌, ◌≤◌, List, ℕ, [], ap, ap₂, arith, length, subst, sym}
use Rattle.scop_syntax.proofs.Common.{nil_from_length, with_items_is}
use Rattle.tile_events.specs.Plan as events
use Rattle.tile_core.specs.Plans.{walk_shape}
use Rattle.tile_core.specs.Stretches.{CanPass, IsAhead}
use Rattle.tile_core.specs.declared.worker.Worker.{Worker}
use Rattle.tile_core.specs.steps.Acts.{after_instances}
use Rattle.tile_core.proofs.BoardStretches.{copied_done, none_done, some_done}
use Rattle.tile_core.proofs.Gates.{wider}
use Rattle.tile_core.proofs.board.Board.do_stretch.Goals as goal
use Rattle.tile_core.proofs.board.Board.do_stretch.Goals.{After-do_ahead}

pub returns-then-len-gt0 : goal.returns-then-len-gt0
returns-then-len-gt0 c =
    none_done c.args.plan.now c.args.self.now c.args.id c.index_mut-worker.result.now c.requires.board c.requires.id
    (search rules) (λ t k at none left. let e = ap length none in search rules)

pub returns-then-count-eq0 : goal.returns-then-count-eq0
returns-then-count-eq0 c =
    none_done c.args.plan.now c.args.self.now c.args.id c.index_mut-worker.result.now c.requires.board c.requires.id
    (search rules)
    (λ t k at none left. let full = c.ahead-count.ensures.none (search rules) t k at in omega (arith, full, left))

pub do_copied-requires-clause-reads : goal.do_copied-requires-clause-reads
do_copied-requires-clause-reads c = nil_from_length _ (search rules)

pub returns-then-is_some : goal.returns-then-is_some
returns-then-is_some c =
    copied_done c.args.plan.now c.args.self.now c.args.id c.index_mut-worker.result.now c.requires.board c.requires.id
    (search rules) (c.walks_are_dealt.ensures.dealt c.args.plan.now [] c.requires.board.planned) c.do_copied.new.worker _
    c.do_copied.result c.deref_mut.result.now c.do_copied.new.cells c.deref_mut.ensures.value
    (with_items_is c.args.self.now.cells c.do_copied.new.cells (search rules)) c.do_copied.ensures.done
    (nil_from_length _ (search rules)) c.do_copied.ensures.reads c.do_copied.ensures.worker

pub do_woven-requires-clause-cells : goal.do_woven-requires-clause-cells
do_woven-requires-clause-cells c =
    let plan = c.args.plan.now in
    let most : (walk_shape plan).cells ≤ length c.deref_mut-then-rounds-gt0.result.now = search rules in
    let more = wider plan in
    omega (arith, most, more)

pub do_ahead-requires-clause-cells : goal.do_ahead-requires-clause-cells
do_ahead-requires-clause-cells c =
    let plan = c.args.plan.now in
    let most : (walk_shape plan).cells ≤ length c.deref_mut-2.result.now = search rules in
    let more = wider plan in
    omega (arith, most, more)

ahead : (c : After-do_ahead)
    → IsAhead c.args.plan.now c.index_mut-worker.result.now.stage c.index_mut-worker.result.now.next
    c.index_mut-worker.result.now.spot.stretch c.ahead-count.result
ahead c = c.ahead-count.ensures.ahead (search rules)

pub pass_by-requires-clause-passes : goal.pass_by-requires-clause-passes
pass_by-requires-clause-passes c =
    subst (λ (w : Worker). CanPass c.args.plan.now w.stage w.spot.stretch c.ahead-count.result)
    (sym c.do_ahead.ensures.same) (ahead (goal.at.pass_by-requires-clause-passes c).After-do_ahead).passes

pub returns : goal.returns
returns c =
    let p = walk_shape c.args.plan.now in
    let a = ahead (goal.at.returns c).After-do_ahead in
    let left = (a.passes a.tile a.done a.works).0 in
    let most = (a.passes a.tile a.done a.works).1.within in
    let fits : a.done + c.ahead-count.result ≤ p.size a.tile = omega (arith, left, most) in
    some_done c.args.plan.now c.args.self.now c.args.id c.index_mut-worker.result.now c.requires.board c.requires.id
    (search rules) (c.walks_are_dealt.ensures.dealt c.args.plan.now [] c.requires.board.planned) c.pass_by.new.self _ a.tile a.done c.ahead-count.result a.works (nil_from_length _ (search rules))
    a.some fits
    (c.pass_by.ensures.stage a.tile a.done (ap (λ (w : Worker). w.stage) c.do_ahead.ensures.same ∙ a.works))
    (search rules)
    (with_items_is c.args.self.now.cells c.do_ahead.new.cells (search rules)
    ∙ (c.do_ahead.ensures.cells a.tile a.done a.works
    ∙ ap₂ (λ (q : events.Plan) (ys : List ℕ). after_instances q a.tile a.done c.ahead-count.result ys)
    (sym (c.walks_are_dealt.ensures.plain c.args.plan.now [] (search rules))) c.deref_mut-2.ensures.value))
    c.pass_by.ensures.worker

pub returns-then-rounds-gt0 : goal.returns-then-rounds-gt0
returns-then-rounds-gt0 c =
    let woven = c.rounds-rounds.ensures (search rules) in
    let a = woven.first in
    let many = c.do_woven.ensures.count a.tile a.done a.works in
    some_done c.args.plan.now c.args.self.now c.args.id c.index_mut-worker.result.now c.requires.board c.requires.id
    (search rules) (c.walks_are_dealt.ensures.dealt c.args.plan.now [] c.requires.board.planned) c.do_woven.new.worker _ a.tile a.done c.do_woven.result a.works (nil_from_length _ (search rules))
    many.0 many.1 (c.do_woven.ensures.stage a.tile a.done a.works) c.do_woven.ensures.reads
    (with_items_is c.args.self.now.cells c.do_woven.new.cells (search rules)
    ∙ (c.do_woven.ensures.cells a.tile a.done a.works
    ∙ ap₂ (λ (q : events.Plan) (ys : List ℕ). after_instances q a.tile a.done c.do_woven.result ys)
    (sym (c.walks_are_dealt.ensures.plain c.args.plan.now [] (search rules))) c.deref_mut-then-rounds-gt0.ensures.value))
    c.do_woven.ensures.worker
