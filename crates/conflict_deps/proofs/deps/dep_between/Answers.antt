use Rattle.conflict_deps.proofs.Common.{◌≡◌, ◌+◌, sym, subst, arith, dependence, loops_of, tests_between, dep_of}
use Rattle.conflict_deps.proofs.Common.{source_of, target_of, width_of, order_at, ShowsTests}
use Rattle.iteration_domains.specs.Dependence.{IsDependence}
use Rattle.conflict_deps.proofs.Shapes.{between_shown}
use Rattle.conflict_deps.proofs.GatheredDependences.{dep_put, order_put}
use Rattle.conflict_deps.proofs.deps.dep_between.Goals.{In_ok-push_up, After-end-2}
use Rattle.conflict_deps.proofs.deps.dep_between.Goals as goal

-- the rows show the comparisons of the pair
shown : (c : In_ok-push_up) → let pair = c.args.pair.now in
    ShowsTests (width_of pair) c.push_up.new.rows (tests_between pair.parameters (source_of pair) (target_of pair)
    (order_at (width_of pair) (loops_of (source_of pair)) c.args.equal c.args.later))
shown c =
    let pair = c.args.pair.now in
    let m = pair.parameters in
    let s = source_of pair in
    let t = target_of pair in
    let k = c.args.equal in
    between_shown m s t (order_at (width_of pair) (loops_of s) k c.args.later) c.in_ok-rows.rows
    c.push_cell.new.rows c.push_order.new.rows c.push_up.new.rows c.in_ok-rows.ensures c.in_ok-push_cell.ensures
    (order_put m s t pair.loops pair.others k c.args.later c.push_cell.new.rows c.push_order.new.rows pair.turns
    pair.other_turns c.in_ok-push_order.ensures)
    c.in_ok-push_up.ensures

pub from_parts-system-requires : goal.from_parts-system-requires
from_parts-system-requires c =
    let pair = c.args.pair.now in
    record { sized = rw (pair.turns, pair.other_turns) (shown c).sized }

-- the dependence is the one of the pair
built : (c : After-end-2) → let pair = c.args.pair.now in
    dependence c.end.result c.end-2.result (c.args.equal + 1) c.from_parts-system.result
    ≡ dep_of pair.parameters (source_of pair) (target_of pair)
    (order_at (width_of pair) (loops_of (source_of pair)) c.args.equal c.args.later)
built c =
    let pair = c.args.pair.now in
    dep_put pair.parameters (source_of pair) (target_of pair) pair.loops pair.others c.args.equal c.args.later
    c.push_up.new.rows c.from_parts-system.result c.end.result c.end-2.result pair.turns pair.other_turns
    (shown (goal.at.invariant_of-result c).In_ok-push_up) c.from_parts-system.ensures c.end.ensures c.end-2.ensures

pub invariant_of-result : goal.invariant_of-result
invariant_of-result c =
    let pair = c.args.pair.now in
    subst IsDependence (sym (built c)) (record { turns = omega arith; one = pair.one })

pub returns : goal.returns
returns c = built (goal.at.returns c).After-end-2
