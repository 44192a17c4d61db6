use Rattle.scop_syntax.proofs.Common.{◌≡◌, ◌∙◌, ap, arith, length, rules, subst, take, total_cells, has_parameters}
use Rattle.tile_core.specs.Plans.{extents_in}
use Rattle.tile_runs.specs.Running.{HasCopies, LeavesCells}
use Rattle.tile_runs.proofs.CountedCells.{arrays_of}
use Rattle.tile_runs.proofs.CounterRows.{has_rest, holds_contents}
use Rattle.tile_runs.proofs.FinalCells.{room_for_copies}
use Rattle.tile_runs.proofs.counters.run_with_copies.Goals as goal

pub of_source-requires : goal.of_source-requires
of_source-requires g c = c.requires.plan.limits.kernel

pub run-requires-clause-rest : goal.run-requires-clause-rest
run-requires-clause-rest g c =
    let zeros = c.in_ok-append_rest.ensures.zeros in
    has_rest c.args.row.now.items c.append_rest.new.row.items zeros.0 zeros.1 c.args.plan c.requires.cells

pub settle-requires-clause-walk : goal.settle-requires-clause-walk
settle-requires-clause-walk g c =
    c.in_ok-source.ensures.walk c.args.plan.params.now (has_parameters c.requires.plan.limits)

pub settle-requires-clause-spot : goal.settle-requires-clause-spot
settle-requires-clause-spot g c = c.in_ok-spot.ensures.spot c.args.plan.params.now

pub settle-requires-clause-rest : goal.settle-requires-clause-rest
settle-requires-clause-rest g c =
    c.in_ok-spot.ensures.rest c.args.plan.params.now
    ∙ c.in_ok-source.ensures.visits c.args.plan.params.now c.requires.plan.limits.count

pub settle-requires-clause-cells : goal.settle-requires-clause-cells
settle-requires-clause-cells g c =
    let long : c.len-cells.result ≡ length c.args.row.now.items = search rules in
    long ∙ c.requires.cells

-- the row holds some arrays, so it is as long behind the run
pub settle-requires-clause-room : goal.settle-requires-clause-room
settle-requires-clause-room g c =
    let old = c.args.row.now.items in
    let zeros = c.in_ok-append_rest.ensures.zeros in
    let held = arrays_of (extents_in c.args.plan) old c.requires.cells in
    let holds = holds_contents old c.append_rest.new.row.items zeros.0 zeros.1 held.0 held.2 in
    let same = (c.in_ok-run.ensures.arrays held.0 held.1 holds).0 in
    let all = c.in_ok-append_rest.ensures.cells in
    let room = room_for_copies c.args.plan c.requires.expanded in
    let long : c.len-cells.result ≡ length old = search rules in
    let count = c.requires.cells in
    omega (arith, same, all, room, long, count)

pub returns-clause-executed : goal.returns-clause-executed
returns-clause-executed g c = λ contents shape same.
    let old = c.args.row.now.items in
    let zeros = c.in_ok-append_rest.ensures.zeros in
    let holds = holds_contents old c.append_rest.new.row.items zeros.0 zeros.1 contents same in
    let long : c.len-cells.result ≡ length old = search rules in
    let count : c.len-cells.result ≡ total_cells (extents_in c.args.plan) = long ∙ c.requires.cells in
    let has : HasCopies c.args.plan contents c.run.new.cells.items =
    subst (λ b. LeavesCells b c.args.plan contents c.run.new.cells.items) c.requires.expanded
    (c.in_ok-run.ensures.arrays contents shape holds).1 in
    c.truncate.ensures.items ∙ (ap (λ n. take n c.settle.new.row.items) count ∙ c.settle.ensures contents shape has)
