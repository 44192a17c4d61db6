use Rattle.scop_syntax.proofs.Common.{◌≡◌, ◌∙◌, ap, length, rules, subst, take, total_cells}
use Rattle.tile_core.specs.Plans.{extents_in}
use Rattle.tile_runs.specs.Running.{LeavesCells}
use Rattle.tile_runs.proofs.CounterRows.{has_rest, holds_contents}
use Rattle.tile_runs.proofs.counters.run_in_place.Goals as goal

pub run-requires-clause-rest : goal.run-requires-clause-rest
run-requires-clause-rest g c =
    let zeros = c.in_ok-append_rest.ensures.zeros in
    has_rest c.args.row.now.items c.append_rest.new.row.items zeros.0 zeros.1 c.args.plan c.requires.cells

pub returns-clause-executed : goal.returns-clause-executed
returns-clause-executed g c = λ contents shape same.
    let old = c.args.row.now.items in
    let zeros = c.in_ok-append_rest.ensures.zeros in
    let holds = holds_contents old c.append_rest.new.row.items zeros.0 zeros.1 contents same in
    let long : c.len-cells.result ≡ length old = search rules in
    let count : c.len-cells.result ≡ total_cells (extents_in c.args.plan) = long ∙ c.requires.cells in
    c.truncate.ensures.items ∙ (ap (λ n. take n c.run.new.cells.items) count
    ∙ subst (λ b. LeavesCells b c.args.plan contents c.run.new.cells.items) c.requires.plain
    (c.in_ok-run.ensures.arrays contents shape holds).1)
