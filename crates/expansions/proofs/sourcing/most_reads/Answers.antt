use Rattle.scop_syntax.proofs.Common.{◌≤◌, arith, rules, slice_get_within}
use Rattle.tile_table.specs.declared.table.Row.{Row}
use Rattle.expansions.proofs.Firsts.{few_more}
use Rattle.expansions.proofs.sourcing.most_reads.Goals as goal

pub loop-row-preserved : goal.loop-row-preserved
loop-row-preserved c =
    let own : c.row-item.result.code.reads ≤ c.larger-most.result = search rules in
    few_more (λ (row : Row). row.code.reads) c.args.rows.now c.loop-row.row-index c.loop-row.most c.larger-most.result
    c.row-item.result c.row-item.is c.larger-most.ensures.left own c.loop-row.invariant

pub returns : goal.returns
returns c k row at =
    let inside = slice_get_within c.args.rows.now k row at in
    c.loop-row.invariant k row (omega (arith, inside)) at
