use Rattle.scop_syntax.proofs.Common.{◌≡◌, map, take, cell_of, held, statement_of}
use Rattle.scop_syntax.specs.Cells.{reads as reads_by}
use Rattle.scop_meaning.proofs.statements.values_read.Given as goal

abbrev pub invariant-loop-number : goal.invariant-loop-number
invariant-loop-number l =
    l.values.items
    ≡ map (λ access. held l.layout l.arrays (cell_of access l.point)) (take l.number (reads_by (statement_of l.statement)))
