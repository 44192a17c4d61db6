use Rattle.scop_syntax.proofs.Common.{◌∙◌, ℕ, ap, inl, length, refl, length-map, cell_of, held, Access, statement_of}
use Rattle.scop_syntax.specs.Cells.{reads as reads_by}
use Rattle.scop_meaning.proofs.Numbering.{reads_wanted}
use Rattle.scop_meaning.proofs.statements.run_statement.Goals as goal

pub stored_on-value-requires : goal.stored_on-value-requires
stored_on-value-requires c =
    let s = statement_of c.args.statement.now in
    let f : Access → ℕ = λ a. held c.args.layout.now c.args.arrays.now (cell_of a c.args.point.now) in
    ap length (c.as_slice.ensures.value ∙ c.values_read-reads.ensures)
    ∙ (length-map (reads_by s) f ∙ reads_wanted s.place s.right)

pub write-requires-clause-cell : goal.write-requires-clause-cell
write-requires-clause-cell c = c.requires.cells.each (statement_of c.args.statement.now).place (inl refl)
