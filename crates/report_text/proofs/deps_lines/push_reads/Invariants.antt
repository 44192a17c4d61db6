-- The lines so far and those of the reads to come are all lines of the statement's reads.
use Rattle.scop_syntax.proofs.Common.{◌≡◌, ◌++◌, ◌-◌, ◌≤◌, drop, length, program_of}
use Rattle.dataflow.specs.ReadSources.{reads_from, reads_of_statement}
use Rattle.quast_text.specs.Text.{texts_of}
use Rattle.report_text.specs.DepsText.{lines_of, names_at}
use Rattle.report_text.proofs.deps_lines.push_reads.Given as goal

abbrev pub invariant-loop-access : goal.invariant-loop-access
invariant-loop-access l =
    (1 ≤ l.access) × (texts_of l.names.items ≡ names_at (program_of l.kernel) l.statement)
    × (l.out.items ++ lines_of (program_of l.kernel)
    (reads_from l.statement.number l.access (length l.statement.accesses - l.access)) (drop (l.access - 1) l.sources)
    ≡ l.fn.out.items ++ lines_of (program_of l.kernel) (reads_of_statement l.statement) l.sources)
