-- The lines so far and those of the statements to come are all lines.
use Rattle.scop_syntax.proofs.Common.{◌≡◌, ◌++◌, drop, program_of}
use Rattle.dataflow.specs.ReadSources.{reads_in}
use Rattle.report_text.specs.DepsText.{lines_of, deps_text}
use Rattle.report_text.proofs.deps_lines.deps_text.Given as goal

abbrev pub invariant-loop-statement : goal.invariant-loop-statement
invariant-loop-statement l =
    l.text.items ++ lines_of (program_of l.kernel) (reads_in (drop l.statement-index l.statement-items)) l.rest
    ≡ deps_text (program_of l.kernel) l.sources
