-- The names of as many turns as the loop has made.
use Rattle.scop_syntax.proofs.Common.{◌≡◌, ◌++◌}
use Rattle.quast_text.specs.Text.{texts_of}
use Rattle.report_text.specs.DepsText.{turn_names}
use Rattle.report_text.proofs.deps_names.push_turns.Given as goal

abbrev pub invariant-loop-at : goal.invariant-loop-at
invariant-loop-at l = texts_of l.names.items ≡ texts_of l.fn.names.items ++ turn_names l.at
