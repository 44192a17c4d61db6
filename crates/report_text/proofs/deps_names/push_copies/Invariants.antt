-- The names so far and those to come are all names.
use Rattle.scop_syntax.proofs.Common.{◌≡◌, ◌++◌, drop}
use Rattle.quast_text.specs.Text.{texts_of}
use Rattle.report_text.proofs.deps_names.push_copies.Given as goal

abbrev pub invariant-loop-name : goal.invariant-loop-name
invariant-loop-name l =
    texts_of l.names.items ++ texts_of (drop l.name-index l.copied) ≡ texts_of l.fn.names.items ++ texts_of l.copied
