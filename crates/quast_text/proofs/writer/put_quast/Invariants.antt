-- What is written and what waits are the text of the quast.
use Rattle.whole_numbers.proofs.Common.{◌≡◌, ◌++◌, reverse}
use Rattle.quast_trees.specs.Postfix.{tree_of}
use Rattle.quast_text.specs.Text.{names_within, quast_text, texts_of}
use Rattle.quast_text.specs.steps.Waiting.{lets_in, waiting_text, weights}
use Rattle.quast_text.proofs.writer.put_quast.Given as goal

abbrev pub invariant-loop-stack : goal.invariant-loop-stack
invariant-loop-stack l =
    (texts_of l.names.items ≡ names_within (texts_of l.fn.names.items) (lets_in (reverse l.stack.items)))
    × (l.out.items ++ waiting_text (texts_of l.fn.names.items) (reverse l.stack.items)
    ≡ l.fn.out.items ++ quast_text (texts_of l.fn.names.items) 0 (tree_of l.quast))

abbrev pub decreases-loop-stack : goal.decreases-loop-stack
decreases-loop-stack l = weights l.stack.items
