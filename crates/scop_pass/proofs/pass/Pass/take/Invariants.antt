-- The pass is the machine's state behind the parts so far.
use Rattle.scop_syntax.proofs.Common.{◌≡◌, take}
use Rattle.scop_grammar.specs.Turns.{pieces_of}
use Rattle.scop_pass.specs.Machine.{run}
use Rattle.scop_pass.specs.Passing.{state_of}
use Rattle.scop_units.specs.View.{words_in}
use Rattle.scop_pass.proofs.pass.Pass.take.Given as goal

abbrev pub invariant-loop-part : goal.invariant-loop-part
invariant-loop-part l =
    run (words_in l.words) (state_of l.fn.self) (pieces_of (take l.part-index l.parts)) ≡ state_of l.self
