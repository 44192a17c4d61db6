-- The reader stands behind the tokens so far, and the pass behind their pieces.
use Rattle.scop_pass.specs.Passing.{state_of}
use Rattle.scop_units.specs.View.{tokens_in, words_in}
use Rattle.scop_units.specs.Words.{grammar_tokens}
use Rattle.scop_parser.proofs.TokenFeed.{Passed}
use Rattle.scop_parser.proofs.reader.judged.Given as goal

abbrev pub invariant-loop-start : goal.invariant-loop-start
invariant-loop-start l =
    Passed (words_in l.words) (grammar_tokens (tokens_in l.words)) l.start-index l.reader (state_of l.pass)
