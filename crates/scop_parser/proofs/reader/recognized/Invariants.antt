-- The reader stands behind the tokens so far.
use Rattle.scop_syntax.proofs.Common.{List}
use Rattle.scop_grammar.specs.Kernel.{Piece}
use Rattle.scop_units.specs.View.{tokens_in}
use Rattle.scop_units.specs.Words.{grammar_tokens}
use Rattle.scop_parser.proofs.TokenFeed.{Fed}
use Rattle.scop_parser.proofs.reader.recognized.Given as goal

abbrev pub invariant-loop-start : goal.invariant-loop-start
invariant-loop-start l =
    (done : List Piece) × Fed (grammar_tokens (tokens_in l.words)) done l.start-index l.reader
