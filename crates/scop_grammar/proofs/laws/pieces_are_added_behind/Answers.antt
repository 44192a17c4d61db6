use Rattle.scop_grammar.proofs.FrontPieces.{turn_behind, run_behind}
use Rattle.scop_grammar.proofs.laws.pieces_are_added_behind.Goals as goal

pub returns : goal.returns
returns c = record { turn = turn_behind; run = run_behind }
