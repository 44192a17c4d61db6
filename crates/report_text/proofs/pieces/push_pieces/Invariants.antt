-- What was appended so far and the pieces to come are all pieces.
use Rattle.scop_syntax.proofs.Common.{◌≡◌, ◌++◌, drop}
use Rattle.report_text.specs.steps.Pieces.{pieces_text}
use Rattle.report_text.proofs.pieces.push_pieces.Given as goal

abbrev pub invariant-loop-piece : goal.invariant-loop-piece
invariant-loop-piece l =
    l.out.items ++ pieces_text (drop l.piece-index l.pieces) ≡ l.fn.out.items ++ pieces_text l.pieces
