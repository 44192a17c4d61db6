-- One piece more, and at the end all of them.
use Rattle.scop_syntax.proofs.Common.{◌∙◌, ◌+◌, ◌++◌, ap, drop, drop_of_length-le}
use Rattle.report_text.specs.steps.Pieces.{pieces_text}
use Rattle.report_text.proofs.AppendedTexts.{next_appended, last_appended}
use Rattle.report_text.proofs.Lines.{pieces_next}
use Rattle.report_text.proofs.pieces.push_pieces.Goals as goal

pub loop-piece-preserved : goal.loop-piece-preserved
loop-piece-preserved c =
    let pieces = c.args.pieces.now in
    let at = c.loop-piece.piece-index in
    let out = c.loop-piece.out.items in
    next_appended out c.push_piece.new.out.items _ (pieces_text (drop (at + 1) pieces)) _ c.in-Ok.ensures
    (ap (λ t. out ++ t) (pieces_next pieces at _ c.loop-piece-test.true) ∙ c.loop-piece.invariant)

pub returns : goal.returns
returns c =
    let pieces = c.args.pieces.now in
    let at = c.loop-piece.piece-index in
    last_appended c.loop-piece.out.items (pieces_text (drop at pieces)) _
    (ap pieces_text (drop_of_length-le pieces c.loop-piece-test.false)) c.loop-piece.invariant
