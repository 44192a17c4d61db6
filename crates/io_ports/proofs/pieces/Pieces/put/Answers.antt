use Rattle.std.proofs.Common.{◌∙◌, ap, ◌++◌}
use Rattle.std.proofs.lemmas.Result.{err_from_is_err_and}
use Rattle.io_ports.proofs.PutTexts.{cut_of_longer, take_then_cut, send_whole, send_then_keep, keep_all}
use Rattle.io_ports.proofs.pieces.Pieces.put.Goals.{then-text-self+in_ok-finish+else-text-gt-ROOM, else-text-self}
use Rattle.io_ports.proofs.pieces.Pieces.put.Goals as goal

pub returns-in_err-finish : goal.returns-in_err-finish
returns-in_err-finish g c =
    let told = err_from_is_err_and c.from_residual.result c.from_residual.ensures.1 in
    rw told.1 (cut_of_longer _ _ c.args.self.now c.args.text.now c.in_err-finish.ensures.sent)

pub returns-in_err-write_whole : goal.returns-in_err-write_whole
returns-in_err-write_whole g c =
    let told = err_from_is_err_and c.from_residual-in_err-write_whole.result
    c.from_residual-in_err-write_whole.ensures.1 in
    rw told.1 (take_then_cut _ _ _ c.args.self.now c.args.text.now c.in_ok-finish.ensures.sent
    c.in_err-write_whole.ensures)

pub returns-then-text-gt-ROOM : goal.returns-then-text-gt-ROOM
returns-then-text-gt-ROOM g c =
    rw c.in_ok-finish.ensures.none
    (send_whole _ _ _ c.args.self.now c.args.text.now c.in_ok-finish.ensures.sent c.in_ok-write_whole.ensures)

pub returns : goal.returns
returns g c =
    let p = c.args.self.now in
    let text = c.args.text.now in
    elim c.if-text-self.branch [
      | then-text-self+in_ok-finish+else-text-gt-ROOM w ↦
          rw (c.keep.ensures ∙ ap (λ q. q ++ text) (w.self-is ∙ w.in_ok-finish.ensures.none), w.sink-is)
          (send_then_keep _ _ p text w.in_ok-finish.ensures.sent)
      | else-text-self w ↦
          rw (c.keep.ensures ∙ ap (λ q. q ++ text) w.self-is, w.sink-is) (keep_all _ p text)
    ]
