use Rattle.scop_syntax.proofs.Common.{[], err_from_is_err_and}
use Rattle.scop_pass.specs.Machine.{idle, stated}
use Rattle.scop_pass.specs.Passing.{state_of}
use Rattle.scop_units.specs.View.{stored_of}
use Rattle.scop_pass.proofs.CompletedHeads.{unwound_faults}
use Rattle.scop_pass.proofs.pass.Pass.valued.Goals as goal

pub returns-in_err-stated : goal.returns-in_err-stated
returns-in_err-stated c =
    let s = stated (state_of c.args.self.now) (stored_of c.args.stored.now) in
    let told = err_from_is_err_and c.from_residual.result c.from_residual.ensures.1 in
    rw (told.1, told.2, unwound_faults s.frames (record s { frames = []; pending = idle })) c.in_err-stated.ensures
