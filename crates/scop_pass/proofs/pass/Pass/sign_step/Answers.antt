use Rattle.scop_syntax.proofs.Common.{subst}
use Rattle.scop_pass.specs.Machine.{State, idle_step}
use Rattle.scop_pass.specs.Passing.{Comes, state_of}
use Rattle.scop_units.specs.View.{words_in}
use Rattle.scop_pass.proofs.pass.Pass.sign_step.Goals as goal

pub returns-in-Idle : goal.returns-in-Idle
returns-in-Idle c =
    rw c.in-Idle.is (subst (λ (s : State).
    Comes c.idle_step.result (state_of c.idle_step.new.self)
    (idle_step (words_in c.args.words.now) s c.args.mark c.args.at))
    c.keep.ensures c.idle_step.ensures)
