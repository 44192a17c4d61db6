use Rattle.scop_syntax.proofs.Common.{true, false}
use Rattle.loop_tree.proofs.Interleavings.{interleaving_runs, run_interleaves, serial_in_turn}
use Rattle.loop_tree.proofs.run_laws.loops_interleave_their_iterations.Goals as goal

pub returns-clause-iterations : goal.returns-clause-iterations
returns-clause-iterations c = run_interleaves

pub returns-clause-parallel : goal.returns-clause-parallel
returns-clause-parallel c = λ lo up body params outer zs is.
    interleaving_runs true lo up body params outer zs is (λ e. absurd cc)

pub returns-clause-serial : goal.returns-clause-serial
returns-clause-serial c = λ lo up body params outer zs is turn.
    interleaving_runs false lo up body params outer zs is (λ e. turn)

pub returns-clause-in_turn : goal.returns-clause-in_turn
returns-clause-in_turn c = serial_in_turn
