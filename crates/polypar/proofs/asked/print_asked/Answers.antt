-- What was made of the kernel is what the command asks of it.
use Rattle.scop_syntax.proofs.Common.{program_of}
use Rattle.polypar.specs.KernelText.{IsTextFor}
use Rattle.polypar.proofs.PrintLemmas.{made_answers}
use Rattle.polypar.proofs.asked.print_asked.Goals as goal

pub returns : goal.returns
returns g c =
    made_answers (IsTextFor c.args.asked (program_of c.args.kernel.now)) c.kernel_told.result _ _ _ _ _
    c.kernel_told.ensures c.print_made.ensures
