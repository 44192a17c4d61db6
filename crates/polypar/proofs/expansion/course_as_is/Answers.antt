use Rattle.scop_syntax.proofs.Common.{program_of}
use Rattle.polypar.proofs.CourseLemmas.{as_is}
use Rattle.polypar.proofs.expansion.course_as_is.Goals as goal

pub returns : goal.returns
returns c = λ params why.
    as_is c.args.options (program_of c.args.kernel.now) params c.args.marked.now c.in_ok-plan.plan c.args.unexpanded
    c.requires.marked c.in_ok-plan.ensures why
