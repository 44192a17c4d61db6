use Rattle.scop_syntax.proofs.Common.{◌≡◌, subst, IfOk-weaker, program_of}
use Rattle.c_printer.specs.Nodes.{text_of}
use Rattle.text_callers.proofs.printed.text_of_a_tree.Goals as goal

pub returns : goal.returns
returns c = IfOk-weaker c.print.result _ _
    (λ text is none. subst (λ ts. text.items ≡ text_of (program_of c.args.kernel.now) ts) none is) c.print.ensures
