use Rattle.scop_syntax.proofs.Common.{ap, ◌∙◌}
use Rattle.scop_roles.specs.Faults.{first, told}
use Rattle.scop_roles.proofs.nodes.of_bare_call.Goals as goal

pub returns : goal.returns
returns c n =
    c.called_with.ensures.bare n c.args.meaning (c.told.ensures ∙ ap (λ k. first (told c.args.at k)) c.called.ensures)
