use Rattle.scop_syntax.proofs.Common.{ap, ◌∙◌}
use Rattle.scop_roles.specs.Formula.{index}
use Rattle.scop_roles.specs.steps.Judgement.{is_zero, one_less}
use Rattle.scop_roles.proofs.NodeFaults.{index_first, lacks_none}
use Rattle.scop_roles.proofs.nodes.index_fault.Goals as goal

pub returns : goal.returns
returns c n p i h g =
    let ranked = c.is_zero-ranked.ensures ∙ ap is_zero (c.one_less.ensures ∙ ap one_less h.lacking)
    ∙ lacks_none (index p i) in
    rw (c.part_or_own.ensures, c.own_index.ensures n p i ranked, c.first_of-part.ensures)
    (index_first n c.args.role p i c.args.place.now c.args.subscript.now h g)
