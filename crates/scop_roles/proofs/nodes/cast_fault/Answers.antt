use Rattle.scop_roles.proofs.NodeFaults.{cast_judged}
use Rattle.scop_roles.proofs.nodes.cast_fault.Goals as goal

pub returns : goal.returns
returns c n w f h =
    rw (c.part_or_own.ensures, c.own_cast.ensures n c.args.at w f, c.in_role-part.ensures, c.cast_role.ensures)
    (cast_judged n c.args.role w f c.args.operand.now c.args.at h)
