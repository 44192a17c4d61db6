use Rattle.scop_roles.proofs.NodeFaults.{unary_judged}
use Rattle.scop_roles.proofs.nodes.unary_fault.Goals as goal

pub returns : goal.returns
returns c n f h =
    rw (
      c.part_or_own.ensures,
      c.own_unary.ensures n c.args.at f h.signed,
      c.in_role-part.ensures,
      c.operand_role.ensures,
    ) (unary_judged n c.args.role c.args.sign f c.args.operand.now c.args.at h)
