use Rattle.scop_roles.proofs.NodeFaults.{binary_judged}
use Rattle.scop_roles.proofs.sides.binary_fault.Goals as goal

pub returns : goal.returns
returns c n f g h i is =
    rw (
      c.part_or_own.ensures,
      c.own_joined-own.ensures,
      c.are_constants-constants.ensures,
      c.is_counted-count.ensures,
      c.mixes-mixed.ensures,
      c.first_of-part.ensures,
      c.in_role.ensures,
      c.in_role-2.ensures,
      c.side_role-side.ensures,
      c.are_signed.ensures,
    ) (binary_judged n c.args.role c.args.op f g c.args.left.now c.args.right.now c.args.at c.args.affine h i is)
