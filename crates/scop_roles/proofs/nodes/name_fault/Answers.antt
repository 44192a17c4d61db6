use Rattle.scop_roles.proofs.NodeFaults.{name_first}
use Rattle.scop_roles.proofs.nodes.name_fault.Goals as goal

pub returns : goal.returns
returns c n =
    rw (c.part_or_own.ensures, c.own_name.ensures n c.args.at, c.told-part.ensures, c.named.ensures)
    (name_first n c.args.role c.args.meaning c.args.at)
