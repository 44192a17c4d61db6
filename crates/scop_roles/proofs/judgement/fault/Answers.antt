use Rattle.scop_syntax.proofs.Common.{◌∙◌}
use Rattle.scop_roles.specs.Formula.{formula_of}
use Rattle.scop_roles.proofs.NodeFaults.{faults_at}
use Rattle.scop_roles.proofs.judgement.fault.Goals as goal

pub returns : goal.returns
returns c =
    c.in_role.ensures
    ∙ faults_at c.args.entries (formula_of c.args.formula.now) c.in_ok-judgement.judgement c.args.role
    c.in_ok-judgement.ensures
