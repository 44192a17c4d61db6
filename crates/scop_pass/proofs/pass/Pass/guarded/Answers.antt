use Rattle.scop_syntax.proofs.Common.{◌≡◌, [], subst}
use Rattle.scop_roles.specs.declared.formula.Role.TheVariants as role
use Rattle.scop_roles.specs.Faults.{faults}
use Rattle.scop_roles.specs.Formula.{formula_of}
use Rattle.scop_pass.proofs.pass.Pass.guarded.Goals as goal

pub guard-requires : goal.guard-requires
guard-requires c =
    let f = formula_of c.args.condition.now in
    subst (λ n. faults n role.Condition f ≡ []) c.entries.ensures
    (c.in_ok-checked.ensures (faults c.entries.result role.Condition f) c.fault.ensures)
