use Rattle.scop_syntax.proofs.Common.{negsuc, arith}
use Rattle.scop_roles.proofs.Sizes.{affine_wide, multiple_wide}
use Rattle.scop_roles.proofs.values.difference.Goals as goal

pub sum-requires-clause-form : goal.sum-requires-clause-form
sum-requires-clause-form c = affine_wide c.args.entries c.args.form.now c.requires.form

pub sum-requires-clause-other : goal.sum-requires-clause-other
sum-requires-clause-other c =
    multiple_wide c.args.entries (negsuc 0) c.args.other.now c.in_ok-opposite.opposite c.in_ok-opposite.ensures.form
    (omega arith) c.requires.other
