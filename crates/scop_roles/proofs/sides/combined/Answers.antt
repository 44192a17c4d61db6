use Rattle.scop_syntax.proofs.Common.{negsuc, arith}
use Rattle.scop_roles.proofs.Sizes.{affine_wide, multiple_wide}
use Rattle.scop_roles.proofs.sides.combined.Goals as goal

pub sum-requires-clause-form : goal.sum-requires-clause-form
sum-requires-clause-form c = affine_wide c.args.entries c.args.left.now c.requires.left

pub sum-requires-clause-other : goal.sum-requires-clause-other
sum-requires-clause-other c = affine_wide c.args.entries c.args.right.now c.requires.right

pub sum-requires-in-Minus-clause-form : goal.sum-requires-in-Minus-clause-form
sum-requires-in-Minus-clause-form c = affine_wide c.args.entries c.args.left.now c.requires.left

pub sum-requires-in-Minus-clause-other : goal.sum-requires-in-Minus-clause-other
sum-requires-in-Minus-clause-other c =
    let opposite = c.in_ok-opposite-in-Minus in
    multiple_wide c.args.entries (negsuc 0) c.args.right.now opposite.opposite opposite.ensures.form (omega arith)
    c.requires.right
