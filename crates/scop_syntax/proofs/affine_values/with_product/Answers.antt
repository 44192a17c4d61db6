use Rattle.scop_syntax.proofs.WrappedSums.{product_added}
use Rattle.scop_syntax.proofs.affine_values.with_product.Goals as goal

pub returns : goal.returns
returns c = product_added c.args.value c.args.coefficient c.args.entry c.ranges.value c.ranges.coefficient
    c.ranges.entry
