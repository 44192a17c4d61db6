use Rattle.whole_numbers.proofs.Contents.{gcd_of_same}
use Rattle.plan_certificate.proofs.eliminating.common.Goals as goal

pub returns : goal.returns
returns c = gcd_of_same c.args.a c.args.b c.gcd_of_sizes.result c.gcd_of_sizes.ensures
