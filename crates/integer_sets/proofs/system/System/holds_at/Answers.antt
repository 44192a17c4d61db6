use Rattle.std.proofs.Common.{rules, Ok, false}
use Rattle.integer_sets.proofs.PointLaws.{holds_at-law}
use Rattle.integer_sets.proofs.system.System.holds_at.Goals as goal

pub returns-in-Ok-true-clause-law : goal.returns-in-Ok-true-clause-law
returns-in-Ok-true-clause-law c =
    holds_at-law c.args.self.now c.args.point.now c.all_not_negative.result (search rules)

pub returns-in-Ok-false-clause-law : goal.returns-in-Ok-false-clause-law
returns-in-Ok-false-clause-law c =
    holds_at-law c.args.self.now c.args.point.now (Ok false) (search rules)
