use Rattle.std.proofs.Common.{rules}
use Rattle.integer_sets.specs.Constraints.{system_of}
use Rattle.integer_sets.proofs.PointLaws.{intersection-points}
use Rattle.integer_sets.proofs.system.System.and.Goals as goal

pub returns-clause-points : goal.returns-clause-points
returns-clause-points c =
    let s = c.both.inside in
    let equalities = c.push_copies.new.forms.items in
    let both = system_of s.dimensions s.parameters equalities c.push_copies-2.new.forms.items in
    intersection-points c.args.self.now c.args.other.now both (search rules)
