use Rattle.std.proofs.Common.{◌++◌}
use Rattle.affine_forms.proofs.Lexicographic.{IsLeast-unique}
use Rattle.integer_sets.specs.Points.{Satisfies}
use Rattle.integer_sets.proofs.laws.least_point_is_unique.Goals as goal

pub returns : goal.returns
returns c = λ s parameters p q hp hq. IsLeast-unique (λ x. Satisfies s (x ++ parameters)) s.dimensions p q hp hq
