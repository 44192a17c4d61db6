use Rattle.whole_numbers.proofs.Common.{rules, ◌∙◌, ap, ℤ, List, set, FitsSigned, w128, to_z-of_z, replicate-zeros}
use Rattle.farkas.proofs.matching.only_at.Goals as goal

pub returns-in-Ok-clause-factors : goal.returns-in-Ok-clause-factors
returns-in-Ok-clause-factors c =
    let fits : FitsSigned w128 c.args.factor = search rules in
    let z = c.in-Ok.ensures.items_if_clones_equal (λ y e. e) ∙ replicate-zeros c.args.count in
    simp to_z-of_z (ap (λ (zs : List ℤ). set zs c.args.place c.args.factor) z)
