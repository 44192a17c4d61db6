use Rattle.whole_numbers.proofs.Common.{ℤ, [], ◌∷◌, ◌++◌, ap, value_of, floor, floor_is, floor_unique}
use Rattle.whole_numbers.proofs.Euclid.{floor_from_euclid}
use Rattle.quast_trees.specs.Value.{value}
use Rattle.quast_trees.proofs.laws.binds_divide.Goals as goal

pub returns : goal.returns
returns c = λ f divisor q r body point positive divides.
    let v = value_of f point in
    let is_floor = floor_from_euclid v divisor q r divides in
    ap (λ (x : ℤ). value body (point ++ x ∷ [])) (floor_unique v divisor (floor v divisor) q positive
    (floor_is v divisor positive) is_floor)
