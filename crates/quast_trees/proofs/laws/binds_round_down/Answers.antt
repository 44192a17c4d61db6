use Rattle.whole_numbers.proofs.Common.{ℤ, [], ◌∷◌, ◌++◌, ap, value_of, floor, floor_is, floor_unique}
use Rattle.quast_trees.specs.Value.{value}
use Rattle.quast_trees.proofs.laws.binds_round_down.Goals as goal

pub returns : goal.returns
returns c = λ f divisor q body point positive is_floor.
    let v = value_of f point in
    ap (λ (x : ℤ). value body (point ++ x ∷ [])) (floor_unique v divisor (floor v divisor) q positive
    (floor_is v divisor positive) is_floor)
