use Rattle.whole_numbers.proofs.Common.{pos, ◌∙◌, sym, inl, inr, arith, ints, value_of, multiple_of_form, le_or_lt}
use Rattle.whole_numbers.proofs.Common.{mul_not_negative, value_of-multiple}
use Rattle.whole_numbers.proofs.Order.{mul_lt_left}
use Rattle.quast_trees.specs.Value.{value}
use Rattle.quast_trees.proofs.SignChoices.{by_sign_first, by_sign_second}
use Rattle.quast_trees.proofs.laws.tests_may_be_scaled.Goals as goal

pub returns : goal.returns
returns c = λ f k a b point positive.
    let v = value_of f point in
    let w = value_of (multiple_of_form k f) point in
    let scaled = value_of-multiple k f point in
    elim (le_or_lt (pos 0) v) [
      | inl up ↦
          let above = mul_not_negative k v (omega (arith, ints)) up in
          by_sign_first w (value a point) (value b point) (omega (arith, ints))
          ∙ sym (by_sign_first v (value a point) (value b point) up)
      | inr down ↦
          let below = mul_lt_left v (pos 0) k down positive in
          by_sign_second w (value a point) (value b point) (omega (arith, ints))
          ∙ sym (by_sign_second v (value a point) (value b point) down)
    ]
