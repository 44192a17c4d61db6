use Rattle.whole_numbers.proofs.Common.{ℕ, ◌+◌, ◌-◌, ap, sym, arith, ints}
use Rattle.quast_trees.proofs.SignChoices.{by_sign_first, by_sign_second}
use Rattle.quast_trees.proofs.value.side_at.Goals as goal

pub returns-then-value-ge0-clause-place : goal.returns-then-value-ge0-clause-place
returns-then-value-ge0-clause-place c =
    ap (λ (k : ℕ). c.args.at - k) (sym (by_sign_first c.args.value (c.args.second + 1) 1 (omega (arith, ints))))

pub returns-else-value-ge0-clause-place : goal.returns-else-value-ge0-clause-place
returns-else-value-ge0-clause-place c =
    ap (λ (k : ℕ). c.args.at - k) (sym (by_sign_second c.args.value (c.args.second + 1) 1 (omega (arith, ints))))
