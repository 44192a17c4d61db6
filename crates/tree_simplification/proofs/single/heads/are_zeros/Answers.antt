use Rattle.scop_syntax.proofs.Common.{rules, ◌≡◌, ℤ, pos, All}
use Rattle.tree_simplification.proofs.Heads.{zeros_all}
use Rattle.tree_simplification.proofs.single.heads.are_zeros.Goals as goal

pub returns : goal.returns
returns c all =
    let each : All (λ (x : ℤ). x ≡ pos 0) c.args.numbers.now = search rules in zeros_all c.args.numbers.now each
