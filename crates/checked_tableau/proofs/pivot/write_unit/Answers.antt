use Rattle.whole_numbers.proofs.Common.{ℤ, List, pos, set, ◌+◌, length, ap, ◌∙◌, replicate-zeros}
use Rattle.checked_tableau.proofs.pivot.write_unit.Goals as goal

pub returns : goal.returns
returns c =
    let all = c.fill.ensures.after (λ y e. e) in
    ap (λ (zs : List ℤ). set (set zs 0 (pos 1)) (c.args.column + 1) (pos 1))
    (all ∙ replicate-zeros (length c.args.row.now))
