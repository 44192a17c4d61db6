use Rattle.tree_simplification.proofs.Common.{ap, ◌∙◌, subst, sym, length, ◌≤◌, List, ℤ, length-multiples, sign_of}
use Rattle.tree_simplification.proofs.rows.spread.Goals as goal

pub put_at-requires : goal.put_at-requires
put_at-requires c =
    subst (λ n. c.args.loops ≤ n) (sym (ap (λ (xs : List ℤ). length xs) c.in_ok-numbers.ensures
    ∙ length-multiples (sign_of c.args.turned) c.args.form.now.coefficients)) c.requires
