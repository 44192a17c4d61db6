use Rattle.tree_simplification.proofs.Common.{◌≡◌, subst, List, ℤ, pos, ◌++◌, ap, IfOk, true, ◌≤ℤ◌, Affine, value_of}
use Rattle.tree_simplification.proofs.Common.{Bound, Meets, context_of}
use Rattle.tree_simplification.proofs.asking.starts_natural.Goals as goal

pub returns : goal.returns
returns c =
    subst (λ (f : Affine). IfOk c.never_falls.result (λ b. b ≡ true → (params outer : List ℤ)
    → Meets (context_of c.args.context.now) params outer → pos 0 ≤ℤ value_of f (outer ++ params)))
    (ap (λ (b : Bound). b.form) c.part.view_is) c.never_falls.ensures
