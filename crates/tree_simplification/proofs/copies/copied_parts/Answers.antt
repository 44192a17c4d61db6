use Rattle.tree_simplification.proofs.Common.{◌≡◌, List, ◌∷◌, ap, sym, subst, ◌∙◌, IfOk, Bound}
use Rattle.tree_simplification.proofs.Contexts.{parts_behind}
use Rattle.tree_simplification.proofs.copies.copied_parts.Goals as goal

pub returns : goal.returns
returns c =
    let b = c.args.bounds.now in
    subst (λ (xs : List Bound). IfOk c.copied_behind.result (λ v. v.items ≡ xs))
    (ap (λ (bs : List Bound). b.first ∷ bs) c.deref.ensures.value ∙ sym (parts_behind b.first b.others.items))
    c.copied_behind.ensures
