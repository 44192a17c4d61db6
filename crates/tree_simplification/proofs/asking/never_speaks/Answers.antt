use Rattle.tree_simplification.proofs.Common.{◌≡◌, ap₂, ◌∙◌, subst, List, [], ℤ, IfOk-weaker, Affine, Constraints}
use Rattle.tree_simplification.proofs.Common.{system_of, IsBoundedPoint, context_of}
use Rattle.tree_simplification.proofs.Contexts.{never_speaks_from}
use Rattle.tree_simplification.proofs.asking.never_speaks.Goals as goal

pub returns : goal.returns
returns c =
    let context = context_of c.args.context.now in
    let posed : c.from_parts-system.result ≡ system_of context.loops context.parameters [] context.rows =
    c.from_parts-system.ensures
    ∙ ap₂ (λ (es rs : List Affine). system_of context.loops context.parameters es rs) c.new.ensures.items
    (c.in_ok-rows.ensures ∙ c.deref.ensures.value) in
    IfOk-weaker c.found_empty.result _ _ (λ b empty found. never_speaks_from context
    c.if-not-context.false
    (subst (λ (s : Constraints). (x p : List ℤ) → IsBoundedPoint s x p → ⊥) posed (empty found))) c.found_empty.ensures
