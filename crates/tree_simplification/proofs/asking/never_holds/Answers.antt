use Rattle.tree_simplification.proofs.Common.{◌≡◌, ap₂, ◌∙◌, subst, List, [], ◌∷◌, ◌++◌, ℤ, IfOk-weaker, Affine}
use Rattle.tree_simplification.proofs.Common.{Constraints, system_of, IsBoundedPoint, context_of}
use Rattle.tree_simplification.proofs.Contexts.{denied, never_from}
use Rattle.tree_simplification.proofs.asking.never_holds.Goals as goal

pub returns : goal.returns
returns c =
    let context = context_of c.args.context in
    let posed : c.from_parts-system.result
    ≡ system_of context.loops context.parameters [] (context.rows ++ c.args.row ∷ []) =
    c.from_parts-system.ensures
    ∙ ap₂ (λ (es rs : List Affine). system_of context.loops context.parameters es rs) c.new.ensures.items
    c.in_ok-push.ensures.pushed in
    IfOk-weaker c.found_empty.result _ _ (λ b empty found. never_from context c.args.row
    (denied c.args.context.natural c.if-not-context.false)
    (subst (λ (s : Constraints). (x p : List ℤ) → IsBoundedPoint s x p → ⊥) posed (empty found))) c.found_empty.ensures
