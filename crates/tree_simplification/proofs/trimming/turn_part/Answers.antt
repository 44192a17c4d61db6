use Rattle.tree_simplification.proofs.Common.{List, [], ◌∷◌, ◌++◌, drop, ap, subst, sym, ◌∙◌, on_ok_weaker, Bound}
use Rattle.tree_simplification.proofs.Common.{TrimsSide, context_of}
use Rattle.tree_simplification.proofs.RemainingParts.{first_and_rest, part_kept}
use Rattle.tree_simplification.proofs.trimming.turn_part.Goals as goal

pub returns-else-goes : goal.returns-else-goes
returns-else-goes c =
    let context = context_of c.args.context.now in
    let part = c.remove-part.result in
    let old = c.args.left.now.items in
    let rest = drop 1 old in
    let others = c.args.others.now in
    let whole = first_and_rest old part c.remove-part.ensures.value c.requires.some in
    let kept : TrimsSide context c.args.turned old others (rest ++ part ∷ []) =
    subst (λ (bs : List Bound). TrimsSide context c.args.turned bs others (rest ++ part ∷ [])) (sym whole)
    (part_kept context c.args.turned part rest others) in
    on_ok_weaker c.push.result (λ pushed. subst (λ (bs : List Bound). TrimsSide context c.args.turned old others bs)
    (sym (pushed ∙ ap (λ (bs : List Bound). bs ++ part ∷ []) c.remove-part.ensures.items)) kept) c.push.ensures.pushed
