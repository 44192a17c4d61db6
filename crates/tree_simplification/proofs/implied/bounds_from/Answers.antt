use Rattle.tree_simplification.proofs.Common.{List, ◌∷◌, ap, sym, ◌∙◌, Bound}
use Rattle.tree_simplification.proofs.Contexts.{parts_behind}
use Rattle.tree_simplification.proofs.RemainingParts.{first_and_rest}
use Rattle.tree_simplification.proofs.implied.bounds_from.Goals as goal

pub returns : goal.returns
returns c =
    let first = c.remove-first.result in
    parts_behind first c.remove-first.new.self.items
    ∙ ap (λ (bs : List Bound). first ∷ bs) c.remove-first.ensures.items
    ∙ sym (first_and_rest c.args.kept.items first c.remove-first.ensures.value c.requires)
