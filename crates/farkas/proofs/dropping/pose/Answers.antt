use Rattle.whole_numbers.proofs.Common.{◌∙◌, ◌+◌, ◌<◌, ◌++◌, ◌∷◌, [], ℕ, List, length, sym, ap, subst, Affine}
use Rattle.integer_sets.specs.Constraints.{IsSized}
use Rattle.farkas.proofs.RowQuestions.{question-sized}
use Rattle.farkas.proofs.dropping.pose.Goals as goal

pub from_parts-requires : goal.from_parts-requires
from_parts-requires c =
    let s = c.args.system in
    let new = c.push.new.self.items in
    let inside = subst (λ (fs : List Affine). c.args.at < length fs) (sym c.into_parts-equalities.ensures.rows)
    c.requires.place in
    let all = c.in-Ok-push.ensures.items ∙ ap (λ (fs : List Affine). fs ++ c.in-Ok.negation ∷ [])
    c.remove-row.ensures.items in
    record {
      sized = subst (λ (n : ℕ). IsSized (n + 0) c.into_parts-equalities.result.0.items new)
          (sym c.dimensions-dimensions.ensures)
          (question-sized s c.args.at c.into_parts-equalities.result.0.items c.into_parts-equalities.result.1.items new
          c.remove-row.result c.in-Ok.negation c.into_parts-equalities.ensures.sized c.requires.flat inside
          c.remove-row.ensures.value c.in-Ok.ensures all);
    }
