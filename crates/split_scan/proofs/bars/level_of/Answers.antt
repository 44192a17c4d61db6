use Rattle.scop_syntax.proofs.Common.{◌≡◌, ◌+◌, ◌++◌, ◌∙◌, ap, sym, subst, All, arith, List, map, pos, ◌≤ℤ◌, All-append}
use Rattle.scop_syntax.proofs.Common.{Affine, widened}
use Rattle.affine_forms.specs.Parts.{variables_of}
use Rattle.fm_projection.specs.Alone.{place_form}
use Rattle.split_scan.specs.steps.Questions.{AreNatural}
use Rattle.split_scan.proofs.HullBounds.{natural_inside}
use Rattle.split_scan.proofs.Values.{widened_sized}
use Rattle.split_scan.proofs.bars.level_of.Goals as goal

pub invariant_of-result : goal.invariant_of-result
invariant_of-result c =
    let m = c.args.place in
    let p = c.args.parameters in
    let n = m + 1 + p in
    let context = c.args.context.now in
    let rows = c.args.rows.now in
    let P : Affine → Type 0 = λ f. variables_of f ≡ n in
    let made : c.push_copies.new.forms.items ≡ map (widened m) context ++ rows =
    c.in_ok-push_copies.ensures ∙ ap (λ (fs : List Affine). fs ++ rows) (c.in_ok-push_widened.ensures
    ∙ ap (λ (fs : List Affine). fs ++ map (widened m) context) c.new-inside.ensures.items) in
    let one = widened_sized m (m + p) context c.requires.context in
    let first = c.requires.first in
    record {
      few = c.requires.few;
      sized = subst (All P) (sym made) (All-append P (map (widened m) context) rows
          (λ k d inside. let e = one k d inside in omega (arith, e)) c.requires.sized);
      not_negative = λ t.
          let less : first.0 ≤ℤ pos 0 = c.is_natural-natural.ensures.low t (place_form n m
          (pos 1) first.0) first.1 first.2 in
          subst (AreNatural (m + 1)) (sym made) (natural_inside m n context rows first.0 first.1 (omega arith)
          first.2 less (c.requires.natural (c.is_natural-natural.ensures.outer t)));
    }
