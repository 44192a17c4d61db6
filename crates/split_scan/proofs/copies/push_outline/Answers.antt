use Rattle.scop_syntax.proofs.Common.{◌≡◌, ◌++◌, [], ◌∷◌, ◌∙◌, ap, subst, rules}
use Rattle.integer_sets.specs.Scanned.{Scanned}
use Rattle.plain_scan.specs.Hulls.{sets_in}
use Rattle.plain_scan.proofs.WholeScans.{sets_more}
use Rattle.split_scan.specs.steps.Copies.{AreCopies}
use Rattle.split_scan.proofs.OutlineCopies.{copied_shadows}
use Rattle.split_scan.proofs.copies.push_outline.Goals as goal

pub of_shadows-requires : goal.of_shadows-requires
of_shadows-requires c =
    let o = c.args.outline.now in
    let copies = c.in_ok-shadows.shadows.items in
    copied_shadows o.set.now o.shadows.items copies
    (subst (λ xs. AreCopies xs copies) c.deref.ensures.value c.in_ok-shadows.ensures) o.are

pub returns : goal.returns
returns c =
    let old = c.args.out.now.items in
    let pushed : c.push.new.self.items ≡ old ++ c.of_shadows.result ∷ [] = search rules in
    ap sets_in pushed ∙ sets_more old c.of_shadows.result
    ∙ ap (λ (s : Scanned). sets_in old ++ s ∷ []) c.of_shadows.ensures
