use Rattle.scop_syntax.proofs.Common.{◌≡◌, ◌+◌, ◌++◌, [], ◌∷◌, rules, subst, All}
use Rattle.affine_forms.specs.Parts.{variables_of}
use Rattle.split_scan.specs.declared.part.Part.{Part}
use Rattle.split_scan.specs.steps.Picking.{IsPicking}
use Rattle.split_scan.proofs.PartOrder.{All-last, picked_all}
use Rattle.split_scan.proofs.ordering.ordered.Goals as goal

pub loop-part-preserved : goal.loop-part-preserved
loop-part-preserved c =
    let level = c.args.level.now in
    let m = level.place in
    let n = m + 1 + level.parameters in
    let part = c.in-Some.part in
    let rest = c.pop.new.self.items in
    let inv = c.loop-part.invariant in
    let popped : c.loop-part.rest.items ≡ rest ++ part ∷ [] = search rules in
    let P : Part → Type 0 = λ p. All (λ f. variables_of f ≡ n) p.cuts.items in
    let sized = All-last P rest part (subst (All P) popped inv.rest) in
    let e = c.in_ok-pick.ensures in
    record {
      rest = sized.0;
      out = e.sized;
      rise = e.rise inv.rise;
      picked = λ all h. e.picked all rest
          (subst (λ ps. IsPicking m n level.inside.items all ps c.loop-part.out.items) popped (inv.picked all h));
    }

pub returns : goal.returns
returns c all parts marks enough =
    let level = c.args.level.now in
    let m = level.place in
    let n = m + 1 + level.parameters in
    let inv = c.loop-part.invariant in
    let none : c.loop-part.rest.items ≡ [] = search rules in
    picked_all m n level.inside.items all c.args.parts.items c.loop-part.out.items inv.rise parts marks enough
    (λ h. subst (λ ps. IsPicking m n level.inside.items all ps c.loop-part.out.items) none (inv.picked all h))
