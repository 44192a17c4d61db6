use Rattle.scop_syntax.proofs.Common.{◌≡◌, ◌+◌, ◌++◌, [], ◌∷◌, ◌∙◌, ap, subst, sym, rules, arith, length, length-append}
use Rattle.scop_syntax.proofs.Common.{not}
use Rattle.plain_scan.specs.Hulls.{IsAlike, sets_in}
use Rattle.plain_scan.specs.declared.outline.Shadow.{Shadow}
use Rattle.plain_scan.specs.declared.set_outline.Outline.{Outline}
use Rattle.split_scan.specs.steps.Parts.{Keeps}
use Rattle.split_scan.proofs.NodeParts.{implied_rows, keeps_mark, next_at}
use Rattle.split_scan.proofs.marking.marks_of.Goals as goal

pub loop-outline-preserved : goal.loop-outline-preserved
loop-outline-preserved c =
    let level = c.args.level.now in
    let m = level.place in
    let n = m + 1 + level.parameters in
    let os = c.args.outlines.now in
    let i = c.loop-outline.outline-index in
    let o = c.outline-item.result in
    let is = c.outline-item.is in
    let inside = c.loop-outline-test.true in
    let inv = c.loop-outline.invariant in
    let depth = c.args.depth in
    let stays = c.loop-outline.stays.items in
    let none = c.in_ok-none.none in
    let alike = subst (IsAlike depth n) (sym is) (c.requires.alike i o inside) in
    let dims = ap (λ (q : Outline). q.set.now.system.dimensions) is ∙ c.requires.dimensions i o inside in
    let rows = c.deref.result.now in
    let rows_is = c.deref.ensures.value ∙ ap (λ (h : Shadow). h.rows.items) c.index.ensures in
    let pushed : c.push.new.self.items ≡ stays ++ not none ∷ [] = search rules in
    let count = inv.count in
    record {
      keeps = subst (λ bs. Keeps m level.inside.items (sets_in os) bs c.args.cell.now.cuts.items) (sym pushed)
          (keeps_mark m level.inside.items (sets_in os) o.set.now rows c.args.cell.now.cuts.items stays none
          c.in_ok-none.ensures (next_at os i o is inside stays count)
          (implied_rows depth m n o _ rows alike dims rows_is) inv.keeps);
      count = let l = length-append stays (not none ∷ []) in
          ap length pushed ∙ omega (arith, l, count);
    }
