use Rattle.scop_syntax.proofs.Common.{◌+◌, ◌∙◌, ap, subst, sym}
use Rattle.plain_scan.specs.Hulls.{IsAlike}
use Rattle.plain_scan.specs.declared.outline.Shadow.{Shadow}
use Rattle.plain_scan.specs.declared.set_outline.Outline.{Outline}
use Rattle.split_scan.proofs.NarrowedNodes.{none_next}
use Rattle.split_scan.proofs.NodeParts.{implied_rows}
use Rattle.split_scan.proofs.narrowing.has_no_key.Goals as goal

pub loop-outline-preserved : goal.loop-outline-preserved
loop-outline-preserved c =
    let level = c.args.level.now in
    let m = level.place in
    let n = m + 1 + level.parameters in
    let i = c.loop-outline.outline-index in
    let o = c.outline-item.result in
    let is = c.outline-item.is in
    let within = c.loop-outline-test.true in
    let alike = subst (IsAlike c.args.depth n) (sym is) (c.requires.alike i o within) in
    let dims = ap (λ (q : Outline). q.set.now.system.dimensions) is ∙ c.requires.dimensions i o within in
    let rows_is = c.deref.ensures.value ∙ ap (λ (h : Shadow). h.rows.items) c.index.ensures in
    record {
      none = none_next m level.inside.items c.args.outlines.now i o c.deref.result.now c.args.cell.now.cuts.items is
          within (c.in_ok-none.ensures c.if-not-none.false) (implied_rows c.args.depth m n o _ c.deref.result.now alike dims rows_is)
          c.loop-outline.invariant.none;
    }
