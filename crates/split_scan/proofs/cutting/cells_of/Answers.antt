use Rattle.scop_syntax.proofs.Common.{◌≡◌, ◌+◌, subst, sym, All}
use Rattle.affine_forms.specs.Parts.{variables_of}
use Rattle.split_scan.proofs.cutting.cells_of.Goals as goal

pub cut_all-requires-clause-sized : goal.cut_all-requires-clause-sized
cut_all-requires-clause-sized c =
    let level = c.args.level.now in
    let n = level.place + 1 + level.parameters in
    subst (All (λ p. All (λ f. variables_of f ≡ n) p.cuts.items)) (sym c.deref.ensures.value)
    (λ k d inside j e here. (c.loop-outline.invariant.cells k d inside j e here).sized)

pub loop-outline-preserved : goal.loop-outline-preserved
loop-outline-preserved c =
    let inv = c.loop-outline.invariant in
    let e = rw c.deref.ensures.value at c.in_ok-cells-2.ensures in
    record {
      cells = e.cells inv.cells;
      enough = λ params outer x at. e.goes params outer x at (inv.enough params outer x at);
    }
