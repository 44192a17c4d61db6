use Rattle.scop_syntax.proofs.Common.{◌≡◌, ◌+◌, ◌++◌, [], ◌∷◌, subst, sym, rules, length}
use Rattle.plain_scan.specs.Hulls.{sets_in}
use Rattle.split_scan.specs.steps.Parts.{IsCell}
use Rattle.split_scan.proofs.NodeParts.{held_next, marks_more, near_goes, part_more}
use Rattle.split_scan.proofs.marking.all_marked.Goals as goal

pub marked-requires-clause-sized : goal.marked-requires-clause-sized
marked-requires-clause-sized c =
    let level = c.args.level.now in
    let n = level.place + 1 + level.parameters in
    let one = subst (IsCell level.place n) (sym c.cell-item.is)
    (c.requires.cells c.loop-cell.cell-index c.cell-item.result c.loop-cell-test.true) in
    λ j e here. (one j e here).sized

pub loop-cell-preserved : goal.loop-cell-preserved
loop-cell-preserved c =
    let level = c.args.level.now in
    let m = level.place in
    let n = m + 1 + level.parameters in
    let k = c.loop-cell.cell-index in
    let cell = c.cell-item.result in
    let inside = c.loop-cell-test.true in
    let inv = c.loop-cell.invariant in
    let part = c.in_ok-part.part in
    let e = c.in_ok-part.ensures in
    let old = c.loop-cell.out.items in
    let new = c.push.new.self.items in
    let pushed : new ≡ old ++ part ∷ [] = search rules in
    let one = subst (IsCell m n) (sym c.cell-item.is) (c.requires.cells k cell inside) in
    record {
      parts = part_more m n level.inside.items (sets_in c.args.outlines.now) cell.cuts.items old new part e.cuts pushed
          one e.keeps inv.parts;
      marks = marks_more (length c.args.outlines.now) old new part pushed e.count inv.marks;
      enough = λ point h. near_goes cell.cuts.items old new part point e.cuts pushed
          (held_next c.args.cells.now k cell old point c.cell-item.is inside (inv.enough point) h);
    }
