use Rattle.scop_syntax.proofs.Common.{◌+◌, ℤ, List, All, length, take}
use Rattle.plain_scan.specs.Hulls.{sets_in}
use Rattle.split_scan.specs.steps.Parts.{HasMarks, InPart, IsPart}
use Rattle.split_scan.proofs.marking.all_marked.Given as goal

abbrev pub invariant-loop-cell : goal.invariant-loop-cell
invariant-loop-cell l =
    let m = l.level.place in
    record {
      parts : All (IsPart m (m + 1 + l.level.parameters) l.level.inside.items (sets_in l.outlines)) l.out.items;
      marks : All (HasMarks (length l.outlines)) l.out.items;
      enough : (point : List ℤ) → InPart (take l.cell-index l.cells) point → InPart l.out.items point;
    }
