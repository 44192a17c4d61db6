use Rattle.scop_syntax.proofs.Common.{◌+◌, ◌++◌, ◌∷◌, ℤ, List, All, take}
use Rattle.split_scan.specs.steps.Questions.{IsIn}
use Rattle.split_scan.specs.steps.Parts.{InPart, IsCell}
use Rattle.split_scan.proofs.cutting.cut_all.Given as goal

abbrev pub invariant-loop-cell : goal.invariant-loop-cell
invariant-loop-cell l =
    let m = l.level.place in
    let n = l.level.place + 1 + l.level.parameters in
    record {
      cells : All (IsCell m n) l.cells → All (IsCell m n) l.out.items;
      goes : (params outer : List ℤ) (x : ℤ) → IsIn m l.level.inside.items params outer x
          → InPart (take l.cell-index l.cells) (outer ++ x ∷ params) → InPart l.out.items (outer ++ x ∷ params);
    }
