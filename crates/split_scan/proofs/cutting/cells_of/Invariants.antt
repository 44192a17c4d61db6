use Rattle.scop_syntax.proofs.Common.{◌+◌, ◌++◌, ◌∷◌, ℤ, List, All}
use Rattle.split_scan.specs.steps.Questions.{IsIn}
use Rattle.split_scan.specs.steps.Parts.{InPart, IsCell}
use Rattle.split_scan.proofs.cutting.cells_of.Given as goal

abbrev pub invariant-loop-outline : goal.invariant-loop-outline
invariant-loop-outline l =
    record {
      cells : All (IsCell l.level.place (l.level.place + 1 + l.level.parameters)) l.cells.items;
      enough : (params outer : List ℤ) (x : ℤ) → IsIn l.level.place l.level.inside.items params outer x
          → InPart l.cells.items (outer ++ x ∷ params);
    }
