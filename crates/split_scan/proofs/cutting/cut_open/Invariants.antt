use Rattle.scop_syntax.proofs.Common.{◌≡◌, ◌+◌, All}
use Rattle.affine_forms.specs.Parts.{variables_of}
use Rattle.split_scan.specs.steps.Questions.{IsCut}
use Rattle.split_scan.specs.steps.Parts.{Goes, IsCell}
use Rattle.split_scan.proofs.cutting.cut_open.Given as goal

abbrev pub invariant-loop-row : goal.invariant-loop-row
invariant-loop-row l =
    let m = l.level.place in
    let n = l.level.place + 1 + l.level.parameters in
    record {
      cuts : IsCell m n l.cell → All (IsCut m n) l.cuts.items;
      cells : IsCell m n l.cell → All (IsCell m n) l.fn.out.items → All (IsCell m n) l.out.items;
      goes : Goes m l.level.inside.items l.cell.cuts.items l.fn.out.items l.cuts.items l.out.items;
      sized : All (λ f. variables_of f ≡ n) l.cuts.items;
    }
