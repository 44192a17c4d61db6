use Rattle.scop_syntax.proofs.Common.{◌+◌, All}
use Rattle.plain_scan.specs.Hulls.{sets_in}
use Rattle.split_scan.specs.steps.Questions.{IsCut}
use Rattle.split_scan.specs.steps.Narrowing.{HoldAtKeys}
use Rattle.split_scan.proofs.narrowing.narrow_by_rows.Given as goal

abbrev pub invariant-loop-row : goal.invariant-loop-row
invariant-loop-row l =
    let m = l.level.place in
    let n = l.level.place + 1 + l.level.parameters in
    let holds = HoldAtKeys m l.level.inside.items (sets_in l.outlines) in
    record {
      cuts : All (IsCut m n) l.fn.cuts.items → All (IsCut m n) l.cuts.items;
      hold : holds l.fn.cuts.items → holds l.cuts.items;
    }
