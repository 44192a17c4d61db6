use Rattle.scop_syntax.proofs.Common.{◌+◌, All}
use Rattle.plain_scan.specs.Hulls.{sets_in}
use Rattle.split_scan.specs.steps.Questions.{IsCut}
use Rattle.split_scan.specs.steps.Narrowing.{HoldAtKeys}
use Rattle.split_scan.proofs.narrowing.narrowed.Given as goal

abbrev pub invariant-loop-outline : goal.invariant-loop-outline
invariant-loop-outline l =
    let m = l.level.place in
    record {
      cuts : All (IsCut m (m + 1 + l.level.parameters)) l.cuts.items;
      hold : HoldAtKeys m l.level.inside.items (sets_in l.outlines) l.cuts.items;
    }
