use Rattle.scop_syntax.proofs.Common.{take}
use Rattle.plain_scan.specs.Hulls.{sets_in}
use Rattle.split_scan.specs.steps.Narrowing.{HasNoKey}
use Rattle.split_scan.proofs.narrowing.has_no_key.Given as goal

abbrev pub invariant-loop-outline : goal.invariant-loop-outline
invariant-loop-outline l =
    record {
      none : HasNoKey l.level.place l.level.inside.items (sets_in (take l.outline-index l.outlines))
          l.cell.cuts.items;
    }
