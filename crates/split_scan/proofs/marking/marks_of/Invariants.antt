use Rattle.scop_syntax.proofs.Common.{◌≡◌, length}
use Rattle.plain_scan.specs.Hulls.{sets_in}
use Rattle.split_scan.specs.steps.Parts.{Keeps}
use Rattle.split_scan.proofs.marking.marks_of.Given as goal

abbrev pub invariant-loop-outline : goal.invariant-loop-outline
invariant-loop-outline l =
    record {
      keeps : Keeps l.level.place l.level.inside.items (sets_in l.outlines) l.stays.items l.cell.cuts.items;
      count : length l.stays.items ≡ l.outline-index;
    }
