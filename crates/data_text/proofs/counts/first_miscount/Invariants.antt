-- The earliest list so far, and those to come.
use Rattle.scop_syntax.proofs.Common.{◌≡◌, None, drop, map}
use Rattle.data_lines.specs.Sheets.{given_of}
use Rattle.data_text.specs.Cases.{first_miscount}
use Rattle.data_text.proofs.counts.first_miscount.Given as goal

abbrev pub invariant-loop-at : goal.invariant-loop-at
invariant-loop-at l = first_miscount l.best (drop l.at l.extents) (map given_of (drop l.at l.rows))
    ≡ first_miscount None l.extents (map given_of l.rows)
