-- The contents so far and those to come are all contents.
use Rattle.scop_syntax.proofs.Common.{◌≡◌, ◌++◌, length, drop, map, narrow_arrays, program_of}
use Rattle.data_lines.specs.Sheets.{given_of}
use Rattle.data_text.specs.Cases.{contents_said}
use Rattle.data_text.proofs.contents.contents_of.Given as goal

abbrev pub invariant-loop-at : goal.invariant-loop-at
invariant-loop-at l = record {
  whole : map (λ row. row.items) l.cells.items ++ contents_said (drop l.at (narrow_arrays (program_of l.kernel)))
      (drop l.at l.extents) (map given_of (drop l.at l.rows.items))
      ≡ contents_said (narrow_arrays (program_of l.kernel)) l.extents (map given_of l.fn.rows.items);
  count : length l.rows.items ≡ length l.fn.rows.items;
}
