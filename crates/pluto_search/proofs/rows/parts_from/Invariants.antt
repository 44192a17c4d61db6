use Rattle.scop_syntax.proofs.Common.{◌≡◌, ◌++◌, drop, length}
use Rattle.pluto_systems.specs.Placing.{columns_in, parts_from}
use Rattle.pluto_search.specs.steps.StepParts.{parts_of}
use Rattle.pluto_search.proofs.rows.parts_from.Given as goal

abbrev pub invariant-loop-s : goal.invariant-loop-s
invariant-loop-s l = record {
  parts : parts_of l.parts.items ++ parts_from (drop l.s l.loops) l.rest ≡ parts_from l.loops l.numbers;
  left : length l.rest ≡ columns_in (drop l.s l.loops);
}
