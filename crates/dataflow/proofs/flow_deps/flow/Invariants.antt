use Rattle.dataflow.proofs.Common.{◌≡◌, ◌++◌, All, drop, map, flat_map, AreLastSourcesOf, IsResolved, flow_from}
use Rattle.dataflow.proofs.Common.{read_sides, tree_in, reads_in}
use Rattle.dataflow.proofs.flow_deps.flow.Given as goal

abbrev pub invariant-loop-statement : goal.invariant-loop-statement
invariant-loop-statement l = record {
  gathered : l.deps.items
      ++ flow_from l.model (flat_map read_sides (drop l.statement-index l.statement-items)) (map tree_in l.rest)
      ≡ flow_from l.model (flat_map read_sides l.statement-items) (map tree_in l.sources);
  order : AreLastSourcesOf l.model (reads_in (drop l.statement-index l.statement-items)) l.rest;
  resolved : All IsResolved l.rest;
}
