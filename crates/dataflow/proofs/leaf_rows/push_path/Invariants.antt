use Rattle.dataflow.proofs.LeafLoops.{PathSoFar}
use Rattle.dataflow.proofs.leaf_rows.push_path.Given as goal

abbrev pub invariant-loop-turn : goal.invariant-loop-turn
invariant-loop-turn l = PathSoFar l.layout l.fn.out.items l.turns l.turn-index l.bound l.out.items
