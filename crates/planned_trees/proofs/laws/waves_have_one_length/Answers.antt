use Rattle.loop_tree.specs.Walk.{visits}
use Rattle.planned_trees.proofs.Lengths.{one_length}
use Rattle.planned_trees.proofs.laws.waves_have_one_length.Goals as goal

pub returns : goal.returns
returns c program params marked plan ts trees has =
    one_length program params plan (visits ts params) trees.even (trees.carry_out params has).exact
