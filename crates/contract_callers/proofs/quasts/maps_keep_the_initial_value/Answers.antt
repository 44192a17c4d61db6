use Rattle.scop_syntax.proofs.Common.{ap, ◌∙◌}
use Rattle.quast_trees.specs.Leaf.{mapped_leaf}
use Rattle.contract_callers.proofs.quasts.maps_keep_the_initial_value.Goals as goal

pub returns-clause-value : goal.returns-clause-value
returns-clause-value c = λ forms n tree mapped point speaks is size none.
    c.maps_keep_the_points.ensures.value forms n tree mapped speaks is point size ∙ ap (mapped_leaf forms) none
