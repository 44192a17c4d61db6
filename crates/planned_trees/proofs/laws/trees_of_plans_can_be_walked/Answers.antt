use Rattle.planned_trees.proofs.WalkedVisits.{walkable}
use Rattle.planned_trees.proofs.laws.trees_of_plans_can_be_walked.Goals as goal

pub returns : goal.returns
returns c program params marked plan ts trees has =
    walkable program params plan ts
    (record {
      found = c.instances_are_those_of_statements.ensures.found program params;
      turns = c.instances_are_those_of_statements.ensures.turns;
      few = λ p h. (c.statements_are_numbered.ensures.placed program p has.kernel h).few_loops;
      small = λ xs p h r. c.values_lie_within_45_bits.ensures.turns program params xs p has h r;
    }) trees.flat (trees.fits params has) (trees.carry_out params has).exact
