use Rattle.conflict_deps.proofs.Pairs.{kernel_laws, place_laws, points_conflict, conflicts_are_points, one_system}
use Rattle.conflict_deps.proofs.conflict_laws.conflicts_are_the_points_of_the_systems.Goals as goal

pub returns-clause-points : goal.returns-clause-points
returns-clause-points c = λ program params marked dep xs ys is count.
    points_conflict program params marked dep xs ys
    (place_laws program params c.instances_are_those_of_statements.ensures.found
    c.instances_are_those_of_statements.ensures.turns c.statements_are_numbered.ensures.same
    c.walks_are_in_order.ensures.order c.statements_are_numbered.ensures.loops)
    (kernel_laws program params is count c.instances_are_those_of_statements.ensures.stands
    c.statements_are_numbered.ensures.placed)
    count

pub returns-clause-conflicts : goal.returns-clause-conflicts
returns-clause-conflicts c = λ program params marked i j k.
    conflicts_are_points program params marked i j k
    (place_laws program params c.instances_are_those_of_statements.ensures.found
    c.instances_are_those_of_statements.ensures.turns c.statements_are_numbered.ensures.same
    c.walks_are_in_order.ensures.order c.statements_are_numbered.ensures.loops)

pub returns-clause-one : goal.returns-clause-one
returns-clause-one c = λ program params dep other xs ys.
    one_system program params dep other xs ys
    (record {
      found = c.instances_are_those_of_statements.ensures.found program params;
      turns = c.instances_are_those_of_statements.ensures.turns;
      same = c.statements_are_numbered.ensures.same program;
    })
