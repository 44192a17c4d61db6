use Rattle.conflict_deps.proofs.Pairs.{kernel_laws, place_laws}
use Rattle.conflict_deps.proofs.Sources.{writers_are_points, points_are_writers}
use Rattle.conflict_deps.proofs.source_laws.earlier_writers_are_points.Goals as goal

pub returns-clause-points : goal.returns-clause-points
returns-clause-points c = λ program params k j u w b cell.
    writers_are_points program params k j u w b cell
    (place_laws program params c.instances_are_those_of_statements.ensures.found
    c.instances_are_those_of_statements.ensures.turns c.statements_are_numbered.ensures.same
    c.walks_are_in_order.ensures.order c.statements_are_numbered.ensures.loops)

pub returns-clause-writers : goal.returns-clause-writers
returns-clause-writers c = λ program params j w b cell dep xs is count.
    points_are_writers program params j w b cell dep xs
    (place_laws program params c.instances_are_those_of_statements.ensures.found
    c.instances_are_those_of_statements.ensures.turns c.statements_are_numbered.ensures.same
    c.walks_are_in_order.ensures.order c.statements_are_numbered.ensures.loops)
    (kernel_laws program params is count c.instances_are_those_of_statements.ensures.stands
    c.statements_are_numbered.ensures.placed)
    (c.walks_are_in_order.ensures.once program params) count
