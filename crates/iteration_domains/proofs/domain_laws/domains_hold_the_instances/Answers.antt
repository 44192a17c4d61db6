use Rattle.scop_syntax.proofs.Common.{sym, ◌∙◌}
use Rattle.iteration_domains.proofs.Instances.{has_statement, instance_is_point, point_is_instance}
use Rattle.iteration_domains.proofs.domain_laws.domains_hold_the_instances.Goals as goal

pub returns-clause-statement : goal.returns-clause-statement
returns-clause-statement c = λ program params v.
    has_statement program params v
    (record {
      found = c.instances_are_those_of_statements.ensures.found program params;
      turns = c.instances_are_those_of_statements.ensures.turns;
      same = c.statements_are_numbered.ensures.same program;
    })

pub returns-clause-instances : goal.returns-clause-instances
returns-clause-instances c = λ program params s v.
    instance_is_point program params s v
    (record {
      found = c.instances_are_those_of_statements.ensures.found program params;
      turns = c.instances_are_those_of_statements.ensures.turns;
      same = c.statements_are_numbered.ensures.same program;
    })

pub returns-clause-points : goal.returns-clause-points
returns-clause-points c = λ program params s xs is count.
    point_is_instance program params s xs
    (λ p ys h runs. c.instances_are_those_of_statements.ensures.stands program params p ys is count h runs) count

pub returns-clause-once : goal.returns-clause-once
returns-clause-once c = λ program params s i j v w a b turns here there.
    c.walks_are_in_order.ensures.once program params i j v w here there (a.number ∙ sym b.number) turns
