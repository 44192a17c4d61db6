use Rattle.iteration_domains.proofs.Instances.{cells_are_touched}
use Rattle.iteration_domains.proofs.domain_laws.accesses_touch_the_cells.Goals as goal

pub returns : goal.returns
returns c = λ program params s v.
    cells_are_touched program params s v
    (record {
      found = c.instances_are_those_of_statements.ensures.found program params;
      turns = c.instances_are_those_of_statements.ensures.turns;
      same = c.statements_are_numbered.ensures.same program;
    })
