use Rattle.scop_syntax.proofs.Common.{◌≡◌, ◌+◌, [], length, subst, refl, arith}
use Rattle.loop_tree.specs.Shape.{TreesAreOver}
use Rattle.loop_tree.specs.Source.{source_of}
use Rattle.iteration_domains.specs.Path.{path_at}
use Rattle.iteration_domains.proofs.TreeStatements.{can_kernel}
use Rattle.loop_tree.proofs.Sources.{sources_flat, sources_serial}
use Rattle.loop_tree.proofs.SourceSizes.{sources_over}
use Rattle.loop_tree.proofs.Numbers.{sources_up_to}
use Rattle.loop_tree.proofs.SourceInstances.{sources_of_statements, program_stands}
use Rattle.loop_tree.proofs.Wholes.{visited, walkable}
use Rattle.loop_tree.proofs.source_laws.source_trees_visit_the_walk.Goals as goal

pub returns-clause-visits : goal.returns-clause-visits
returns-clause-visits c = visited

pub returns-clause-walk : goal.returns-clause-walk
returns-clause-walk c = λ program params has.
    walkable program params has (record {
      found = c.instances_are_those_of_statements.ensures.found program params;
      turns = c.instances_are_those_of_statements.ensures.turns;
      few = λ p h. (c.statements_are_numbered.ensures.placed program p has.kernel h).few_loops;
      small = λ xs p h r. c.values_lie_within_45_bits.ensures.turns program params xs p has h r;
    })

pub returns-clause-flat : goal.returns-clause-flat
returns-clause-flat c = λ program is.
    sources_flat (path_at (length program.parameters) [] []) program.body 0 (can_kernel program is)

pub returns-clause-serial : goal.returns-clause-serial
returns-clause-serial c = λ program. sources_serial (path_at (length program.parameters) [] []) program.body 0

pub returns-clause-over : goal.returns-clause-over
returns-clause-over c = λ program is.
    let none : 0 + length program.parameters ≡ length program.parameters = omega arith in
    subst (λ n. TreesAreOver n (source_of program)) none
    (sources_over (path_at (length program.parameters) [] []) program.body 0 (can_kernel program is))

pub returns-clause-instances : goal.returns-clause-instances
returns-clause-instances c = λ program.
    let root = path_at (length program.parameters) [] [] in
    sources_of_statements program root program.body 0 (program_stands program root refl)

pub returns-clause-small : goal.returns-clause-small
returns-clause-small c = λ program is.
    sources_up_to (path_at (length program.parameters) [] []) program.body 0 (can_kernel program is)
