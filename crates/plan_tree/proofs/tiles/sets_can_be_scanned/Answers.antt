use Rattle.scop_syntax.proofs.Common.{pos, length}
use Rattle.iteration_domains.specs.Model.{model_of}
use Rattle.plan_tree.specs.steps.Scanning.{sets_of}
use Rattle.plan_tree.proofs.ScannableSets.{are_scanned, few_dimensions, many_parameters, numbers_rise}
use Rattle.plan_tree.proofs.tiles.sets_can_be_scanned.Goals as goal

pub returns-clause-scanned : goal.returns-clause-scanned
returns-clause-scanned c program marked size blocks is =
    are_scanned (length program.parameters) (sets_of program size blocks)
    (c.scan_sets_are_alike.ensures (pos size) blocks (model_of program))
    (λ s i. c.scan_sets_can_be_scanned.ensures.parts program is.deps blocks size s is.kernel is.sized is.schedule i)
    (λ s i. c.scan_sets_can_be_scanned.ensures.bounded program is.deps blocks size s is.kernel is.some is.few is.sized
    is.schedule i)

pub returns-clause-rise : goal.returns-clause-rise
returns-clause-rise c program marked size blocks is =
    numbers_rise (sets_of program size blocks)
    (c.scan_sets_can_be_scanned.ensures.rise program blocks size is.kernel)

pub returns-clause-few : goal.returns-clause-few
returns-clause-few c program marked size blocks is =
    few_dimensions (length program.parameters) (sets_of program size blocks)
    (λ s i. c.scan_sets_can_be_scanned.ensures.parts program is.deps blocks size s is.kernel is.sized is.schedule i)

pub returns-clause-parameters : goal.returns-clause-parameters
returns-clause-parameters c program marked size blocks is some =
    many_parameters (length program.parameters) (sets_of program size blocks)
    (λ s i. c.scan_sets_can_be_scanned.ensures.parts program is.deps blocks size s is.kernel is.sized is.schedule i) some
