use Rattle.scop_syntax.proofs.Common.{◌≤◌, List, arith, length, length-map, IsKernel, In, Program}
use Rattle.iteration_domains.specs.Dependence.{Dependence}
use Rattle.iteration_domains.specs.Model.{Modelled, model_of}
use Rattle.iteration_domains.specs.Sizes.{IsKernelModel}
use Rattle.iteration_domains.proofs.TreeStatements.{one_model}
use Rattle.schedule_rows.specs.Items.{Block}
use Rattle.schedule_rows.specs.Next.{IsSizedDep}
use Rattle.schedule_rows.specs.Outcomes.{IsSchedule}
use Rattle.schedule_rows.specs.Schedule.{loops_in}
use Rattle.schedule_rows.proofs.Measures.{VectorLaws}
use Rattle.tile_skew.specs.steps.Facts.{StatementFacts}
use Rattle.tile_skew.proofs.Counts.{loops_few, statements_few}
use Rattle.tile_skew.proofs.JoinedPairs.{joined_few}
use Rattle.tile_skew.proofs.Ranks.{schedule_few}
use Rattle.tile_skew.proofs.ScannableSets.{HasSchedule, sets_bounded, sets_few, sets_of_statements, sets_rise}
use Rattle.tile_skew.proofs.TurnBounds.{turns_bounded}
use Rattle.tile_skew.proofs.laws.scan_sets_can_be_scanned.Goals as goal

-- the model of a kernel
one : (c : goal.After-schedules_have_small_items) (program : Program) → IsKernel program
    → IsKernelModel (model_of program)
one c program kernel =
    one_model program kernel (c.statements_are_numbered.ensures.same program)
    (c.statements_are_numbered.ensures.number program)

known : (c : goal.After-schedules_have_small_items) (program : Program) (deps : List Dependence)
    (blocks : List Block) → IsKernel program
    → ((d : Dependence) → In d deps → IsSizedDep (loops_in (model_of program)) d)
    → IsSchedule (model_of program).parameters (loops_in (model_of program)) deps blocks → HasSchedule program blocks
known c program deps blocks kernel sized schedule =
    let model = model_of program in
    let loops = loops_in model in
    let facts : StatementFacts program = record {
      loops = c.statements_are_numbered.ensures.loops program;
      placed = λ p i. c.statements_are_numbered.ensures.placed program p kernel i;
    } in
    let laws : VectorLaws = record {
      most = c.rows_take_kernel_vectors.ensures.most;
      grows = c.rows_take_kernel_vectors.ensures.grows;
      more = c.kernel_vectors_are_kept.ensures.more;
    } in
    let few : length loops ≤ 32 =
    let l = length-map model.statements (λ (m : Modelled). m.domain.dimensions) in
    let s = statements_few program kernel in
    omega arith in
    record {
      kernel = kernel;
      model = one c program kernel;
      facts = facts;
      sized = c.schedules_have_small_items.ensures model.parameters loops deps blocks schedule;
      few = schedule_few laws 5 1024 model.parameters loops deps blocks (loops_few program facts)
          (joined_few (length loops) deps few) sized schedule;
    }

pub returns-clause-bounded : goal.returns-clause-bounded
returns-clause-bounded c program deps blocks size s kernel positive small sized schedule among =
    sets_bounded program blocks size s (known c program deps blocks kernel sized schedule)
    (λ m i d ts ps. turns_bounded program m d ts ps kernel i) positive small among

pub returns-clause-parts : goal.returns-clause-parts
returns-clause-parts c program deps blocks size s kernel sized schedule among =
    sets_few program blocks size s (known c program deps blocks kernel sized schedule) among

pub returns-clause-rise : goal.returns-clause-rise
returns-clause-rise c program blocks size kernel = sets_rise program blocks size (one c program kernel)

pub returns-clause-statements : goal.returns-clause-statements
returns-clause-statements c program blocks size s among =
    sets_of_statements program blocks size s (c.statements_are_numbered.ensures.number program) among
