use Rattle.scop_syntax.proofs.Common.{◌∙◌, subst, sym, is_some, program_of}
use Rattle.loop_tree.specs.TilingView.{tiling_of}
use Rattle.loop_tree.specs.View.{trees_in}
use Rattle.polypar.specs.Expanding.{marks_by}
use Rattle.polypar.specs.Runs.{IsPlanTold}
use Rattle.polypar.proofs.CourseLemmas.{none_by_copies, trees_of_course}
use Rattle.polypar.proofs.MarkLemmas.{marks_added, none_added, told_by}
use Rattle.polypar.proofs.run.run_planned.Goals as goal

pub run_case-requires-clause-marks : goal.run_case-requires-clause-marks
run_case-requires-clause-marks g c =
    marks_added c.marks_are_the_reduced_arrays.ensures.walk c.args.options (program_of c.args.kernel.now)
    c.args.case.now.params.items (tiling_of c.in_ok-plan.field-0.plan.tiling) c.as_slice-marked.result.now
    c.added.result.now (c.as_slice-marked.ensures.value ∙ c.in_ok-marks.ensures) c.added.ensures.added

pub run_case-requires-clause-trees : goal.run_case-requires-clause-trees
run_case-requires-clause-trees g c =
    trees_of_course c.args.options (program_of c.args.kernel.now) c.args.case.now.params.items
    c.as_slice-marked.result.now c.added.result.now c.in_ok-plan.field-0 c.in_ok-plan.ensures
    (c.as_slice-marked.ensures.value ∙ c.in_ok-marks.ensures) c.added.ensures.added

pub run_case-requires-clause-unmarked : goal.run_case-requires-clause-unmarked
run_case-requires-clause-unmarked g c =
    let course = c.in_ok-plan.field-0 in
    none_by_copies course.sources (tiling_of course.plan.tiling)
    (marks_by c.args.options (program_of c.args.kernel.now)) c.as_slice-marked.result.now c.added.result.now
    c.in_ok-plan.ensures.unmarked (c.as_slice-marked.ensures.value ∙ c.in_ok-marks.ensures) c.added.ensures.added

pub run_case-requires-clause-alone : goal.run_case-requires-clause-alone
run_case-requires-clause-alone g c =
    none_added c.args.options.sync c.is_empty-unmarked.result c.are_released.result
    (tiling_of c.in_ok-plan.field-0.plan.tiling) c.as_slice-marked.result.now c.added.result.now
    c.is_empty-unmarked.ensures c.are_released.ensures c.added.ensures.added

pub returns-in-Ok-clause-told : goal.returns-in-Ok-clause-told
returns-in-Ok-clause-told g c =
    let params = c.args.case.now.params.items in
    let program = program_of c.args.kernel.now in
    let course = c.in_ok-plan.field-0 in
    let plan = course.plan in
    let counts = c.in-Ok.counts in
    let ran = c.in_ok-run_lines-in-Ok.field-0 in
    subst (λ n. IsPlanTold c.args.options program params n.tiles n.waves ran.lines.items)
    (sym c.in_ok-run_lines-in-Ok.ensures.counts)
    (told_by c.args.options program params c.as_slice-marked.result.now c.is_empty-unmarked.result
    c.are_released.result course.unexpanded (is_some course.sources) (tiling_of plan.tiling) (trees_in plan.tree)
    plan.lines.items counts.tiles counts.waves counts.edges ran.lines.items
    (c.as_slice-marked.ensures.value ∙ c.in_ok-marks.ensures) c.is_empty-unmarked.ensures c.are_released.ensures
    c.in_ok-plan.ensures.goes c.in-Ok.ensures.tiles c.in-Ok.ensures.waves c.in-Ok.ensures.edges
    c.in_ok-run_lines-in-Ok.ensures.lines)
