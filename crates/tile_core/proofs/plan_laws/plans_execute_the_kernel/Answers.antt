use Rattle.scop_syntax.proofs.Common.{arith, ◌∙◌, ◌+◌, ◌<◌, ap, length, refl, sym, true, slice_get_within, cell_number}
use Rattle.tile_events.specs.Flat.{flat}
use Rattle.tile_events.specs.Plan as events
use Rattle.tile_events.specs.Plan.{before}
use Rattle.tile_events.specs.Sound.{is_done}
use Rattle.tile_events.proofs.Cells.{words_all}
use Rattle.tile_core.specs.Plans.{extents_in, plain_plan, plain_shape, plan_of, shape_of, walk_in, walk_plan, walk_shape}
use Rattle.tile_core.proofs.GatedPlans.{SameLaws, gated_end, gated_reads}
use Rattle.tile_core.proofs.Gates.{same_plan, shape_extends, wider}
use Rattle.tile_core.proofs.HeldCells.{RunLaws, cell_words, copies_there, copy_words, kept_words, walk_is, walk_values}
use Rattle.tile_core.proofs.Plans.{plain_is}
use Rattle.tile_core.proofs.plan_laws.plans_execute_the_kernel.Goals as goal
use Rattle.tile_core.proofs.plan_laws.plans_execute_the_kernel.Goals.{After-all_interleavings_agree}

same : After-all_interleavings_agree → SameLaws
same c = record {
  reads = c.pairs_make_plans.ensures.reads;
  end = c.pairs_make_plans.ensures.end;
  words = c.pairs_make_plans.ensures.words;
}

laws : After-all_interleavings_agree → RunLaws
laws c = record {
  numbers = record {
    below = c.cells_have_numbers_of_their_own.ensures.below;
    apart = c.cells_have_numbers_of_their_own.ensures.apart;
  };
  reads = c.copies_keep_what_is_read.ensures.reads;
  copies = c.copies_keep_what_is_read.ensures.copies;
  cells = c.copies_keep_what_is_read.ensures.cells;
  executed = c.plans_execute_the_walk.ensures.reads;
  row = c.plans_execute_the_walk.ensures.row;
}

pub returns-clause-row : goal.returns-clause-row
returns-clause-row c = λ plan contents cells holds. same_plan plan cells (flat contents) holds

pub returns-clause-reads : goal.returns-clause-reads
returns-clause-reads c = λ plan contents j v is shaped at.
    let a = (goal.at.returns-clause-reads c).After-all_interleavings_agree in
    gated_reads (same a) plan is (flat contents) (c.walks_are_dealt.ensures.dealt plan (flat contents) is) j
    (slice_get_within (walk_in plan) j v at)
    ∙ walk_values (laws a) plan is contents shaped j v at

pub returns-clause-end : goal.returns-clause-end
returns-clause-end c = λ plan contents s is none shaped sound quiet d cell.
    let a = (goal.at.returns-clause-end c).After-all_interleavings_agree in
    let cells = flat contents in
    let n = cell_number (extents_in plan) d in
    let below = c.cells_have_numbers_of_their_own.ensures.below (extents_in plan) d cell in
    let wide = wider plan in
    let more = (shape_extends plan).cells in
    let among : n < (walk_shape plan).cells = omega (arith, below, wide) in
    let inside : n < (plan_of plan cells).cells = omega (arith, among, more) in
    c.all_interleavings_agree.ensures.end (plan_of plan cells) s (c.plans_are_good.ensures.dealt plan cells is) sound
    quiet n inside
    ∙ (gated_end (same a) plan is cells (c.walks_are_dealt.ensures.dealt plan cells is) n among
    ∙ (ap (λ (q : events.Plan). before q (length (walk_in plan)) n) (plain_is plan cells none)
    ∙ c.plans_execute_the_walk.ensures.end (extents_in plan) contents plan.marked.now (walk_in plan)
    (plain_plan plan cells) (walk_is (laws a) plan is contents shaped) is.marks shaped is.inside d cell))

pub returns-clause-kept : goal.returns-clause-kept
returns-clause-kept c = λ plan contents s is some shaped sound d cell.
    let a = (goal.at.returns-clause-kept c).After-all_interleavings_agree in
    let n = cell_number (extents_in plan) d in
    let below = c.cells_have_numbers_of_their_own.ensures.below (extents_in plan) d cell in
    let wide = wider plan in
    cell_words (same a) plan is (flat contents) (c.walks_are_dealt.ensures.dealt plan (flat contents) is) s sound n
    (omega (arith, below, wide))
    ∙ kept_words (laws a) plan is contents shaped some (is_done (shape_of plan) s) d cell

pub returns-clause-copies : goal.returns-clause-copies
returns-clause-copies c = λ plan contents s is some shaped sound quiet j less.
    let a = (goal.at.returns-clause-copies c).After-all_interleavings_agree in
    let cells = flat contents in
    let n = (plain_shape plan).cells + j in
    let there = copies_there plan cells some in
    let more = (shape_extends plan).cells in
    let among : n < (walk_shape plan).cells = omega (arith, less, there) in
    let inside : n < (plan_of plan cells).cells = omega (arith, among, more) in
    c.all_interleavings_agree.ensures.end (plan_of plan cells) s (c.plans_are_good.ensures.dealt plan cells is) sound
    quiet n inside
    ∙ (gated_end (same a) plan is cells (c.walks_are_dealt.ensures.dealt plan cells is) n among
    ∙ (sym (words_all (walk_plan plan cells) (λ i. true) (length (walk_in plan)) n (λ i l. refl))
    ∙ copy_words (laws a) plan is contents shaped some (λ i. true) j less refl))
