use Rattle.scop_syntax.proofs.Common.{◌≡◌, ◌∙◌, ◌+◌, ◌%◌, ◌^◌, ℕ, ap, arith, map, slice_get_within, slice_index}
use Rattle.scop_syntax.proofs.Common.{cell_number, held, value_stored}
use Rattle.tile_events.specs.Flat.{flat}
use Rattle.tile_events.specs.Rule.{core}
use Rattle.tile_events.specs.Sound.{is_done}
use Rattle.tile_events.specs.Sums.{sum_of}
use Rattle.tile_core.specs.Plans.{extents_in, plain_shape, shape_of, walk_in, walk_plan}
use Rattle.tile_core.specs.Views.{worker_in}
use Rattle.run_callers.proofs.LastPlaces.{last_done, none_done}
use Rattle.run_callers.proofs.cells.words_of_the_last_place.Goals as goal

pub returns-clause-first : goal.returns-clause-first
returns-clause-first c key st contents d ruled is single shaped same cell none =
    c.words_are_those_of_the_execution.ensures.first key st contents d ruled is single shaped same cell
    (none_done (walk_in key.plan) (shape_of key.plan) (core st.words (map worker_in st.views)) d none)

pub returns-clause-last : goal.returns-clause-last
returns-clause-last c key st contents d i v ruled is single shaped same cell plain end found writes over =
    c.words_are_those_of_the_execution.ensures.last key st contents d i v ruled is single shaped same cell plain
    (last_done (walk_in key.plan) (is_done (shape_of key.plan) (core st.words (map worker_in st.views))) d i v end found
    writes over)

pub returns-clause-sum : goal.returns-clause-sum
returns-clause-sum c key st contents d ruled is shaped same cell marked small none =
    let es = extents_in key.plan in
    c.words_are_those_of_the_execution.ensures.sum key st contents d ruled is shaped same cell marked small
    ∙ ap (λ (m : ℕ). (held es contents d + sum_of (walk_plan key.plan (flat contents))
    (is_done (shape_of key.plan) (core st.words (map worker_in st.views))) m (cell_number es d)) % 2 ^ 64) none

pub returns-clause-kept : goal.returns-clause-kept
returns-clause-kept c key st contents d ruled is copied shaped same cell =
    c.words_are_those_of_the_execution.ensures.kept key st contents d ruled is copied shaped same cell

pub returns-clause-copy : goal.returns-clause-copy
returns-clause-copy c key st contents v ruled is copied shaped same found over =
    let cells = (plain_shape key.plan).cells in
    ap (slice_index st.words) (let e : cells + 2 ≡ cells + 0 + 2 = omega arith in e)
    ∙ (c.words_are_those_of_the_execution.ensures.copy key st contents 0 ruled is copied shaped same
    (slice_get_within (walk_in key.plan) 0 v found) over ∙ ap (value_stored (extents_in key.plan) contents) found)
