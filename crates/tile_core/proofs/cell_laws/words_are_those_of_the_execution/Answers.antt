use Rattle.scop_syntax.proofs.Common.{◌∙◌, ◌+◌, map, subst, cell_number}
use Rattle.tile_events.specs.Flat.{flat}
use Rattle.tile_events.specs.Plan.{Plan}
use Rattle.tile_events.specs.Rule.{core}
use Rattle.tile_events.specs.Sound.{Sound}
use Rattle.tile_events.proofs.Words.{word_of_cell}
use Rattle.tile_core.specs.Plans.{extents_in, plain_shape}
use Rattle.tile_core.specs.Views.{worker_in}
use Rattle.tile_core.proofs.Gates.{same_plan}
use Rattle.tile_core.proofs.cell_laws.words_are_those_of_the_execution.Goals as goal

pub returns-clause-last : goal.returns-clause-last
returns-clause-last c key st contents d i v ruled is unexpanded shaped same cell plain last =
    let s = core st.words (map worker_in st.views) in
    word_of_cell st.words (cell_number (extents_in key.plan) d) ruled.long
    ∙ c.cells_are_those_of_the_execution.ensures.last key.plan contents s d i v is unexpanded shaped
    (subst (λ (p : Plan). Sound p s) (same_plan key.plan key.cells.items (flat contents) same) ruled.sound) cell plain last

pub returns-clause-first : goal.returns-clause-first
returns-clause-first c key st contents d ruled is unexpanded shaped same cell none =
    let s = core st.words (map worker_in st.views) in
    word_of_cell st.words (cell_number (extents_in key.plan) d) ruled.long
    ∙ c.cells_are_those_of_the_execution.ensures.first key.plan contents s d is unexpanded shaped
    (subst (λ (p : Plan). Sound p s) (same_plan key.plan key.cells.items (flat contents) same) ruled.sound) cell none

pub returns-clause-sum : goal.returns-clause-sum
returns-clause-sum c key st contents d ruled is shaped same cell marked small =
    let s = core st.words (map worker_in st.views) in
    word_of_cell st.words (cell_number (extents_in key.plan) d) ruled.long
    ∙ c.cells_are_those_of_the_execution.ensures.sum key.plan contents s d is shaped
    (subst (λ (p : Plan). Sound p s) (same_plan key.plan key.cells.items (flat contents) same) ruled.sound) cell marked small

pub returns-clause-kept : goal.returns-clause-kept
returns-clause-kept c key st contents d ruled is some shaped same cell =
    let s = core st.words (map worker_in st.views) in
    word_of_cell st.words (cell_number (extents_in key.plan) d) ruled.long
    ∙ c.cells_are_those_of_the_execution.ensures.kept key.plan contents s d is some shaped
    (subst (λ (p : Plan). Sound p s) (same_plan key.plan key.cells.items (flat contents) same) ruled.sound) cell

pub returns-clause-copy : goal.returns-clause-copy
returns-clause-copy c key st contents j ruled is some shaped same less done =
    let s = core st.words (map worker_in st.views) in
    word_of_cell st.words ((plain_shape key.plan).cells + j) ruled.long
    ∙ c.cells_are_those_of_the_execution.ensures.copy key.plan contents s j is some shaped
    (subst (λ (p : Plan). Sound p s) (same_plan key.plan key.cells.items (flat contents) same) ruled.sound) less done
