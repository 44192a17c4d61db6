use Rattle.scop_syntax.proofs.Common.{arith, ◌∙◌, ◌+◌, ◌%◌, ◌^◌, ◌<◌, Bool, ℕ, [], ap, length, subst, sym, before_place}
use Rattle.scop_syntax.proofs.Common.{cell_number, held, added_by, is_marked}
use Rattle.tile_events.specs.Flat.{flat, value_by}
use Rattle.tile_events.specs.Plan.{Plan}
use Rattle.tile_events.specs.Sound.{Sound, is_done}
use Rattle.tile_events.specs.Sums.{sum_of}
use Rattle.tile_core.specs.Marks.{values_loaded_by}
use Rattle.tile_core.specs.Plans.{extents_in, plain_plan, plain_shape, shape_of, walk_in, walk_plan, walk_shape}
use Rattle.tile_core.proofs.GatedPlans.{SameLaws}
use Rattle.tile_core.proofs.Gates.{by_waves, if_true, wider}
use Rattle.tile_core.proofs.HeldCells.{RunLaws, cell_alone, cell_words, copies_there, copy_words, kept_words}
use Rattle.tile_core.proofs.HeldCells.{unexpanded_is, walk_is, walk_values}
use Rattle.tile_core.proofs.Marks.{adds_is, no_edges}
use Rattle.tile_core.proofs.Plans.{plain_is}
use Rattle.tile_core.proofs.cell_laws.cells_are_those_of_the_execution.Goals as goal
use Rattle.tile_core.proofs.cell_laws.cells_are_those_of_the_execution.Goals.{After-cells_have_numbers_of_their_own}

same : After-cells_have_numbers_of_their_own → SameLaws
same c = record {
  reads = c.pairs_make_plans.ensures.reads;
  end = c.pairs_make_plans.ensures.end;
  words = c.pairs_make_plans.ensures.words;
}

laws : After-cells_have_numbers_of_their_own → RunLaws
laws c = record {
  numbers = record {
    below = c.cells_have_numbers_of_their_own.ensures.below;
    apart = c.cells_have_numbers_of_their_own.ensures.apart;
  };
  reads = c.copies_keep_what_is_read.ensures.reads;
  copies = c.copies_keep_what_is_read.ensures.copies;
  cells = c.copies_keep_what_is_read.ensures.cells;
  executed = c.plans_execute_the_walk.ensures.reads;
  row = c.plans_execute_the_walk.ensures.row;
}

pub returns-clause-last : goal.returns-clause-last
returns-clause-last c plan contents s d i v is unexpanded shaped sound cell plain last =
    let a = (goal.at.returns-clause-last c).After-cells_have_numbers_of_their_own in
    let es = extents_in plan in
    cell_alone (same a) plan is (flat contents) (c.walks_are_dealt.ensures.dealt plan (flat contents) is) s sound
    unexpanded (cell_number es d) (c.cells_have_numbers_of_their_own.ensures.below es d cell)
    ∙ c.cells_hold_what_is_done.ensures.last es contents plan.marked.now (walk_in plan) (plain_plan plan (flat contents))
    (is_done (shape_of plan) s) (walk_is (laws a) plan is contents shaped) is.marks shaped is.inside d i v cell plain last

pub returns-clause-first : goal.returns-clause-first
returns-clause-first c plan contents s d is unexpanded shaped sound cell none =
    let a = (goal.at.returns-clause-first c).After-cells_have_numbers_of_their_own in
    let es = extents_in plan in
    cell_alone (same a) plan is (flat contents) (c.walks_are_dealt.ensures.dealt plan (flat contents) is) s sound
    unexpanded (cell_number es d) (c.cells_have_numbers_of_their_own.ensures.below es d cell)
    ∙ c.cells_hold_what_is_done.ensures.first es contents plan.marked.now (walk_in plan)
    (plain_plan plan (flat contents)) (is_done (shape_of plan) s) (walk_is (laws a) plan is contents shaped) is.inside d
    cell none

pub returns-clause-sum : goal.returns-clause-sum
returns-clause-sum c plan contents s d is shaped sound cell marked small =
    let es = extents_in plan in
    let n = cell_number es d in
    let p = walk_plan plan (flat contents) in
    let below = c.cells_have_numbers_of_their_own.ensures.below es d cell in
    let wide = wider plan in
    let first = ap (λ (q : Plan). q.initial n) (plain_is plan (flat contents) (unexpanded_is plan d.array is marked))
    ∙ c.plans_execute_the_walk.ensures.row es contents d shaped cell in
    let adds = adds_is es plan.marked.now d cell ∙ marked in
    let alone = by_waves plan (flat contents) (no_edges plan n adds is) in
    c.cells_hold_their_sums.ensures p s n (subst (λ (q : Plan). Sound q s) alone sound) (omega (arith, below, wide)) adds
    (subst (λ (m : ℕ). m < 18446744073709551616) (sym first) small)
    ∙ ap (λ (m : ℕ). (m + sum_of p (is_done p s) (length (walk_in plan)) n) % 2 ^ 64) first
    ∙ ap (λ (f : ℕ → Bool). (held es contents d + sum_of p f (length (walk_in plan)) n) % 2 ^ 64)
    (ap (λ (q : Plan). is_done q s) (sym (by_waves plan [] (no_edges plan n adds is))))

pub returns-clause-addend : goal.returns-clause-addend
returns-clause-addend c plan contents j v is shaped at marked =
    let a = (goal.at.returns-clause-addend c).After-cells_have_numbers_of_their_own in
    let es = extents_in plan in
    let p = walk_plan plan (flat contents) in
    let xs = values_loaded_by plan.marked.now es (before_place es contents (walk_in plan) j) v.body v.point in
    ap (p.value j) (walk_values (laws a) plan is contents shaped j v at)
    ∙ (ap (λ o. value_by plan.marked.now o xs) at
    ∙ if_true (is_marked plan.marked.now v.body.place.array) (added_by v.body.right v.point xs) _ marked)

pub returns-clause-kept : goal.returns-clause-kept
returns-clause-kept c plan contents s d is some shaped sound cell =
    let a = (goal.at.returns-clause-kept c).After-cells_have_numbers_of_their_own in
    let es = extents_in plan in
    let below = c.cells_have_numbers_of_their_own.ensures.below es d cell in
    let wide = wider plan in
    cell_words (same a) plan is (flat contents) (c.walks_are_dealt.ensures.dealt plan (flat contents) is) s sound
    (cell_number es d) (omega (arith, below, wide))
    ∙ kept_words (laws a) plan is contents shaped some (is_done (shape_of plan) s) d cell

pub returns-clause-copy : goal.returns-clause-copy
returns-clause-copy c plan contents s j is some shaped sound less done =
    let a = (goal.at.returns-clause-copy c).After-cells_have_numbers_of_their_own in
    let there = copies_there plan (flat contents) some in
    let among : (plain_shape plan).cells + j < (walk_shape plan).cells = omega (arith, less, there) in
    cell_words (same a) plan is (flat contents) (c.walks_are_dealt.ensures.dealt plan (flat contents) is) s sound
    ((plain_shape plan).cells + j) among
    ∙ copy_words (laws a) plan is contents shaped some (is_done (shape_of plan) s) j less done
