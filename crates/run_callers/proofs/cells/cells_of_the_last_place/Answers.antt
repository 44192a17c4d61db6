use Rattle.scop_syntax.proofs.Common.{◌≡◌, ◌∙◌, ◌+◌, ◌%◌, ◌^◌, ℕ, true, ap, arith, get_or, nat_eq, eq-eqb}
use Rattle.scop_syntax.proofs.Common.{slice_get_within, Cell, cell_number, held, value_stored, is_marked}
use Rattle.tile_events.specs.Flat.{flat, written_by}
use Rattle.tile_events.specs.Plan.{Plan, stored}
use Rattle.tile_events.specs.Sound.{is_done}
use Rattle.tile_events.specs.Sums.{sum_of}
use Rattle.tile_core.specs.Plans.{extents_in, plain_shape, shape_of, walk_in, walk_plan}
use Rattle.tile_core.proofs.HeldCells.{unexpanded_is}
use Rattle.tile_core.proofs.Plans.{plain_is}
use Rattle.run_callers.proofs.LastPlaces.{last_done, none_done}
use Rattle.run_callers.proofs.cells.cells_of_the_last_place.Goals as goal

pub returns-clause-first : goal.returns-clause-first
returns-clause-first c plan contents s d is single shaped sound cell none =
    c.cells_are_those_of_the_execution.ensures.first plan contents s d is single shaped sound cell
    (none_done (walk_in plan) (shape_of plan) s d none)

pub returns-clause-last : goal.returns-clause-last
returns-clause-last c plan contents s d i v is single shaped sound cell plain end found writes over =
    c.cells_are_those_of_the_execution.ensures.last plan contents s d i v is single shaped sound cell plain
    (last_done (walk_in plan) (is_done (shape_of plan) s) d i v end found writes over)

pub returns-clause-sum : goal.returns-clause-sum
returns-clause-sum c plan contents s d v is shaped sound cell marked small one found writes over =
    let es = extents_in plan in
    let p = walk_plan plan (flat contents) in
    let n = cell_number es d in
    let here : nat_eq (p.written 0) n ≡ true =
    eq-eqb (p.written 0) n (ap (λ (q : Plan). q.written 0)
    (plain_is plan (flat contents) (unexpanded_is plan d.array is marked))
    ∙ (ap (written_by es) found ∙ ap (cell_number es) writes)) in
    let plain : is_marked plan.marked.now v.body.place.array ≡ true =
    ap (λ (e : Cell). is_marked plan.marked.now e.array) writes ∙ marked in
    let single : sum_of p (is_done (shape_of plan) s) 1 n ≡ stored p 0 = rw (over, here) (omega arith) in
    c.cells_are_those_of_the_execution.ensures.sum plan contents s d is shaped sound cell marked small
    ∙ ap (λ (m : ℕ). (held es contents d + m) % 2 ^ 64)
    (ap (λ (m : ℕ). sum_of p (is_done (shape_of plan) s) m n) one
    ∙ (single ∙ c.cells_are_those_of_the_execution.ensures.addend plan contents 0 v is shaped found plain))

pub returns-clause-kept : goal.returns-clause-kept
returns-clause-kept c plan contents s d is copied shaped sound cell =
    c.cells_are_those_of_the_execution.ensures.kept plan contents s d is copied shaped sound cell

pub returns-clause-copy : goal.returns-clause-copy
returns-clause-copy c plan contents s v is copied shaped sound found over =
    let cells = (plain_shape plan).cells in
    ap (λ (n : ℕ). get_or s.cells n 0) (let e : cells ≡ cells + 0 = omega arith in e)
    ∙ (c.cells_are_those_of_the_execution.ensures.copy plan contents s 0 is copied shaped sound
    (slice_get_within (walk_in plan) 0 v found) over ∙ ap (value_stored (extents_in plan) contents) found)
