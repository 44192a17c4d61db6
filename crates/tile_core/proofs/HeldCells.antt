-- What cells hold between two events of a run, by the plan of the walk alone (`cell_words`), and with an expansion by
-- the walk's own execution: cells hold what they held at first (`kept_words`), and the copies of places that are done
-- what these store (`copy_words`).
use Rattle.scop_syntax.proofs.Common.{◌≡◌, ◌∙◌, ◌+◌, ◌<◌, ◌≤◌, ℕ, Bool, true, false, List, [], length, map, get_or}
use Rattle.scop_syntax.proofs.Common.{Some, Option, ap, sym, arith, if◌then◌else◌, slice_get, slice_get_within, Cell}
use Rattle.scop_syntax.proofs.Common.{cell_of, AreInside, IsCell, IsShaped, before_place, cell_number, held}
use Rattle.scop_syntax.proofs.Common.{value_stored, value_stored_at, In, AreMarked, is_marked, loads, Visit, there_is}
use Rattle.tile_events.specs.Copies.{AreSources, expanded}
use Rattle.tile_events.specs.Core.{State}
use Rattle.tile_events.specs.Flat.{IsWalk, flat, value_by}
use Rattle.tile_events.specs.Plan as events
use Rattle.tile_events.specs.Plan.{IsDealt, stored, values_read, words_of}
use Rattle.tile_events.specs.Sound.{Sound, is_done}
use Rattle.tile_core.specs.Marks.{values_loaded_by}
use Rattle.tile_core.specs.Plans.{IsPlan, extents_in, is_expanded, plain_plan, plan_of, shape_of, sources_in, walk_in}
use Rattle.tile_core.specs.Plans.{walk_plan, walk_shape}
use Rattle.tile_core.specs.declared.plan.Plan.{Plan}
use Rattle.tile_core.proofs.GatedPlans.{SameLaws, gated_words}
use Rattle.tile_core.proofs.Gates.{if_true, shape_extends, wider}
use Rattle.tile_core.proofs.Plans.{NumberLaws, by_copies, copied_is, copies_are, plain_is, reads_inside, stores}
use Rattle.tile_core.proofs.Plans.{unmarked_is, walk_over}

-- with an expansion there is a copy of each place
pub copies_there : (plan : Plan) (cells : List ℕ) → is_expanded plan ≡ true
    → (walk_plan plan cells).cells ≡ (plain_plan plan cells).cells + length (walk_in plan)
copies_there plan cells some = ap (λ (q : events.Plan). q.cells) (copied_is plan cells some)

-- where an array is marked, there is no expansion
pub unexpanded_is : (plan : Plan) (a : ℕ) → IsPlan plan → is_marked plan.marked.now a ≡ true → is_expanded plan ≡ false
unexpanded_is plan a is marked = by_copies plan (λ none. none)
    (λ some. let none = ap (λ (ms : List ℕ). is_marked ms a) (unmarked_is plan is some) in absurd cc)

-- a cell of the walk's plan
module _ (same : SameLaws) (plan : Plan) (is : IsPlan plan) (cells : List ℕ) (dealt : IsDealt (walk_plan plan cells))
    (s : State) (sound : Sound (plan_of plan cells) s) where
  pub cell_words : (c : ℕ) → c < (walk_shape plan).cells
      → get_or s.cells c 0 ≡ words_of (walk_plan plan cells) (is_done (shape_of plan) s) (length (walk_in plan)) c
  cell_words c less =
      let more = (shape_extends plan).cells in
      let inside : c < (plan_of plan cells).cells = omega (arith, less, more) in
      sound.cells c inside ∙ gated_words same plan is cells dealt (is_done (shape_of plan) s) c less

  pub cell_alone : is_expanded plan ≡ false → (c : ℕ) → c < (plain_plan plan cells).cells
      → get_or s.cells c 0 ≡ words_of (plain_plan plan cells) (is_done (shape_of plan) s) (length (walk_in plan)) c
  cell_alone none c less =
      let w = wider plan in
      cell_words c (omega (arith, less, w))
      ∙ ap (λ (q : events.Plan). words_of q (is_done (shape_of plan) s) (length (walk_in plan)) c)
      (plain_is plan cells none)

-- the laws of copies and of the walk's own execution
pub record RunLaws : Type 0 where
  pub numbers : NumberLaws
  pub reads : (p : events.Plan) (sources : ℕ → List (Option ℕ)) → ((c : ℕ) → p.adds c ≡ false)
      → ((j c : ℕ) → j < p.places → In c (p.read j) → c < p.cells)
      → ((j : ℕ) → j < p.places → AreSources p j (p.read j) (sources j)) → (j : ℕ) → j < p.places
      → values_read (expanded p sources) j ≡ values_read p j
  pub copies : (p : events.Plan) (sources : ℕ → List (Option ℕ)) (done : ℕ → Bool) (n i : ℕ)
      → ((c : ℕ) → p.adds c ≡ false) → i < n
      → words_of (expanded p sources) done n (p.cells + i) ≡ (if done i then stored (expanded p sources) i else 0)
  pub cells : (p : events.Plan) (sources : ℕ → List (Option ℕ)) (done : ℕ → Bool) (n c : ℕ) → c < p.cells
      → words_of (expanded p sources) done n c ≡ p.initial c
  pub executed : (extents contents : List (List ℕ)) (marked : List ℕ) (visits : List Visit) (p : events.Plan)
      → IsWalk extents contents marked visits p → AreMarked marked visits → IsShaped extents contents
      → AreInside extents visits → (k : ℕ) (v : Visit) → slice_get visits k ≡ Some v → k ≤ length visits
      → values_read p k ≡ map (λ access. held extents (before_place extents contents visits k)
      (cell_of access v.point)) (loads marked v.body)
  pub row : (extents contents : List (List ℕ)) (c : Cell) → IsShaped extents contents → IsCell extents c
      → get_or (flat contents) (cell_number extents c) 0 ≡ held extents contents c

module _ (laws : RunLaws) (plan : Plan) (is : IsPlan plan) (contents : List (List ℕ))
    (shaped : IsShaped (extents_in plan) contents) where
  abbrev cells : List ℕ
  cells = flat contents

  abbrev p : events.Plan
  p = plain_plan plan cells

  abbrev q : events.Plan
  q = expanded p (sources_in plan)

  pub walk_is : IsWalk (extents_in plan) contents plan.marked.now (walk_in plan) p
  walk_is = walk_over plan contents (λ d cell. laws.row (extents_in plan) contents d shaped cell)

  -- what the visit at a place loads
  module _ (j : ℕ) (v : Visit) (at : slice_get (walk_in plan) j ≡ Some v) where
    abbrev loaded : List ℕ
    loaded = values_loaded_by plan.marked.now (extents_in plan)
        (before_place (extents_in plan) contents (walk_in plan) j) v.body v.point

    plain_values : values_read p j ≡ loaded
    plain_values =
        let within = slice_get_within (walk_in plan) j v at in
        laws.executed (extents_in plan) contents plan.marked.now (walk_in plan) p walk_is is.marks shaped is.inside j v at
        (omega (arith, within))

    copied_values : is_expanded plan ≡ true → values_read q j ≡ loaded
    copied_values some =
        laws.reads p (sources_in plan) (stores laws.numbers plan is some) (reads_inside laws.numbers plan is cells)
        (copies_are laws.numbers plan is cells some) j (slice_get_within (walk_in plan) j v at) ∙ plain_values

    pub walk_values : values_read (walk_plan plan cells) j ≡ loaded
    walk_values = by_copies plan
        (λ none. ap (λ (r : events.Plan). values_read r j) (plain_is plan cells none) ∙ plain_values)
        (λ some. ap (λ (r : events.Plan). values_read r j) (copied_is plan cells some) ∙ copied_values some)

    copied_value : is_expanded plan ≡ true → stored q j ≡ value_stored_at (extents_in plan) contents (walk_in plan) j
    copied_value some =
        let before = before_place (extents_in plan) contents (walk_in plan) j in
        ap (p.value j) (copied_values some)
        ∙ (ap (λ (ms : List ℕ). value_by ms (slice_get (walk_in plan) j)
        (values_loaded_by ms (extents_in plan) before v.body v.point)) (unmarked_is plan is some)
        ∙ (ap (λ o. value_by [] o (values_loaded_by [] (extents_in plan) before v.body v.point)) at
        ∙ sym (ap (value_stored (extents_in plan) before) at)))

  pub copy_value : is_expanded plan ≡ true → (j : ℕ) → j < length (walk_in plan)
      → stored q j ≡ value_stored_at (extents_in plan) contents (walk_in plan) j
  copy_value some j less = let v = there_is (walk_in plan) j less in copied_value j v.0 v.1 some

  module _ (some : is_expanded plan ≡ true) (done : ℕ → Bool) where
    -- whichever places are done, a cell holds what it held at first
    pub kept_words : (d : Cell) → IsCell (extents_in plan) d
        → words_of (walk_plan plan cells) done (length (walk_in plan)) (cell_number (extents_in plan) d)
        ≡ held (extents_in plan) contents d
    kept_words d cell =
        let n = cell_number (extents_in plan) d in
        ap (λ (r : events.Plan). words_of r done (length (walk_in plan)) n) (copied_is plan cells some)
        ∙ (laws.cells p (sources_in plan) done (length (walk_in plan)) n (laws.numbers.below (extents_in plan) d cell)
        ∙ laws.row (extents_in plan) contents d shaped cell)

    -- and the copy of a done place what it stores
    pub copy_words : (j : ℕ) → j < length (walk_in plan) → done j ≡ true
        → words_of (walk_plan plan cells) done (length (walk_in plan)) (p.cells + j)
        ≡ value_stored_at (extents_in plan) contents (walk_in plan) j
    copy_words j less over =
        ap (λ (r : events.Plan). words_of r done (length (walk_in plan)) (p.cells + j)) (copied_is plan cells some)
        ∙ (laws.copies p (sources_in plan) done (length (walk_in plan)) j (stores laws.numbers plan is some) less
        ∙ (if_true (done j) (stored q j) 0 over ∙ copy_value some j less))
