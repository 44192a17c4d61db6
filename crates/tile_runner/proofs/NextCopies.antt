-- What the loads and the store of an instance ask where each instance has a copy of its own.
use Rattle.scop_syntax.proofs.Common.{◌≡◌, ◌∙◌, ◌<◌, ℕ, true, false, List, length, get_or, ap, subst, arith, sym}
use Rattle.scop_syntax.specs.declared.instance.Instance.{Instance}
use Rattle.tile_events.specs.Plan as events
use Rattle.tile_core.specs.Plans.{IsPlan, extents_in, is_expanded, place_of, walk_plan, walk_shape}
use Rattle.tile_core.specs.Views.{done_at, tile_at}
use Rattle.tile_core.specs.Workers.{IsDue}
use Rattle.tile_core.specs.declared.plan.Plan.{Plan}
use Rattle.tile_core.specs.declared.worker.Stage.{Stage}
use Rattle.tile_core.specs.declared.worker.Stage.TheVariants.{Working}
use Rattle.tile_core.proofs.Marks.{none_added}
use Rattle.tile_core.proofs.Plans.{unmarked_is}
use Rattle.array_words.specs.Loads.{IsNextRead}
use Rattle.array_words.specs.Stores.{IsNextStore}

module _ (plan : Plan) (s : Stage) (i : Instance) (due : IsDue plan s i) where
  -- it is one of its tile's
  pub is_within : (t k : ℕ) → s ≡ Working t k → k < (walk_shape plan).size t
  is_within t k works =
      subst (λ (u : Stage). done_at u < (walk_shape plan).size (tile_at u)) (sym due.works ∙ works) due.left

  module _ (cells : List ℕ) where
    abbrev p : events.Plan
    p = walk_plan plan cells

    -- where the first n are read, the next read is that of number n
    pub copy_read : (xs : List ℕ) (n c : ℕ) → length xs ≡ n → n < length (p.read (place_of plan i))
        → c ≡ get_or (p.read (place_of plan i)) n 0 → IsNextRead p s xs c
    copy_read xs n c long less at =
        subst (λ (u : Stage). IsNextRead p u xs c) (sym due.works)
        (subst (λ (j : ℕ). (due.count < p.size due.tile) × (length xs < length (p.read j))
        × (c ≡ get_or (p.read j) (length xs) 0)) due.place (
          due.left,
          omega (arith, long, less),
          at ∙ ap (λ (m : ℕ). get_or (p.read (place_of plan i)) m 0) (sym long),
        ))

    -- where all are, it stores what they make of it
    pub copy_store : IsPlan plan → is_expanded plan ≡ true → (xs : List ℕ) (c x : ℕ)
        → length xs ≡ length (p.read (place_of plan i)) → c ≡ p.written (place_of plan i)
        → x ≡ p.value (place_of plan i) xs → IsNextStore p s xs c x
    copy_store is copied xs c x long at made =
        subst (λ (u : Stage). IsNextStore p u xs c x) (sym due.works)
        (subst (λ (j : ℕ). (due.count < p.size due.tile) × (length xs ≡ length (p.read j))
        × (p.adds (p.written j) ≡ false) × (c ≡ p.written j) × (x ≡ p.value j xs)) due.place (
          due.left,
          long,
          none_added (extents_in plan) plan.marked.now (p.written (place_of plan i)) (unmarked_is plan is copied),
          at,
          made,
        ))
