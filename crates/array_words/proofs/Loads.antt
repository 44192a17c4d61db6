-- A load of the cell that the next instance of a seat's worker reads next is allowed by the rule of its table.
use Rattle.scop_syntax.proofs.Common.{◌≡◌, ℕ, ◌+◌, ◌<◌, ◌≤◌, ◌∙◌, List, [], ◌∷◌, ◌++◌, length, get_or, ap, ap₂, arith}
use Rattle.scop_syntax.proofs.Common.{refl, sym, subst, in_at}
use mathlib.Core.Option.{none}
use Rattle.atomic_table.specs.Table.{Me, Allows, step}
use Rattle.atomic_table.specs.declared.shared.Seat.{Seat}
use Rattle.tile_events.specs.Plan.{IsDealt, values_read}
use Rattle.tile_events.specs.Core.{cell_read}
use Rattle.tile_events.specs.Allowed.{LoadIsAllowed}
use Rattle.tile_core.specs.declared.plan.Plan.{Plan}
use Rattle.tile_core.specs.declared.worker.Stage.{Stage}
use Rattle.tile_core.specs.declared.worker.Stage.TheVariants.{Idle, Ended, Holding, Working}
use Rattle.tile_core.specs.declared.view.View.{View}
use Rattle.tile_core.specs.declared.view.Key.{Key}
use Rattle.tile_core.specs.declared.words.Words.{Words}
use Rattle.tile_core.specs.Plans.{plan_of}
use Rattle.tile_core.specs.Workers.{staged}
use Rattle.tile_core.specs.Views.{key_plan, plan_at, worker_in, parts_in, clock_in, at_stage, behind}
use Rattle.tile_core.specs.Views.{executed, Ruled}
use Rattle.tile_core.specs.Passes.{plan_in, walk_in}
use Rattle.array_words.specs.Loads.{IsNextRead, Loads}
use Rattle.array_words.specs.Seats.{IsSeat}
use Rattle.array_words.proofs.Instances.{read_next, tile_in}

module _ (words : Words) (seat : Seat (Unit {0}) View) where
  abbrev MayLoad : Words → Seat (Unit {0}) View → ℕ → Type 0
  MayLoad words seat c =
      Allows (Ruled words.table.shared.key) words.table.shared.table_id.slots seat.id seat.me (c + 2) (λ n. n)
      (Loads (step words.table.shared.table_id.slots (c + 2) 0 0 none) seat.me)

  loads_at : LoadIsAllowed Loads → (s : Stage) (xs : List ℕ) (c : ℕ) → IsSeat words s xs seat
      → IsNextRead (key_plan words.table.shared.key) s xs c → MayLoad words seat c
  loads_at allowed Idle xs c is next = absurd next
  loads_at allowed Ended xs c is next = absurd next
  loads_at allowed (Holding t) xs c is next = absurd next
  loads_at allowed (Working t k) xs c is (less, more, at) =
      let key : Key = words.table.shared.key in
      let me : Me (Unit {0}) View = seat.me in
      let value : executed (plan_at me.0.key) me.0.stage me.0.reads
      ≡ get_or (values_read (key_plan key) ((key_plan key).place t k)) (length xs) 0 =
      ap (λ v. executed (plan_at v) me.0.stage me.0.reads) is.key ∙ ap₂ (executed (key_plan key)) is.stage is.reads in
      subst (λ (d : ℕ). MayLoad words seat d) (sym at)
      (allowed (key_plan key) key.workers worker_in parts_in clock_in words.table.shared.table_id.slots seat.id t k xs me
      (λ stamp x. at_stage (behind me.0 stamp (cell_read (key_plan key) t k (length xs) + 2) x) me.0.stage
      (me.0.reads ++ x ∷ []))
      (ap₂ staged is.stage is.reads)
      (λ stamp x. (ap₂ (λ s ys. staged s (ys ++ x ∷ [])) is.stage is.reads, refl, refl)) less more
      (λ stamp x f. (f ∙ sym value, stamp, refl)))

  pub loads : IsDealt (walk_in words) → LoadIsAllowed Loads → (s : Stage) (xs : List ℕ) (c : ℕ) → IsSeat words s xs seat
      → IsNextRead (walk_in words) s xs c → MayLoad words seat c
  loads dealt allowed s xs c is next =
      loads_at allowed s xs c is
      (subst (λ (p : Plan). IsNextRead (plan_of p words.table.shared.key.cells.items) s xs c) (sym is.of.plan)
      (read_next words.plan words.table.shared.key.cells.items dealt s xs c next))

  -- what was found is told of the plan of the words
  pub told : (s : Stage) (xs : List ℕ) (r : ℕ) → IsSeat words s xs seat
      → r ≡ executed (plan_at seat.me.0.key) seat.me.0.stage seat.me.0.reads → r ≡ executed (plan_in words) s xs
  told s xs r is e =
      e ∙ (ap (λ v. executed (plan_at v) seat.me.0.stage seat.me.0.reads) is.key
      ∙ (ap (λ (p : Plan). executed (plan_of p words.table.shared.key.cells.items) seat.me.0.stage seat.me.0.reads)
      is.of.plan ∙ ap₂ (executed (plan_in words)) is.stage is.reads))

module _ (words : Words) where
  -- the cell that is read is one of the plan's
  pub read_below : IsDealt (walk_in words) → (s : Stage) (xs : List ℕ) (c : ℕ) → IsNextRead (walk_in words) s xs c
      → c < (walk_in words).cells
  read_below dealt Idle xs c next = absurd next
  read_below dealt Ended xs c next = absurd next
  read_below dealt (Holding t) xs c next = absurd next
  read_below dealt (Working t k) xs c (less, more, at) =
      subst (λ (d : ℕ). d < (walk_in words).cells) (sym at)
      (dealt.read ((walk_in words).place t k) _ (dealt.place t k (tile_in words.plan t k less) less) (in_at _ _ 0 more))

  -- there is room for one more value
  pub few_read : IsDealt (walk_in words) → ((j : ℕ) → j < (walk_in words).places → length ((walk_in words).read j) ≤ 16)
      → (s : Stage) (xs : List ℕ) (c : ℕ) → IsNextRead (walk_in words) s xs c → length xs < 16
  few_read dealt few Idle xs c next = absurd next
  few_read dealt few Ended xs c next = absurd next
  few_read dealt few (Holding t) xs c next = absurd next
  few_read dealt few (Working t k) xs c (less, more, at) =
      let f = few ((walk_in words).place t k) (dealt.place t k (tile_in words.plan t k less) less) in omega (arith, f, more)
