-- A store of the next instance's value, or an add of it, is allowed by the rule of its table.
use Rattle.scop_syntax.proofs.Common.{◌≡◌, ℕ, suc, ◌+◌, ◌%◌, ◌^◌, ◌<◌, Bool, true, false, List, [], ap, ap₂, refl, sym}
use Rattle.scop_syntax.proofs.Common.{subst}
use mathlib.Core.Option.{none}
use Rattle.atomic_table.specs.Table.{Me, Allows, step}
use Rattle.atomic_table.specs.declared.shared.Seat.{Seat}
use Rattle.tile_events.specs.Plan.{IsDealt}
use Rattle.tile_events.specs.Core.{working}
use Rattle.tile_events.specs.Allowed.{AddIsAllowed, StoreIsAllowed}
use Rattle.tile_core.specs.declared.worker.Stage.{Stage}
use Rattle.tile_core.specs.declared.worker.Stage.TheVariants.{Idle, Ended, Holding, Working}
use Rattle.tile_core.specs.declared.view.View.{View}
use Rattle.tile_core.specs.declared.view.Key.{Key}
use Rattle.tile_core.specs.declared.words.Words.{Words}
use Rattle.tile_core.specs.declared.plan.Plan.{Plan}
use Rattle.tile_core.specs.Plans.{plan_of, walk_shape}
use Rattle.tile_core.specs.Workers.{staged}
use Rattle.tile_core.specs.Views.{key_plan, worker_in, parts_in, clock_in, at_stage, behind, tile_at}
use Rattle.tile_core.specs.Views.{done_at, Ruled}
use Rattle.tile_core.specs.Passes.{walk_in}
use Rattle.array_words.specs.Seats.{IsSeat}
use Rattle.array_words.specs.Stores.{Adds, IsNextAdd, IsNextLast, IsNextStore, Stores}
use Rattle.array_words.proofs.Instances.{last_next, tile_in}

module _ (words : Words) (seat : Seat (Unit {0}) View) where
  abbrev MayStore : Words → Seat (Unit {0}) View → ℕ → ℕ → Type 0
  MayStore words seat c x =
      Allows (Ruled words.table.shared.key) words.table.shared.table_id.slots seat.id seat.me (c + 2) (λ _. x)
      (λ _. Stores (step words.table.shared.table_id.slots (c + 2) x 0 none) seat.me x)

  abbrev MayAdd : Words → Seat (Unit {0}) View → ℕ → ℕ → Type 0
  MayAdd words seat c x =
      Allows (Ruled words.table.shared.key) words.table.shared.table_id.slots seat.id seat.me (c + 2)
      (λ n. (n + x) % 2 ^ 64) (Adds (step words.table.shared.table_id.slots (c + 2) x 0 none) seat.me)

  -- what comes next, told of the key's plan
  next_in : (adds : Bool) → IsDealt (walk_in words) → (s : Stage) (xs : List ℕ) (c x : ℕ) → IsSeat words s xs seat
      → IsNextLast adds (walk_in words) s xs c x → IsNextLast adds (key_plan words.table.shared.key) s xs c x
  next_in adds dealt s xs c x is next =
      let cells = words.table.shared.key.cells.items in
      subst (λ (p : Plan). IsNextLast adds (plan_of p cells) s xs c x) (sym is.of.plan)
      (last_next words.plan cells dealt adds s xs c x next)

  stores_at : StoreIsAllowed Stores → (s : Stage) (xs : List ℕ) (c x : ℕ) → IsSeat words s xs seat
      → IsNextStore (key_plan words.table.shared.key) s xs c x → MayStore words seat c x
  stores_at allowed Idle xs c x is next = absurd next
  stores_at allowed Ended xs c x is next = absurd next
  stores_at allowed (Holding t) xs c x is next = absurd next
  stores_at allowed (Working t k) xs c x is (less, all, stored, at, value) =
      let key : Key = words.table.shared.key in
      let me : Me (Unit {0}) View = seat.me in
      subst (λ (d : ℕ). MayStore words seat d x) (sym at)
      (allowed (key_plan key) key.workers worker_in parts_in clock_in words.table.shared.table_id.slots seat.id t k x xs me
      (λ stamp. at_stage (behind me.0 stamp ((key_plan key).written ((key_plan key).place t k) + 2) x)
      (Working (tile_at me.0.stage) (suc (done_at me.0.stage))) [])
      (ap₂ staged is.stage is.reads)
      (λ stamp. (ap₂ (λ a b. working a (suc b) []) (ap tile_at is.stage) (ap done_at is.stage), refl, refl))
      less all stored value (λ stamp. (stamp, refl)))

  adds_at : AddIsAllowed Adds → (s : Stage) (xs : List ℕ) (c x : ℕ) → IsSeat words s xs seat
      → IsNextAdd (key_plan words.table.shared.key) s xs c x → MayAdd words seat c x
  adds_at allowed Idle xs c x is next = absurd next
  adds_at allowed Ended xs c x is next = absurd next
  adds_at allowed (Holding t) xs c x is next = absurd next
  adds_at allowed (Working t k) xs c x is (less, all, added, at, value) =
      let key : Key = words.table.shared.key in
      let me : Me (Unit {0}) View = seat.me in
      subst (λ (d : ℕ). MayAdd words seat d x) (sym at)
      (allowed (key_plan key) key.workers worker_in parts_in clock_in words.table.shared.table_id.slots seat.id t k x xs me
      (λ stamp n. at_stage
      (behind me.0 stamp ((key_plan key).written ((key_plan key).place t k) + 2) ((n + x) % 2 ^ 64))
      (Working (tile_at me.0.stage) (suc (done_at me.0.stage))) [])
      (ap₂ staged is.stage is.reads)
      (λ stamp n. (ap₂ (λ a b. working a (suc b) []) (ap tile_at is.stage) (ap done_at is.stage), refl, refl))
      less all added value (λ stamp n. (stamp, refl)))

  pub stores : IsDealt (walk_in words) → StoreIsAllowed Stores → (s : Stage) (xs : List ℕ) (c x : ℕ)
      → IsSeat words s xs seat → IsNextStore (walk_in words) s xs c x → MayStore words seat c x
  stores dealt allowed s xs c x is next = stores_at allowed s xs c x is (next_in false dealt s xs c x is next)

  pub adds : IsDealt (walk_in words) → AddIsAllowed Adds → (s : Stage) (xs : List ℕ) (c x : ℕ)
      → IsSeat words s xs seat → IsNextAdd (walk_in words) s xs c x → MayAdd words seat c x
  adds dealt allowed s xs c x is next = adds_at allowed s xs c x is (next_in true dealt s xs c x is next)

module _ (words : Words) (adds : Bool) where
  abbrev IsNext : Stage → List ℕ → ℕ → ℕ → Type 0
  IsNext = IsNextLast adds (walk_in words)

  -- the cell is one of the plan's
  pub written_below : IsDealt (walk_in words) → (s : Stage) (xs : List ℕ) (c x : ℕ) → IsNext s xs c x
      → c < (walk_in words).cells
  written_below dealt Idle xs c x next = absurd next
  written_below dealt Ended xs c x next = absurd next
  written_below dealt (Holding t) xs c x next = absurd next
  written_below dealt (Working t k) xs c x (less, all, kind, at, value) =
      subst (λ (d : ℕ). d < (walk_in words).cells) (sym at)
      (dealt.written ((walk_in words).place t k) (dealt.place t k (tile_in words.plan t k less) less))

  -- an instance of the tile is left
  pub instance_left : (s : Stage) (xs : List ℕ) (c x : ℕ) → IsNext s xs c x → (t k : ℕ)
      → s ≡ Working t k → k < (walk_shape words.plan).size t
  instance_left s xs c x next t k e = (subst (λ s. IsNext s xs c x) e next).0

  -- where the worker stands behind the instance
  pub stage_after_last : (s : Stage) (xs : List ℕ) (c x : ℕ) (new : Stage) → IsNext s xs c x
      → ((t k : ℕ) → s ≡ Working t k → new ≡ Working t (suc k)) → new ≡ Working (tile_at s) (suc (done_at s))
  stage_after_last Idle xs c x new next f = absurd next
  stage_after_last Ended xs c x new next f = absurd next
  stage_after_last (Holding t) xs c x new next f = absurd next
  stage_after_last (Working t k) xs c x new next f = f t k refl
