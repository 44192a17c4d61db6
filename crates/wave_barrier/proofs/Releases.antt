-- A release, where every instance of the tile is done and one is left, is allowed by the rule of its table.
use Rattle.std.proofs.Common.{◌≡◌, ℕ, suc, ◌+◌, ◌%◌, ◌^◌, ◌<◌, ◌≤◌, ◌∙◌, [], ap, ap₂, length, refl, sym, subst}
use mathlib.Core.Option.{none}
use Rattle.atomic_table.specs.Table.{Me, Allows, step}
use Rattle.tile_events.specs.Allowed.{AddIsAllowed}
use Rattle.tile_events.specs.Core.{working}
use Rattle.tile_events.specs.Plan as plain
use Rattle.tile_core.specs.declared.plan.Plan.{Plan}
use Rattle.tile_core.specs.declared.view.Key.{Key}
use Rattle.tile_core.specs.declared.view.View.{View}
use Rattle.tile_core.specs.declared.words.Pass.{Pass}
use Rattle.tile_core.specs.declared.words.Words.{Words}
use Rattle.tile_core.specs.declared.worker.Stage.{Stage}
use Rattle.tile_core.specs.declared.worker.Stage.TheVariants.{Working}
use Rattle.tile_core.specs.Passes.{IsPass, plan_in}
use Rattle.tile_core.specs.Plans.{shape_of, walk_shape}
use Rattle.tile_core.specs.Views.{at_stage, behind, clock_in, done_at, key_plan, parts_in, tile_at, worker_in, Ruled}
use Rattle.tile_core.proofs.Gates.{IsRelease, releases_there}
use Rattle.tile_core.specs.Workers.{IsReleasing, staged}
use Rattle.wave_barrier.specs.Releases.{IsLeft, Releases, next_word}
use Rattle.wave_barrier.proofs.NoReads.{none_read}

abbrev MayAdd : Words → Pass → ℕ → Type 0
MayAdd words pass word =
    Allows (Ruled words.table.shared.key) words.table.shared.table_id.slots pass.seat.id pass.seat.me word
    (λ n. (n + 1) % 2 ^ 64) (Releases (step words.table.shared.table_id.slots word 1 0 none) pass.seat.me)

module _ (words : Words) (pass : Pass) (is : IsPass words pass) (is_left : IsLeft words.plan pass.worker.stage) where
  abbrev key : Key
  key = words.table.shared.key

  abbrev p : plain.Plan
  p = key_plan key

  abbrev t : ℕ
  t = is_left.tile

  abbrev k : ℕ
  k = is_left.count

  less : k < p.size t
  less = subst (λ (q : Plan). k < (shape_of q).size t) (sym is.of.plan) is_left.left

  next : IsRelease (shape_of key.plan) ((shape_of key.plan).place t k)
  next =
      releases_there key.plan t k (subst (λ (q : Plan). (walk_shape q).size t ≤ k) (sym is.of.plan) is_left.done) less

  -- the word of its cell is that of the next act
  word_is : p.written (p.place t k) + 2 ≡ next_word (plan_in words) pass.worker.stage
  word_is =
      ap (λ (q : Plan). (shape_of q).written ((shape_of q).place t k) + 2) is.of.plan
      ∙ ap (next_word (plan_in words)) (sym is_left.works)

  stands : pass.seat.me.0.stage ≡ Working t k
  stands = is.stage ∙ is_left.works

  pub releases : AddIsAllowed Releases → (word : ℕ) → next_word (plan_in words) pass.worker.stage ≡ word
      → MayAdd words pass word
  releases allowed word at =
      let me : Me (Unit {0}) View = pass.seat.me in
      let c : ℕ = p.written (p.place t k) + 2 in
      let xs = pass.worker.reads.items in
      let works : worker_in me.0 ≡ working t k xs = ap₂ staged stands is.reads in
      subst (MayAdd words pass) (word_is ∙ at)
      (λ s held homes here bound.
      let none_yet : xs ≡ [] =
      none_read p key.workers worker_in parts_in clock_in s pass.seat.id t k xs me.0 held here works less next.read in
      allowed p key.workers worker_in parts_in clock_in words.table.shared.table_id.slots pass.seat.id t k 1 xs me
      (λ stamp n. at_stage (behind me.0 stamp c ((n + 1) % 2 ^ 64))
      (Working (tile_at me.0.stage) (suc (done_at me.0.stage))) [])
      works (λ stamp n. (ap₂ (λ a b. working a (suc b) []) (ap tile_at stands) (ap done_at stands), refl, refl))
      less (ap length none_yet ∙ sym (ap length next.read)) next.adds (sym (next.value xs))
      (λ stamp n. (stamp, refl)) s held homes here bound)

-- where a worker stands behind a release
pub stage_after : (plan : Plan) (s new : Stage) → IsLeft plan s
    → ((t k : ℕ) → s ≡ Working t k → new ≡ Working t (suc k)) → new ≡ Working (tile_at s) (suc (done_at s))
stage_after plan s new l f =
    f l.tile l.count l.works
    ∙ ap (λ u. Working (tile_at u) (suc (done_at u))) (sym l.works)

-- what is asked of a worker that goes on behind a release
pub left_there : (plan : Plan) (s : Stage) → IsLeft plan s → (t k : ℕ) → s ≡ Working t k
    → ((walk_shape plan).size t ≤ k) × (k < (shape_of plan).size t)
left_there plan s l t k e =
    let same : Working l.tile l.count ≡ Working t k = sym l.works ∙ e in
    let tiles = ap tile_at same in
    let counts = ap done_at same in (
      subst (λ u. (walk_shape plan).size (tile_at u) ≤ done_at u) same l.done,
      subst (λ u. done_at u < (shape_of plan).size (tile_at u)) same l.left,
    )

-- the next act of one that releases tile u goes to the counter of u
pub releasing_word : (words : Words) (s : Stage) (u : ℕ) → IsReleasing words.plan s u
    → next_word (plan_in words) s ≡ ((walk_shape words.plan).cells + u) + 2
releasing_word words s u r = ap (next_word (plan_in words)) r.works ∙ ap (λ n. n + 2) r.counter
