-- What a worker's instances, done at once, leave of a board (`none_done`, `some_done`).
use Rattle.scop_syntax.proofs.Common.{◌≡◌, ◌∙◌, ◌⊎◌, ℕ, ◌+◌, ◌<◌, ◌≤◌, List, [], length, get_or, map, ap, ap₂, inl, inr}
use Rattle.scop_syntax.proofs.Common.{sym, refl, arith, Vec, with_item, some, some-injective, get_elem?}
use Rattle.std.specs.Global.{Global}
use Rattle.atomic_table.proofs.Lists.{at_index, set_again}
use Rattle.tile_events.specs.Core as core
use Rattle.tile_events.specs.Core.{replay, working}
use Rattle.tile_events.specs.Plan.{IsDealt}
use Rattle.tile_core.specs.Acts.{DoesStretch, IsAtInstance, stretch_acts}
use Rattle.tile_core.specs.Boards.{IsBoard, Stretches, state_of}
use Rattle.tile_core.specs.Plans.{shape_of, walk_shape}
use Rattle.tile_core.specs.Workers.{IsWorker, staged, worker_of}
use Rattle.tile_core.specs.declared.board.Board.{Board}
use Rattle.tile_core.specs.declared.plan.Plan.{Plan}
use Rattle.tile_core.specs.declared.worker.Stage.{Stage}
use Rattle.tile_core.specs.declared.worker.Stage.TheVariants.{Idle, Ended, Holding, Working}
use Rattle.tile_core.specs.declared.worker.Worker.{Worker}
use Rattle.tile_core.specs.steps.Acts.{after_instances, with_cells}
use Rattle.tile_core.specs.steps.Copied.{DoesNone, DoesSome}
use Rattle.tile_core.proofs.Acts.{same_acts, same_after, same_alone, stretch_run}
use Rattle.tile_core.proofs.Gates.{shape_extends}
use Rattle.tile_core.proofs.Marks.{by_waves_alone}
use Rattle.tile_core.proofs.Workers.{at_stage}
use Rattle.tile_core.proofs.Boards.{at_board, set_worker, worker_there, workers_kept, working_tile}

stage_there : (s : Stage) (xs : List ℕ) (t k : ℕ) → staged s xs ≡ working t k [] → (s ≡ Working t k) × (xs ≡ [])
stage_there Idle xs t k e = absurd cc
stage_there Ended xs t k e = absurd cc
stage_there (Holding u) xs t k e = absurd cc
stage_there (Working u m) xs t k e =
    let same : u ≡ t = cc in let count : m ≡ k = cc in let none : xs ≡ [] = cc in (ap₂ Working same count, none)

module _ (plan : Plan) (b : Board) (id : ℕ) (w : Worker) (board : IsBoard plan b) (within : id < length b.workers.items)
    (is : w ≡ get_or b.workers.items id w) where
  here : get_elem? (map worker_of b.workers.items) id ≡ some (worker_of w)
  here = (at_board b id w within is).here

  where_it_is : (t k : ℕ) → IsAtInstance (walk_shape plan) (state_of b) id t k
      → (w.stage ≡ Working t k) × (w.reads.items ≡ [])
  where_it_is t k at =
      stage_there w.stage w.reads.items t k (some-injective (worker_of w) (working t k []) (sym here ∙ at.0))

  -- no instance is due, or values are read for it
  pub none_done : ((t k : ℕ) → w.stage ≡ Working t k → w.reads.items ≡ [] → k < (walk_shape plan).size t → ⊥)
      → Stretches plan b id 0 (record b { workers = with_item b.workers id w })
  none_done none =
      let same : state_of (record b { workers = with_item b.workers id w }) ≡ state_of b =
      ap (λ ws. record {
        claims = b.claims;
        finished = b.finished;
        cells = b.cells.items;
        workers = map worker_of ws;
      }) (set_again b.workers.items id w (at_index b.workers.items id w within is)) in
      record {
        stretch = λ t k at. let there = where_it_is t k at in absurd (none t k there.0 there.1 at.1);
        none = λ h. (refl, same);
        acts = [];
        replayed = same;
        workers = workers_kept plan b id w board (worker_there plan b id w board within is);
      }

  -- no instance is due, and nothing is done
  pub none_due : (x : Worker) (cs : Vec ℕ Global) (n : ℕ) → DoesNone plan w.stage x.stage b.cells.items cs.items n
      → w.reads.items ≡ [] → x.reads.items ≡ [] → IsWorker plan x
      → Stretches plan b id n (record b { cells = cs; workers = with_item b.workers id x })
  none_due x cs n none unread cleared kept =
      let d : Board = record b { cells = cs; workers = with_item b.workers id x } in
      let stays : worker_of x ≡ worker_of w = ap₂ staged none.stage (cleared ∙ sym unread) in
      let same : state_of d ≡ state_of b =
      ap₂ (λ (ys : List ℕ) (ws : List core.Worker). record {
        claims = b.claims;
        finished = b.finished;
        cells = ys;
        workers = ws;
      }) none.cells
      (sym (set_worker b id x (worker_of w) stays) ∙ set_again (map worker_of b.workers.items) id (worker_of w) here) in
      record {
        stretch = λ t k at.
            let full = none.due t k (where_it_is t k at).0 in
            let left = at.1 in absurd (omega (arith, full, left));
        none = λ h. (none.none, same);
        acts = [];
        replayed = same;
        workers = workers_kept plan b id x board kept;
      }

  -- n instances are done
  pub some_done : IsDealt (walk_shape plan) → (x : Worker) (cs : Vec ℕ Global) (t k n : ℕ) → w.stage ≡ Working t k
      → w.reads.items ≡ [] → 1 ≤ n → k + n ≤ (walk_shape plan).size t → x.stage ≡ Working t (k + n)
      → x.reads.items ≡ [] → cs.items ≡ after_instances (walk_shape plan) t k n b.cells.items → IsWorker plan x
      → Stretches plan b id n (record b { cells = cs; workers = with_item b.workers id x })
  some_done dealt x cs t k n stage unread some_left fits stands cleared cells kept =
      let p = walk_shape plan in
      let q = shape_of plan in
      let more = shape_extends plan in
      let sizes = more.size t in
      let tiles = more.tiles in
      let less = working_tile plan x t (k + n) kept stands in
      let there : (m : ℕ) → m < p.size t → p.place t m < p.places =
      λ m l. dealt.place t m (omega (arith, less, tiles)) l in
      let s = state_of b in
      let d : Board = record b { cells = cs; workers = with_item b.workers id x } in
      let at : worker_of w ≡ working t k [] = ap₂ staged stage unread in
      let standing = here ∙ ap (λ (v : core.Worker). some v) at in
      let left : state_of d ≡ with_cells s id (after_instances p t k n b.cells.items) (working t (k + n) []) =
      ap₂ (λ (ys : List ℕ) (ws : List core.Worker). record {
        claims = b.claims;
        finished = b.finished;
        cells = ys;
        workers = ws;
      }) cells (sym (set_worker b id x (working t (k + n) []) (ap₂ staged stands cleared))) in
      let alone : state_of d ≡ replay p s (stretch_acts p id t k n) =
      left ∙ sym (stretch_run p s id t k n standing (λ m l adds. refl) fits) in
      let run : state_of d ≡ replay q s (stretch_acts p id t k n) =
      left
      ∙ (ap (λ (ys : List ℕ). with_cells s id ys (working t (k + n) []))
      (sym (same_after p q more id t there dealt.written k n b.cells.items fits))
      ∙ (sym (stretch_run q s id t k n standing (same_alone p q more id t there dealt.written k n fits
      (λ c adds. by_waves_alone plan c adds board.planned))
      (omega (arith, fits, sizes)))
      ∙ ap (λ (es : List (ℕ × core.Event)). replay q s es) (same_acts p q more id t there dealt.written k n fits))) in
      let does : DoesStretch p q s id t k n (state_of d) =
      record { some = some_left; within = fits; acts = run; alone = alone } in
      record {
        stretch = λ u m there.
            at_stage (λ v i. DoesStretch p q s id v i n (state_of d)) w.stage t k u m stage does (where_it_is u m there).0;
        none = λ h. absurd (h t k (here ∙ ap (λ (v : core.Worker). some v) at, omega (arith, some_left, fits)));
        acts = stretch_acts p id t k n;
        replayed = run;
        workers = workers_kept plan b id x board kept;
      }

  -- a worker that may have an instance due
  pub copied_done : IsDealt (walk_shape plan) → (x : Worker) (cs : Vec ℕ Global) (n : ℕ) (old new : List ℕ)
      → old ≡ b.cells.items → cs.items ≡ new
      → DoesNone plan w.stage x.stage old new n ⊎ DoesSome plan w.stage x.stage old new n
      → w.reads.items ≡ [] → x.reads.items ≡ [] → IsWorker plan x
      → Stretches plan b id n (record b { cells = cs; workers = with_item b.workers id x })
  copied_done dealt x cs n old new before after (inl none) unread cleared kept =
      none_due x cs n record {
        due = none.due;
        none = none.none;
        cells = after ∙ (none.cells ∙ before);
        stage = none.stage;
      } unread cleared kept
  copied_done dealt x cs n old new before after (inr done) unread cleared kept =
      some_done dealt x cs done.tile done.first n done.works unread done.some done.within done.stage cleared
      (after
      ∙ (done.cells ∙ ap (λ (ys : List ℕ). after_instances (walk_shape plan) done.tile done.first n ys) before))
      kept
