-- Each event in memory is the one on plain data.
use Rattle.scop_syntax.proofs.Common.{◌≡◌, ⊎_elim, ◌&&◌, not, Bool, true, false, ℕ, zero, suc, ◌+◌, ◌%◌, ◌^◌, ◌<◌, ◌≤◌}
use Rattle.scop_syntax.proofs.Common.{List, [], ◌∷◌, ◌++◌, length, get_or, map, set, take, Some, None, ap, ap₂, sym}
use Rattle.scop_syntax.proofs.Common.{refl, ◌∙◌, subst, arith, All, Vec, nat_lt, nat_le, nat_eq, with_item, and_from}
use Rattle.scop_syntax.proofs.Common.{lt-ltb, le-ltb, le-leb, lt-leb, eq-eqb, eqb_tells, map-set, All-set, some}
use Rattle.scop_syntax.proofs.Common.{some-injective, get_elem?, instance_of, nat_cases}
use Rattle.std.specs.Global.{Global}
use Rattle.atomic_table.proofs.Lists.{at_map, at_index}
use Rattle.scop_syntax.specs.declared.instance.Instance.{Instance as CodeInstance}
use Rattle.tile_events.specs.Core as core
use Rattle.tile_events.specs.Core.{State, claim, open_tile, load, release, finish, acts, last_act, step, step_of}
use Rattle.tile_events.specs.Core.{is_counted, is_last_act, needed_by, seen_by, shut, told}
use Rattle.tile_events.specs.Plan as events
use Rattle.tile_events.specs.Plan.{IsDealt, before, updated}
use Rattle.tile_events.specs.Rule.{if_ended}
use Rattle.tile_events.specs.Sound.{Holds, total}
use Rattle.tile_core.specs.Acts.{last_event}
use Rattle.tile_core.specs.Boards.{IsBoard, state_of}
use Rattle.tile_core.specs.Plans.{IsPlan, place_of, plan_of, shape_of, walk_shape}
use Rattle.tile_core.specs.Workers.{HasNoneDue, IsDue, IsReleasing, IsWorker, ReleasesNone, staged, worker_of}
use Rattle.tile_core.specs.declared.board.Board.{Board}
use Rattle.tile_core.specs.declared.plan.Plan.{Plan}
use Rattle.tile_core.specs.declared.worker.Stage.{Stage}
use Rattle.tile_core.specs.declared.worker.Stage.TheVariants.{Idle, Ended, Holding, Working}
use Rattle.tile_core.specs.declared.worker.Worker.{Worker}
use Rattle.tile_core.proofs.Acts.{acts_last, is_last}
use Rattle.tile_core.proofs.Marks.{by_waves_alone}
use Rattle.tile_core.proofs.Gates.{IsRelease, if_false, if_true, releases_there, shape_extends}
use Rattle.tile_core.proofs.TouchedCells.{place_within}

-- worker id of the board is w
pub record IsAt (b : Board) (id : ℕ) (w : Worker) : Type 0 where
  pub here : get_elem? (map worker_of b.workers.items) id ≡ some (worker_of w)

pub at_board : (b : Board) (id : ℕ) (w : Worker) → id < length b.workers.items → w ≡ get_or b.workers.items id w
    → IsAt b id w
at_board b id w l e = record { here = at_map worker_of b.workers.items id w (at_index b.workers.items id w l e) }

-- two looks at one place see one
pub one_at : (b : Board) (id : ℕ) (v w : Worker) → id < length b.workers.items → v ≡ get_or b.workers.items id v
    → w ≡ get_or b.workers.items id w → v ≡ w
one_at b id v w l e f = some-injective v w (sym (at_index b.workers.items id v l e) ∙ at_index b.workers.items id w l f)

-- workers of the plan, one of them, and with another in its place
pub worker_there : (plan : Plan) (b : Board) (id : ℕ) (w : Worker) → IsBoard plan b → id < length b.workers.items
    → w ≡ get_or b.workers.items id w → IsWorker plan w
worker_there plan b id w board l e = subst (IsWorker plan) (sym e) (board.workers id w l)

pub workers_kept : (plan : Plan) (b : Board) (id : ℕ) (x : Worker) → IsBoard plan b → IsWorker plan x
    → All (IsWorker plan) (set b.workers.items id x)
workers_kept plan b id x board is = All-set (IsWorker plan) b.workers.items id x is board.workers

-- a tile that a worker holds
pub holding_tile : (plan : Plan) (w : Worker) (t : ℕ) → IsWorker plan w → w.stage ≡ Holding t
    → t < (shape_of plan).tiles
holding_tile plan w t is e = is.tile t (subst (λ s. Holds (staged s w.reads.items) t) (sym e) refl)

pub working_tile : (plan : Plan) (w : Worker) (t k : ℕ) → IsWorker plan w → w.stage ≡ Working t k
    → t < (shape_of plan).tiles
working_tile plan w t k is e = is.tile t (subst (λ s. Holds (staged s w.reads.items) t) (sym e) refl)

-- what a worker tells of its place, where an instance is due
pub due_at : (plan : Plan) (w : Worker) (i : CodeInstance) (at : ℕ × ℕ) → IsWorker plan w → IsDue plan w.stage i
    → ((t k : ℕ) → w.stage ≡ Working t k → at ≡ (t, k))
    → (w.stage ≡ Working at.0 at.1) × (at.0 < (walk_shape plan).tiles) × (at.1 < (walk_shape plan).size at.0)
    × (place_of plan i ≡ (walk_shape plan).place at.0 at.1)
due_at plan w i at is d told =
    let less = working_tile plan w d.tile d.count is d.works in
    let tiles = (shape_extends plan).tiles in
    subst (λ (p : ℕ × ℕ). (w.stage ≡ Working p.0 p.1) × (p.0 < (walk_shape plan).tiles)
    × (p.1 < (walk_shape plan).size p.0) × (place_of plan i ≡ (walk_shape plan).place p.0 p.1))
    (sym (told d.tile d.count d.works)) (d.works, omega (arith, less, tiles), d.left, d.place)

step_here : (plan : Plan) (b : Board) (id : ℕ) (w : Worker) (v : core.Worker) (e : core.Event) → IsAt b id w
    → worker_of w ≡ v
    → step (shape_of plan) (state_of b) id e ≡ acts (shape_of plan) (state_of b) id v e
step_here plan b id w v e at is =
    ap (λ o. step_of (shape_of plan) (state_of b) id o e) (at.here ∙ ap (λ (x : core.Worker). some x) is)

pub set_worker : (b : Board) (id : ℕ) (x : Worker) (v : core.Worker) → worker_of x ≡ v
    → set (map worker_of b.workers.items) id v ≡ map worker_of (set b.workers.items id x)
set_worker b id x v e =
    ap (set (map worker_of b.workers.items) id) (sym e) ∙ sym (map-set worker_of b.workers.items id x)

staged_as : (w : Worker) (s : Stage) (xs : List ℕ) → w.stage ≡ s → w.reads.items ≡ xs → worker_of w ≡ staged s xs
staged_as w s xs e f = ap₂ staged e f

ne-eqb : (a b : ℕ) → (a ≡ b → ⊥) → nat_eq a b ≡ false
ne-eqb a b h = ⊎_elim (λ x. absurd (h x.1)) (λ x. x.0) (eqb_tells a b)

and_none : (b c : Bool) → c ≡ false → (b && c) ≡ false
and_none true c e = e
and_none false c e = refl

-- claim
pub claims_tile : (plan : Plan) (b : Board) (id : ℕ) (w x : Worker) → IsAt b id w → w.stage ≡ Idle
    → b.claims < (shape_of plan).tiles → x.stage ≡ Holding b.claims
    → step (shape_of plan) (state_of b) id claim ≡ (
      state_of
          (record b { claims = b.claims + 1; workers = with_item b.workers id x }),
      core.claimed (Some b.claims),
    )
claims_tile plan b id w x at is less new =
    step_here plan b id w core.idle claim at (staged_as w Idle w.reads.items is refl)
    ∙ (if_true (nat_lt b.claims (shape_of plan).tiles) _ _ (lt-ltb b.claims (shape_of plan).tiles less)
    ∙ ap₂ (λ (n : ℕ) (ws : List core.Worker).
    (record { claims = n; finished = b.finished; cells = b.cells.items; workers = ws }, core.claimed (Some b.claims)))
    (let q : suc b.claims ≡ b.claims + 1 = omega arith in q)
    (set_worker b id x (core.holding b.claims) (staged_as x (Holding b.claims) x.reads.items new refl)))

pub claims_none : (plan : Plan) (b : Board) (id : ℕ) (w x : Worker) → IsAt b id w → w.stage ≡ Idle
    → (shape_of plan).tiles ≤ b.claims → x.stage ≡ Ended
    → step (shape_of plan) (state_of b) id claim ≡ (
      state_of
          (record b { claims = b.claims + 1; workers = with_item b.workers id x }),
      core.claimed None,
    )
claims_none plan b id w x at is more new =
    step_here plan b id w core.idle claim at (staged_as w Idle w.reads.items is refl)
    ∙ (if_false (nat_lt b.claims (shape_of plan).tiles) _ _ (le-ltb b.claims (shape_of plan).tiles more)
    ∙ ap₂ (λ (n : ℕ) (ws : List core.Worker).
    (record { claims = n; finished = b.finished; cells = b.cells.items; workers = ws }, core.claimed None))
    (let q : suc b.claims ≡ b.claims + 1 = omega arith in q)
    (set_worker b id x core.ended (staged_as x Ended x.reads.items new refl)))

claim_refused : (p : core.State) (plan : Plan) (id : ℕ) (s : Stage) (xs : List ℕ) → (s ≡ Idle → ⊥)
    → acts (shape_of plan) p id (staged s xs) claim ≡ (p, core.not_enabled)
claim_refused p plan id Idle xs h = absurd (h refl)
claim_refused p plan id Ended xs h = refl
claim_refused p plan id (Holding t) xs h = refl
claim_refused p plan id (Working t k) xs h = refl

pub refuses_claim : (plan : Plan) (b : Board) (id : ℕ) (w : Worker) → IsAt b id w → (w.stage ≡ Idle → ⊥)
    → step (shape_of plan) (state_of b) id claim ≡ (state_of b, core.not_enabled)
refuses_claim plan b id w at h =
    step_here plan b id w (worker_of w) claim at refl ∙ claim_refused (state_of b) plan id w.stage w.reads.items h

-- open
pub opens : (plan : Plan) (b : Board) (id t needs seen : ℕ) (w x : Worker) → IsAt b id w → w.stage ≡ Holding t
    → needs ≡ needed_by (shape_of plan).gate (shape_of plan) t → seen ≡ seen_by (shape_of plan).gate (state_of b) t
    → needs ≤ seen → x.stage ≡ Working t 0 → x.reads.items ≡ []
    → step (shape_of plan) (state_of b) id open_tile ≡ (
      state_of
          (record b { workers = with_item b.workers id x }),
      core.opened,
    )
opens plan b id t needs seen w x at is e f enough new none =
    let p = shape_of plan in
    let there = subst (λ n. n ≤ seen_by p.gate (state_of b) t) e (subst (λ n. needs ≤ n) f enough) in
    step_here plan b id w (core.holding t) open_tile at (staged_as w (Holding t) w.reads.items is refl)
    ∙ (if_true (nat_le (needed_by p.gate p t) (seen_by p.gate (state_of b) t)) _ _
    (le-leb (needed_by p.gate p t) (seen_by p.gate (state_of b) t) there)
    ∙ ap (λ (ws : List core.Worker).
    (record { claims = b.claims; finished = b.finished; cells = b.cells.items; workers = ws }, core.opened))
    (set_worker b id x (core.working t 0 []) (staged_as x (Working t 0) [] new none)))

pub stays_shut : (plan : Plan) (b : Board) (id t needs seen : ℕ) (told : core.Seen) (w : Worker) → IsAt b id w
    → w.stage ≡ Holding t → needs ≡ needed_by (shape_of plan).gate (shape_of plan) t
    → seen ≡ seen_by (shape_of plan).gate (state_of b) t → seen < needs → told ≡ shut (shape_of plan).gate seen needs
    → step (shape_of plan) (state_of b) id open_tile ≡ (state_of b, told)
stays_shut plan b id t needs seen told w at is e f less tells =
    let p = shape_of plan in
    let there = subst (λ n. seen_by p.gate (state_of b) t < n) e (subst (λ n. n < needs) f less) in
    step_here plan b id w (core.holding t) open_tile at (staged_as w (Holding t) w.reads.items is refl)
    ∙ (if_false (nat_le (needed_by p.gate p t) (seen_by p.gate (state_of b) t)) _ _
    (lt-leb (needed_by p.gate p t) (seen_by p.gate (state_of b) t) there)
    ∙ (ap₂ (λ (n m : ℕ). (state_of b, shut p.gate n m)) (sym f) (sym e)
    ∙ ap (λ (x : core.Seen). (state_of b, x)) (sym tells)))

open_refused : (p : core.State) (plan : Plan) (id : ℕ) (s : Stage) (xs : List ℕ) → ((t : ℕ) → s ≡ Holding t → ⊥)
    → acts (shape_of plan) p id (staged s xs) open_tile ≡ (p, core.not_enabled)
open_refused p plan id Idle xs h = refl
open_refused p plan id Ended xs h = refl
open_refused p plan id (Holding t) xs h = absurd (h t refl)
open_refused p plan id (Working t k) xs h = refl

pub refuses_open : (plan : Plan) (b : Board) (id : ℕ) (w : Worker) → IsAt b id w → ((t : ℕ) → w.stage ≡ Holding t → ⊥)
    → step (shape_of plan) (state_of b) id open_tile ≡ (state_of b, core.not_enabled)
refuses_open plan b id w at h =
    step_here plan b id w (worker_of w) open_tile at refl ∙ open_refused (state_of b) plan id w.stage w.reads.items h

-- a worker that has no instance due
load_refused : (p : core.State) (plan : Plan) (id : ℕ) (s : Stage) (xs : List ℕ) → HasNoneDue plan s
    → acts (shape_of plan) p id (staged s xs) load ≡ (p, core.not_enabled)
load_refused p plan id Idle xs h = refl
load_refused p plan id Ended xs h = refl
load_refused p plan id (Holding t) xs h = refl
load_refused p plan id (Working t k) xs h =
    let q = shape_of plan in
    nat_cases k (q.size t)
    (λ l. if_true (nat_lt k (q.size t)) _ _ (lt-ltb k (q.size t) l)
    ∙ if_false (nat_lt (length xs) (length (q.read (q.place t k)))) _ _
    (le-ltb (length xs) (length (q.read (q.place t k)))
    (let none = ap (λ (rs : List ℕ). length rs) (releases_there plan t k (h t k refl) l).read in omega (arith, none))))
    (λ e. if_false (nat_lt k (q.size t)) _ _ (le-ltb k (q.size t) (omega (arith, e))))
    (λ l. if_false (nat_lt k (q.size t)) _ _ (le-ltb k (q.size t) (omega (arith, l))))

last_refused : (p : core.State) (plan : Plan) (id : ℕ) (b : Bool) (s : Stage) (xs : List ℕ) → HasNoneDue plan s
    → acts (shape_of plan) p id (staged s xs) (last_event b) ≡ (p, core.not_enabled)
last_refused p plan id true Idle xs h = refl
last_refused p plan id false Idle xs h = refl
last_refused p plan id b Ended xs h = refl
last_refused p plan id true (Holding t) xs h = refl
last_refused p plan id false (Holding t) xs h = refl
last_refused p plan id b (Working t k) xs h =
    let q = shape_of plan in
    let cell = q.written (q.place t k) in
    acts_last q p id t k xs b
    ∙ nat_cases k (q.size t)
    (λ l. if_true (nat_lt k (q.size t)) _ _ (lt-ltb k (q.size t) l)
    ∙ if_false (nat_eq (length xs) (length (q.read (q.place t k))) && is_last_act q (last_event b) cell) _ _
    (and_none (nat_eq (length xs) (length (q.read (q.place t k)))) (is_last_act q (last_event b) cell)
    (no_last b l)))
    (λ e. if_false (nat_lt k (q.size t)) _ _ (le-ltb k (q.size t) (omega (arith, e))))
    (λ l. if_false (nat_lt k (q.size t)) _ _ (le-ltb k (q.size t) (omega (arith, l))))
  where
    no_last : (b : Bool) → k < (shape_of plan).size t
        → is_last_act (shape_of plan) (last_event b) ((shape_of plan).written ((shape_of plan).place t k)) ≡ false
    no_last true l =
        let r = releases_there plan t k (h t k refl) l in
        and_none ((shape_of plan).adds ((shape_of plan).written ((shape_of plan).place t k)))
        (not (is_counted (shape_of plan).gate)) (ap not r.counted)
    no_last false l = ap not (releases_there plan t k (h t k refl) l).adds

pub refuses_load : (plan : Plan) (b : Board) (id : ℕ) (w : Worker) → IsAt b id w → HasNoneDue plan w.stage
    → step (shape_of plan) (state_of b) id load ≡ (state_of b, core.not_enabled)
refuses_load plan b id w at h =
    step_here plan b id w (worker_of w) load at refl ∙ load_refused (state_of b) plan id w.stage w.reads.items h

pub refuses_last : (plan : Plan) (b : Board) (id : ℕ) (w : Worker) (adds : Bool) → IsAt b id w → HasNoneDue plan w.stage
    → step (shape_of plan) (state_of b) id (last_event adds) ≡ (state_of b, core.not_enabled)
refuses_last plan b id w adds at h =
    step_here plan b id w (worker_of w) (last_event adds) at refl
    ∙ last_refused (state_of b) plan id adds w.stage w.reads.items h

-- one whose next instance is due
module _ (plan : Plan) (b : Board) (id : ℕ) (w : Worker) (i : CodeInstance) (at : IsAt b id w)
    (d : IsDue plan w.stage i) where
  abbrev p : events.Plan
  p = shape_of plan

  abbrev here : List ℕ
  here = (walk_shape plan).read (place_of plan i)

  abbrev there : List ℕ
  there = p.read (p.place d.tile d.count)

  walked_place : place_of plan i < (walk_shape plan).places
  walked_place = place_within plan (instance_of i) d.walked

  same_place : p.place d.tile d.count ≡ place_of plan i
  same_place = (shape_extends plan).place d.tile d.count d.left ∙ sym d.place

  same_reads : here ≡ there
  same_reads = sym ((shape_extends plan).read (place_of plan i) walked_place) ∙ ap p.read (sym same_place)

  same_cell : (walk_shape plan).written (place_of plan i) ≡ p.written (p.place d.tile d.count)
  same_cell = sym ((shape_extends plan).written (place_of plan i) walked_place) ∙ ap p.written (sym same_place)

  same_value : (xs : List ℕ) → (walk_shape plan).value (place_of plan i) xs ≡ p.value (p.place d.tile d.count) xs
  same_value xs =
      ap (λ (f : List ℕ → ℕ). f xs) (sym ((shape_extends plan).value (place_of plan i) walked_place))
      ∙ ap (λ j. p.value j xs) (sym same_place)

  at_instance : (e : core.Event)
      → step p (state_of b) id e ≡ acts p (state_of b) id (core.working d.tile d.count w.reads.items) e
  at_instance e =
      step_here plan b id w (core.working d.tile d.count w.reads.items) e at
      (staged_as w (Working d.tile d.count) w.reads.items d.works refl)

  some_left : nat_lt d.count (p.size d.tile) ≡ true
  some_left =
      let left = d.left in
      let more = (shape_extends plan).size d.tile in
      lt-ltb d.count (p.size d.tile) (omega (arith, left, more))

  pub all_read : length here ≤ length w.reads.items → step p (state_of b) id load ≡ (state_of b, core.not_enabled)
  all_read all =
      let n = ap (λ (rs : List ℕ). length rs) same_reads in
      at_instance load
      ∙ (if_true (nat_lt d.count (p.size d.tile)) _ _ some_left
      ∙ if_false (nat_lt (length w.reads.items) (length there)) _ _
      (le-ltb (length w.reads.items) (length there) (omega (arith, n, all))))

  pub loads : (x : Worker) (value : ℕ) → length w.reads.items < length here
      → value ≡ get_or b.cells.items (get_or here (length w.reads.items) 0) 0
      → x.stage ≡ w.stage → x.reads.items ≡ w.reads.items ++ value ∷ []
      → step p (state_of b) id load ≡ (
        state_of
            (record b { workers = with_item b.workers id x }),
        core.value_read value,
      )
  loads x value more found new taken =
      let n = ap (λ (rs : List ℕ). length rs) same_reads in
      let is = found ∙ ap (λ (rs : List ℕ). get_or b.cells.items (get_or rs (length w.reads.items) 0) 0) same_reads in
      at_instance load
      ∙ (if_true (nat_lt d.count (p.size d.tile)) _ _ some_left
      ∙ (if_true (nat_lt (length w.reads.items) (length there)) _ _
      (lt-ltb (length w.reads.items) (length there) (omega (arith, n, more)))
      ∙ (ap (λ (v : ℕ). (
        record {
          claims = b.claims;
          finished = b.finished;
          cells = b.cells.items;
          workers = set
              (map worker_of b.workers.items) id (core.working d.tile d.count (w.reads.items ++ v ∷ []));
        },
        core.value_read v,
      ))
      (sym is)
      ∙ ap (λ (ws : List core.Worker).
      (record { claims = b.claims; finished = b.finished; cells = b.cells.items; workers = ws }, core.value_read value))
      (set_worker b id x (core.working d.tile d.count (w.reads.items ++ value ∷ []))
      (staged_as x (Working d.tile d.count) (w.reads.items ++ value ∷ []) (new ∙ d.works) taken)))))

  at_last : (adds : Bool) → step p (state_of b) id (last_event adds)
      ≡ last_act p (state_of b) id d.tile d.count w.reads.items (last_event adds)
  at_last adds =
      at_instance (last_event adds) ∙ acts_last p (state_of b) id d.tile d.count w.reads.items adds

  pub reads_left : (adds : Bool) → (length w.reads.items ≡ length here → ⊥)
      → step p (state_of b) id (last_event adds) ≡ (state_of b, core.not_enabled)
  reads_left adds left =
      let n = ap (λ (rs : List ℕ). length rs) same_reads in
      let kind = is_last_act p (last_event adds) (p.written (p.place d.tile d.count)) in
      at_last adds
      ∙ (if_true (nat_lt d.count (p.size d.tile)) _ _ some_left
      ∙ if_false (nat_eq (length w.reads.items) (length there) && kind) _ _
      (ap (λ (b : Bool). b && kind) (ne-eqb (length w.reads.items) (length there) (λ e. left (e ∙ sym n)))))

  -- what its cell asks for
  same_kind : (walk_shape plan).written (place_of plan i) < (walk_shape plan).cells
      → p.adds (p.written (p.place d.tile d.count)) ≡ (walk_shape plan).adds ((walk_shape plan).written (place_of plan i))
  same_kind inside =
      ap p.adds (sym same_cell) ∙ (shape_extends plan).adds ((walk_shape plan).written (place_of plan i)) inside

  other_kind : (adds kind : Bool) (c : ℕ) → p.adds c ≡ kind → (kind ≡ adds → ⊥) → is_last_act p (last_event adds) c ≡ false
  other_kind true true c is h = absurd (h refl)
  other_kind true false c is h = ap (λ (b : Bool). b && not (is_counted p.gate)) is
  other_kind false true c is h = ap not is
  other_kind false false c is h = absurd (h refl)

  pub is_other : (adds : Bool) → (walk_shape plan).written (place_of plan i) < (walk_shape plan).cells
      → ((walk_shape plan).adds ((walk_shape plan).written (place_of plan i)) ≡ adds → ⊥)
      → step p (state_of b) id (last_event adds) ≡ (state_of b, core.not_enabled)
  is_other adds inside h =
      let cell = p.written (p.place d.tile d.count) in
      at_last adds
      ∙ (if_true (nat_lt d.count (p.size d.tile)) _ _ some_left
      ∙ if_false (nat_eq (length w.reads.items) (length there) && is_last_act p (last_event adds) cell) _ _
      (and_none (nat_eq (length w.reads.items) (length there)) (is_last_act p (last_event adds) cell)
      (other_kind adds (p.adds cell) cell refl (λ e. h (sym (same_kind inside) ∙ e)))))

  pub does_last : (adds : Bool) (x : Worker) (cs : Vec ℕ Global) (value : ℕ) → IsPlan plan
      → length w.reads.items ≡ length here
      → (walk_shape plan).written (place_of plan i) < (walk_shape plan).cells
      → (walk_shape plan).adds ((walk_shape plan).written (place_of plan i)) ≡ adds
      → value ≡ (walk_shape plan).value (place_of plan i) w.reads.items
      → cs.items ≡ set b.cells.items ((walk_shape plan).written (place_of plan i))
      (updated adds (get_or b.cells.items ((walk_shape plan).written (place_of plan i)) 0) value)
      → x.stage ≡ Working d.tile (suc d.count) → x.reads.items ≡ [] → (seen : core.Seen) → seen ≡ told (last_event adds)
      → step p (state_of b) id (last_event adds) ≡ (
        state_of
            (record b { cells = cs; workers = with_item b.workers id x }),
        seen,
      )
  does_last adds x cs value planned all inside own is put new none seen tells =
      let n = ap (λ (rs : List ℕ). length rs) same_reads in
      let xs = w.reads.items in
      let place = p.place d.tile d.count in
      let cell = p.written place in
      let given = is ∙ same_value xs in
      let cells = put
      ∙ ap₂ (λ (c v : ℕ). set b.cells.items c (updated adds (get_or b.cells.items c 0) v)) same_cell given in
      let kind : p.adds cell ≡ adds = same_kind inside ∙ own in
      let alone : adds ≡ true → is_counted p.gate ≡ false =
      λ e. by_waves_alone plan ((walk_shape plan).written (place_of plan i)) (own ∙ e) planned in
      at_last adds
      ∙ (if_true (nat_lt d.count (p.size d.tile)) _ _ some_left
      ∙ (if_true (nat_eq (length xs) (length there) && is_last_act p (last_event adds) cell) _ _
      (and_from (nat_eq (length xs) (length there)) (is_last_act p (last_event adds) cell)
      (eq-eqb (length xs) (length there) (all ∙ n)) (is_last p adds cell kind alone))
      ∙ (ap (λ (c : Bool). (
        record {
          claims = b.claims;
          finished = b.finished;
          cells = set b.cells.items cell (updated c (get_or b.cells.items cell 0) (p.value place xs));
          workers = set (map worker_of b.workers.items) id (core.working d.tile (suc d.count) []);
        },
        told (last_event adds),
      )) kind
      ∙ ap₂ (λ (cells : List ℕ) (ws : List core.Worker).
      (record { claims = b.claims; finished = b.finished; cells = cells; workers = ws }, told (last_event adds)))
      (sym cells)
      (set_worker b id x (core.working d.tile (suc d.count) [])
      (staged_as x (Working d.tile (suc d.count)) [] new none))
      ∙ ap (λ (o : core.Seen).
      (state_of (record b { cells = cs; workers = with_item b.workers id x }), o)) (sym tells))))

-- release
release_refused : (s : core.State) (plan : Plan) (id : ℕ) (v : Stage) (xs : List ℕ) → IsPlan plan
    → IsDealt (walk_shape plan) → ((t k : ℕ) → v ≡ Working t k → t < (shape_of plan).tiles) → ReleasesNone plan v
    → acts (shape_of plan) s id (staged v xs) release ≡ (s, core.not_enabled)
release_refused s plan id Idle xs is dealt below h = refl
release_refused s plan id Ended xs is dealt below h = refl
release_refused s plan id (Holding t) xs is dealt below h = refl
release_refused s plan id (Working t k) xs is dealt below h = ⊎_elim early late (h t k refl)
  where
    no_release : (b : Bool) → (b ≡ true → is_counted (shape_of plan).gate ≡ false)
        → (b && is_counted (shape_of plan).gate) ≡ false
    no_release true alone = alone refl
    no_release false alone = refl

    early : k < (walk_shape plan).size t
        → acts (shape_of plan) s id (staged (Working t k) xs) release ≡ (s, core.not_enabled)
    early left =
        let p = shape_of plan in
        let more = shape_extends plan in
        let tiles = more.tiles in
        let less = below t k refl in
        let size = more.size t in
        let j = (walk_shape plan).place t k in
        let within = dealt.place t k (omega (arith, less, tiles)) left in
        let cell = p.written (p.place t k) in
        let same : cell ≡ (walk_shape plan).written j =
        ap p.written (more.place t k left) ∙ more.written j within in
        let kind : p.adds cell ≡ (walk_shape plan).adds ((walk_shape plan).written j) =
        ap p.adds same ∙ more.adds ((walk_shape plan).written j) (dealt.written j within) in
        if_true (nat_lt k (p.size t)) _ _ (lt-ltb k (p.size t) (omega (arith, left, size)))
        ∙ if_false (nat_eq (length xs) (length (p.read (p.place t k))) && is_last_act p release cell) _ _
        (and_none (nat_eq (length xs) (length (p.read (p.place t k)))) (is_last_act p release cell)
        (no_release (p.adds cell) (λ e. by_waves_alone plan ((walk_shape plan).written j) (sym kind ∙ e) is)))

    late : (shape_of plan).size t ≤ k
        → acts (shape_of plan) s id (staged (Working t k) xs) release ≡ (s, core.not_enabled)
    late over = if_false (nat_lt k ((shape_of plan).size t)) _ _ (le-ltb k ((shape_of plan).size t) over)

pub refuses_release : (plan : Plan) (b : Board) (id : ℕ) (w : Worker) → IsAt b id w → IsPlan plan
    → IsDealt (walk_shape plan) → IsWorker plan w → ReleasesNone plan w.stage
    → step (shape_of plan) (state_of b) id release ≡ (state_of b, core.not_enabled)
refuses_release plan b id w at planned dealt is h =
    step_here plan b id w (worker_of w) release at refl
    ∙ release_refused (state_of b) plan id w.stage w.reads.items planned dealt (λ t k e. working_tile plan w t k is e) h

-- one whose tile releases another
module _ (plan : Plan) (b : Board) (id u : ℕ) (w : Worker) (at : IsAt b id w) (r : IsReleasing plan w.stage u)
    (board : IsBoard plan b) where
  abbrev q : events.Plan
  q = shape_of plan

  abbrev act : ℕ
  act = q.place r.tile r.count

  is_release : IsRelease q act
  is_release = releases_there plan r.tile r.count r.done r.left

  take_none : (n : ℕ) → take {A = ℕ} n [] ≡ []
  take_none zero = refl
  take_none (suc n) = refl

  nothing_read : w.reads.items ≡ []
  nothing_read =
      let o = plan_of plan board.opening in
      let here = at.here
      ∙ ap (λ (x : core.Worker). some x) (staged_as w (Working r.tile r.count) w.reads.items r.works refl) in
      let right = board.run.sound.reads id r.tile r.count w.reads.items here in
      right.values r.left
      ∙ (ap (λ (rs : List ℕ). take (length w.reads.items) (map (before o act) rs)) is_release.read
      ∙ take_none (length w.reads.items))

  pub releases : (x : Worker) (cs : Vec ℕ Global) (cell : ℕ) → cell ≡ (walk_shape plan).cells + u
      → cs.items ≡ set b.cells.items cell ((get_or b.cells.items cell 0 + 1) % 2 ^ 64)
      → x.stage ≡ Working r.tile (suc r.count) → x.reads.items ≡ []
      → step q (state_of b) id release ≡ (
        state_of
            (record b { cells = cs; workers = with_item b.workers id x }),
        core.released,
      )
  releases x cs cell there put new none =
      let xs = w.reads.items in
      let own = q.written act in
      let same : cell ≡ own = there ∙ sym r.counter in
      let one = is_release.value xs in
      let adds = is_release.adds in
      let all : length xs ≡ length (q.read act) =
      ap (λ (ys : List ℕ). length ys) nothing_read ∙ sym (ap (λ (ys : List ℕ). length ys) is_release.read) in
      let cells = put ∙ ap (λ c. set b.cells.items c ((get_or b.cells.items c 0 + 1) % 2 ^ 64)) same in
      step_here plan b id w (core.working r.tile r.count xs) release at
      (staged_as w (Working r.tile r.count) xs r.works refl)
      ∙ (if_true (nat_lt r.count (q.size r.tile)) _ _ (lt-ltb r.count (q.size r.tile) r.left)
      ∙ (if_true (nat_eq (length xs) (length (q.read act)) && is_last_act q release own) _ _
      (and_from (nat_eq (length xs) (length (q.read act))) (is_last_act q release own)
      (eq-eqb (length xs) (length (q.read act)) all)
      (and_from (q.adds own) (is_counted q.gate) adds is_release.counted))
      ∙ (ap₂ (λ (c : Bool) (v : ℕ). (
        record {
          claims = b.claims;
          finished = b.finished;
          cells = set b.cells.items own (updated c (get_or b.cells.items own 0) v);
          workers = set (map worker_of b.workers.items) id (core.working r.tile (suc r.count) []);
        },
        core.released,
      )) adds one
      ∙ ap₂ (λ (cells : List ℕ) (ws : List core.Worker).
      (record { claims = b.claims; finished = b.finished; cells = cells; workers = ws }, core.released))
      (sym cells)
      (set_worker b id x (core.working r.tile (suc r.count) [])
      (staged_as x (Working r.tile (suc r.count)) [] new none)))))

-- finish
finish_refused : (p : core.State) (plan : Plan) (id : ℕ) (s : Stage) (xs : List ℕ) → ((t k : ℕ) → s ≡ Working t k → ⊥)
    → acts (shape_of plan) p id (staged s xs) finish ≡ (p, core.not_enabled)
finish_refused p plan id Idle xs h = refl
finish_refused p plan id Ended xs h = refl
finish_refused p plan id (Holding t) xs h = refl
finish_refused p plan id (Working t k) xs h = absurd (h t k refl)

pub refuses_finish : (plan : Plan) (b : Board) (id : ℕ) (w : Worker) → IsAt b id w
    → ((t k : ℕ) → w.stage ≡ Working t k → ⊥)
    → step (shape_of plan) (state_of b) id finish ≡ (state_of b, core.not_enabled)
refuses_finish plan b id w at h =
    step_here plan b id w (worker_of w) finish at refl ∙ finish_refused (state_of b) plan id w.stage w.reads.items h

module _ (plan : Plan) (b : Board) (id t k : ℕ) (w : Worker) (at : IsAt b id w) (is : w.stage ≡ Working t k) where
  at_tile : step (shape_of plan) (state_of b) id finish ≡ acts (shape_of plan) (state_of b) id
      (core.working t k w.reads.items) finish
  at_tile = step_here plan b id w (core.working t k w.reads.items) finish at
      (staged_as w (Working t k) w.reads.items is refl)

  pub not_full : (k ≡ (shape_of plan).size t → ⊥)
      → step (shape_of plan) (state_of b) id finish ≡ (state_of b, core.not_enabled)
  not_full h = at_tile ∙ if_false (nat_eq k ((shape_of plan).size t)) _ _ (ne-eqb k ((shape_of plan).size t) h)

  pub finishes : (x : Worker) → k ≡ (shape_of plan).size t → x.stage ≡ Idle
      → step (shape_of plan) (state_of b) id finish ≡ (
        state_of
            (record b { finished = b.finished + 1; workers = with_item b.workers id x }),
        core.done,
      )
  finishes x full new =
      at_tile
      ∙ (if_true (nat_eq k ((shape_of plan).size t)) _ _ (eq-eqb k ((shape_of plan).size t) full)
      ∙ ap₂ (λ (n : ℕ) (ws : List core.Worker).
      (record { claims = b.claims; finished = n; cells = b.cells.items; workers = ws }, core.done))
      (let q : suc b.finished ≡ b.finished + 1 = omega arith in q)
      (set_worker b id x core.idle (staged_as x Idle x.reads.items new refl)))

total_ones : (ws : List core.Worker) → total (λ w. if_ended w 1) ws ≤ length ws
total_ones [] = omega arith
total_ones (w ∷ ws) = let i = total_ones ws in let a = if_ended_one w in omega (arith, i, a)
  where
    if_ended_one : (w : core.Worker) → if_ended w 1 ≤ 1
    if_ended_one core.idle = omega arith
    if_ended_one core.ended = omega arith
    if_ended_one (core.holding t) = omega arith
    if_ended_one (core.working t k xs) = omega arith

-- the claims leave room for one more
pub room : (plan : Plan) (b : Board) → IsBoard plan b → b.claims < 18446744073709551615
room plan b board =
    let a = board.run.counted in
    let f = board.run.few in
    let t = total_ones (map worker_of b.workers.items) in
    omega (arith, a, f, t)
