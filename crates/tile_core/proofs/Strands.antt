-- Desks of a braid's strands: each goes from one round to the next behind those before it (`laid_next`).
use Rattle.scop_syntax.proofs.Common.{◌≡◌, ◌∙◌, ℕ, suc, ◌+◌, ◌*◌, ◌<◌, ◌≤◌, List, Option, Some, ap, arith, get_or, inl}
use Rattle.scop_syntax.proofs.Common.{inr, length, set, subst, sym, take, ◌⊎◌, ℤ, Vec, slice_get, slice_get-get_or}
use Rattle.scop_syntax.proofs.Common.{sums, get_or-set_other, get_or-set_same, length-set, All-set, In, Instance}
use Rattle.std.specs.Global.{Global}
use Rattle.tile_core.specs.Workers.{IsWorker}
use Rattle.tile_core.specs.declared.worker.Worker.{Worker}
use Rattle.std.proofs.Math.Nat.{eq-or-lt_of_le}
use Rattle.scop_syntax.specs.declared.instance.Instance.{Instance as CodeInstance}
use Rattle.loop_tree.specs.declared.braid.Braid.{Braid}
use Rattle.loop_tree.specs.declared.spot.Spot.{Spot}
use Rattle.loop_tree.specs.declared.stretch.Stretch.{Stretch}
use Rattle.tile_table.specs.Desks.{HasRoomForAll, IsLaid}
use Rattle.tile_table.specs.declared.desk.Desk.{Desk}
use Rattle.tile_table.specs.declared.table.Row.{Row}
use Rattle.tile_table.specs.declared.table.Table.{Table}
use Rattle.tile_core.specs.Plans.{places_in, walk_shape}
use Rattle.tile_core.specs.Rows.{IsRowAt}
use Rattle.tile_core.specs.Stretches.{IsWoven, in_round}
use Rattle.tile_core.specs.Strands.{AreLaid, HaveRows, IsLaidFor, IsRoundAt}
use Rattle.tile_core.specs.Workers.{AreDesks}
use Rattle.tile_core.specs.declared.plan.Plan.{Plan}
use Rattle.tile_core.specs.declared.worker.Stage.{Stage}
use Rattle.tile_core.specs.declared.worker.Stage.TheVariants.{Working}
use Rattle.tile_core.specs.steps.Desks.{IsDeskAt}

-- a desk in place of another
pub desks_put : (table : Table) (desks : List Desk) (at : ℕ) (desk : Desk) → AreDesks table desks
    → HasRoomForAll table desk → AreDesks table (set desks at desk)
desks_put table desks at desk are room = record {
  many = length-set desks at desk ∙ are.many;
  room = All-set (HasRoomForAll table) desks at desk room are.room;
}

module _ (table : Table) (b : Braid) (desks : List Desk) (i : ℕ) (desk : Desk) where
  -- those elsewhere stay laid
  others_laid : (from to round : ℕ) → (i < from) ⊎ (to ≤ i) → AreLaid table b from to round desks
      → AreLaid table b from to round (set desks i desk)
  others_laid from to round out laid at strand d low high there row is =
      let other : at ≡ i → ⊥ = λ e. elim out [
        | inl less ↦ omega (arith, e, less, low)
        | inr past ↦ omega (arith, e, past, high)
      ] in
      subst (IsLaid row (take strand.before.loops strand.steps) (in_round strand round).turns)
      (sym (get_or-set_other desks i at desk d other)) (laid at strand d low high there row is)

  -- one more is laid
  pub laid_more : (s : Stretch) (round : ℕ) → i < length desks → slice_get b.strands i ≡ Some s
      → IsLaidFor table s round desk → AreLaid table b 0 i round desks
      → AreLaid table b 0 (i + 1) round (set desks i desk)
  laid_more s round within here is laid at strand d low high there row has =
      elim (eq-or-lt_of_le (let e : at ≤ i = omega (arith, high) in e)) [
        | inr less ↦ others_laid 0 i round (inr (omega arith)) laid at strand d low less there row has
        | inl e ↦ (let both : Some s ≡ Some strand =
            sym here ∙ (ap (slice_get b.strands) (sym e) ∙ there) in
            let same : s ≡ strand = cc in
            subst (λ (y : Desk). IsLaid row (take strand.before.loops strand.steps) (in_round strand round).turns y)
            (sym (ap (λ (n : ℕ). get_or (set desks i desk) n d) e ∙ get_or-set_same desks i desk d within))
            (subst (λ (t : Stretch). IsLaidFor table t round desk) same is row has))
      ]

  -- those from the next on stay laid
  pub laid_behind : (to round : ℕ) → AreLaid table b i to round desks
      → AreLaid table b (i + 1) to round (set desks i desk)
  laid_behind to round laid =
      others_laid (i + 1) to round (inl (omega arith))
      (λ at strand d low high there. laid at strand d (omega (arith, low)) high there)

-- the strand of a worker that has its desks changed
pub strand_of : (a w : Worker) (i : ℕ) (d : Stretch) → w ≡ record a { desks = w.desks } → i < length w.spot.braid.strands
    → slice_get a.spot.braid.strands i ≡ Some (get_or w.spot.braid.strands i d)
strand_of a w i d same within =
    ap (λ (v : Worker). slice_get v.spot.braid.strands i) (sym same) ∙ slice_get-get_or w.spot.braid.strands i d within

-- a worker with other desks
pub worker_with : (plan : Plan) (w : Worker) (desks : Vec Desk Global) → IsWorker plan w
    → AreDesks plan.table.now desks.items → IsWorker plan (record w { desks = desks })
worker_with plan w desks is are = record {
  spot = is.spot;
  tile = is.tile;
  next = is.next;
  desk = is.desk;
  desks = are;
}

-- a strand and its desk in a round
module _ (plan : Plan) (b : Braid) (desks : List Desk) (i : ℕ) (s : Stretch) (desk : Desk) (row : Row)
    (are : AreDesks plan.table.now desks) (few : b.count ≤ 4) (within : i < b.count)
    (there : slice_get b.strands i ≡ Some s) (is : desk ≡ get_or desks i desk)
    (has : slice_get plan.table.now.rows.items s.before.statement ≡ Some row) where
  pub room_there : HasRoomForAll plan.table.now desk
  room_there =
      let many = are.many in
      subst (HasRoomForAll plan.table.now) (sym is) (are.room i desk (omega (arith, many, few, within)))

  pub laid_there : (round : ℕ) → AreLaid plan.table.now b i b.count round desks
      → IsLaid row (take s.before.loops s.steps) (in_round s round).turns desk
  laid_there round laid =
      subst (λ (y : Desk). IsLaid row (take s.before.loops s.steps) (in_round s round).turns y) (sym is)
      (laid i s desk (omega arith) within there row has)

  pub desk_there : (tells : (x : Instance) → In x (places_in plan)
      → slice_get plan.table.now.rows.items x.number ≡ Some row → IsRowAt plan row x) (round t k : ℕ)
      → IsRoundAt plan b round t k → AreLaid plan.table.now b i b.count round desks
      → IsDeskAt plan row (take s.before.loops s.steps) (in_round s round) desk
  desk_there tells round t k here laid = record {
    tells = tells (in_round s round) (here.walked i s within there) has;
    room = room_there.each s.before.statement row has;
    laid = laid_there round laid;
  }

  -- one step on it is laid for the next round
  pub laid_on : (new : Desk) → ((steps turns : List ℤ) → IsLaid row steps turns desk → IsLaid row steps (sums turns steps) new)
      → (round : ℕ) → AreLaid plan.table.now b i b.count round desks → IsLaidFor plan.table.now s (suc round) new
  laid_on new goes round laid other at =
      let both : Some row ≡ Some other = sym has ∙ at in
      let same : row ≡ other = cc in
      subst (λ (r : Row). IsLaid r (take s.before.loops s.steps) (in_round s (suc round)).turns new) same
      (goes (take s.before.loops s.steps) (in_round s round).turns (laid_there round laid))

-- a braid of which rounds are ahead
module _ (plan : Plan) (stage : Stage) (next : Option CodeInstance) (spot : Spot) (rounds : ℕ)
    (woven : IsWoven plan stage next spot rounds) where
  pub rounds_at : (t k round : ℕ) → stage ≡ Working t k → round < rounds
      → IsRoundAt plan spot.braid round t (suc k + round * spot.braid.count)
  rounds_at t k round works less = record {
    walked = λ at strand within there. woven.walked round at strand less within there;
    place = λ at strand within there.
        woven.place t k round at strand works less within there
        ∙ ap ((walk_shape plan).place t) (omega arith);
  }

  pub rows_there : ((x : Instance) → In x (places_in plan) → x.number < length plan.table.now.rows.items)
      → HaveRows plan.table.now spot.braid
  rows_there law at strand within there =
      law (in_round strand 0) (woven.walked 0 at strand woven.some within there)
