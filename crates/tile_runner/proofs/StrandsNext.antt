-- What a round of a braid's strands asks of their desks, and where whole rounds stand in the tile.
use Rattle.scop_syntax.proofs.Common.{◌≡◌, ◌∙◌, ◌+◌, ◌-◌, ◌*◌, ◌<◌, ◌≤◌, ℕ, suc, List, Some, ap, ap₂, arith, get_or}
use Rattle.scop_syntax.proofs.Common.{subst, take, Option, slice_get, In}
use Rattle.scop_syntax.specs.declared.instance.Instance.{Instance}
use Rattle.tile_table.specs.declared.desk.Desk.{Desk}
use Rattle.tile_table.specs.declared.table.Row.{Row}
use Rattle.tile_core.specs.Plans.{places_in, walk_shape}
use Rattle.tile_core.specs.Ranks.{place_in}
use Rattle.tile_core.specs.Strands.{AreLaid, IsRoundAt}
use Rattle.tile_core.specs.Stretches.{IsWoven, in_round, moved}
use Rattle.tile_core.specs.Views.{done_at, tile_at}
use Rattle.tile_core.specs.Workers.{AreDesks}
use Rattle.tile_core.specs.Braid.{Braid}
use Rattle.tile_core.specs.Spot.{Spot}
use Rattle.tile_core.specs.Stretch.{Stretch}
use Rattle.tile_core.specs.declared.plan.Plan.{Plan}
use Rattle.tile_core.specs.declared.worker.Stage.{Stage}
use Rattle.tile_core.specs.declared.worker.Stage.TheVariants.{Working}
use Rattle.tile_core.proofs.Strands.{laid_there, room_there, rounds_at}
use Rattle.tile_runner.specs.steps.Laid.{AreOnDesk, AreStrandsNext}

-- what a strand gives in a round is on its desk, next in the tile
pub strand_next : (plan : Plan) (b : Braid) (desks : List Desk) (i : ℕ) (s : Stretch) (desk : Desk) (row : Row)
    → AreDesks plan.table.now desks → b.count ≤ 4 → i < b.count → slice_get b.strands i ≡ Some s
    → desk ≡ get_or desks i desk → slice_get plan.table.now.rows.items s.before.statement ≡ Some row
    → (stage : Stage) (round t k : ℕ) → stage ≡ Working t (k + i) → k + b.count ≤ (walk_shape plan).size t
    → IsRoundAt plan b round t k → AreLaid plan.table.now b i b.count round desks → AreOnDesk plan stage row desk 1
strand_next plan b desks i s desk row are few less there is has stage round t k works within here laid =
    let x = in_round s round in
    let steps = take s.before.loops s.steps in record {
      tile = t;
      done = k + i;
      works = works;
      within = omega (arith, less, within);
      first = x;
      steps = steps;
      own = has;
      laid = (
        (room_there plan b desks i s desk row are few less there is has).each s.before.statement row has,
        laid_there plan b desks i s desk row are few less there is has round laid,
      );
      walked = λ j l.
          subst (λ (n : ℕ). In (moved x steps n) (places_in plan)) (let q : 0 ≡ j = omega (arith, l) in q)
          (here.walked i s less there);
      place = λ j l.
          subst (λ (n : ℕ). place_in (places_in plan) (moved x steps n) ≡ (walk_shape plan).place t ((k + i) + n))
          (let q : 0 ≡ j = omega (arith, l) in q)
          (here.place i s less there ∙ ap ((walk_shape plan).place t) (let q : k + i ≡ (k + i) + 0 = omega arith in q));
    }

-- a round before the last of so many ends before they do
round_within : (rounds q count : ℕ) → q < rounds → q * count + count ≤ rounds * count
round_within rounds q count less =
    let d = rounds - (q + 1) in
    let all : rounds * count ≡ ((q + 1) + d) * count = ap (λ n. n * count) (let e : rounds ≡ (q + 1) + d = omega (arith, less) in e) in
    omega (arith, all)

-- behind so many rounds the next one comes next
pub round_next : (plan : Plan) (stage : Stage) (next : Option Instance) (spot : Spot) (rounds : ℕ)
    → IsWoven plan stage next spot rounds → (q : ℕ) → q < rounds → (here : Stage)
    → here ≡ Working (tile_at stage) (suc (done_at stage) + q * spot.braid.count) → (desks : List Desk)
    → AreLaid plan.table.now spot.braid 0 spot.braid.count q desks → AreStrandsNext plan here spot.braid desks
round_next plan stage next spot rounds woven q less here at desks laid =
    let first = woven.first in
    let n = spot.braid.count in
    let end = woven.within first.tile first.done first.works in
    let more = round_within rounds q n less in record {
      round = q;
      tile = first.tile;
      done = suc first.done + q * n;
      works = at ∙ ap₂ (λ (t k : ℕ). Working t (suc k + q * n)) (ap tile_at first.works) (ap done_at first.works);
      within = omega (arith, end, more);
      is = record {
        here = rounds_at plan stage next spot rounds woven first.tile first.done q first.works less;
        laid = laid;
      };
    }
