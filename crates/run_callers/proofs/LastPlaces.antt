-- Which place is the last done one that writes a cell: none before the first claim, the walk's last where it is done.
use Rattle.scop_syntax.proofs.Common.{◌≡◌, ℕ, suc, Bool, true, false, ◌&&◌, List, length, Some, arith, nat_lt}
use Rattle.scop_syntax.proofs.Common.{slice_get, le-ltb, slice_get_within, Cell, written, Visit}
use Rattle.tile_events.specs.Core.{State}
use Rattle.tile_events.specs.DonePlaces.{HasNoWriter, IsLastWriter}
use Rattle.tile_events.specs.Plan.{Plan}
use Rattle.tile_events.specs.Sound.{all_passed, is_done}

-- without claims no place is done
pub none_done : (visits : List Visit) (p : Plan) (s : State) (c : Cell) → s.claims ≡ 0
    → HasNoWriter visits (is_done p s) c
none_done visits p s c none j w found over writes =
    not_both (nat_lt (p.tile j) s.claims) (le-ltb (p.tile j) s.claims (omega (arith, none))) over
  where
    not_both : (b : Bool) → b ≡ false → (b && all_passed s.workers (p.tile j) (p.position j)) ≡ true → ⊥
    not_both true e h = absurd cc
    not_both false e h = absurd cc

-- behind the last place there is none
pub last_done : (visits : List Visit) (done : ℕ → Bool) (c : Cell) (i : ℕ) (v : Visit) → suc i ≡ length visits
    → slice_get visits i ≡ Some v → written v ≡ c → done i ≡ true → IsLastWriter visits done c i v
last_done visits done c i v end found writes over = record {
  there = found;
  over = over;
  writes = writes;
  last = λ j w l at. let within = slice_get_within visits j w at in absurd (omega (arith, end, l, within));
}
