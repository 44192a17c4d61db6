-- Two spots at one place.
use Rattle.scop_syntax.proofs.Common.{◌≡◌, ◌++◌, ℤ, List, [], length, ap, ap₂, sym, subst, arith, All, length-map}
use Rattle.scop_syntax.proofs.Common.{Instance}
use Rattle.loop_tree.specs.Braids.{IsBraid, left_of_braid}
use Rattle.loop_tree.specs.Conditions.{IsHeld}
use Rattle.loop_tree.specs.Spot.{IsAt, Mark, rest_of}
use Rattle.loop_tree.specs.SpotView.{IsSpotOf, StandAlike, mark_of, to_come}
use Rattle.loop_tree.specs.Stretches.{left_of}
use Rattle.loop_tree.specs.Tree.{Trees}
use Rattle.loop_tree.specs.declared.braid.Braid.{Braid}
use Rattle.loop_tree.specs.declared.spot.Spot.{Spot}
use Rattle.loop_tree.specs.declared.stretch.Stretch.{Stretch}

pub spot_alike : (ts : Trees) (params : List ℤ) (s u : Spot) → StandAlike s u → IsSpotOf ts params u
    → IsSpotOf ts params s
spot_alike ts params s u e is =
    let a = length-map s.marks.items mark_of in
    let b = length-map u.marks.items mark_of in
    let same = ap (λ (ms : List Mark). length ms) e.marks in
    let room = is.room in
    record {
      room = omega (arith, a, b, same, room);
      stands = subst (λ (ms : List Mark). IsAt ts ms params []) (sym e.marks) is.stands;
      held = subst (λ (x : Stretch). All IsHeld (left_of x)) (sym e.stretch) is.held;
      braid = subst (λ (x : Braid). IsBraid x) (sym e.braid) is.braid;
    }

pub rest_alike : (ts : Trees) (params : List ℤ) (s u : Spot) → StandAlike s u
    → to_come ts params s ≡ to_come ts params u
rest_alike ts params s u e =
    ap₂ (λ (x : Stretch) (is : List Instance). left_of x ++ is) e.stretch
    (ap₂ (λ (x : Braid) (ms : List Mark). left_of_braid x ++ rest_of ts ms params []) e.braid e.marks)
