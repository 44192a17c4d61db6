-- What loops still had to come is in the current tile where its last is: all that stands between two instances of one
-- tile lies in it.
use Rattle.scop_syntax.proofs.Common.{◌≡◌, ◌∙◌, ℕ, ℤ, List, [], ◌∷◌, ◌++◌, length, inl, inr, refl, ap, subst, sym}
use Rattle.scop_syntax.proofs.Common.{arith, ◌⊎◌, length-map, In, Sorted, instance_of, Instance, in_append, in_back}
use Rattle.scop_syntax.proofs.Common.{in_front}
use Rattle.std.proofs.lemmas.List.{append_assoc, length-append}
use Rattle.loop_tree.specs.Passed.{AreRun, HasLeft}
use Rattle.loop_tree.specs.Spot.{Mark}
use Rattle.loop_tree.specs.SpotView.{IsSpotOf, StandAlike, mark_of, to_come}
use Rattle.loop_tree.specs.Tiling.{Tiling}
use Rattle.loop_tree.specs.Tree.{Trees}
use Rattle.loop_tree.specs.Walk.{visits}
use Rattle.loop_tree.specs.declared.spot.Spot.{Spot}
use Rattle.loop_tree.proofs.SameSpots.{rest_alike, spot_alike}
use Rattle.tile_list.specs.Tiles.{InOneTile, RiseByTile, TileBefore, joined}
use Rattle.tile_list.specs.steps.Cutting.{HasGrown, IsCutTo}
use Rattle.tile_list.specs.steps.Keys.{IsKeyOf}
use Rattle.tile_list.specs.steps.Stretching.{GoesOn}
use Rattle.tile_list.specs.declared.cutting.Cut.{Cut}
use Rattle.tile_list.proofs.Order.{before-irrefl, before-trans, before_then_one, sorted_behind}
use Rattle.tile_list.proofs.TakenInstances.{takes_all}
use Rattle.tile_list.proofs.TellingKeys.{key_tells, tells_key}
use Rattle.tile_list.proofs.WholeLists.{rest_visited}

-- what stands between two instances of one tile lies in it
between_one : (tiling : Tiling) (x y z : Instance) → InOneTile tiling x y ⊎ TileBefore tiling x y
    → InOneTile tiling y z ⊎ TileBefore tiling y z → InOneTile tiling x z → InOneTile tiling x y
between_one tiling x y z (inl one) behind ends = one
between_one tiling x y z (inr less) (inl one) ends =
    absurd (before-irrefl tiling x z ends (before_then_one tiling x y z less one))
between_one tiling x y z (inr less) (inr more) ends =
    absurd (before-irrefl tiling x z ends (before-trans tiling x y z less more))

-- what stands in order in front of others
sorted_before : {A : Type 0} (R : A → A → Type 0) (front : List A) (y z : A) (rest : List A)
    → Sorted R (front ++ z ∷ rest) → In y front → R y z
sorted_before R [] y z rest s i = absurd i
sorted_before R (w ∷ front) y z rest s (inl e) =
    subst (λ v. R v z) (sym e) (s.0 z (in_back z front (z ∷ rest) (inl refl)))
sorted_before R (w ∷ front) y z rest s (inr i) = sorted_before R front y z rest s.1 i

-- the back of a list in order
sorted_back : {A : Type 0} (R : A → A → Type 0) (xs ys : List A) → Sorted R (xs ++ ys) → Sorted R ys
sorted_back R [] ys s = s
sorted_back R (x ∷ xs) ys s = sorted_back R xs ys s.1

-- instances behind x lie in its tile where the last of them does
behind_in_tile : (tiling : Tiling) (closed : List Instance) (x : Instance) (more front : List Instance) (z : Instance)
    (rest : List Instance) → RiseByTile tiling (closed ++ x ∷ (more ++ (front ++ z ∷ rest)))
    → InOneTile tiling x z → (y : Instance) → In y (front ++ z ∷ []) → InOneTile tiling x y
behind_in_tile tiling closed x more front z rest rise ends y i =
    let R : Instance → Instance → Type 0 = λ u v. InOneTile tiling u v ⊎ TileBefore tiling u v in
    let back = front ++ z ∷ rest in
    let s = sorted_back R more back (sorted_back R closed (x ∷ (more ++ back)) rise).1 in
    elim (in_append y front (z ∷ []) i) [
      | inl j ↦ between_one tiling x y z
          (sorted_behind R closed x y (more ++ back) rise (in_back y more back (in_front y front (z ∷ rest) j)))
          (sorted_before R front y z rest s j) ends
      | inr j ↦ last j
    ]
  where
    last : In y (z ∷ []) → InOneTile tiling x y
    last (inl e) = subst (InOneTile tiling x) (sym e) ends
    last (inr k) = absurd k

-- they have the key that the last has
run_has_key : (ts : Trees) (params : List ℤ) (tiling : Tiling) (part : List Instance) (count : ℕ) (z : Instance)
    (rest : List Instance) (cut : Cut) → RiseByTile tiling (visits ts params) → AreRun part count z
    → IsCutTo ts params tiling (part ++ rest) cut → IsKeyOf tiling z cut.key
    → (y : Instance) → In y part → IsKeyOf tiling y cut.key
run_has_key ts params tiling part count z rest cut rise run is key y i =
    let x = instance_of cut.current.first in
    let R : Instance → Instance → Type 0 = λ u v. InOneTile tiling u v ⊎ TileBefore tiling u v in
    let all : part ++ rest ≡ run.front ++ z ∷ rest =
    ap (λ (ys : List Instance). ys ++ rest) run.all ∙ append_assoc run.front (z ∷ []) rest in
    let whole = subst (λ (zs : List Instance). Sorted R zs) (sym is.parts.all) rise in
    tells_key tiling x y cut.key
    (behind_in_tile tiling (joined is.closed) x is.more run.front z rest
    (subst (λ (zs : List Instance). Sorted R (joined is.closed ++ x ∷ (is.more ++ zs))) all whole)
    (key_tells tiling x z cut.key is.key key) y (subst (λ (ys : List Instance). In y ys) run.all i)) is.key

-- how many they are
run_length : (part : List Instance) (count : ℕ) (z : Instance) → AreRun part count z → count ≡ length part
run_length part count z run =
    let all = ap (λ (ys : List Instance). length ys) run.all in
    let l = length-append run.front (z ∷ []) in
    let size = run.size in
    omega (arith, all, l, size)

-- the last of them is visited
pub last_visited : (ts : Trees) (params : List ℤ) (tiling : Tiling) (all : List Instance) (count : ℕ) (z : Instance)
    (rest : List Instance) (cut : Cut) → HasLeft all count z rest → IsCutTo ts params tiling all cut
    → In z (visits ts params)
last_visited ts params tiling all count z rest cut has is =
    let run = has.run in
    let there : In z has.part =
    subst (λ (ys : List Instance). In z ys) (sym run.all) (in_back z run.front (z ∷ []) (inl refl)) in
    rest_visited ts params tiling all cut is z
    (subst (λ (ys : List Instance). In z ys) (sym has.split) (in_front z has.part rest there))

-- what loops still had to come is in the current tile
pub leaves : (ts : Trees) (params : List ℤ) (tiling : Tiling) (passed far spot : Spot) (count : ℕ) (z : Instance)
    (old new : Cut) → RiseByTile tiling (visits ts params)
    → HasLeft (to_come ts params passed) count z (to_come ts params far) → IsSpotOf ts params far
    → StandAlike spot far → IsKeyOf tiling z old.key → HasGrown count old new
    → IsCutTo ts params tiling (to_come ts params passed) old → GoesOn ts params tiling passed spot new
leaves ts params tiling passed far spot count z old new rise has at alike key grown cut =
    let rest = to_come ts params far in
    let e = ap (λ (xs : List Instance). length xs) has.split in
    let l = length-append has.part rest in
    let same = rest_alike ts params spot far alike in
    let k = ap (λ (xs : List Instance). length xs) same in
    let is = subst (λ (xs : List Instance). IsCutTo ts params tiling xs old) has.split cut in
    record {
      spot_is = spot_alike ts params spot far alike at;
      fewer = omega (arith, e, l, k);
      cut_is = subst (λ (xs : List Instance). IsCutTo ts params tiling xs new) (sym same)
          (takes_all tiling has.part count old new (run_length has.part count z has.run)
          (run_has_key ts params tiling has.part count z rest old rise has.run is key) grown ts params rest is);
    }

-- nothing was passed
pub stays : (ts : Trees) (params : List ℤ) (tiling : Tiling) (spot : Spot) (cut : Cut) → IsSpotOf ts params spot
    → IsCutTo ts params tiling (to_come ts params spot) cut → GoesOn ts params tiling spot spot cut
stays ts params tiling spot cut at is =
    record {
      spot_is = at;
      fewer = omega arith;
      cut_is = is;
    }

-- two spots at one place have as many marks
pub marks_alike : (s u : Spot) → StandAlike s u → length s.marks.items ≡ length u.marks.items
marks_alike s u e =
    let a = length-map s.marks.items mark_of in
    let b = length-map u.marks.items mark_of in
    let same = ap (λ (ms : List Mark). length ms) e.marks in
    omega (arith, a, b, same)
