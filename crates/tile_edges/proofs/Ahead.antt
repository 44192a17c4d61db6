-- Along a stretch: what is left so many instances on, which tile holds them, and how a pass goes on by them.
use Rattle.scop_syntax.proofs.Common.{◌≡◌, ◌≤◌, ◌<◌, ◌+◌, ◌-◌, ℕ, zero, suc, ℤ, pos, Bool, List, [], ◌∷◌, ◌++◌, ap}
use Rattle.scop_syntax.proofs.Common.{sym, refl, ◌∙◌, subst, Some, inr, arith, length, take, get_or, drop, map}
use Rattle.scop_syntax.proofs.Common.{All, slice_get, All-tail, slice_get_within, multiples, sums}
use Rattle.scop_syntax.proofs.Common.{In, in_front, Program, instance_of, Instance}
use Rattle.scop_syntax.proofs.Common.{instance, walk_of}
use Rattle.std.proofs.lemmas.List.{length-append}
use Rattle.scop_syntax.specs.declared.instance.Instance.{Instance as CodeInstance}
use Rattle.loop_tree.specs.Braids.{left_of_braid}
use Rattle.loop_tree.specs.Conditions.{IsHeld}
use Rattle.loop_tree.specs.Spot.{rest_of}
use Rattle.loop_tree.specs.SpotView.{marks_in, to_come}
use Rattle.loop_tree.specs.Stretches.{following, left_of}
use Rattle.loop_tree.specs.Tiling.{Tiling}
use Rattle.loop_tree.specs.Tree.{Trees}
use Rattle.loop_tree.specs.declared.spot.Spot.{Spot}
use Rattle.loop_tree.specs.declared.stretch.Stretch.{Stretch}
use Rattle.tile_list.specs.Tiles.{HasSize, InOneTile}
use Rattle.tile_list.specs.declared.list.TileList.{TileList}
use Rattle.tile_list.specs.Stretches.{instance_at, steps_on, turns_on}
use Rattle.tile_list.specs.steps.Stretching.{AllRowsFit}
use Rattle.tile_list.proofs.Order.{one-sym, one-trans}
use Rattle.tile_list.proofs.Stretches.{first_sums, length-following, steps_more, tile_along}
use Rattle.tile_table.specs.declared.table.Row.{Row}
use Rattle.tile_table.specs.declared.table.Table.{Table}
use Rattle.tile_table.proofs.NextPlaces.{AreSmall, NextPlace, next_place, row_within}
use Rattle.tile_table.proofs.Visits.{WalkLaws}
use Rattle.tile_edges.specs.Edges.{IsTileOf}
use Rattle.tile_edges.specs.steps.Ahead.{LieIn, left_on, moved_on, steps_in, to_come_on, turns_in}
use Rattle.tile_edges.specs.steps.Finding.{IsFinder, IsPlaceOf}
use Rattle.tile_edges.specs.steps.Walks.{CanPass, CanTake, HasTaken, IsOnItsWay, cells_at}
use Rattle.tile_edges.specs.declared.finding.Finder.{Finder}
use Rattle.tile_edges.specs.declared.finding.Place.{Place}
use Rattle.tile_edges.specs.declared.pairing.Pairs.{Pairs}
use Rattle.tile_edges.specs.declared.touching.Traces.{Traces}
use Rattle.tile_edges.proofs.FindingTiles.{got_at}
use Rattle.tile_edges.proofs.PassedPlaces.{can_take, cells_told, is_taken, step_on}

-- steps taken one by one are steps taken at once
at_once : (turns steps : List ℤ) (k : ℕ) → 1 ≤ k → turns_on turns steps k ≡ sums turns (multiples (pos k) steps)
at_once turns steps zero some = absurd (omega (arith, some))
at_once turns steps (suc zero) some = first_sums turns steps
at_once turns steps (suc (suc k)) some =
    ap (λ (ts : List ℤ). sums ts steps) (at_once turns steps (suc k) (omega arith)) ∙ steps_more (suc k) turns steps

-- what is left of a stretch that stands where the instance so many steps on is in front
pub went_along : (s : Stretch) (here : CodeInstance) (k : ℕ) → 1 ≤ k → instance_of here ≡ instance_at s k
    → here.loops ≡ s.before.loops
    → following here.statement (instance_of here).turns (take here.loops s.steps) (s.left - k) ≡ left_on s k
went_along s here k some is loops =
    ap (λ (l : ℕ). following here.statement (instance_of here).turns (take l s.steps) (s.left - k)) loops
    ∙ (ap (λ (x : Instance). following x.number x.turns (steps_in s) (s.left - k)) is
    ∙ ap (λ (ts : List ℤ). following s.before.statement ts (steps_in s) (s.left - k))
    (sym (at_once (instance_of s.before).turns (steps_in s) k some)))

-- what holds at all that is left of a stretch holds at what is left further on
all_on : (P : Instance → Type 0) (s : Stretch) (k m : ℕ) → s.left ≡ k + m → All P (left_of s)
    → All P (following s.before.statement (turns_in s k) (steps_in s) m)
all_on P s zero m e all =
    let same : s.left ≡ m = omega (arith, e) in
    subst (λ (n : ℕ). All P (following s.before.statement (turns_in s 0) (steps_in s) n)) same all
all_on P s (suc k) m e all =
    All-tail P (moved_on s (suc k)) (following s.before.statement (turns_in s (suc k)) (steps_in s) m)
    (all_on P s k (suc m) (omega (arith, e)) all)

pub left_held : (s : Stretch) (k : ℕ) → k ≤ s.left → All IsHeld (left_of s) → All IsHeld (left_on s k)
left_held s k few all = all_on IsHeld s k (s.left - k) (omega (arith, few)) all

-- the first that is left, and the others
pub first_left : (ts : Trees) (params : List ℤ) (spot : Spot) (k : ℕ) → k < spot.stretch.left
    → to_come_on ts params spot k ≡ moved_on spot.stretch (suc k) ∷ to_come_on ts params spot (suc k)
first_left ts params spot k less =
    let s = spot.stretch in
    let e : s.left - k ≡ suc (s.left - suc k) = omega (arith, less) in
    ap (λ (m : ℕ). following s.before.statement (turns_in s k) (steps_in s) m
    ++ (left_of_braid spot.braid ++ rest_of ts (marks_in spot) params [])) e

-- no more is to come further on
pub fewer_on : (ts : Trees) (params : List ℤ) (spot : Spot) (k : ℕ)
    → length (to_come_on ts params spot k) ≤ length (to_come ts params spot)
fewer_on ts params spot k =
    let s = spot.stretch in
    let behind = left_of_braid spot.braid ++ rest_of ts (marks_in spot) params [] in
    let a = length-append (left_on s k) behind in
    let b = length-append (left_of s) behind in
    let c = length-following s.before.statement (turns_in s k) (steps_in s) (s.left - k) in
    let d = length-following s.before.statement (turns_in s 0) (steps_in s) s.left in
    omega (arith, a, b, c, d)

-- the tile of the instance in front is that of the others up to one that has its place
pub tile_ahead : (tiling : Tiling) (list : TileList) (finder : Finder) (s : Stretch) (k : ℕ) (last : CodeInstance)
    (here place : Place) → HasSize tiling → IsFinder tiling list finder
    → IsTileOf tiling list finder.at (instance_of s.before) → instance_of last ≡ instance_at s k
    → IsPlaceOf tiling (instance_of last) here → place ≡ get_or finder.places.items finder.at place
    → here.wave.items ≡ place.wave.items → here.tile.items ≡ place.tile.items → LieIn tiling list finder.at s k
tile_ahead tiling list finder s k last here place size is front at mine told wave same j low high =
    let x = instance_of s.before in
    let first = instance_of front.tile.first in
    let less = slice_get_within list.tiles.items finder.at front.tile front.is in
    let count = is.places.count in
    let its = is.places.each finder.at front.tile place front.is
    (got_at finder.places.items finder.at place (omega (arith, less, count)) told) in
    let ends : InOneTile tiling (instance_of last) first = record {
      wave = sym mine.wave ∙ (wave ∙ its.wave);
      tile = sym mine.tile ∙ (same ∙ its.tile);
    } in
    let both = one-trans tiling x first (instance_at s k) front.one (one-sym tiling (instance_at s k) first
    (subst (λ y. InOneTile tiling y first) at ends)) in
    let y = steps_on s.before.statement x.turns (steps_in s) j in
    let between = tile_along tiling s.before.statement x.turns (steps_in s) j k size high both in
    record {
      tile = front.tile;
      is = front.is;
      one = subst (λ ts. InOneTile tiling (record { number = s.before.statement; turns = ts }) first)
          (sym (at_once x.turns (steps_in s) j low)) (one-trans tiling y x first (one-sym tiling x y between) front.one);
    }

-- what is left of a walk is of the walk
in_drop : {A : Type 0} (x : A) (n : ℕ) (xs : List A) → In x (drop n xs) → In x xs
in_drop x zero xs i = i
in_drop x (suc n) [] i = i
in_drop x (suc n) (y ∷ xs) i = inr (in_drop x n xs i)

-- so the rows fit at what is left of a stretch
pub fit_ahead : (flow : Bool) (program : Program) (params : List ℤ) (ts : Trees) (tiling : Tiling) (list : TileList)
    (table : Table) (spot : Spot) (kept : Traces) (found : Pairs) → CanPass program params tiling list table
    → IsOnItsWay flow program params tiling list (to_come ts params spot) kept found → AllRowsFit tiling spot.stretch
fit_ahead flow program params ts tiling list table spot kept found can way x i =
    can.fits x (in_drop x way.done (map instance (walk_of program params)) (subst (λ xs. In x xs) way.left
    (in_front x (left_of spot.stretch) (left_of_braid spot.braid ++ rest_of ts (marks_in spot) params []) i)))

-- the next places of a stretch are passed one by one
module _ (flow : Bool) (program : Program) (params : List ℤ) (tiling : Tiling) (list : TileList) (table : Table)
    (can : CanPass program params tiling list table) (laws : WalkLaws) (small : AreSmall) (ts : Trees) (spot : Spot) where
  abbrev next_on : (k : ℕ) (kept : Traces) (found : Pairs) → k < spot.stretch.left
      → (way : IsOnItsWay flow program params tiling list (to_come_on ts params spot k) kept found)
      → NextPlace program params way.done (moved_on spot.stretch (suc k)) (to_come_on ts params spot (suc k))
  next_on k kept found less way =
      next_place program params way.done (moved_on spot.stretch (suc k)) (to_come_on ts params spot k)
      (to_come_on ts params spot (suc k)) (first_left ts params spot k less) way.left

  pub row_ahead : (kept : Traces) (found : Pairs) → 0 < spot.stretch.left
      → IsOnItsWay flow program params tiling list (to_come_on ts params spot 0) kept found
      → spot.stretch.before.statement < length table.rows.items
  row_ahead kept found some way =
      row_within program params table can.told laws way.done (moved_on spot.stretch 1) (to_come_on ts params spot 1)
      (next_on 0 kept found some way)

  pub can_ahead : (k : ℕ) (kept : Traces) (found : Pairs) (row : Row) (cells : List ℕ) → k < spot.stretch.left
      → slice_get table.rows.items spot.stretch.before.statement ≡ Some row
      → cells ≡ cells_at row (turns_in spot.stretch (suc k))
      → IsOnItsWay flow program params tiling list (to_come_on ts params spot k) kept found
      → CanTake flow cells kept found
  can_ahead k kept found row cells less told are way =
      let x = moved_on spot.stretch (suc k) in
      let rest = to_come_on ts params spot (suc k) in
      can_take flow program params tiling list table can way.done kept found cells way.passed
      (are ∙ cells_told flow program params tiling list table can laws small way.done x rest
      (next_on k kept found less way) row told)

  pub gone_ahead : (k n t : ℕ) (kept kept_then : Traces) (found found_then : Pairs) (row : Row) (cells : List ℕ)
      → k < n → n ≤ spot.stretch.left → LieIn tiling list t spot.stretch n
      → slice_get table.rows.items spot.stretch.before.statement ≡ Some row
      → cells ≡ cells_at row (turns_in spot.stretch (suc k))
      → IsOnItsWay flow program params tiling list (to_come_on ts params spot k) kept found
      → HasTaken flow cells t kept found kept_then found_then
      → IsOnItsWay flow program params tiling list (to_come_on ts params spot (suc k)) kept_then found_then
  gone_ahead k n t kept kept_then found found_then row cells less few lie told are way took =
      let x = moved_on spot.stretch (suc k) in
      step_on flow program params tiling list table can laws small x (to_come_on ts params spot k)
      (to_come_on ts params spot (suc k)) kept kept_then found found_then
      (first_left ts params spot k (omega (arith, less, few))) way
      (λ other at. is_taken flow tiling list x kept kept_then found found_then other row cells x.turns t
      (lie (suc k) (omega arith) (omega (arith, less))) are refl (sym at ∙ told) took)

-- nothing was passed yet
pub first_to_come : (ts : Trees) (params : List ℤ) (spot : Spot)
    → to_come ts params spot ≡ to_come_on ts params spot 0
first_to_come ts params spot =
    let s = spot.stretch in
    let e : s.left ≡ s.left - 0 = omega arith in
    ap (λ (m : ℕ). following s.before.statement (turns_in s 0) (steps_in s) m
    ++ (left_of_braid spot.braid ++ rest_of ts (marks_in spot) params [])) e
