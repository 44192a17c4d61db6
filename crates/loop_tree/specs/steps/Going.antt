-- What goes on between two places of a tree's visits.
use Rattle.std.specs.Prelude.{◌≡◌, ◌≤◌, ◌+ℤ◌, ◌≤ℤ◌, ℕ, zero, false, ℤ, pos, List, [], ◌∷◌, ◌++◌, length}
use Rattle.std.specs.Prelude.{drop, take, if◌then◌else◌}
use Rattle.std.specs.Int.Signed.{le_z}
use Rattle.scop_syntax.specs.Walk.{Instance}
use Rattle.loop_tree.specs.Conditions.{CanWalk}
use Rattle.loop_tree.specs.Spot.{Mark, mark, deep_all, IsAt, rest_of, shown_from}
use Rattle.loop_tree.specs.Tree.{Trees}

-- the place can go on
pub record CanGo (ts : Trees) (ms : List Mark) (params outer : List ℤ) : Type 0 where
  pub walk : CanWalk ts params outer
  pub room : deep_all ts ≤ length ms
  pub stands : IsAt ts ms params outer

-- it went on by these instances
pub record HasGone (ts : Trees) (old new : List Mark) (found : List Instance) (params outer : List ℤ) : Type 0 where
  pub rest : rest_of ts old params outer ≡ found ++ rest_of ts new params outer
  pub room : length new ≡ length old
  pub stands : IsAt ts new params outer

-- what is still to come of a loop's body from the value x on, where the marks stand within x
abbrev pub rest_from : Trees → List Mark → ℤ → ℤ → List ℤ → List ℤ → List Instance
rest_from body ms x last params outer =
    if le_z x last
    then rest_of body ms params (outer ++ x ∷ []) ++ shown_from body params outer (x +ℤ pos 1) last
    else []

-- the values of a loop from x on can be gone through
pub record CanTurn (body : Trees) (ms : List Mark) (x last : ℤ) (params outer : List ℤ) : Type 0 where
  pub walk : (y : ℤ) → x ≤ℤ y → y ≤ℤ last → CanWalk body params (outer ++ y ∷ [])
  pub room : deep_all body ≤ length ms
  pub stands : x ≤ℤ last → IsAt body ms params (outer ++ x ∷ [])

-- the marks at a loop's value went on by these instances
pub record HasTurned (body : Trees) (x : ℤ) (old : List Mark) (y : ℤ) (new : List Mark) (last : ℤ)
    (found : List Instance) (params outer : List ℤ) : Type 0 where
  pub rest : rest_from body old x last params outer ≡ found ++ rest_from body new y last params outer
  pub up : x ≤ℤ y
  pub stands : y ≤ℤ last → IsAt body new params (outer ++ y ∷ [])

-- marks of a tree alone
abbrev pub alone : Mark → List Mark → List Mark
alone (mark k begun x z) ms = mark zero begun x z ∷ ms

-- marks where nothing was begun
abbrev pub restarted : List Mark → List Mark
restarted [] = []
restarted (m ∷ ms) = mark zero false (pos 0) (pos 0) ∷ ms

-- these trees stand in loops of these values, k marks further in, and what goes on there goes on in all
pub record Leads (ts : Trees) (ms : List Mark) (params : List ℤ) (us : Trees) (k : ℕ) (values : List ℤ) : Type 0 where
  pub can : CanGo us (drop k ms) params values
  pub lifts : (new : List Mark) (found : List Instance) → HasGone us (drop k ms) new found params values
      → HasGone ts ms (take k ms ++ new) found params []

-- a mark that stands within a loop's value, and what goes on there goes on at the mark
pub record Within (us : Trees) (m : Mark) (x : ℤ) (body : Trees) : Type 0 where
  pub can : (ms : List Mark) (params outer : List ℤ) → CanGo us (m ∷ ms) params outer
      → CanGo body ms params (outer ++ x ∷ [])
  pub lifts : (ms new : List Mark) (found : List Instance) (params outer : List ℤ) → CanGo us (m ∷ ms) params outer
      → HasGone body ms new found params (outer ++ x ∷ []) → HasGone us (m ∷ ms) (m ∷ new) found params outer
