-- Runs of a loop by its iterations: which of them a visit stands in, and visits that are a run of each of them.
use Rattle.std.specs.Prelude.{◌≡◌, Bool, true, false, ℤ, ◌≤ℤ◌, List, [], ◌∷◌, ◌++◌, filter, map}
use Rattle.std.specs.Ordering.{int_eq}
use Rattle.scop_syntax.specs.Members.{In}
use Rattle.loop_tree.specs.Runs.{MayRunAll}
use Rattle.loop_tree.specs.Scans.{Within}
use Rattle.loop_tree.specs.Tree.{Bounds, Trees}
use Rattle.loop_tree.specs.Walk.{Visit, through}

-- the list starts with x
abbrev pub starts_with : ℤ → List ℤ → Bool
starts_with x [] = false
starts_with x (y ∷ ys) = int_eq x y

-- a visit of a loop stands in its iteration at x
abbrev pub stands_at : ℤ → Visit → Bool
stands_at x v = starts_with x v.values

-- the iteration of v is that of w, or an earlier one
abbrev pub InTurn : Visit → Visit → Type 0
InTurn v w = (x y : ℤ) → stands_at x v ≡ true → stands_at y w ≡ true → x ≤ℤ y

-- an execution of the iteration at x may make these visits, in this order
abbrev pub MayRunAt : Bool → Trees → List ℤ → List ℤ → ℤ → List Visit → Type 0
MayRunAt flag body params outer x zs =
    (ys : List Visit) × MayRunAll body params (outer ++ x ∷ []) ys × (zs ≡ map (through flag x) ys)

-- an interleaving of one run of each iteration between the bounds: each visit stands in one of them, and those that
-- stand in the same are, in their order, a run of it
pub record Interleaves (flag : Bool) (lo up : Bounds) (body : Trees) (params outer : List ℤ) (zs : List Visit)
    : Type 0 where
  pub within : (v : Visit) → In v zs → (x : ℤ) × Within lo up (outer ++ params) x × (stands_at x v ≡ true)
  pub runs : (x : ℤ) → Within lo up (outer ++ params) x → MayRunAt flag body params outer x (filter (stands_at x) zs)
