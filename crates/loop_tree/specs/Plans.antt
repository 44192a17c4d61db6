-- What the loop tree of a plan is: it visits each walked instance once, in the plan's order, the iterations of its
-- parallel loops do not conflict, and those loops run over the first tile coordinate.
use Rattle.std.specs.Prelude.{◌≡◌, ◌↔◌, ◌⊎◌, ℕ, Bool, true, false, ℤ, pos, ◌<ℤ◌, List, [], ◌∷◌, ◌++◌, map, ⊤, if◌then◌else◌}
use Rattle.whole_numbers.specs.Affine.{value_of}
use Rattle.whole_numbers.specs.Floor.{floor}
use Rattle.whole_numbers.specs.Lexicographic.{LexLess}
use Rattle.scop_syntax.specs.Cells.{PlacesConflict}
use Rattle.scop_syntax.specs.Members.{In, Sorted}
use Rattle.scop_syntax.specs.Tree.{Program}
use Rattle.scop_syntax.specs.Walk.{Instance, instance, walk_of}
use Rattle.loop_tree.specs.Tree.{Tree, loop, guard, instance as leaf, Trees, none, more}
use Rattle.loop_tree.specs.Walk.{Visit, all_hold, given, walk_all, visits}
use Rattle.loop_tree.specs.Scans.{Within}
use Rattle.loop_tree.specs.Shape.{AreSerial}
use Rattle.loop_tree.specs.Tiling.{TileRow, Items, Tiling, kept, tiled, items_at, order_of, IsGoodFor}

-- the instances of the walk, in its order
abbrev pub walked : Program → List ℤ → List Instance
walked program params = map instance (walk_of program params)

-- x stands before y in the order of tiles
abbrev pub Precedes : ℕ → List Items → Instance → Instance → Type 0
Precedes size statements x y = LexLess (order_of size statements x) (order_of size statements y)

-- the instances are those of the walk, each once, in the plan's order
abbrev pub AreInOrder : Program → List ℤ → Tiling → List Instance → Type 0
AreInOrder program params kept xs = xs ≡ walked program params
AreInOrder program params (tiled size statements) xs =
    Sorted (Precedes size statements) xs × ((x : Instance) → In x xs ↔ In x (walked program params))

-- one of two places of the walk that conflict has the instance x, the other y
pub record Conflict (program : Program) (params : List ℤ) (x y : Instance) : Type 0 where
  pub earlier : ℕ
  pub later : ℕ
  pub places : PlacesConflict (walk_of program params) earlier later
  pub are : ((instance places.earlier ≡ x) × (instance places.later ≡ y))
      ⊎ ((instance places.earlier ≡ y) × (instance places.later ≡ x))

-- no instances of two different values of a loop conflict
abbrev pub AreApart : (Instance → Instance → Type 0) → (ℤ → Type 0) → (ℤ → List Visit) → Type 0
AreApart C IsValue body =
    (x y : ℤ) → IsValue x → IsValue y → x <ℤ y → (v w : Visit) → In v (body x) → In w (body y)
    → C (given v) (given w) → ⊥

abbrev mutual
  -- at each execution of a parallel loop, instances of two different iterations do not conflict
  pub IsFree : (Instance → Instance → Type 0) → Tree → List ℤ → List ℤ → Type 0
  IsFree C (loop flag lo up body) params outer =
      (flag ≡ true → AreApart C (Within lo up (outer ++ params)) (λ x. walk_all body params (outer ++ x ∷ [])))
      × ((x : ℤ) → Within lo up (outer ++ params) x → AreFree C body params (outer ++ x ∷ []))
  IsFree C (guard tests body) params outer = all_hold tests (outer ++ params) ≡ true → AreFree C body params outer
  IsFree C (leaf n forms) params outer = ⊤

  -- so it is in each of these trees
  pub AreFree : (Instance → Instance → Type 0) → Trees → List ℤ → List ℤ → Type 0
  AreFree C none params outer = ⊤
  AreFree C (more t ts) params outer = IsFree C t params outer × AreFree C ts params outer

-- the coordinate of the first row of a band, where it has one
abbrev pub first_coordinate : ℕ → List TileRow → List ℤ → List ℤ
first_coordinate size [] turns = []
first_coordinate size (r ∷ rs) turns = floor (value_of r.form turns) (pos size) ∷ []

-- whether a band has a row
abbrev pub has_row : List TileRow → Bool
has_row [] = false
has_row (r ∷ rs) = true

-- whether the first band of a statement has one
abbrev pub has_rows : List Items → Bool
has_rows [] = false
has_rows (s ∷ statements) = if has_row s.band then true else has_rows statements

-- where the first band has a row, each visited instance stands in one parallel loop, whose value there is the tile
-- coordinate of that row; elsewhere no loop is parallel
abbrev pub AreMarked : Tiling → Trees → List ℤ → Type 0
AreMarked kept ts params = AreSerial ts
AreMarked (tiled size statements) ts params =
    (has_rows statements ≡ true → (v : Visit) → In v (walk_all ts params [])
    → v.parallel ≡ first_coordinate size (items_at statements v.number).band v.turns)
    × (has_rows statements ≡ false → AreSerial ts)

-- trees that carry out a plan of the program at these parameters, where some arrays are only added to: the plan is good
-- but for these, they visit each walked instance once, in the plan's order, and where there is no such array their
-- parallel loops may run in any order
pub record CarryOut (program : Program) (params : List ℤ) (sums : List ℕ) (plan : Tiling) (ts : Trees) : Type 0 where
  pub good : IsGoodFor program params sums plan
  pub exact : AreInOrder program params plan (visits ts params)
  pub free : sums ≡ [] → AreFree (Conflict program params) ts params []
  pub marked : AreMarked plan ts params
