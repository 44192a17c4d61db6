-- Where the values come from that a run reads, and at which places of the walk a tree visits it (P. Feautrier, "Array expansion", ICS 1988).
use Rattle.std.specs.Prelude.{◌≡◌, ◌+◌, ◌*◌, ◌<◌, ◌≤◌, ℕ, suc, ℤ, List, length, slice_get, Option, Some, None}
use Rattle.scop_syntax.specs.Cells.{Cell, cell_at}
use Rattle.scop_syntax.specs.Tree.{Program}
use Rattle.scop_syntax.specs.Members.{In}
use Rattle.scop_syntax.specs.Walk.{Instance, walk_of}
use Rattle.scop_syntax.specs.Writers.{last_of}
use Rattle.loop_tree.specs.Plans.{walked}
use Rattle.loop_tree.specs.Tree.{Trees}
use Rattle.loop_tree.specs.Walk.{visits}
use Rattle.expansions.specs.declared.sourcing.Sources.{Sources}

-- a place of the walk as a number: 0 is none, and place i is i + 1
abbrev pub number_of : Option ℕ → ℕ
number_of None = 0
number_of (Some i) = suc i

-- of at most 2^22 places each has as many numbers, and at least as many as it reads cells: of its reads in order the places
-- that wrote these cells last, none where the initial value is read, and behind them none
pub record AreSourcesOf (program : Program) (params : List ℤ) (s : Sources) : Type 0 where
  pub few : length (walk_of program params) ≤ 4194304
  pub count : length s.numbers.items ≡ length (walk_of program params) * s.most
  pub reads : (j r : ℕ) (c : Cell) → cell_at (walk_of program params) j (suc r) ≡ Some c → r < s.most
  pub sources : (j r : ℕ) → j < length (walk_of program params) → r < s.most
      → slice_get s.numbers.items (j * s.most + r) ≡ Some (number_of (last_of (walk_of program params) j (suc r)))

-- each of these is an instance of the walk
abbrev pub AreWalked : Program → List ℤ → List Instance → Type 0
AreWalked program params xs = (x : Instance) → In x xs → In x (walked program params)

-- the places at which instances stand in a walk, in turn
pub record ArePlacesIn (walk xs : List Instance) (places : List ℕ) : Type 0 where
  pub count : length places ≡ length xs
  pub each : (r : ℕ) (x : Instance) → slice_get xs r ≡ Some x
      → (j : ℕ) × (slice_get places r ≡ Some j) × (slice_get walk j ≡ Some x)

-- so for what trees visit
abbrev pub ArePlacesOf : Program → List ℤ → Trees → List ℕ → Type 0
ArePlacesOf program params ts = ArePlacesIn (walked program params) (visits ts params)
