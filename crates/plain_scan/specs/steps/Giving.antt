-- Visits that give the iterators of their points.
use Rattle.std.specs.Prelude.{◌≡◌, ℕ, ℤ, List, ◌++◌, length}
use Rattle.integer_sets.specs.Scanned.{Scanned, iterators_at}
use Rattle.scop_syntax.specs.Members.{In}
use Rattle.loop_tree.specs.Tree.{Trees}
use Rattle.loop_tree.specs.Walk.{Visit, walk_all}

-- the visit is one of a set's statement, and gives the iterators of its point behind the outer values
abbrev pub Gives : List Scanned → List ℤ → Visit → Type 0
Gives sets outer v =
    (s : Scanned) × In s sets × (s.statement ≡ v.number) × (v.turns ≡ iterators_at s (outer ++ v.values))

-- each visit does, within m loops
abbrev pub TurnsOn : ℕ → List Scanned → Trees → Type 0
TurnsOn m sets ts =
    (params outer : List ℤ) → length outer ≡ m → (v : Visit) → In v (walk_all ts params outer) → Gives sets outer v
