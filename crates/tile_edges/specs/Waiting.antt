-- Of two places of a walk, when the later waits for the earlier.
use Rattle.std.specs.Prelude.{◌≡◌, ℕ, suc, Bool, true, false, List, Some}
use Rattle.scop_syntax.specs.Covers.{Cover}
use Rattle.scop_syntax.specs.Walk.{Visit}
use Rattle.scop_syntax.specs.Writers.{last_of}

-- place j waits for place i: where flow alone counts, it reads what i wrote last; else it covers i. The reads are
-- numbered from 1
abbrev pub WaitsFor : Bool → List Visit → ℕ → ℕ → Type 0
WaitsFor true visits i j = (r : ℕ) × (last_of visits j (suc r) ≡ Some i)
WaitsFor false visits i j = Cover visits i j
