-- Dependences that hold the covers of a walk, or its reads with their last writers.
use Rattle.std.specs.Prelude.{◌≡◌, ℕ, suc, ℤ, List, slice_get, Some, false}
use Rattle.scop_syntax.specs.Cells.{Cell}
use Rattle.scop_syntax.specs.Members.{In}
use Rattle.scop_syntax.specs.Tree.{Program}
use Rattle.scop_syntax.specs.Walk.{Visit, instance, walk_of}
use Rattle.scop_syntax.specs.Covers.{CoverBy}
use Rattle.scop_syntax.specs.Reductions.{is_marked}
use Rattle.scop_syntax.specs.Writers.{last_of}
use Rattle.iteration_domains.specs.Dependence.{Dependence}
use Rattle.iteration_domains.specs.Related.{Relates}

-- two instances are a pair of one of the dependences
abbrev pub IsPairIn : List ℤ → List Dependence → Visit → Visit → Type 0
IsPairIn params deps v w = (d : Dependence) × In d deps × Relates params d (instance v) (instance w)

-- each cover of the walk by a cell of an array that is not marked is one
abbrev pub HoldCovers : Program → List ℤ → List ℕ → List Dependence → Type 0
HoldCovers program params marked deps =
    (i j : ℕ) (c : Cell) (v w : Visit) → slice_get (walk_of program params) i ≡ Some v
    → slice_get (walk_of program params) j ≡ Some w → CoverBy (walk_of program params) c i j
    → is_marked marked c.array ≡ false → IsPairIn params deps v w

-- each read of the walk and its last writer are one; the reads are numbered from 1
abbrev pub HoldSources : Program → List ℤ → List Dependence → Type 0
HoldSources program params deps =
    (i j : ℕ) (v w : Visit) (r : ℕ) → slice_get (walk_of program params) i ≡ Some v
    → slice_get (walk_of program params) j ≡ Some w → last_of (walk_of program params) j (suc r) ≡ Some i
    → IsPairIn params deps v w
