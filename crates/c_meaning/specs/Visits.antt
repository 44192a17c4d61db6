-- What the visits of a loop tree are in its program: which assignment each reaches, and the values of the names there;
-- and trees of which no parallel loop has a race.
use Rattle.std.specs.Prelude.{◌≡◌, ◌+◌, true, ℤ, ◌<ℤ◌, List, [], ◌∷◌, ◌++◌, drop, length, Option, Some, None, slice_get}
use Rattle.std.specs.Prelude.{⊤}
use Rattle.scop_syntax.specs.Standings.{heads_in}
use Rattle.scop_syntax.specs.Statements.{Placed, statements_of, visit_of}
use Rattle.scop_syntax.specs.Tree.{Program}
use Rattle.scop_syntax.specs.Members.{In}
use Rattle.loop_tree.specs.Scans.{Within}
use Rattle.loop_tree.specs.Tree.{Tree, loop, guard, instance, Trees, none, more}
use Rattle.loop_tree.specs.Walk.{Visit, all_hold, through, walk_all}
use Rattle.c_meaning.specs.Programs.{assignment_in}
use Rattle.c_meaning.specs.Runs.{Act, Clash}
use Rattle.c_meaning.specs.Syntax.{shifted_left}

-- the constants of a statement's block at these turns: what stands in the source's point behind the parameters
abbrev pub constants_at : Placed → List ℤ → List ℤ → List ℤ
constants_at p params turns = drop (length params) (visit_of p params turns).point

-- what a visit reaches, by its statement and the values of the tree's loops; nothing where there is no statement
abbrev pub acted : Program → List ℤ → List ℤ → List ℤ → Option Placed → Act
acted program params loops turns None =
    record {
      assignment = record { place = record { array = 0; subscripts = [] }; right = shifted_left 0 };
      point = [];
    }
acted program params loops turns (Some p) =
    record {
      assignment = assignment_in (length program.parameters) (length loops)
          (length program.parameters + length loops + length (heads_in p.scopes)) p.body;
      point = (params ++ loops) ++ constants_at p params turns;
    }

-- what a visit of a tree reaches within loops of these values
abbrev pub act_in : Program → List ℤ → List ℤ → Visit → Act
act_in program params outer v =
    acted program params (outer ++ v.values) v.turns (slice_get (statements_of program) v.number)

-- what a visit of a whole tree reaches
abbrev pub act_of : Program → List ℤ → Visit → Act
act_of program params v = act_in program params [] v

abbrev mutual
  -- at each execution of a parallel loop, acts of two iterations do not conflict
  pub IsRaceless : (Visit → Act) → Tree → List ℤ → List ℤ → Type 0
  IsRaceless told (loop flag lo up body) params outer =
      (flag ≡ true → (x y : ℤ) → Within lo up (outer ++ params) x → Within lo up (outer ++ params) y → x <ℤ y
      → (v w : Visit) → In v (walk_all body params (outer ++ x ∷ [])) → In w (walk_all body params (outer ++ y ∷ []))
      → Clash (told (through flag x v)) (told (through flag y w)) → ⊥)
      × ((x : ℤ) → Within lo up (outer ++ params) x
      → AreRaceless (λ v. told (through flag x v)) body params (outer ++ x ∷ []))
  IsRaceless told (guard tests body) params outer =
      all_hold tests (outer ++ params) ≡ true → AreRaceless told body params outer
  IsRaceless told (instance n turns) params outer = ⊤

  -- so it is in trees
  pub AreRaceless : (Visit → Act) → Trees → List ℤ → List ℤ → Type 0
  AreRaceless told none params outer = ⊤
  AreRaceless told (more t ts) params outer = IsRaceless told t params outer × AreRaceless told ts params outer
