-- What the laws of runs rest on: trees whose forms have an entry for each name, what a visit of a tree is in the
-- program.
use Rattle.std.specs.Prelude.{◌≡◌, ◌+◌, ℤ, List, [], ◌∷◌, ◌++◌, length, map, Some, slice_get, ⊤}
use Rattle.whole_numbers.specs.Affine.{Affine, values_of}
use Rattle.scop_syntax.specs.Standings.{Standing, heads_in, standings_of}
use Rattle.scop_syntax.specs.Statements.{Placed, statements_of, visit_of}
use Rattle.scop_syntax.specs.Tree.{Program}
use Rattle.loop_tree.specs.Fits.{form_in}
use Rattle.loop_tree.specs.Tree.{Bounds, only, besides, Test, Tree, loop, guard, instance, Trees, none, more}
use Rattle.loop_tree.specs.Walk.{Visit, through}
use Rattle.c_printer.specs.Iterators.{given_values}
use Rattle.c_meaning.specs.Narrow.{StatementFits}
use Rattle.c_meaning.specs.Programs.{assignment_in}
use Rattle.c_meaning.specs.Runs.{Act, Outcome}
use Rattle.c_meaning.specs.Visits.{constants_at}

-- a form has an entry for each loop and each parameter
abbrev pub IsOver : List ℤ → List ℤ → Affine → Type 0
IsOver params outer form = length form.coefficients ≡ length outer + length params

-- so do those of bounds
abbrev pub BoundsAreOver : List ℤ → List ℤ → Bounds → Type 0
BoundsAreOver params outer (only b) = IsOver params outer b.form
BoundsAreOver params outer (besides b bs) = IsOver params outer b.form × BoundsAreOver params outer bs

-- and those of tests
abbrev pub TestsAreOver : List ℤ → List ℤ → List Test → Type 0
TestsAreOver params outer [] = ⊤
TestsAreOver params outer (test ∷ tests) = IsOver params outer (form_in test) × TestsAreOver params outer tests

abbrev mutual
  -- each form has an entry for each loop and each parameter, and each instance is one of a statement
  pub IsFormed : Program → Tree → List ℤ → List ℤ → Type 0
  IsFormed program (loop flag lo up body) params outer =
      BoundsAreOver params outer lo × BoundsAreOver params outer up
      × ((x : ℤ) → AreFormed program body params (outer ++ x ∷ []))
  IsFormed program (guard tests body) params outer =
      TestsAreOver params outer tests × AreFormed program body params outer
  IsFormed program (instance n turns) params outer = (s : Standing) × (slice_get (standings_of program) n ≡ Some s)

  -- so it is in trees
  pub AreFormed : Program → Trees → List ℤ → List ℤ → Type 0
  AreFormed program none params outer = ⊤
  AreFormed program (more t ts) params outer = IsFormed program t params outer × AreFormed program ts params outer

-- what an instance reaches within loops of these values
abbrev pub act_at : Program → List ℤ → List ℤ → Standing → List Affine → Act
act_at program params outer s turns =
    record {
      assignment = assignment_in (length program.parameters) (length outer)
          (length program.parameters + length outer + length s.heads) s.body;
      point = (params ++ outer) ++ given_values params outer [] s.heads turns;
    }

abbrev mutual
  -- `told` tells of each visit of the tree which assignment the program reaches there, at which point
  pub Tells : Program → (Visit → Act) → Tree → List ℤ → List ℤ → Type 0
  Tells program told (loop flag lo up body) params outer =
      (x : ℤ) → TellAll program (λ v. told (through flag x v)) body params (outer ++ x ∷ [])
  Tells program told (guard tests body) params outer = TellAll program told body params outer
  Tells program told (instance n turns) params outer =
      (s : Standing) → slice_get (standings_of program) n ≡ Some s
      → told (record { values = []; parallel = []; number = n; turns = values_of turns (outer ++ params) })
      ≡ act_at program params outer s turns

  -- so it is in trees
  pub TellAll : Program → (Visit → Act) → Trees → List ℤ → List ℤ → Type 0
  TellAll program told none params outer = ⊤
  TellAll program told (more t ts) params outer =
      Tells program told t params outer × TellAll program told ts params outer

-- a run comes to visits of the tree that are possible, and meets nothing that is undefined
abbrev pub ComesTo : (Visit → Act) → (List Visit → Type 0) → Outcome → Type 0
ComesTo told Run o = (vs : List Visit) × Run vs × (o ≡ Some (map told vs))

-- the numbers of a visit's statement fit within loops of these values
pub record IsReached (program : Program) (params outer : List ℤ) (v : Visit) : Type 0 where
  pub placed : Placed
  pub stands : slice_get (statements_of program) v.number ≡ Some placed
  pub point : params ++ constants_at placed params v.turns ≡ (visit_of placed params v.turns).point
  pub heads : length (constants_at placed params v.turns) ≡ length (heads_in placed.scopes)
  pub fits : StatementFits params (outer ++ v.values) (constants_at placed params v.turns) placed.body
