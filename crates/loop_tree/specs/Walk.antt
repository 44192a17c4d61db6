-- The visits of a tree, all loops upwards.
use Rattle.std.specs.Prelude.{ℕ, zero, suc, Bool, true, false, ℤ, pos, ◌+ℤ◌, ◌-ℤ◌, ◌*ℤ◌, List, [], ◌∷◌, ◌++◌, map}
use Rattle.std.specs.Prelude.{if◌then◌else◌}
use Rattle.std.specs.Int.Signed.{le_z}
use Rattle.whole_numbers.specs.Affine.{value_of, values_of}
use Rattle.whole_numbers.specs.Floor.{floor, ceiling}
use Rattle.scop_syntax.specs.Walk.{most_turns, Instance}
use Rattle.loop_tree.specs.Tree.{Bounds, only, besides, Test, at_least, equal, multiple, Tree, loop, guard, instance}
use Rattle.loop_tree.specs.Tree.{Trees, none, more}

-- the greater of two numbers
abbrev pub max_z : ℤ → ℤ → ℤ
max_z a b = if le_z a b then b else a

-- the less of two numbers
abbrev pub min_z : ℤ → ℤ → ℤ
min_z a b = if le_z a b then a else b

-- where a loop starts
abbrev pub lower : Bounds → List ℤ → ℤ
lower (only b) point = ceiling (value_of b.form point) b.divisor
lower (besides b bs) point = max_z (ceiling (value_of b.form point) b.divisor) (lower bs point)

-- where it ends
abbrev pub upper : Bounds → List ℤ → ℤ
upper (only b) point = floor (value_of b.form point) b.divisor
upper (besides b bs) point = min_z (floor (value_of b.form point) b.divisor) (upper bs point)

-- a test holds
abbrev pub holds : Test → List ℤ → Bool
holds (at_least form) point = le_z (pos 0) (value_of form point)
holds (equal form) point =
    if le_z (pos 0) (value_of form point) then le_z (value_of form point) (pos 0) else false
holds (multiple form d) point = le_z (value_of form point) (floor (value_of form point) d *ℤ d)

-- all of them do
abbrev pub all_hold : List Test → List ℤ → Bool
all_hold [] point = true
all_hold (test ∷ tests) point = if holds test point then all_hold tests point else false

-- a visited instance: the loops' values, outermost first, those of the parallel loops, the statement and its turns
pub record Visit : Type 0 where
  pub values : List ℤ
  pub parallel : List ℤ
  pub number : ℕ
  pub turns : List ℤ

-- a visit of a loop's body as a visit of the loop
abbrev pub through : Bool → ℤ → Visit → Visit
through flag x v =
    record {
      values = x ∷ v.values;
      parallel = if flag then x ∷ v.parallel else v.parallel;
      number = v.number;
      turns = v.turns;
    }

-- the bodies of x, x + 1, .., n of them
abbrev pub along : {A : Type 0} → (ℤ → List A) → ℤ → ℕ → List A
along body x zero = []
along body x (suc n) = body x ++ along body (x +ℤ pos 1) n

-- the bodies of all values from the first to the last
abbrev pub between : {A : Type 0} → (ℤ → List A) → ℤ → ℤ → List A
between body first last = along body first (most_turns (last -ℤ first))

abbrev mutual
  -- the visits of a tree within loops of these values
  pub walk : Tree → List ℤ → List ℤ → List Visit
  walk (loop flag lo up body) params outer =
      between (λ x. map (through flag x) (walk_all body params (outer ++ x ∷ []))) (lower lo (outer ++ params))
      (upper up (outer ++ params))
  walk (guard tests body) params outer = if all_hold tests (outer ++ params) then walk_all body params outer else []
  walk (instance n forms) params outer =
      record { values = []; parallel = []; number = n; turns = values_of forms (outer ++ params) } ∷ []

  -- those of trees, one after another
  pub walk_all : Trees → List ℤ → List ℤ → List Visit
  walk_all none params outer = []
  walk_all (more t ts) params outer = walk t params outer ++ walk_all ts params outer

-- the instance that a visit gives
abbrev pub given : Visit → Instance
given v = record { number = v.number; turns = v.turns }

-- the instances that trees visit for these parameters, in turn
abbrev pub visits : Trees → List ℤ → List Instance
visits ts params = map given (walk_all ts params [])
