-- What marks pass by within a loop.
use Rattle.std.specs.Prelude.{◌≡◌, ℕ, ℤ, List, [], ◌∷◌, ◌++◌, map, All, Bool, false, true, ⊤}
use Rattle.whole_numbers.specs.Affine.{Affine, values_of}
use Rattle.scop_syntax.specs.View.{instance_of}
use Rattle.scop_syntax.specs.Walk.{Instance}
use Rattle.loop_tree.specs.Braids.{IsBraid, left_of_braid}
use Rattle.loop_tree.specs.Conditions.{IsHeld}
use Rattle.loop_tree.specs.Stretches.{left_of}
use Rattle.loop_tree.specs.Tree.{Trees, none, more, loop, guard, instance}
use Rattle.loop_tree.specs.Walk.{along, given, walk_all}
use Rattle.loop_tree.specs.declared.braid.Braid.{Braid}
use Rattle.loop_tree.specs.declared.stretch.Stretch.{Stretch}

-- the trees are instances alone
abbrev pub AreLeaves : Trees → Type 0
AreLeaves none = ⊤
AreLeaves (more (loop flag lo up body) ts) = ⊥
AreLeaves (more (guard tests body) ts) = ⊥
AreLeaves (more (instance n forms) ts) = AreLeaves ts

-- the instances that are passed by
abbrev pub passed_by : Stretch → Braid → List Instance
passed_by s b = left_of s ++ left_of_braid b

-- they can be gone through
pub record CanPass (s : Stretch) (b : Braid) : Type 0 where
  pub held : All IsHeld (left_of s)
  pub braid : IsBraid b

-- there are none
pub record IsSpent (s : Stretch) (b : Braid) : Type 0 where
  pub stretch : s.left ≡ 0
  pub braid : IsBraid b
  pub nothing : left_of_braid b ≡ []

-- the instances of a loop's body at so many values from x on
abbrev pub shown_along : Trees → List ℤ → List ℤ → ℤ → ℕ → List Instance
shown_along body params outer x k = map given (along (λ y. walk_all body params (outer ++ y ∷ [])) x k)

-- the one in front of the stretch, where one was found, and those that are passed by behind it
abbrev pub shown_in : Bool → Stretch → Braid → List Instance
shown_in false s b = []
shown_in true s b = instance_of s.before ∷ passed_by s b

-- the instance of a leaf within loops of these values
abbrev pub IsOf : ℕ → List Affine → Instance → List ℤ → List ℤ → Type 0
IsOf n forms i params outer = i ≡ record { number = n; turns = values_of forms (outer ++ params) }

-- where the trees are one leaf alone it is that leaf's
abbrev pub IsAlone : Trees → Instance → List ℤ → List ℤ → Type 0
IsAlone ts i params outer =
    (n : ℕ) (forms : List Affine) → ts ≡ more (instance n forms) none → IsOf n forms i params outer
