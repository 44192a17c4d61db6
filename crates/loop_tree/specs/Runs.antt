-- The orders in which an execution may make a tree's visits: iterations of a parallel loop run side by side, all else in
-- turn.
use Rattle.std.specs.Prelude.{◌≡◌, ◌⊎◌, ℕ, zero, suc, Bool, true, false, ℤ, pos, ◌+ℤ◌, ◌-ℤ◌, List, [], ◌∷◌, ◌++◌, map}
use Rattle.whole_numbers.specs.Affine.{values_of}
use Rattle.scop_syntax.specs.Walk.{most_turns}
use Rattle.loop_tree.specs.Tree.{Tree, loop, guard, instance, Trees, none, more}
use Rattle.loop_tree.specs.Walk.{Visit, lower, upper, all_hold, through}

-- the third list has the elements of the first two, those of each in their own order
abbrev pub IsShuffle : {A : Type 0} → List A → List A → List A → Type 0
IsShuffle xs ys [] = (xs ≡ []) × (ys ≡ [])
IsShuffle {A} xs ys (z ∷ zs) =
    ((rest : List A) × (xs ≡ z ∷ rest) × IsShuffle rest ys zs)
    ⊎ ((rest : List A) × (ys ≡ z ∷ rest) × IsShuffle xs rest zs)

-- what an iteration and all later ones make together: of a parallel loop any shuffle, else one after the other
abbrev pub Joins : {A : Type 0} → Bool → List A → List A → List A → Type 0
Joins true xs ys zs = IsShuffle xs ys zs
Joins false xs ys zs = zs ≡ xs ++ ys

-- one run of each of the iterations x, x + 1, .., n of them, joined
abbrev pub RunsAlong : {A : Type 0} → Bool → (ℤ → List A → Type 0) → ℤ → ℕ → List A → Type 0
RunsAlong flag Run x zero zs = zs ≡ []
RunsAlong {A} flag Run x (suc n) zs =
    (xs : List A) × (ys : List A) × Run x xs × RunsAlong flag Run (x +ℤ pos 1) n ys × Joins flag xs ys zs

abbrev mutual
  -- an execution of the tree within loops of these values may make these visits, in this order
  pub MayRun : Tree → List ℤ → List ℤ → List Visit → Type 0
  MayRun (loop flag lo up body) params outer zs =
      RunsAlong flag
      (λ x xs. (ys : List Visit) × MayRunAll body params (outer ++ x ∷ []) ys × (xs ≡ map (through flag x) ys))
      (lower lo (outer ++ params)) (most_turns (upper up (outer ++ params) -ℤ lower lo (outer ++ params))) zs
  MayRun (guard tests body) params outer zs =
      (all_hold tests (outer ++ params) ≡ true → MayRunAll body params outer zs)
      × (all_hold tests (outer ++ params) ≡ false → zs ≡ [])
  MayRun (instance n forms) params outer zs =
      zs ≡ record { values = []; parallel = []; number = n; turns = values_of forms (outer ++ params) } ∷ []

  -- so it is with trees, one after another
  pub MayRunAll : Trees → List ℤ → List ℤ → List Visit → Type 0
  MayRunAll none params outer zs = zs ≡ []
  MayRunAll (more t ts) params outer zs =
      (xs : List Visit) × (ys : List Visit) × MayRun t params outer xs × MayRunAll ts params outer ys × (zs ≡ xs ++ ys)
