-- Values of loops that part at a marked loop.
use Rattle.std.specs.Prelude.{◌≡◌, Bool, true, ℤ, ◌<ℤ◌, List, [], ◌∷◌, ◌⊎◌}
use Rattle.scop_syntax.specs.Members.{In}
use Rattle.scop_syntax.specs.Walk.{Instance}
use Rattle.loop_tree.specs.Walk.{Visit, given}

-- the values are the same up to a marked place, where the second is greater
abbrev pub PartAt : List Bool → List ℤ → List ℤ → Type 0
PartAt [] xs ys = ⊥
PartAt (b ∷ bs) [] ys = ⊥
PartAt (b ∷ bs) (x ∷ xs) [] = ⊥
PartAt (b ∷ bs) (x ∷ xs) (y ∷ ys) = ((b ≡ true) × (x <ℤ y)) ⊎ ((x ≡ y) × PartAt bs xs ys)

-- no visit conflicts with one whose values part from its own at a marked place
abbrev pub NoneConflict : (Instance → Instance → Type 0) → List Bool → List Visit → Type 0
NoneConflict C bs visits =
    (v w : Visit) → In v visits → In w visits → PartAt bs v.values w.values → C (given v) (given w) → ⊥
