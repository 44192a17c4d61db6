-- Instances that follow one another, each with the same steps more in its turns than the one before it.
use Rattle.std.specs.Prelude.{ℕ, zero, suc, ℤ, List, [], ◌∷◌, take}
use Rattle.whole_numbers.specs.Lists.{sums}
use Rattle.scop_syntax.specs.Walk.{Instance}
use Rattle.scop_syntax.specs.View.{instance_of}
use Rattle.loop_tree.specs.declared.stretch.Stretch.{Stretch}

-- so many instances of a statement behind one at these turns
abbrev pub following : ℕ → List ℤ → List ℤ → ℕ → List Instance
following n turns steps zero = []
following n turns steps (suc k) =
    record { number = n; turns = sums turns steps } ∷ following n (sums turns steps) steps k

-- the instances that are left of a stretch
abbrev pub left_of : Stretch → List Instance
left_of s = following s.before.statement (instance_of s.before).turns (take s.before.loops s.steps) s.left
