-- A loop of two iterations, parallel or not.
use Rattle.std.specs.Prelude.{Bool, if◌then◌else◌, ℤ, pos, List, [], ◌∷◌}
use Rattle.whole_numbers.specs.Affine.{form_of}
use Rattle.loop_tree.specs.Tree.{Bound, only, Tree, loop, instance, Trees, none, more}
use Rattle.loop_tree.specs.Walk.{Visit}

-- a bound: variables are the loop's value, if there is one, and the parameter
abbrev pub over : List ℤ → ℤ → ℤ → Bound
over cs c d = record { form = form_of cs c; divisor = d }

-- the first statement, at the loop's value
abbrev pub one : Tree
one = instance 0 (form_of (pos 1 ∷ []) (pos 0) ∷ [])

-- at 0 and 1
abbrev pub twice : Bool → Trees
twice flag = more (loop flag (only (over [] (pos 0) (pos 1))) (only (over [] (pos 1) (pos 1))) (more one none)) none

-- its visit at x
abbrev pub visit_at : Bool → ℤ → Visit
visit_at flag x =
    record { values = x ∷ []; parallel = if flag then x ∷ [] else []; number = 0; turns = x ∷ [] }
