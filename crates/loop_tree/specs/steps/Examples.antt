-- Two statements: S0 at 0 <= x <= p, S1 at 2 <= x <= p + 1; once as a hull with guards, once in pieces.
use Rattle.std.specs.Prelude.{true, ℤ, pos, negsuc, List, [], ◌∷◌}
use Rattle.whole_numbers.specs.Affine.{form_of}
use Rattle.loop_tree.specs.Tree.{only, besides, at_least, Tree, loop, guard, instance, Trees, none, more}
use Rattle.loop_tree.specs.TwoIterations.{one, over}

-- the second statement
abbrev two : Tree
two = instance 1 (form_of (pos 1 ∷ []) (pos 0) ∷ [])

-- one loop over the values of both, each behind a guard
abbrev pub hull : Trees
hull =
    more (loop true (only (over [] (pos 0) (pos 1))) (only (over (pos 1 ∷ []) (pos 1) (pos 1)))
    (more (guard (at_least (form_of (negsuc 0 ∷ pos 1 ∷ []) (pos 0)) ∷ []) (more one none))
    (more (guard (at_least (form_of (pos 1 ∷ []) (negsuc 1)) ∷ []) (more two none)) none))) none

-- the first alone, both together, the second alone
abbrev pub pieces : Trees
pieces =
    more (loop true (only (over [] (pos 0) (pos 1)))
    (besides (over [] (pos 1) (pos 1)) (only (over (pos 1 ∷ []) (pos 0) (pos 1)))) (more one none))
    (more (loop true (only (over [] (pos 4) (pos 2))) (only (over (pos 2 ∷ []) (pos 1) (pos 2)))
    (more one (more two none)))
    (more (loop true (besides (over [] (pos 2) (pos 1)) (only (over (pos 1 ∷ []) (pos 1) (pos 1))))
    (only (over (pos 1 ∷ []) (pos 1) (pos 1))) (more two none)) none))

-- what both visit where the parameter is 3: the loop's value, then the statement
abbrev pub keys_of_three : List (List ℤ)
keys_of_three =
    (pos 0 ∷ pos 0 ∷ []) ∷ (pos 1 ∷ pos 0 ∷ []) ∷ (pos 2 ∷ pos 0 ∷ []) ∷ (pos 2 ∷ pos 1 ∷ [])
    ∷ (pos 3 ∷ pos 0 ∷ []) ∷ (pos 3 ∷ pos 1 ∷ []) ∷ (pos 4 ∷ pos 1 ∷ []) ∷ []
