-- The join of two quasts: at each point the wanted one of the two instances that they answer.
use Rattle.std.specs.Prelude.{ℕ, suc, List, ◌∷◌, nat_eq, if◌then◌else◌}
use Rattle.whole_numbers.specs.Affine.{Affine, sum_of_forms, complement}
use Rattle.quast_trees.specs.Source.{Forms}
use Rattle.quast_trees.specs.Tree.{Tree, initial, leaf, branch, bind}
use Rattle.quast_joins.specs.Ways.{statement_of, loops_of, text}
use Rattle.quast_joins.specs.Shifts.{shifted_form, shifted_leaf, widened}
use Rattle.quast_joins.specs.declared.way.Way.{Way}
use Rattle.quast_joins.specs.declared.way.Way.TheVariants.{Later, Earlier}

-- f - g - 1
abbrev pub less_by_one : Affine → Affine → Affine
less_by_one f g = sum_of_forms f (complement g)

-- at least 0 just where f's value is wanted before g's
abbrev pub test_of : Way → Affine → Affine → Affine
test_of Later f g = less_by_one f g
test_of Earlier f g = less_by_one g f

-- the tests over the common loops, from the outermost, and what stands at their end
abbrev pub chain : Way → Tree → Tree → Tree → List ℕ → List ℕ → List Affine → List Affine → Tree
chain way a b end (k ∷ ks) (l ∷ ls) (f ∷ fs) (g ∷ gs) =
    if nat_eq k l
    then branch (test_of way f g) a (branch (test_of way g f) b (chain way a b end ks ls fs gs))
    else end
chain way a b end _ _ _ _ = end

-- the leaf at the end of the tests: of the wanted textual place, and of two of one statement the first
abbrev pub last_leaf : Way → Forms → Forms → Tree
last_leaf way a b = if text way (statement_of a.source) (statement_of b.source) then leaf a else leaf b

-- where two leaves meet that name instances
abbrev pub meet : Way → Forms → Forms → Tree
meet way a b =
    chain way (leaf a) (leaf b) (last_leaf way a b) (loops_of a.source) (loops_of b.source) a.forms b.forms

-- a tree under a leaf that names an instance: n variables are common, k new parameters are bound at the leaf,
-- j so far in the tree
abbrev pub under : Way → ℕ → ℕ → Forms → ℕ → Tree → Tree
under way n k a j initial = leaf (widened j a)
under way n k a j (leaf b) = meet way (widened j a) (shifted_leaf n k b)
under way n k a j (branch f x y) = branch (shifted_form n k f) (under way n k a j x) (under way n k a j y)
under way n k a j (bind f d x) = bind (shifted_form n k f) d (under way n k a (suc j) x)

-- a tree under the initial value
abbrev pub moved : ℕ → ℕ → Tree → Tree
moved n k initial = initial
moved n k (leaf b) = leaf (shifted_leaf n k b)
moved n k (branch f x y) = branch (shifted_form n k f) (moved n k x) (moved n k y)
moved n k (bind f d x) = bind (shifted_form n k f) d (moved n k x)

-- the join of two trees over n variables, where k new parameters are bound already
abbrev pub join_from : Way → ℕ → ℕ → Tree → Tree → Tree
join_from way n k initial b = moved n k b
join_from way n k (leaf a) b = under way n k a 0 b
join_from way n k (branch f x y) b = branch f (join_from way n k x b) (join_from way n k y b)
join_from way n k (bind f d x) b = bind f d (join_from way n (suc k) x b)

-- the join of two trees over n variables: the second under each leaf of the first, its new parameters numbered
-- behind those that are bound there
abbrev pub join : Way → ℕ → Tree → Tree → Tree
join way n a b = join_from way n 0 a b
