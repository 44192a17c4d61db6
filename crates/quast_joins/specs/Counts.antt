-- How many nodes a join has, by the two trees alone.
use Rattle.std.specs.Prelude.{◌≡◌, ℕ, suc, ◌+◌, ◌*◌, List, ◌∷◌, length, min, sum_by, nat_eq, if◌then◌else◌}
use Rattle.whole_numbers.specs.Affine.{Affine}
use Rattle.quast_trees.specs.Source.{Forms}
use Rattle.quast_trees.specs.Tree.{Tree, initial, leaf, branch, bind, count}
use Rattle.quast_trees.specs.declared.node.Node.{Node}
use Rattle.quast_trees.specs.declared.node.Node.TheVariants as node
use Rattle.quast_joins.specs.Leaves.{LeavesAre}
use Rattle.quast_joins.specs.Ways.{loops_of}

-- how many loops two leaves have in common, of those with a form on both sides
abbrev pub tested : List ℕ → List ℕ → List Affine → List Affine → ℕ
tested (k ∷ ks) (l ∷ ls) (f ∷ fs) (g ∷ gs) = if nat_eq k l then suc (tested ks ls fs gs) else 0
tested _ _ _ _ = 0

-- where two leaves meet: two tests and two leaves for each common loop, and the leaf at the end
abbrev pub meet_count : Forms → Forms → ℕ
meet_count a b = 4 * tested (loops_of a.source) (loops_of b.source) a.forms b.forms + 1

-- a tree under a leaf that names an instance
abbrev pub under_count : Forms → Tree → ℕ
under_count a initial = 1
under_count a (leaf b) = meet_count a b
under_count a (branch f x y) = (under_count a x + under_count a y) + 1
under_count a (bind f d x) = under_count a x + 1

-- the join of two trees
abbrev pub join_count : Tree → Tree → ℕ
join_count initial b = count b
join_count (leaf a) b = under_count a b
join_count (branch f x y) b = (join_count x b + join_count y b) + 1
join_count (bind f d x) b = join_count x b + 1

-- each leaf has a form for each loop round it
abbrev pub HasForms : Tree → Type 0
HasForms tree = LeavesAre (λ l. length l.forms ≡ length (loops_of l.source)) tree

-- how many nodes a node of the second tree becomes under a leaf of the first
abbrev pub under_node : Forms → Node → ℕ
under_node a (node.Forms b) = meet_count a b
under_node a _ = 1

-- how many nodes a node of the first tree becomes, where the second's are these
abbrev pub join_node : List Node → Node → ℕ
join_node bs node.Initial = length bs
join_node bs (node.Forms a) = sum_by (under_node a) bs
join_node bs _ = 1

-- a number, or the greatest one that is told
abbrev pub capped : ℕ → ℕ → ℕ
capped most x = min x most
