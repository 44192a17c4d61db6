-- A quast with forms put on those of each leaf.
use Rattle.std.specs.Prelude.{◌≡◌, ℕ, ℤ, List, Result, Ok, length, All, ⊤}
use Rattle.whole_numbers.specs.Affine.{Affine}
use Rattle.wide_math.specs.declared.Wide.{Wide}
use Rattle.wide_math.specs.Checked.{◌>>=◌}
use Rattle.affine_forms.specs.Runs.{compose_run}
use Rattle.quast_trees.specs.Source.{Forms}
use Rattle.quast_trees.specs.Each.{each_run}
use Rattle.quast_trees.specs.Tree.{Tree, initial, leaf, branch, bind}
use Rattle.quast_trees.specs.Leaf.{mapped_leaf}
use Rattle.quast_trees.specs.Value.{value}
use Rattle.quast_trees.specs.declared.node.Node.{Node}
use Rattle.quast_trees.specs.declared.node.Node.TheVariants as node

-- each leaf has as many forms as each of the given forms has coefficients
abbrev pub Suits : List Affine → Tree → Type 0
Suits forms initial = ⊤
Suits forms (leaf l) = All (λ f. length f.coefficients ≡ length l.forms) forms
Suits forms (branch test first second) = Suits forms first × Suits forms second
Suits forms (bind form divisor body) = Suits forms body

-- each form with the inner forms, over n variables, in place of its variables
abbrev pub composed_run : List Affine → List Affine → ℕ → Result (List Affine) Wide
composed_run forms inner n = each_run (λ f. compose_run f inner n) forms

-- a leaf's forms with the forms at its own
abbrev pub leaf_run : List Affine → Forms → Result Forms Wide
leaf_run forms l = composed_run forms l.forms l.variables >>= λ gs. Ok (record l { forms = gs })

-- a tree with the forms at each leaf's own, the first side before the second, or the first number on the
-- way that 128 bits do not hold; branches and binds stay
abbrev pub map_run : List Affine → Tree → Result Tree Wide
map_run forms initial = Ok initial
map_run forms (leaf l) = leaf_run forms l >>= λ m. Ok (leaf m)
map_run forms (branch test first second) =
    map_run forms first >>= λ a. map_run forms second >>= λ b. Ok (branch test a b)
map_run forms (bind form divisor body) = map_run forms body >>= λ b. Ok (bind form divisor b)

-- at every point of n values the second tree's leaf is the first's, with the forms at its own values
abbrev pub IsMapped : List Affine → ℕ → Tree → Tree → Type 0
IsMapped forms n t u = (point : List ℤ) → length point ≡ n → value u point ≡ mapped_leaf forms (value t point)

-- what becomes of one node
abbrev pub node_run : List Affine → Node → Result Node Wide
node_run forms node.Initial = Ok node.Initial
node_run forms (node.Forms l) = leaf_run forms l >>= λ m. Ok (node.Forms m)
node_run forms (node.Branch test n) = Ok (node.Branch test n)
node_run forms (node.Bind form divisor) = Ok (node.Bind form divisor)

-- a leaf's node has as many forms as each of the given forms has coefficients, over its variables
abbrev pub SuitsNode : List Affine → Node → Type 0
SuitsNode forms (node.Forms l) =
    All (λ f. length f.coefficients ≡ l.variables) l.forms × All (λ f. length f.coefficients ≡ length l.forms) forms
SuitsNode forms _ = ⊤
