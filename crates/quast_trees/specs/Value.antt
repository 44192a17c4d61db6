-- The leaf of a quast at a point, exactly and in 128 bits.
use Rattle.std.specs.Prelude.{ℤ, pos, negsuc, List, [], ◌∷◌, ◌++◌, Result, Ok}
use Rattle.whole_numbers.specs.Affine.{Affine, value_of, values_of}
use Rattle.whole_numbers.specs.Floor.{floor}
use Rattle.wide_math.specs.declared.Wide.{Wide}
use Rattle.wide_math.specs.Checked.{◌>>=◌}
use Rattle.affine_forms.specs.Runs.{value_run as form_run}
use Rattle.quast_trees.specs.Source.{Forms}
use Rattle.quast_trees.specs.Tree.{Tree, initial, leaf, branch, bind}
use Rattle.quast_trees.specs.Each.{each_run}
use Rattle.quast_trees.specs.Leaf.{Leaf}
use Rattle.quast_trees.specs.Leaf as answer

-- the first where the number is at least 0, else the second
abbrev pub by_sign : {A : Type 0} → ℤ → A → A → A
by_sign (pos n) first second = first
by_sign (negsuc n) first second = second

-- the leaf of a tree at a point
abbrev pub value : Tree → List ℤ → Leaf
value initial point = answer.initial
value (leaf l) point = answer.found l.source (values_of l.forms point)
value (branch test first second) point = by_sign (value_of test point) (value first point) (value second point)
value (bind form divisor body) point = value body (point ++ floor (value_of form point) divisor ∷ [])

-- the values of forms at a point, in order, or the first number on the way that 128 bits do not hold
abbrev pub values_run : List Affine → List ℤ → Result (List ℤ) Wide
values_run forms point = each_run (λ f. form_run f point) forms

-- what a leaf's forms give at a point
abbrev pub leaf_run : Forms → List ℤ → Result Leaf Wide
leaf_run l point = values_run l.forms point >>= λ vs. Ok (answer.found l.source vs)

-- a point with one more value behind it: the quotient of a form's value by a divisor, rounded down
abbrev pub bound_run : Affine → ℤ → List ℤ → Result (List ℤ) Wide
bound_run f divisor point = form_run f point >>= λ v. Ok (point ++ floor v divisor ∷ [])

-- the leaf of a tree at a point, or the first number on the point's way that 128 bits do not hold: the
-- tests and the bound forms from the root down, then the leaf's forms in order
abbrev pub value_run : Tree → List ℤ → Result Leaf Wide
value_run initial point = Ok answer.initial
value_run (leaf l) point = leaf_run l point
value_run (branch test first second) point =
    form_run test point >>= λ v. by_sign v (value_run first point) (value_run second point)
value_run (bind form divisor body) point = bound_run form divisor point >>= λ longer. value_run body longer
