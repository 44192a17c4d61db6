-- The source iterators of an instance in numbers: what the constants of its line hold, each over those before it.
use Rattle.std.specs.Prelude.{ℤ, List, [], ◌∷◌, ◌++◌, length}
use Rattle.whole_numbers.specs.Affine.{Affine, value_of}
use Rattle.scop_syntax.specs.Tree.{Head}
use Rattle.c_printer.specs.Forms.{iterator_form}

-- the printed form's value where the parameters, the loops of the tree and the constants before have these values
abbrev pub given_value : List ℤ → List ℤ → List ℤ → Head → Affine → ℤ
given_value params loops before head turn =
    value_of (iterator_form (length params) (length loops) head turn) (params ++ (loops ++ before))

-- what the constants hold, in turn, for the loops that are left
abbrev pub given_values : List ℤ → List ℤ → List ℤ → List Head → List Affine → List ℤ
given_values params loops before [] turns = []
given_values params loops before (head ∷ heads) [] = []
given_values params loops before (head ∷ heads) (turn ∷ turns) =
    given_value params loops before head turn
    ∷ given_values params loops (before ++ given_value params loops before head turn ∷ []) heads turns
