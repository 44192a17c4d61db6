-- The least x of 2 x - p >= 0, over x and p: the rows of its tableau, and nodes of its run.
use Rattle.std.specs.Prelude.{false, pos, negsuc, List, [], ◌∷◌, ◌++◌}
use Rattle.whole_numbers.specs.Affine.{Affine, form_of}
use Rattle.tableau_rows.specs.Rows.{Row, row_of}
use Rattle.tableau_rows.specs.Problem.{Problem, problem_of}
use Rattle.quast_trees.specs.Source.{unnamed}
use Rattle.quast_trees.specs.Tree.{Tree, leaf}
use Rattle.lexmin_runs.specs.Nodes.{Node, first_node, side, with_rows}

-- p and -p and p - 1
abbrev pub given : Affine
given = form_of (pos 1 ∷ []) (pos 0)

abbrev pub opposite : Affine
opposite = form_of (negsuc 0 ∷ []) (pos 0)

abbrev pub one_less : Affine
one_less = form_of (pos 1 ∷ []) (negsuc 0)

-- 2 x - p
abbrev pub doubled : List Affine
doubled = form_of (pos 2 ∷ negsuc 0 ∷ []) (pos 0) ∷ []

-- the problem
abbrev pub halved : Problem
halved = problem_of 1 doubled

-- its tableau: x itself, and 2 x - p
abbrev pub begun : List Row
begun = row_of (pos 1) (pos 1 ∷ pos 0 ∷ pos 0 ∷ []) ∷ row_of (pos 1) (pos 2 ∷ pos 0 ∷ negsuc 0 ∷ []) ∷ []

-- after a pivot on the second row, y: x is (y + p) / 2
abbrev pub pivoted : List Row
pivoted = row_of (pos 2) (pos 1 ∷ pos 0 ∷ pos 1 ∷ []) ∷ row_of (pos 1) (pos 1 ∷ pos 0 ∷ pos 0 ∷ []) ∷ []

-- the same over one parameter q more
abbrev pub longer : List Row
longer =
    row_of (pos 2) (pos 1 ∷ pos 0 ∷ pos 1 ∷ pos 0 ∷ []) ∷ row_of (pos 1) (pos 1 ∷ pos 0 ∷ pos 0 ∷ pos 0 ∷ []) ∷ []

-- the cut on x that is tied to q: (y - p) / 2 + q
abbrev pub new_row : Row
new_row = row_of (pos 2) (pos 1 ∷ pos 0 ∷ negsuc 0 ∷ pos 2 ∷ [])

-- the first node, where p is at most 0, where it is at least 1, and there after the pivot
abbrev pub first : Node
first = first_node 1 halved []

abbrev pub at_zero : Node
at_zero = side first opposite

abbrev pub above : Node
above = side first one_less

abbrev pub solved : Node
solved = with_rows above pivoted

-- its cut, tied to a parameter q more that lies between the bounds of the half of p
abbrev pub bound : Node
bound =
    record {
      begins = false;
      parameters = 2;
      rows = longer ++ new_row ∷ [];
      context =
          form_of (pos 1 ∷ pos 0 ∷ []) (negsuc 0) ∷ form_of (pos 1 ∷ negsuc 1 ∷ []) (pos 0)
          ∷ form_of (negsuc 0 ∷ pos 2 ∷ []) (pos 1) ∷ [];
      bounds = record { form = given; divisor = pos 2; place = 1 } ∷ [];
    }

-- where p is at most 0 the least x is 0
abbrev pub zero_leaf : Tree
zero_leaf = leaf (unnamed 1 (form_of (pos 0 ∷ []) (pos 0) ∷ []))

-- p is 5
abbrev pub five : List Affine
five = form_of (pos 1 ∷ []) (negsuc 4) ∷ form_of (negsuc 0 ∷ []) (pos 5) ∷ []
