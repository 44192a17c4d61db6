-- Small programs as worked examples of the meaning: array 0 is X, which has four cells; there are no parameters.
use Rattle.std.specs.Prelude.{false, ℤ, pos, negsuc, List, [], ◌∷◌}
use Rattle.whole_numbers.specs.Affine.{Affine}
use Rattle.scop_syntax.specs.Tree.{Access, read, assigned, combined, minus, Head, equal, Tree, Trees, loop, guard}
use Rattle.scop_syntax.specs.Tree.{statement, none, more, Program, Declaration}

-- a form by its coefficients and constant
abbrev pub form : List ℤ → ℤ → Affine
form coefficients constant = record { coefficients = coefficients; constant = constant }

-- X[i + k] within one loop
abbrev pub at : ℤ → Access
at k = record { array = 0; subscripts = form (pos 1 ∷ []) k ∷ [] }

-- one tree and nothing else
abbrev pub one_item : Tree → Trees
one_item item = more item none

-- uint64_t X[4]
abbrev pub four_cells : Declaration
four_cells = record { name = []; parameters_before = 0; narrow = false; extents = form [] (pos 4) ∷ [] }

-- a kernel over X alone
abbrev pub over_four_cells : Trees → Program
over_four_cells body = record { name = []; parameters = []; arrays = four_cells ∷ []; body = body }

-- for (i = first; condition >= 0; i += stride)
abbrev pub head : ℤ → ℤ → Affine → Head
head first stride condition = record { iterator = []; first = form [] first; stride = stride; condition = condition }

-- for (i = 3; i >= 1; i -= 2) X[i] = X[i - 1];
abbrev pub falling_by_two : Program
falling_by_two =
    over_four_cells (one_item (loop (head (pos 3) (negsuc 1) (form (pos 1 ∷ []) (negsuc 0)))
    (one_item (statement (record { place = at (pos 0); right = assigned (read (at (negsuc 0))) })))))

-- for (i = 0; i < 3; i++) X[i + 1] = X[i];
abbrev pub rising : Program
rising =
    over_four_cells (one_item (loop (head (pos 0) (pos 1) (form (negsuc 0 ∷ []) (pos 2)))
    (one_item (statement (record { place = at (pos 1); right = assigned (read (at (pos 0))) })))))

-- for (i = 0; i < 4; i++) if (i == 2) X[i] -= X[i - 1];
abbrev pub guarded_by_an_equality : Program
guarded_by_an_equality =
    over_four_cells (one_item (loop (head (pos 0) (pos 1) (form (negsuc 0 ∷ []) (pos 3)))
    (one_item (guard (equal (form (pos 1 ∷ []) (negsuc 1)) ∷ [])
    (one_item (statement (record { place = at (pos 0); right = combined minus (read (at (negsuc 0))) })))))))
