-- Small kernels whose sources are known, as plain data.
use Rattle.std.specs.Prelude.{ℕ, ℤ, pos, negsuc, List, [], ◌∷◌, map, suc}
use Rattle.whole_numbers.specs.Affine.{Affine}
use Rattle.scop_syntax.specs.Tree.{Program, assigned, binary, constant, more, plus, read, times}
use Rattle.scop_syntax.specs.Walk.{walk_of}
use Rattle.scop_syntax.specs.Writers.{last_of}
use Rattle.scop_meaning.specs.Rows.{around, array, at, form, kernel, only, store}
use Rattle.expansions.specs.Expansions.{number_of}

-- the subscripts i, and 0, in a loop of i over one parameter
abbrev pub own : List Affine
own = form (pos 0 ∷ pos 1 ∷ []) (pos 0) ∷ []

abbrev pub first : List Affine
first = form (pos 0 ∷ pos 0 ∷ []) (pos 0) ∷ []

-- for (i = 0; i < N; i++) { X[0] = A[i] * 2; A[i] = X[0] + 1; }, A having N cells and X one
abbrev pub through_one_cell : Program
through_one_cell =
    kernel ([] ∷ []) (array (form (pos 1 ∷ []) (pos 0) ∷ []) ∷ array (form (pos 0 ∷ []) (pos 1) ∷ []) ∷ [])
    (only (around (form (pos 0 ∷ []) (pos 0)) (pos 1) (form (pos 1 ∷ negsuc 0 ∷ []) (negsuc 0))
    (more (store (at 1 first) (assigned (binary times (read (at 0 own)) (constant 2))))
    (only (store (at 0 own) (assigned (binary plus (read (at 1 first)) (constant 1))))))))

-- for (i = 0; i < N; i++) { X[0] = A[i] + X[0]; A[i] = 7; }, A having N cells and X one
abbrev pub sum_and_fill : Program
sum_and_fill =
    kernel ([] ∷ []) (array (form (pos 1 ∷ []) (pos 0) ∷ []) ∷ array (form (pos 0 ∷ []) (pos 1) ∷ []) ∷ [])
    (only (around (form (pos 0 ∷ []) (pos 0)) (pos 1) (form (pos 1 ∷ negsuc 0 ∷ []) (negsuc 0))
    (more (store (at 1 first) (assigned (binary plus (read (at 0 own)) (read (at 1 first)))))
    (only (store (at 0 own) (assigned (constant 7)))))))

-- the numbers of the sources of a read at these places, where the parameter has this value
abbrev pub numbers_at : Program → ℤ → ℕ → List ℕ → List ℕ
numbers_at program n r places = map (λ j. number_of (last_of (walk_of program (n ∷ [])) j (suc r))) places
