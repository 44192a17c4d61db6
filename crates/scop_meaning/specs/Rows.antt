-- Small kernels whose results are known, as plain data.
use Rattle.std.specs.Prelude.{ℕ, ℤ, pos, negsuc, true, false, List, [], ◌∷◌}
use Rattle.whole_numbers.specs.Affine.{Affine}
use Rattle.scop_syntax.specs.Cells.{Cell}
use Rattle.scop_syntax.specs.Tree.{
  Access,
  plus,
  times,
  read,
  constant,
  affine,
  binary,
  complemented,
  implied,
  narrowed,
  Right,
  assigned,
  combined,
  combined_narrow,
  at_least,
  Tree,
  Trees,
  loop,
  guard,
  statement,
  none,
  more,
  Declaration,
  Program,
}

-- a form by its coefficients and constant
abbrev pub form : List ℤ → ℤ → Affine
form coefficients k = record { coefficients = coefficients; constant = k }

-- an array's cell by its subscripts
abbrev pub at : ℕ → List Affine → Access
at array subscripts = record { array = array; subscripts = subscripts }

-- place, and what stands on its right
abbrev pub store : Access → Right → Tree
store place right = statement (record { place = place; right = right })

-- for (i = first; condition >= 0; i += stride) items
abbrev pub around : Affine → ℤ → Affine → Trees → Tree
around first stride condition items =
    loop (record { iterator = []; first = first; stride = stride; condition = condition }) items

-- one tree and nothing else
abbrev pub only : Tree → Trees
only item = more item none

-- an array of 64 bits with these extents
abbrev pub array : List Affine → Declaration
array extents = record { name = []; parameters_before = 0; narrow = false; extents = extents }

-- a kernel of these parameters and arrays
abbrev pub kernel : List (List ℕ) → List Declaration → Trees → Program
kernel parameters arrays body = record { name = []; parameters = parameters; arrays = arrays; body = body }

-- cell k of the first array, where that has one dimension
abbrev pub line_cell : ℕ → Cell
line_cell k = record { array = 0; subscripts = pos k ∷ [] }

-- for (i = 1; i < N; i++) A[i] += A[i-1];
abbrev pub prefix_sums : Program
prefix_sums =
    kernel ([] ∷ []) (array (form (pos 1 ∷ []) (pos 0) ∷ []) ∷ [])
    (only (around (form (pos 0 ∷ []) (pos 1)) (pos 1) (form (pos 1 ∷ negsuc 0 ∷ []) (negsuc 0))
    (only (store (at 0 (form (pos 0 ∷ pos 1 ∷ []) (pos 0) ∷ []))
    (combined plus (read (at 0 (form (pos 0 ∷ pos 1 ∷ []) (negsuc 0) ∷ []))))))))

-- A[0] += 1;
abbrev pub one_more : Program
one_more = kernel [] (array (form [] (pos 1) ∷ []) ∷ [])
    (only (store (at 0 (form [] (pos 0) ∷ [])) (combined plus (constant 1))))

-- A[0] += 1; B[0] = ~A[0]; A having cells of 32 bits and B of 64
abbrev pub narrow_one_more : Program
narrow_one_more =
    kernel [] (record (array (form [] (pos 1) ∷ [])) { narrow = true } ∷ array (form [] (pos 1) ∷ []) ∷ [])
    (more (store (at 0 (form [] (pos 0) ∷ [])) (combined_narrow plus (constant 1)))
    (only (store (at 1 (form [] (pos 0) ∷ []))
    (assigned (narrowed implied (complemented (read (at 0 (form [] (pos 0) ∷ [])))))))))

-- for (i = N-1; i >= 1; i -= 2) A[i] = A[i-1];
abbrev pub falling : Program
falling =
    kernel ([] ∷ []) (array (form (pos 1 ∷ []) (pos 0) ∷ []) ∷ [])
    (only (around (form (pos 1 ∷ []) (negsuc 0)) (negsuc 1) (form (pos 0 ∷ pos 1 ∷ []) (negsuc 0))
    (only (store (at 0 (form (pos 0 ∷ pos 1 ∷ []) (pos 0) ∷ []))
    (assigned (read (at 0 (form (pos 0 ∷ pos 1 ∷ []) (negsuc 0) ∷ []))))))))

-- A[i+k] within two loops and two parameters
abbrev pub near : ℤ → Access
near k = at 0 (form (pos 0 ∷ pos 0 ∷ pos 0 ∷ pos 1 ∷ []) k ∷ [])

-- for (t = 0; t < T; t++) for (i = 1; i < N-1; i++) A[i] = A[i-1] + A[i] + A[i+1];
abbrev pub sweeps : Program
sweeps =
    kernel ([] ∷ [] ∷ []) (array (form (pos 0 ∷ pos 1 ∷ []) (pos 0) ∷ []) ∷ [])
    (only (around (form (pos 0 ∷ pos 0 ∷ []) (pos 0)) (pos 1) (form (pos 1 ∷ pos 0 ∷ negsuc 0 ∷ []) (negsuc 0))
    (only (around (form (pos 0 ∷ pos 0 ∷ pos 0 ∷ []) (pos 1)) (pos 1)
    (form (pos 0 ∷ pos 1 ∷ pos 0 ∷ negsuc 0 ∷ []) (negsuc 1))
    (only (store (near (pos 0)) (assigned (binary plus (binary plus (read (near (negsuc 0))) (read (near (pos 0))))
    (read (near (pos 1)))))))))))

-- for (i = 0; i < N; i++) for (j = 0; j <= i; j++) A[i][j] = i + 10*j;
abbrev pub triangle : Program
triangle =
    kernel ([] ∷ []) (array (form (pos 1 ∷ []) (pos 0) ∷ form (pos 1 ∷ []) (pos 0) ∷ []) ∷ [])
    (only (around (form (pos 0 ∷ []) (pos 0)) (pos 1) (form (pos 1 ∷ negsuc 0 ∷ []) (negsuc 0))
    (only (around (form (pos 0 ∷ pos 0 ∷ []) (pos 0)) (pos 1) (form (pos 0 ∷ pos 1 ∷ negsuc 0 ∷ []) (pos 0))
    (only (store (at 0 (form (pos 0 ∷ pos 1 ∷ pos 0 ∷ []) (pos 0) ∷ form (pos 0 ∷ pos 0 ∷ pos 1 ∷ []) (pos 0) ∷ []))
    (assigned (affine (form (pos 0 ∷ pos 1 ∷ pos 10 ∷ []) (pos 0))))))))))

-- for (i = 0; i < N; i++) if (i >= 1 && 2 >= i) A[i] = i - 3;
abbrev pub guarded : Program
guarded =
    kernel ([] ∷ []) (array (form (pos 1 ∷ []) (pos 0) ∷ []) ∷ [])
    (only (around (form (pos 0 ∷ []) (pos 0)) (pos 1) (form (pos 1 ∷ negsuc 0 ∷ []) (negsuc 0))
    (only (guard (at_least (form (pos 0 ∷ pos 1 ∷ []) (negsuc 0)) ∷ at_least (form (pos 0 ∷ negsuc 0 ∷ []) (pos 2))
    ∷ [])
    (only (store (at 0 (form (pos 0 ∷ pos 1 ∷ []) (pos 0) ∷ []))
    (assigned (affine (form (pos 0 ∷ pos 1 ∷ []) (negsuc 2))))))))))

-- for (i = 0; i < N; i++) { A[i] = A[i] + 1; B[i] = A[i+1]; }, A having N+1 cells
abbrev pub two_statements : Program
two_statements =
    kernel ([] ∷ []) (array (form (pos 1 ∷ []) (pos 1) ∷ []) ∷ array (form (pos 1 ∷ []) (pos 0) ∷ []) ∷ [])
    (only (around (form (pos 0 ∷ []) (pos 0)) (pos 1) (form (pos 1 ∷ negsuc 0 ∷ []) (negsuc 0))
    (more (store (at 0 (form (pos 0 ∷ pos 1 ∷ []) (pos 0) ∷ []))
    (assigned (binary plus (read (at 0 (form (pos 0 ∷ pos 1 ∷ []) (pos 0) ∷ []))) (constant 1))))
    (only (store (at 1 (form (pos 0 ∷ pos 1 ∷ []) (pos 0) ∷ []))
    (assigned (read (at 0 (form (pos 0 ∷ pos 1 ∷ []) (pos 1) ∷ [])))))))))

-- for (i = 0; i < N; i++) B[i] = A[i+1];
abbrev pub one_too_far : Program
one_too_far =
    kernel ([] ∷ []) (array (form (pos 1 ∷ []) (pos 0) ∷ []) ∷ array (form (pos 1 ∷ []) (pos 0) ∷ []) ∷ [])
    (only (around (form (pos 0 ∷ []) (pos 0)) (pos 1) (form (pos 1 ∷ negsuc 0 ∷ []) (negsuc 0))
    (only (store (at 1 (form (pos 0 ∷ pos 1 ∷ []) (pos 0) ∷ []))
    (assigned (read (at 0 (form (pos 0 ∷ pos 1 ∷ []) (pos 1) ∷ []))))))))

-- an array of N rows of N cells
abbrev pub square : Declaration
square = array (form (pos 1 ∷ []) (pos 0) ∷ form (pos 1 ∷ []) (pos 0) ∷ [])

-- a form of iterators alone, without N
abbrev pub iterator : List ℤ → Affine
iterator coefficients = form (pos 0 ∷ coefficients) (pos 0)

-- for each i, j, k below N: C[i][j] += A[i][k] * B[k][j];
abbrev pub product : Program
product =
    let i = iterator (pos 1 ∷ pos 0 ∷ pos 0 ∷ []) in
    let j = iterator (pos 0 ∷ pos 1 ∷ pos 0 ∷ []) in
    let k = iterator (pos 0 ∷ pos 0 ∷ pos 1 ∷ []) in
    kernel ([] ∷ []) (square ∷ square ∷ square ∷ [])
    (only (around (iterator []) (pos 1) (form (pos 1 ∷ negsuc 0 ∷ []) (negsuc 0))
    (only (around (iterator (pos 0 ∷ [])) (pos 1) (form (pos 1 ∷ pos 0 ∷ negsuc 0 ∷ []) (negsuc 0))
    (only (around (iterator (pos 0 ∷ pos 0 ∷ [])) (pos 1) (form (pos 1 ∷ pos 0 ∷ pos 0 ∷ negsuc 0 ∷ []) (negsuc 0))
    (only (store (at 2 (i ∷ j ∷ []))
    (combined plus (binary times (read (at 0 (i ∷ k ∷ []))) (read (at 1 (k ∷ j ∷ [])))))))))))))

-- for (j = 0; j < N; j++) A[2*j] = A[2*j+1];
abbrev pub odd : Program
odd =
    kernel ([] ∷ []) (array (form (pos 2 ∷ []) (pos 0) ∷ []) ∷ [])
    (only (around (iterator []) (pos 1) (form (pos 1 ∷ negsuc 0 ∷ []) (negsuc 0))
    (only (store (at 0 (form (pos 0 ∷ pos 2 ∷ []) (pos 0) ∷ []))
    (assigned (read (at 0 (form (pos 0 ∷ pos 2 ∷ []) (pos 1) ∷ []))))))))

-- for (j = 0; j < N; j++) A[2*j] = 7; for (i = 0; i < 2*N; i++) B[i] = A[i];
abbrev pub even : Program
even =
    kernel ([] ∷ []) (array (form (pos 2 ∷ []) (pos 0) ∷ []) ∷ array (form (pos 2 ∷ []) (pos 0) ∷ []) ∷ [])
    (more (around (iterator []) (pos 1) (form (pos 1 ∷ negsuc 0 ∷ []) (negsuc 0))
    (only (store (at 0 (form (pos 0 ∷ pos 2 ∷ []) (pos 0) ∷ [])) (assigned (constant 7)))))
    (only (around (iterator []) (pos 1) (form (pos 2 ∷ negsuc 0 ∷ []) (negsuc 0))
    (only (store (at 1 (iterator (pos 1 ∷ []) ∷ [])) (assigned (read (at 0 (iterator (pos 1 ∷ []) ∷ [])))))))))

-- for (i = 0; i < N; i++) B[i] = A[i];
abbrev pub copy : Program
copy =
    kernel ([] ∷ []) (array (form (pos 1 ∷ []) (pos 0) ∷ []) ∷ array (form (pos 1 ∷ []) (pos 0) ∷ []) ∷ [])
    (only (around (iterator []) (pos 1) (form (pos 1 ∷ negsuc 0 ∷ []) (negsuc 0))
    (only (store (at 1 (iterator (pos 1 ∷ []) ∷ [])) (assigned (read (at 0 (iterator (pos 1 ∷ []) ∷ []))))))))
