-- Kernels as worked examples of domains and conflicts. They have one parameter, N.
use Rattle.std.specs.Prelude.{ℕ, false, ℤ, pos, negsuc, List, [], ◌∷◌}
use Rattle.whole_numbers.specs.Affine.{Affine, form_of}
use Rattle.scop_syntax.specs.Tree.{Access, at_least, equal, Right, assigned, binary, constant, read, plus, Head, Tree}
use Rattle.scop_syntax.specs.Tree.{loop, guard, statement, Trees, none, more, Declaration, Program}

-- A[form]
abbrev pub at : ℕ → Affine → Access
at array form = record { array = array; subscripts = form ∷ [] }

-- a statement by its place and its right
abbrev pub assign : Access → Right → Tree
assign place right = statement (record { place = place; right = right })

-- an array with one extent, factor * N + added
abbrev pub line : ℤ → ℤ → Declaration
line factor added =
    record { name = []; parameters_before = 1; narrow = false; extents = form_of (factor ∷ []) added ∷ [] }

-- the head of a loop
abbrev pub head : Affine → ℤ → Affine → Head
head first stride condition = record { iterator = []; first = first; stride = stride; condition = condition }

-- i = 0; i < N; i++
abbrev pub upwards : Head
upwards = head (form_of (pos 0 ∷ []) (pos 0)) (pos 1) (form_of (pos 1 ∷ negsuc 0 ∷ []) (negsuc 0))

-- a kernel with the parameter N
abbrev pub kernel : List Declaration → Trees → Program
kernel arrays body = record { name = []; parameters = [] ∷ []; arrays = arrays; body = body }

-- a loop round these trees, and nothing else
abbrev pub over : Head → Trees → Trees
over h body = more (loop h body) none

-- A[i] = A[i] + 1;
abbrev pub first_of_two : Tree
first_of_two =
    assign (at 0 (form_of (pos 0 ∷ pos 1 ∷ []) (pos 0)))
    (assigned (binary plus (read (at 0 (form_of (pos 0 ∷ pos 1 ∷ []) (pos 0)))) (constant 1)))

-- B[i] = A[i + 1];
abbrev pub second_of_two : Tree
second_of_two =
    assign (at 1 (form_of (pos 0 ∷ pos 1 ∷ []) (pos 0))) (assigned (read (at 0 (form_of (pos 0 ∷ pos 1 ∷ []) (pos 1)))))

-- for (i = 0; i < N; i++) { A[i] = A[i] + 1; B[i] = A[i + 1]; }, A having N + 1 cells
abbrev pub two : Program
two =
    kernel (line (pos 1) (pos 1) ∷ line (pos 1) (pos 0) ∷ [])
    (over upwards (more first_of_two (more second_of_two none)))

-- A[2 * j] = A[2 * j + 1];
abbrev pub odd_statement : Tree
odd_statement =
    assign (at 0 (form_of (pos 0 ∷ pos 2 ∷ []) (pos 0))) (assigned (read (at 0 (form_of (pos 0 ∷ pos 2 ∷ []) (pos 1)))))

-- for (j = 0; j < N; j++) A[2 * j] = A[2 * j + 1];
abbrev pub odd : Program
odd = kernel (line (pos 2) (pos 0) ∷ []) (over upwards (more odd_statement none))

-- for (i = N - 1; i >= 1; i -= 2) if (i - 3 >= 0 && i == N - 1) A[i] = A[i - 1];
abbrev pub falling : Program
falling =
    kernel (line (pos 1) (pos 0) ∷ [])
    (over (head (form_of (pos 1 ∷ []) (negsuc 0)) (negsuc 1) (form_of (pos 0 ∷ pos 1 ∷ []) (negsuc 0)))
    (more (guard (at_least (form_of (pos 0 ∷ pos 1 ∷ []) (negsuc 2)) ∷ equal (form_of (negsuc 0 ∷ pos 1 ∷ []) (pos
    1)) ∷ [])
    (more (assign (at 0 (form_of (pos 0 ∷ pos 1 ∷ []) (pos 0)))
    (assigned (read (at 0 (form_of (pos 0 ∷ pos 1 ∷ []) (negsuc 0)))))) none)) none))
