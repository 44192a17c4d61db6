-- The generated kernels, as plain data.
use Rattle.std.specs.Prelude.{ℕ, ◌+◌, ◌*◌, ◌/◌, ◌^◌, false, ℤ, pos, negsuc, List, [], ◌∷◌, map, codes}
use Rattle.std.specs.List.{range_with_len}
use Rattle.whole_numbers.specs.Affine.{Affine, form_of}
use Rattle.scop_syntax.specs.Tree.{Access, Right, assigned, combined, binary, plus, read, times, Head, Tree}
use Rattle.scop_syntax.specs.Tree.{Trees, loop, statement, Declaration, Program}
use Rattle.scop_syntax.specs.View.{trees_of}
use Rattle.data_text.specs.Cases.{seed_cell}

-- an array's cell by its subscripts
abbrev pub place : ℕ → List Affine → Access
place array subscripts = record { array = array; subscripts = subscripts }

-- place, and what stands on its right
abbrev pub store : Access → Right → Tree
store access right = statement (record { place = access; right = right })

-- for (iterator = first; condition >= 0; iterator++)
abbrev pub upwards : List ℕ → Affine → Affine → Head
upwards iterator first condition =
    record { iterator = iterator; first = first; stride = pos 1; condition = condition }

-- such a loop round some trees
abbrev pub counted : List ℕ → Affine → Affine → Trees → Tree
counted iterator first condition body = loop (upwards iterator first condition) body

-- one tree and nothing else
abbrev pub only : Tree → Trees
only tree = trees_of (tree ∷ [])

-- an array of each of these names, behind so many parameters, with these extents
abbrev pub arrays_of : List (List ℕ) → ℕ → List Affine → List Declaration
arrays_of names before extents =
    map (λ name. record { name = name; parameters_before = before; narrow = false; extents = extents }) names

-- a form over N and the iterators i, j and k, without a constant
abbrev pub in_cube : ℤ → ℤ → ℤ → ℤ → Affine
in_cube n i j k = form_of (n ∷ i ∷ j ∷ k ∷ []) (pos 0)

-- the row and the column of A[i][k], of B[k][j] and of C[i][j]
abbrev pub i_of_cube : Affine
i_of_cube = in_cube (pos 0) (pos 1) (pos 0) (pos 0)

abbrev pub j_of_cube : Affine
j_of_cube = in_cube (pos 0) (pos 0) (pos 1) (pos 0)

abbrev pub k_of_cube : Affine
k_of_cube = in_cube (pos 0) (pos 0) (pos 0) (pos 1)

-- C[i][j] += A[i][k] * B[k][j];
abbrev pub multiplied : Tree
multiplied = store (place 2 (i_of_cube ∷ j_of_cube ∷ []))
    (combined plus (binary times (read (place 0 (i_of_cube ∷ k_of_cube ∷ [])))
    (read (place 1 (k_of_cube ∷ j_of_cube ∷ [])))))

-- for (int64_t i = 0; i < N; i++) for (int64_t j = 0; j < N; j++) for (int64_t k = 0; k < N; k++)
--   C[i][j] += A[i][k] * B[k][j];
abbrev pub product_loops : Tree
product_loops =
    counted (codes "i") (form_of (pos 0 ∷ []) (pos 0)) (form_of (pos 1 ∷ negsuc 0 ∷ []) (negsuc 0))
    (only (counted (codes "j") (form_of (pos 0 ∷ pos 0 ∷ []) (pos 0))
    (form_of (pos 1 ∷ pos 0 ∷ negsuc 0 ∷ []) (negsuc 0))
    (only (counted (codes "k") (form_of (pos 0 ∷ pos 0 ∷ pos 0 ∷ []) (pos 0))
    (form_of (pos 1 ∷ pos 0 ∷ pos 0 ∷ negsuc 0 ∷ []) (negsuc 0)) (only multiplied)))))

-- void mm(int64_t N, uint64_t A[N][N], uint64_t B[N][N], uint64_t C[N][N]) { these loops }
abbrev pub product : Program
product = record {
  name = codes "mm";
  parameters = codes "N" ∷ [];
  arrays = arrays_of (codes "A" ∷ codes "B" ∷ codes "C" ∷ []) 1
      (form_of (pos 1 ∷ []) (pos 0) ∷ form_of (pos 1 ∷ []) (pos 0) ∷ []);
  body = only product_loops;
}

-- A[i + shift] within the loops over t and i
abbrev pub near : ℤ → Access
near shift = place 0 (form_of (pos 0 ∷ pos 0 ∷ pos 0 ∷ pos 1 ∷ []) shift ∷ [])

-- A[i] = A[i-1] + A[i] + A[i+1];
abbrev pub swept : Tree
swept = store (near (pos 0))
    (assigned (binary plus (binary plus (read (near (negsuc 0))) (read (near (pos 0)))) (read (near (pos 1)))))

-- for (int64_t t = 0; t < T; t++) for (int64_t i = 1; i < N - 1; i++) A[i] = A[i-1] + A[i] + A[i+1];
abbrev pub sweep_loops : Tree
sweep_loops =
    counted (codes "t") (form_of (pos 0 ∷ pos 0 ∷ []) (pos 0)) (form_of (pos 1 ∷ pos 0 ∷ negsuc 0 ∷ []) (negsuc 0))
    (only (counted (codes "i") (form_of (pos 0 ∷ pos 0 ∷ pos 0 ∷ []) (pos 1))
    (form_of (pos 0 ∷ pos 1 ∷ pos 0 ∷ negsuc 0 ∷ []) (negsuc 1)) (only swept)))

-- void seidel(int64_t T, int64_t N, uint64_t A[N]) { these loops }
abbrev pub sweep : Program
sweep = record {
  name = codes "seidel";
  parameters = codes "T" ∷ codes "N" ∷ [];
  arrays = arrays_of (codes "A" ∷ []) 2 (form_of (pos 0 ∷ pos 1 ∷ []) (pos 0) ∷ []);
  body = only sweep_loops;
}

-- the digits of a seed, each from 0 to 3
unfoldable pub digit : ℕ → ℕ → ℕ
digit seed at = seed_cell seed at / 2 ^ 62

-- Aa[i + shift] by the digits at a place and behind it
abbrev pub linked : ℕ → ℕ → Access
linked seed at = place (digit seed at) (form_of (pos 0 ∷ pos 1 ∷ []) (pos (digit seed (at + 1))) ∷ [])

-- Aa[i + b] += Ac[i + d]; by the four digits of statement k
abbrev pub chained : ℕ → ℕ → Tree
chained seed k = store (linked seed (4 * k)) (combined plus (read (linked seed (4 * k + 2))))

-- eight such statements
unfoldable pub chain_body : ℕ → Trees
chain_body seed = trees_of (map (chained seed) (range_with_len 0 8))

-- for (int64_t i = 0; i < N; i++) { these statements }
abbrev pub chain_loop : ℕ → Tree
chain_loop seed =
    counted (codes "i") (form_of (pos 0 ∷ []) (pos 0)) (form_of (pos 1 ∷ negsuc 0 ∷ []) (negsuc 0)) (chain_body seed)

-- void chain(int64_t N, uint64_t A0[N+4], uint64_t A1[N+4], uint64_t A2[N+4], uint64_t A3[N+4]) { this loop }
abbrev pub chain : ℕ → Program
chain seed = record {
  name = codes "chain";
  parameters = codes "N" ∷ [];
  arrays = arrays_of (codes "A0" ∷ codes "A1" ∷ codes "A2" ∷ codes "A3" ∷ []) 1
      (form_of (pos 1 ∷ []) (pos 4) ∷ []);
  body = only (chain_loop seed);
}
