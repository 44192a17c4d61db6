-- A small kernel, a loop tree for it with each kind of node, and its text; statements of it with the operators and the
-- kinds of right side that the tree's own has not, and their texts.
use Rattle.std.specs.Prelude.{ℕ, ℤ, true, false, pos, negsuc, List, [], ◌∷◌, ◌++◌, codes}
use Rattle.whole_numbers.specs.Affine.{Affine, form_of}
use Rattle.scop_lexer.specs.Bytes.{Text}
use Rattle.scop_syntax.specs.Tree as source
use Rattle.scop_syntax.specs.Tree.{Program, Access, Head, Expression, Right, Statement}
use Rattle.loop_tree.specs.Tree.{Bound, only, besides, Test, at_least, equal, multiple, loop, guard, instance}
use Rattle.loop_tree.specs.Tree.{Trees, none, more}

-- a cell of an array
abbrev cell : ℕ → List Affine → Access
cell array subscripts = record { array = array; subscripts = subscripts }

-- a form over a divisor
abbrev bound : Affine → ℤ → Bound
bound form divisor = record { form = form; divisor = divisor }

-- `(~-A[N - i] * 5 + (uint64_t)(2 * i - 3)) << 2`
abbrev value : Expression
value =
    source.shifted_left (source.binary source.plus
    (source.binary source.times (source.complemented (source.negated
    (source.read (cell 1 (form_of (pos 1 ∷ negsuc 0 ∷ []) (pos 0) ∷ []))))) (source.constant 5))
    (source.cast (source.affine (form_of (pos 0 ∷ pos 2 ∷ []) (negsuc 2))))) 2

-- `for (int64_t i = N; i >= 0; i -= 2)`
abbrev head : Head
head =
    record {
      iterator = codes "i";
      first = form_of (pos 1 ∷ []) (pos 0);
      stride = negsuc 1;
      condition = form_of (pos 0 ∷ pos 1 ∷ []) (pos 0);
    }

-- `void k(uint64_t C[2], int64_t N, uint64_t A[N + 1], uint32_t B[N])`, whose loop's body is `A[i] += ..`
abbrev pub kernel : Program
kernel =
    record {
      name = codes "k";
      parameters = codes "N" ∷ [];
      arrays =
          record {
            name = codes "C";
            parameters_before = 0;
            narrow = false;
            extents = form_of (pos 0 ∷ []) (pos 2) ∷ [];
          } ∷ record {
            name = codes "A";
            parameters_before = 1;
            narrow = false;
            extents = form_of (pos 1 ∷ []) (pos 1) ∷ [];
          } ∷ record {
            name = codes "B";
            parameters_before = 1;
            narrow = true;
            extents = form_of (pos 1 ∷ []) (pos 0) ∷ [];
          } ∷ [];
      body = source.more (source.loop head (source.more (source.statement (record {
        place = cell 1 (form_of (pos 0 ∷ pos 1 ∷ []) (pos 0) ∷ []);
        right = source.combined source.plus value;
      })) source.none)) source.none;
    }

-- the tests of the tree's guard, within two loops
abbrev tests : List Test
tests =
    at_least (form_of (negsuc 1 ∷ pos 0 ∷ pos 1 ∷ []) (negsuc 0))
    ∷ multiple (form_of (pos 1 ∷ pos 1 ∷ pos 0 ∷ []) (pos 0)) (pos 3)
    ∷ equal (form_of (pos 0 ∷ pos 0 ∷ pos 0 ∷ []) (pos 0)) ∷ []

-- forms of the tree speak of loops' values, then of N; the turn is `pp_2 - 1`
abbrev pub tree : Trees
tree =
    more (loop true
    (besides (bound (form_of (negsuc 0 ∷ []) (pos 3)) (pos 2)) (only (bound (form_of (pos 0 ∷ []) (pos 0)) (pos 1))))
    (only (bound (form_of (pos 1 ∷ []) (pos 0)) (pos 32)))
    (more (loop false (only (bound (form_of (pos 32 ∷ pos 0 ∷ []) (pos 0)) (pos 1)))
    (besides (bound (form_of (pos 32 ∷ pos 0 ∷ []) (pos 31)) (pos 1))
    (only (bound (form_of (pos 0 ∷ pos 1 ∷ []) (pos 0)) (pos 1))))
    (more (guard tests
    (more (instance 0 (form_of (pos 0 ∷ pos 1 ∷ pos 0 ∷ []) (negsuc 0) ∷ [])) none)) none)) none)) none

-- the text of the tree
abbrev pub text : Text
text = codes "#include <stdint.h>\n"
    ++ codes "static int64_t pp_floord(int64_t n, int64_t d) { return n < 0 ? -((-n + d - 1) / d) : n / d; }\n"
    ++ codes "static int64_t pp_ceild(int64_t n, int64_t d) { return n < 0 ? -((-n) / d) : (n + d - 1) / d; }\n"
    ++ codes "static int64_t pp_max(int64_t a, int64_t b) { return a > b ? a : b; }\n"
    ++ codes "static int64_t pp_min(int64_t a, int64_t b) { return a < b ? a : b; }\n"
    ++ codes "void k(uint64_t C[2], int64_t N, uint64_t A[N + 1], uint32_t B[N]) {\n"
    ++ codes "  #pragma omp parallel for\n"
    ++ codes "  for (int64_t pp_1 = pp_max(pp_ceild(-N + 3, 2), 0); pp_1 <= pp_floord(N, 32); pp_1++) {\n"
    ++ codes "    for (int64_t pp_2 = 32*pp_1; pp_2 <= pp_min(32*pp_1 + 31, N); pp_2++) {\n"
    ++ codes "      if (N - 2*pp_1 - 1 >= 0 && pp_1 + pp_2 - 3*pp_floord(pp_1 + pp_2, 3) == 0 && 0 == 0) {\n"
    ++ codes "        { /* S1 */ const int64_t i = N - 2*pp_2 + 2; "
    ++ codes "A[i] += ((((~(-A[N - i])) * 5ULL) + (uint64_t)(uint64_t)(2*i - 3)) << 2ULL); }\n"
    ++ codes "      }\n"
    ++ codes "    }\n"
    ++ codes "  }\n"
    ++ codes "}\n"

-- `i`
abbrev iterator : Affine
iterator = form_of (pos 0 ∷ pos 1 ∷ []) (pos 0)

-- `A[i]`
abbrev here : Access
here = cell 1 (iterator ∷ [])

-- `B[i]`
abbrev there : Access
there = cell 2 (iterator ∷ [])

-- a statement whose place is that cell of A
abbrev to_here : Right → Statement
to_here right = record { place = here; right = right }

-- or that of B
abbrev to_there : Right → Statement
to_there right = record { place = there; right = right }

-- statements with the operators and the kinds of right side that the tree's own has not
abbrev pub statements : List Statement
statements =
    to_here (source.assigned (source.binary source.bits_or
    (source.binary source.minus (source.read here) (source.constant 1))
    (source.binary source.bits_xor (source.read here)
    (source.binary source.bits_and (source.shifted_right (source.read here) 7) (source.constant 3)))))
    ∷ to_here (source.combined source.minus (source.constant 2)) ∷ to_here (source.combined source.times (source.constant 3))
    ∷ to_here (source.combined source.bits_and (source.constant 4))
    ∷ to_here (source.combined source.bits_or (source.constant 5))
    ∷ to_here (source.combined source.bits_xor (source.constant 6))
    ∷ to_here (source.moved_left 7) ∷ to_here (source.moved_right 8)
    ∷ to_here (source.assigned (source.narrowed source.explicit (source.read here)))
    ∷ to_there (source.assigned (source.narrowed source.implied (source.binary source.times (source.read there)
    (source.narrowed source.converted (source.constant 5)))))
    ∷ to_there (source.combined_narrow source.plus (source.narrowed source.converted (source.affine iterator)))
    ∷ to_there (source.moved_left_narrow 9) ∷ []

-- their texts, where the iterator is `i`
abbrev pub texts : List Text
texts =
    codes "A[i] = ((A[i] - 1ULL) | (A[i] ^ ((A[i] >> 7ULL) & 3ULL)))" ∷ codes "A[i] -= 2ULL" ∷ codes "A[i] *= 3ULL"
    ∷ codes "A[i] &= 4ULL" ∷ codes "A[i] |= 5ULL" ∷ codes "A[i] ^= 6ULL" ∷ codes "A[i] <<= 7ULL" ∷ codes "A[i] >>= 8ULL"
    ∷ codes "A[i] = (uint32_t)A[i]" ∷ codes "B[i] = (B[i] * (uint32_t)(5))" ∷ codes "B[i] += (uint32_t)(i)"
    ∷ codes "B[i] <<= 9ULL" ∷ []
