-- Two kernels with the sources of their reads, and the texts.
use Rattle.std.specs.Prelude.{ℕ, ℤ, pos, negsuc, false, List, [], ◌∷◌, ◌++◌, Some, codes}
use Rattle.whole_numbers.specs.Affine.{Affine, form_of}
use Rattle.scop_lexer.specs.Bytes.{Text}
use Rattle.scop_syntax.specs.Tree.{Access, Right, assigned, read, constant, Head, Tree, Trees}
use Rattle.scop_syntax.specs.Tree.{loop, statement, none, more}
use Rattle.scop_syntax.specs.Tree.{Declaration, Program}
use Rattle.quast_trees.specs.Source.{Forms, source_of}
use Rattle.quast_trees.specs.Tree as quast
use Rattle.quast_trees.specs.Postfix.{written, held}
use Rattle.dataflow.specs.declared.source.ReadSource.{ReadSource}
use Rattle.dataflow.specs.declared.source.ReadSource.TheVariants as source

-- a*N + b*i + c
abbrev pub over : ℤ → ℤ → ℤ → Affine
over a b c = form_of (a ∷ b ∷ []) c

-- for (i = 0; a*N - i - 1 >= 0; i++)
abbrev pub counted : Text → ℤ → Head
counted i a =
    record {
      iterator = i;
      first = form_of (pos 0 ∷ []) (pos 0);
      stride = pos 1;
      condition = over a (negsuc 0)
          (negsuc 0);
    }

-- one loop round one assignment
abbrev pub assigning : Head → Access → Right → Tree
assigning head place right = loop head (more (statement (record { place = place; right = right })) none)

-- array k at b*i
abbrev pub at : ℕ → ℤ → Access
at k b = record { array = k; subscripts = over (pos 0) b (pos 0) ∷ [] }

-- uint64_t NAME[a*N]
abbrev pub sized : Text → ℤ → Declaration
sized name a =
    record { name = name; parameters_before = 1; narrow = false; extents = form_of (a ∷ []) (pos 0) ∷ [] }

-- a kernel over N and the arrays A and B, of a*N cells
abbrev pub over_two : Text → ℤ → Trees → Program
over_two name a body =
    record {
      name = name;
      parameters = codes "N" ∷ [];
      arrays = sized (codes "A") a ∷ sized (codes "B") a ∷ [];
      body = body;
    }

-- for (i = 0; i < N; i++) B[i] = A[i];
abbrev pub copy : Program
copy = over_two (codes "copy") (pos 1)
    (more (assigning (counted (codes "i") (pos 1)) (at 1 (pos 1)) (assigned (read (at 0 (pos 1))))) none)

-- for (j = 0; j < N; j++) A[2*j] = 7;  for (i = 0; i < 2*N; i++) B[i] = A[i];
abbrev pub even : Program
even = over_two (codes "even") (pos 2)
    (more (assigning (counted (codes "j") (pos 1)) (at 0 (pos 2)) (assigned (constant 7)))
    (more (assigning (counted (codes "i") (pos 2)) (at 1 (pos 1)) (assigned (read (at 0 (pos 1))))) none))

-- a read over N and one turn with this quast
abbrev pub resolved : quast.Tree → List ReadSource
resolved t = source.Resolved (held 2 (written t)) ∷ []

-- the first statement's instance at 2^46 - #2
abbrev pub halved : Forms
halved =
    record {
      source = Some (source_of 0 (0 ∷ []));
      variables = 4;
      forms = form_of (pos 0 ∷ pos 0 ∷ pos 0 ∷ negsuc 0 ∷ []) (pos 70368744177664) ∷ [];
    }

-- where the turn is even, the first statement at half of it
abbrev pub even_source : quast.Tree
even_source =
    quast.branch (over (pos 2) (negsuc 0) (negsuc 1)) (quast.bind (over (pos 0) (pos 1) (pos 0)) (pos 2)
    (quast.branch (form_of (pos 0 ∷ negsuc 0 ∷ pos 2 ∷ []) (pos 0))
    (quast.bind (form_of (pos 0 ∷ negsuc 0 ∷ pos 0 ∷ []) (pos 140737488355328)) (pos 2) (quast.leaf halved))
    quast.initial)) quast.initial

-- its text
abbrev pub even_text : Text
even_text = codes "S2 read 1 A: if 2*N - $1 - 2 >= 0 { let #1 = floor($1 / 2) { if -$1 + 2*#1 >= 0 { "
    ++ (codes "let #2 = floor(-$1 + 140737488355328 / 2) { S1 (-#2 + 70368744177664) } } else { initial } } } "
    ++ codes "else { initial }\n")
