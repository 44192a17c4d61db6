-- The source's own loops as loop trees: each loop runs upwards over its turns, from 0 to the last at which its
-- condition holds, and forms of the source's iterators are composed to forms of turns.
use Rattle.std.specs.Prelude.{ℕ, ◌+◌, false, pos, List, [], ◌∷◌, ◌++◌, length, map, unsigned_abs}
use Rattle.whole_numbers.specs.Lists.{zeros}
use Rattle.whole_numbers.specs.Affine.{Affine, form_of, composed}
use Rattle.scop_syntax.specs.Tree.{Test as Comparison, at_least as is_up, equal as is_zero, Head, Tree as Item}
use Rattle.scop_syntax.specs.Tree.{loop as repeated, guard as guarded, statement, Trees as Items, none as nothing}
use Rattle.scop_syntax.specs.Tree.{more as followed, Program}
use Rattle.scop_syntax.specs.Walk.{statements_in}
use Rattle.scop_syntax.specs.Statements.{round, under}
use Rattle.iteration_domains.specs.Rows.{variables, forms_from}
use Rattle.iteration_domains.specs.Path.{Path, path_at}
use Rattle.loop_tree.specs.Tree.{Bound, only, Test, at_least, equal, Tree, loop, guard, instance, Trees, none, more}

-- how many variables there are at a place: the turns of the loops round it, and the parameters
abbrev pub variables_at : Path → ℕ
variables_at path = length path.loops + path.parameters

-- the source's point there, as forms over them
abbrev pub point_at : Path → List Affine
point_at path =
    forms_from (variables_at path) 0 path.scopes (variables (variables_at path) (length path.loops) path.parameters)

-- the place within a loop whose first statement has number k
abbrev pub in_loop : Path → Head → ℕ → Path
in_loop path head k = path_at path.parameters (path.scopes ++ round head ∷ []) (path.loops ++ k ∷ [])

-- the place within a guard
abbrev pub in_guard : Path → List Comparison → Path
in_guard path tests = path_at path.parameters (path.scopes ++ under tests ∷ []) path.loops

-- turn 0
abbrev pub first_turn : ℕ → Bound
first_turn n = record { form = form_of (zeros n) (pos 0); divisor = pos 1 }

-- a condition at turn 0, where the iterator is the first
abbrev pub begun : ℕ → List Affine → Affine → Affine → Affine
begun n forms first condition = composed condition (forms ++ composed first forms n ∷ []) n

-- the condition at turn 0 over the stride's absolute value, by which it falls a turn
abbrev pub last_turn : ℕ → List Affine → Head → Bound
last_turn n forms head =
    record { form = begun n forms head.first head.condition; divisor = pos (unsigned_abs head.stride) }

-- a comparison over n variables, where the point has these forms
abbrev pub test_over : ℕ → List Affine → Comparison → Test
test_over n forms (is_up f) = at_least (composed f forms n)
test_over n forms (is_zero f) = equal (composed f forms n)

abbrev mutual
  -- the loop tree of a source tree that stands there, whose first statement has number k
  pub source : Path → Item → ℕ → Tree
  source path (repeated head body) k =
      loop false (only (first_turn (variables_at path)))
      (only (last_turn (variables_at path) (point_at path) head)) (sources (in_loop path head k) body k)
  source path (guarded tests body) k =
      guard (map (test_over (variables_at path) (point_at path)) tests) (sources (in_guard path tests) body k)
  source path (statement s) k = instance k (variables (variables_at path) 0 (length path.loops))

  -- those of trees, one after another
  pub sources : Path → Items → ℕ → Trees
  sources path nothing k = none
  sources path (followed t ts) k = more (source path t k) (sources path ts (k + statements_in t))

-- the loop tree of a program
abbrev pub source_of : Program → Trees
source_of program = sources (path_at (length program.parameters) [] []) program.body 0
