-- The program that a kernel without faults stands for: items without a statement leave nothing, and extents are forms
-- in all parameters.
use Rattle.std.specs.Prelude.{ℕ, ◌+◌, List, [], ◌∷◌, ◌++◌, length, map}
use Rattle.scop_grammar.specs.Kernel.{Head, branch, loop, Item, block, empty, assign, headed, Items, none, more}
use Rattle.scop_grammar.specs.Kernel.{Parameter, number, array, Kernel, item_elements, head_elements}
use Rattle.scop_grammar.specs.Kernel.{parameter_elements}
use Rattle.scop_syntax.specs.Tree.{Declaration, Program}
use Rattle.scop_syntax.specs.Tree as scop
use Rattle.scop_syntax.specs.View.{trees_of}
use Rattle.scop_roles.specs.Values.{tests}
use Rattle.scop_units.specs.Words.{Words}
use Rattle.scop_units.specs.Scopes.{Scope, no_scope, entries}
use Rattle.scop_units.specs.Loops.{loop_of}
use Rattle.scop_units.specs.Units.{array_of, declared_over, statement_of}
use Rattle.scop_units.specs.Judging.{width, extents_in, behind_parameter, behind_head, loop_in, condition, stored}
use Rattle.scop_units.specs.Judging.{others_at, items_at, first_scope, header_scope, body_scope}

-- the array that a parameter is, if it is one
abbrev pub array_in : Words → Scope → ℕ → Parameter → List Declaration
array_in words s at number = []
array_in words s at (array w x xs) = array_of words s (at + 1) w (extents_in words s (at + 1 + 1) (x ∷ xs)) ∷ []

-- the arrays among the parameters behind the first
abbrev pub arrays_in : Words → Scope → ℕ → List Parameter → List Declaration
arrays_in words s at [] = []
arrays_in words s at (p ∷ ps) =
    array_in words s (at + 1) p
    ++ arrays_in words (behind_parameter words s (at + 1) p) (at + 1 + width (parameter_elements p)) ps

-- a head round its body
abbrev pub headed_by : Words → Scope → ℕ → Head → scop.Trees → scop.Tree
headed_by words s at (branch c) body = scop.guard (tests (entries s) (condition words s at c)) body
headed_by words s at (loop new a c st) body = scop.loop (loop_of s (loop_in words s at new a c st)) body

-- a head, where its body has trees
abbrev pub wrapped : (scop.Trees → scop.Tree) → List scop.Tree → List scop.Tree
wrapped head [] = []
wrapped head (t ∷ ts) = head (trees_of (t ∷ ts)) ∷ []

abbrev mutual
  -- the trees of an item that begins at a place
  pub item_trees : Words → Scope → ℕ → Item → List scop.Tree
  item_trees words s at (block is) = all_trees words s (at + 1) is
  item_trees words s at empty = []
  item_trees words s at (assign a p x) =
      scop.statement (statement_of (entries s) (stored words s at a p x)) ∷ []
  item_trees words s at (headed h i) =
      wrapped (headed_by words s at h)
      (item_trees words (behind_head words s at h) (at + width (head_elements h)) i)

  -- those of items, one behind another
  pub all_trees : Words → Scope → ℕ → Items → List scop.Tree
  all_trees words s at none = []
  all_trees words s at (more i is) = item_trees words s at i ++ all_trees words s (at + width (item_elements i)) is

-- the arrays with extents over the parameters before each
abbrev pub arrays_of : Words → Kernel → List Declaration
arrays_of words k =
    array_in words no_scope 3 k.first ++ arrays_in words (first_scope words k) (others_at k) k.others

-- the program that a kernel's text spells
abbrev pub program_spelled : Words → Kernel → Program
program_spelled words k =
    record {
      name = words.spelling 1;
      parameters = (header_scope words k).parameters;
      arrays = map (declared_over (length (header_scope words k).parameters)) (arrays_of words k);
      body = trees_of (all_trees words (body_scope words k) (items_at k) k.items);
    }
