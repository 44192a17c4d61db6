-- The faults of a kernel that is grammatical: of its names, its expressions in their roles, its loops and its limits,
-- by recursion on its tree, each part at the place of its first token. Items without a statement are judged too.
use Rattle.std.specs.Prelude.{ℕ, zero, suc, ◌+◌, Bool, true, false, List, [], ◌∷◌, ◌++◌, length}
use Rattle.scop_expressions.specs.Assign.{Assign}
use Rattle.scop_expressions.specs.Tree.{Tree, size}
use Rattle.scop_grammar.specs.Kernel.{Element, spelled, Step, counted, counts, assigned, Head, branch, loop, Item}
use Rattle.scop_grammar.specs.Kernel.{block, empty, assign, headed, Items, none, more, Parameter, number, array}
use Rattle.scop_grammar.specs.Kernel.{Kernel, item_elements, head_elements, parameter_elements, other_parameters}
use Rattle.scop_grammar.specs.Kernel.{declarations}
use Rattle.scop_roles.specs.declared.kinds.Fault.{Fault}
use Rattle.scop_roles.specs.declared.formula.Role.TheVariants as role
use Rattle.scop_roles.specs.Formula.{Formula, Lookup, formula, name}
use Rattle.scop_roles.specs.Faults.{faults}
use Rattle.scop_roles.specs.Forms.{is_narrow_width}
use Rattle.scop_roles.specs.Values.{tests}
use Rattle.scop_units.specs.Words.{Words}
use Rattle.scop_units.specs.Scopes.{Scope, no_scope, with_parameter, with_array, with_iterator, with_loop, entries}
use Rattle.scop_units.specs.Scopes.{look}
use Rattle.scop_units.specs.Loops.{LoopHead, Change, loop_faults}
use Rattle.scop_units.specs.Loops as loops
use Rattle.scop_units.specs.Units.{Stored, kernel_name_faults, name_faults, number_faults, array_faults}
use Rattle.scop_units.specs.Units.{statement_faults}

-- how many tokens there are
abbrev pub width : List Element → ℕ
width es = length (spelled es)

-- the formula of a tree at a place in a scope
abbrev pub formula_in : Words → Scope → ℕ → Tree → Formula
formula_in words s at t = formula (look words s) at t

-- the header

-- extents that begin at a place, each [ expression ]
abbrev pub extents_in : Words → Scope → ℕ → List Tree → List Formula
extents_in words s at [] = []
extents_in words s at (x ∷ xs) = formula_in words s (at + 1) x ∷ extents_in words s (at + 1 + size x + 1) xs

-- the faults of a parameter that begins at a place
abbrev pub parameter_faults : Words → Scope → ℕ → Parameter → List Fault
parameter_faults words s at number = number_faults words s (at + 1)
parameter_faults words s at (array w x xs) = array_faults words s (at + 1) (extents_in words s (at + 1 + 1) (x ∷ xs))

-- the scope behind a parameter
abbrev pub behind_parameter : Words → Scope → ℕ → Parameter → Scope
behind_parameter words s at number = with_parameter s (words.spelling (at + 1))
behind_parameter words s at (array w x xs) =
    with_array s (words.spelling (at + 1)) (length (x ∷ xs)) (is_narrow_width w)

-- the parameters from a place on, which is that of the sign behind the one before
abbrev pub parameters_faults : Words → Scope → ℕ → List Parameter → List Fault
parameters_faults words s at [] = []
parameters_faults words s at (p ∷ ps) =
    parameter_faults words s (at + 1) p
    ++ parameters_faults words (behind_parameter words s (at + 1) p) (at + 1 + width (parameter_elements p)) ps

-- the scope behind such parameters
abbrev pub behind_parameters : Words → Scope → ℕ → List Parameter → Scope
behind_parameters words s at [] = s
behind_parameters words s at (p ∷ ps) =
    behind_parameters words (behind_parameter words s (at + 1) p) (at + 1 + width (parameter_elements p)) ps

-- k names, each behind a comma, from the first comma's place on
abbrev pub names_faults : Words → Scope → ℕ → ℕ → List Fault
names_faults words s at zero = []
names_faults words s at (suc k) =
    name_faults words s (at + 1)
    ++ names_faults words (with_iterator s (words.spelling (at + 1))) (at + 1 + 1) k

-- the scope behind k such names
abbrev pub behind_names : Words → Scope → ℕ → ℕ → Scope
behind_names words s at zero = s
behind_names words s at (suc k) = behind_names words (with_iterator s (words.spelling (at + 1))) (at + 1 + 1) k

-- where the sign behind k such names stands
abbrev pub names_end : ℕ → ℕ → ℕ
names_end at zero = at
names_end at (suc k) = names_end (at + 1 + 1) k

-- declarations from a place on: int64_t name, k more names ;
abbrev pub declared_faults : Words → Scope → ℕ → List ℕ → List Fault
declared_faults words s at [] = []
declared_faults words s at (k ∷ ks) =
    name_faults words s (at + 1)
    ++ (names_faults words (with_iterator s (words.spelling (at + 1))) (at + 1 + 1) k
    ++ declared_faults words (behind_names words (with_iterator s (words.spelling (at + 1))) (at + 1 + 1) k)
    (names_end (at + 1 + 1) k + 1) ks)

-- the scope behind such declarations
abbrev pub behind_declared : Words → Scope → ℕ → List ℕ → Scope
behind_declared words s at [] = s
behind_declared words s at (k ∷ ks) =
    behind_declared words (behind_names words (with_iterator s (words.spelling (at + 1))) (at + 1 + 1) k)
    (names_end (at + 1 + 1) k + 1) ks

-- items

-- where the name of a loop's iterator stands, by the loop's place
abbrev pub iterator_at : Bool → ℕ → ℕ
iterator_at true at = at + 1 + 1 + 1
iterator_at false at = at + 1 + 1

-- the scope within a loop
abbrev pub inside : Words → Scope → Bool → ℕ → Scope
inside words s new at = with_loop s (words.spelling (iterator_at new at))

-- where a loop's condition stands, behind its name's place and the first part
abbrev pub second_at : ℕ → Tree → ℕ
second_at at a = at + 1 + 1 + size a + 1

-- where its step stands, behind the condition
abbrev pub step_at : ℕ → Tree → Tree → ℕ
step_at at a c = second_at at a + size c + 1

-- the name that a step at a place changes
abbrev pub changed : Lookup → ℕ → Step → Formula
changed see at (counts c) = name (see.meaning (at + 1)) (at + 1)
changed see at _ = name (see.meaning at) at

-- how a step at a place changes it
abbrev pub change : Lookup → ℕ → Step → Change
change see at (counted c) = loops.counted c
change see at (counts c) = loops.counted c
change see at (assigned a x) = loops.assigned a (formula see (at + 1 + 1) x)

-- the parts of a loop's head, with its name's place
abbrev pub loop_head : Words → Scope → ℕ → Bool → ℕ → Tree → Tree → Step → LoopHead
loop_head words s at new n a c st =
    record {
      place = at;
      new = new;
      name_at = n;
      iterator = words.spelling n;
      first = formula_in words s (n + 1 + 1) a;
      second = formula_in words (with_loop s (words.spelling n)) (second_at n a) c;
      changed = changed (look words (with_loop s (words.spelling n))) (step_at n a c) st;
      change = change (look words (with_loop s (words.spelling n))) (step_at n a c) st;
    }

-- the parts of the head of a loop at a place
abbrev pub loop_in : Words → Scope → ℕ → Bool → Tree → Tree → Step → LoopHead
loop_in words s at new a c st = loop_head words s at new (iterator_at new at) a c st

-- the condition of an `if` at a place
abbrev pub condition : Words → Scope → ℕ → Tree → Formula
condition words s at c = formula_in words s (at + 1 + 1) c

-- the faults of a head at a place
abbrev pub head_faults : Words → Scope → ℕ → Head → List Fault
head_faults words s at (branch c) = faults (entries s) role.Condition (condition words s at c)
head_faults words s at (loop new a c st) = loop_faults s (loop_in words s at new a c st)

-- the scope behind a head
abbrev pub behind_head : Words → Scope → ℕ → Head → Scope
behind_head words s at (branch c) = s
behind_head words s at (loop new a c st) = inside words s new at

-- how many comparisons a head adds
abbrev pub compared : Words → Scope → ℕ → Head → ℕ
compared words s at (branch c) = length (tests (entries s) (condition words s at c))
compared words s at (loop new a c st) = 0

-- a statement that begins at a place
abbrev pub stored : Words → Scope → ℕ → Assign → Tree → Tree → Stored
stored words s at a p x =
    record {
      cell = formula_in words s at p;
      assign = a;
      assign_at = at + size p;
      value = formula_in words s (at + size p + 1) x;
    }

abbrev mutual
  -- how many statements stand in an item
  pub statements_in : Item → ℕ
  statements_in (block is) = statements_in_all is
  statements_in empty = 0
  statements_in (assign a p x) = 1
  statements_in (headed h i) = statements_in i

  -- how many stand in items, one behind another
  pub statements_in_all : Items → ℕ
  statements_in_all none = 0
  statements_in_all (more i is) = statements_in i + statements_in_all is

abbrev mutual
  -- the faults of an item that begins at a place, with so many comparisons round it and statements in front
  pub item_faults : Words → Scope → ℕ → ℕ → ℕ → Item → List Fault
  item_faults words s comparisons before at (block is) = items_faults words s comparisons before (at + 1) is
  item_faults words s comparisons before at empty = []
  item_faults words s comparisons before at (assign a p x) =
      statement_faults (entries s) comparisons before (stored words s at a p x)
  item_faults words s comparisons before at (headed h i) =
      head_faults words s at h
      ++ item_faults words (behind_head words s at h) (comparisons + compared words s at h) before
      (at + width (head_elements h)) i

  -- those of items, one behind another
  pub items_faults : Words → Scope → ℕ → ℕ → ℕ → Items → List Fault
  items_faults words s comparisons before at none = []
  items_faults words s comparisons before at (more i is) =
      item_faults words s comparisons before at i
      ++ items_faults words s comparisons (before + statements_in i) (at + width (item_elements i)) is

-- the kernel: void name ( parameters ) { declarations items }

-- where the sign behind the first parameter stands
abbrev pub others_at : Kernel → ℕ
others_at k = 3 + width (parameter_elements k.first)

-- where the declarations begin
abbrev pub declared_at : Kernel → ℕ
declared_at k = others_at k + width (other_parameters k.others) + 1

-- where the items begin
abbrev pub items_at : Kernel → ℕ
items_at k = declared_at k + width (declarations k.declared)

-- the scope behind the first parameter
abbrev pub first_scope : Words → Kernel → Scope
first_scope words k = behind_parameter words no_scope 3 k.first

-- the scope behind the header
abbrev pub header_scope : Words → Kernel → Scope
header_scope words k = behind_parameters words (first_scope words k) (others_at k) k.others

-- the scope behind the declarations
abbrev pub body_scope : Words → Kernel → Scope
body_scope words k = behind_declared words (header_scope words k) (declared_at k) k.declared

-- all faults of a kernel
abbrev pub faults_of : Words → Kernel → List Fault
faults_of words k =
    kernel_name_faults words 1
    ++ (parameter_faults words no_scope 3 k.first
    ++ (parameters_faults words (first_scope words k) (others_at k) k.others
    ++ (declared_faults words (header_scope words k) (declared_at k) k.declared
    ++ items_faults words (body_scope words k) 0 0 (items_at k) k.items)))
