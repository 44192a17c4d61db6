-- What a program says of a kernel's text: each extent, condition, loop's head and statement means at each point what
-- its expressions in the text are worth by C's own arithmetic, part by part along the kernel's tree.
use Rattle.std.specs.Prelude.{◌≡◌, ◌↔◌, ℕ, ◌+◌, true, ℤ, pos, ◌+ℤ◌, ◌≤ℤ◌, List, [], ◌∷◌, ◌++◌, length, map, All}
use Rattle.std.specs.Prelude.{slice_get, Some}
use Rattle.scop_expressions.specs.Width.{Width}
use Rattle.scop_expressions.specs.Width.TheVariants.{Narrow}
use Rattle.scop_grammar.specs.Kernel.{branch, loop, Item, block, empty, assign, headed, Items, none, more}
use Rattle.scop_grammar.specs.Kernel.{Parameter, number, array, Kernel, item_elements, head_elements}
use Rattle.scop_grammar.specs.Kernel.{parameter_elements}
use Rattle.scop_syntax.specs.Cells.{Cell, cell_of, reads, values}
use Rattle.scop_syntax.specs.Kernel.{narrow_arrays}
use Rattle.scop_syntax.specs.Statements.{AllHold}
use Rattle.scop_syntax.specs.Tree.{Statement, Test, Declaration, Program}
use Rattle.scop_syntax.specs.Tree as scop
use Rattle.scop_syntax.specs.Values.{stored_by}
use Rattle.scop_syntax.specs.View.{trees_of}
use Rattle.scop_syntax.specs.Walk.{condition_at, turn_point}
use Rattle.scop_lexer.specs.Bytes.{Text}
use Rattle.scop_roles.specs.declared.formula.Meaning.TheVariants as meaning
use Rattle.scop_roles.specs.Formula.{Formula}
use Rattle.scop_units.specs.Words.{Words}
use Rattle.scop_units.specs.Scopes.{Scope, Ranked, no_scope, entries, meaning_in}
use Rattle.scop_units.specs.Loops.{LoopHead}
use Rattle.scop_units.specs.Units.{Stored}
use Rattle.scop_units.specs.Judging.{width, extents_in, behind_parameter, condition, loop_in, inside, stored, others_at}
use Rattle.scop_units.specs.Judging.{items_at, first_scope, body_scope}
use Rattle.scop_units.specs.Programs.{wrapped}
use Rattle.scop_arithmetic.specs.Arithmetic.{whole, word, cell, cells_in, cells_read, stored as makes, after_step}
use Rattle.scop_arithmetic.specs.Arithmetic.{Holds, HoldTypes, cell_class, class}
use Rattle.scop_arithmetic.specs.Arithmetic.{HasWhole, HasTruth, HasCell, HasWord, HasStored, HasStep, IsNameOf}

-- names mean by the order in which they are declared: an entry of a point is that of the parameter or the open loop of
-- its number, and an array that of its number
pub record NamesMean (s : Scope) : Type 0 where
  pub entries : (k : ℕ) (w : Text)
      → (meaning_in s w ≡ meaning.Variable k) ↔ (slice_get (s.parameters ++ s.open_loops) k ≡ Some w)
  pub arrays : (k : ℕ) (a : Ranked)
      → (meaning_in s a.name ≡ meaning.Array k a.rank a.narrow) ↔ (slice_get s.arrays k ≡ Some a)

-- comparisons over n entries hold at a point exactly where the condition does
pub record GuardMeans (n : ℕ) (f : Formula) (tests : List Test) : Type 0 where
  pub defined : HasTruth f
  pub holds : (p : List ℤ) → length p ≡ n → AllHold tests p ↔ Holds p f

-- a loop outside of which there are n entries begins with the first part, goes on by the third, while the second holds
pub record LoopMeans (n : ℕ) (h : LoopHead) (head : scop.Head) : Type 0 where
  pub iterator : head.iterator ≡ h.iterator
  pub defined : HasWhole h.first × HasTruth h.second × HasStep h.change
  pub changed : IsNameOf n h.changed
  pub first : (p : List ℤ) → length p ≡ n → turn_point head p (pos 0) ≡ p ++ whole p h.first ∷ []
  pub next : (p : List ℤ) (x : ℤ) → length p ≡ n
      → turn_point head p (x +ℤ pos 1) ≡ p ++ after_step (turn_point head p x) n h.change ∷ []
  pub condition : (p : List ℤ) (x : ℤ) → length p ≡ n
      → (pos 0 ≤ℤ condition_at head p x) ↔ Holds (turn_point head p x) h.second

-- a statement stores in the cell of its place what its operator makes of that cell and of the value, and reads their
-- cells in the order of the text, whatever numbers of their types the cells hold
pub record StatementMeans (n : ℕ) (s : Stored) (t : Statement) : Type 0 where
  pub defined : HasCell s.cell × HasWord s.value × HasStored (cell_class s.cell) s.assign s.value
  pub place : (p : List ℤ) → length p ≡ n → cell_of t.place p ≡ cell p s.cell
  pub reads : (p : List ℤ) → length p ≡ n
      → map (λ access. cell_of access p) (reads t) ≡ cells_read s.assign (cell p s.cell) (cells_in p s.value)
  pub stores : (p : List ℤ) (held : Cell → ℕ) → length p ≡ n → HoldTypes held p s.value
      → stored_by t.right p (map held (cells_read s.assign (cell p s.cell) (cells_in p s.value)))
      ≡ makes (cell_class s.cell) (class s.value) s.assign (held (cell p s.cell)) (word held p s.value)

abbrev mutual
  -- trees of the program mean what an item does that begins at a place: a head stands round the trees of its item, and
  -- is left away where there are none
  pub MeansAt : Words → Scope → ℕ → Item → List scop.Tree → Type 0
  MeansAt words s at (block is) ts = MeanAt words s (at + 1) is ts
  MeansAt words s at empty ts = ts ≡ []
  MeansAt words s at (assign a p x) ts = (t : Statement) × (ts ≡ scop.statement t ∷ [])
      × NamesMean s × StatementMeans (entries s) (stored words s at a p x) t
  MeansAt words s at (headed (branch c) i) ts = (tests : List Test) × (body : List scop.Tree)
      × (ts ≡ wrapped (scop.guard tests) body) × NamesMean s × GuardMeans (entries s) (condition words s at c) tests
      × MeansAt words s (at + width (head_elements (branch c))) i body
  MeansAt words s at (headed (loop new a c st) i) ts = (head : scop.Head) × (body : List scop.Tree)
      × (ts ≡ wrapped (scop.loop head) body) × NamesMean s × NamesMean (inside words s new at)
      × LoopMeans (entries s) (loop_in words s at new a c st) head
      × MeansAt words (inside words s new at) (at + width (head_elements (loop new a c st))) i body

  -- so do those of items, one behind another
  pub MeanAt : Words → Scope → ℕ → Items → List scop.Tree → Type 0
  MeanAt words s at none ts = ts ≡ []
  MeanAt words s at (more i is) ts = (us : List scop.Tree) × (vs : List scop.Tree) × (ts ≡ us ++ vs)
      × MeansAt words s at i us × MeanAt words s (at + width (item_elements i)) is vs

-- an array has cells of this type; its extents are whole numbers of the parameters in front of it, whatever stands
-- behind them
pub record ArrayMeans (n : ℕ) (w : Width) (fs : List Formula) (d : Declaration) : Type 0 where
  pub before : d.parameters_before ≡ n
  pub type : (d.narrow ≡ true) ↔ (w ≡ Narrow)
  pub defined : All HasWhole fs
  pub extents : (p later : List ℤ) → length p ≡ n → values d.extents (p ++ later) ≡ map (whole p) fs

-- the arrays that a parameter declares, which begins at a place
abbrev pub DeclaresAt : Words → Scope → ℕ → Parameter → List Declaration → Type 0
DeclaresAt words s at number ds = ds ≡ []
DeclaresAt words s at (array w x xs) ds = (d : Declaration) × (ds ≡ d ∷ []) × (d.name ≡ words.spelling (at + 1))
    × NamesMean s × ArrayMeans (length s.parameters) w (extents_in words s (at + 1 + 1) (x ∷ xs)) d

-- those of parameters, each behind a sign
abbrev pub DeclareAt : Words → Scope → ℕ → List Parameter → List Declaration → Type 0
DeclareAt words s at [] ds = ds ≡ []
DeclareAt words s at (p ∷ ps) ds = (es : List Declaration) × (fs : List Declaration) × (ds ≡ es ++ fs)
    × DeclaresAt words s (at + 1) p es
    × DeclareAt words (behind_parameter words s (at + 1) p) (at + 1 + width (parameter_elements p)) ps fs

-- a program means what a kernel of these words does, and has its names and arrays in the order in which they mean
pub record Means (words : Words) (k : Kernel) (program : Program) : Type 0 where
  pub name : program.name ≡ words.spelling 1
  pub parameters : program.parameters ≡ (body_scope words k).parameters
  pub names : map (λ d. d.name) program.arrays ≡ map (λ a. a.name) (body_scope words k).arrays
  pub widths : narrow_arrays program ≡ map (λ a. a.narrow) (body_scope words k).arrays
  pub arrays : (es : List Declaration) × (fs : List Declaration) × (program.arrays ≡ es ++ fs)
      × DeclaresAt words no_scope 3 k.first es × DeclareAt words (first_scope words k) (others_at k) k.others fs
  pub body : (ts : List scop.Tree) × (program.body ≡ trees_of ts)
      × MeanAt words (body_scope words k) (items_at k) k.items ts
