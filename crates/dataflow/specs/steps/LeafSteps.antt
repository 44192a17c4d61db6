-- What the code of leaf dependences asks and promises of its parts.
use Rattle.std.specs.Prelude.{◌≡◌, ℕ, ◌+◌, ◌<◌, ◌≤◌, true, ℤ, pos, negsuc, neg_ℤ, ◌*ℤ◌, List, length, get_or, ⊤, All}
use Rattle.std.specs.Prelude.{Some}
use Rattle.whole_numbers.specs.Affine.{Affine}
use Rattle.whole_numbers.specs.Fits.{fits}
use Rattle.quast_trees.specs.Paths.{Turn, up, down, bound, LeafPath, AreOver, binds_in, live_paths}
use Rattle.quast_trees.specs.Tree.{Tree}
use Rattle.quast_trees.specs.Turns.{IsHeld, rest_of}
use Rattle.quast_joins.specs.Limits.{node_limit}
use Rattle.scop_syntax.specs.Members.{In}
use Rattle.iteration_domains.specs.Model.{KernelModel}
use Rattle.iteration_domains.specs.Sizes.{HaveOneCount}
use Rattle.conflict_deps.specs.Conflicts.{Side, loops_of, end_of}
use Rattle.iteration_domains.specs.Dependence.{IsOne}
use Rattle.conflict_deps.specs.steps.View.{CanPair}
use Rattle.dataflow.specs.LeafRows.{width, placed_numbers}
use Rattle.dataflow.specs.Leaves.{writer_of}
use Rattle.dataflow.specs.declared.leaf_rows.Layout.{Layout}

-- the parts of a leaf's variables are few
pub record IsSmall (l : Layout) : Type 0 where
  pub before : l.before ≤ 5
  pub turns : l.turns ≤ 5
  pub behind : l.behind ≤ 5
  pub binds : l.binds ≤ node_limit
  pub parameters : l.parameters ≤ 4

-- numbers of a form over the parameters, the reader's turns and at most all that is bound
pub record CanPlace (l : Layout) (cs : List ℤ) : Type 0 where
  pub small : IsSmall l
  pub least : l.parameters + l.turns ≤ length cs
  pub most : length cs ≤ l.parameters + l.turns + l.binds

-- 128 bits hold the opposites of numbers
abbrev pub HoldOpposites : List ℤ → Type 0
HoldOpposites cs = All (λ c. fits (negsuc 0 *ℤ c) ≡ true) cs

-- they hold the numbers of the rows of what is passed
abbrev pub HoldsRows : Turn → Type 0
HoldsRows (up f) = ⊤
HoldsRows (down f) = HoldOpposites f.coefficients
HoldsRows (bound f d) = (fits (neg_ℤ d) ≡ true) × IsHeld (rest_of f d)

-- they hold the opposite of each number of a form
pub record HoldsOpposite (f : Affine) : Type 0 where
  pub coefficients : HoldOpposites f.coefficients
  pub constant : fits (neg_ℤ f.constant) ≡ true

-- the variables from one on, so many, are none of those of a quast
abbrev pub AreFree : Layout → ℕ → ℕ → Type 0
AreFree l from count =
    (cs : List ℤ) (i : ℕ) → l.parameters + l.turns ≤ length cs → i < count
    → get_or (placed_numbers l cs) (from + i) (pos 0) ≡ pos 0

-- a leaf of an access's quast and the writer that it names, in a model with m parameters: its path and its forms are over
-- the variables that stand there, there is a form for each loop of the writer, and 128 bits hold the numbers of its rows
pub record CanTellLeaf (m : ℕ) (reader writer : Side) (p : LeafPath) : Type 0 where
  pub one : HaveOneCount reader.statement writer.statement
  pub few : m ≤ 4
  pub over : AreOver (m + loops_of reader) p.turns
  pub short : length p.turns ≤ node_limit
  pub turns : All HoldsRows p.turns
  pub forms : All (λ f. length f.coefficients ≡ m + loops_of reader + binds_in p.turns) p.leaf.forms
  pub count : length p.leaf.forms ≡ length writer.statement.loops
  pub held : All HoldsOpposite p.leaf.forms

-- and both are accesses that can make a pair
pub record CanWrite (m : ℕ) (reader writer : Side) (p : LeafPath) : Type 0 where
  pub reader_side : CanPair m reader
  pub writer_side : CanPair m writer
  pub leaf : CanTellLeaf m reader writer p

-- a source, a target and the path of a leaf whose variables stand as in the layout, the writer's turns from a variable on
pub record CanLay (l : Layout) (from : ℕ) (s t : Side) (p : LeafPath) : Type 0 where
  pub source : CanPair l.parameters s
  pub target : CanPair l.parameters t
  pub small : IsSmall l
  pub all : width l ≡ loops_of s + loops_of t + l.binds + l.parameters
  pub one : IsOne (end_of s) (end_of t)
  pub over : AreOver (l.parameters + l.turns) p.turns
  pub binds : binds_in p.turns ≡ l.binds
  pub turns : All HoldsRows p.turns
  pub forms : All (λ f. length f.coefficients ≡ l.parameters + l.turns + l.binds) p.leaf.forms
  pub inside : from + length p.leaf.forms ≤ width l
  pub free : AreFree l from (length p.leaf.forms)
  pub held : All HoldsOpposite p.leaf.forms

-- an access of a statement of a model
pub record IsReader (model : KernelModel) (reader : Side) : Type 0 where
  pub statement : In reader.statement model.statements
  pub pairs : CanPair model.parameters reader

-- the writer that a leaf names, if it names one, can be told
abbrev pub CanTellWriter : KernelModel → Side → LeafPath → Type 0
CanTellWriter model reader p =
    (writer : Side) → writer_of model p.leaf.source ≡ Some writer → CanTellLeaf model.parameters reader writer p

-- those of all leaves of a tree can
abbrev pub CanTellAll : KernelModel → Side → Tree → Type 0
CanTellAll model reader tree = All (CanTellWriter model reader) (live_paths tree)
