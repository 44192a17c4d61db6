-- Trees by which a run goes, whether or not each instance has a copy of its own (`HaveTrees`).
use Rattle.scop_syntax.proofs.Common.{ℕ, ℤ, List, Option, None, Some, MatchOption, HasParameters, Program}
use Rattle.loop_tree.specs.Tiling.{IsFlowPlan, IsGoodFor, Tiling}
use Rattle.loop_tree.specs.Tree.{Trees}
use Rattle.planned_trees.specs.Trees.{AreFlowTreesOf, AreTreesOf}

-- trees of a plan, where some arrays are marked; of a flow plan, where something is there
abbrev pub HaveTrees : {S : Type 0} → Option S → Program → List ℕ → Tiling → Trees → Type 0
HaveTrees o program marked tiling ts =
    MatchOption o (AreTreesOf program marked tiling ts) (λ s. AreFlowTreesOf program tiling ts)

-- they are trees of the plan, where some arrays are marked
pub some_trees : {S : Type 0} (o : Option S) (program : Program) (marked : List ℕ) (tiling : Tiling) (ts : Trees)
    → HaveTrees o program marked tiling ts → (apart : List ℕ) × AreTreesOf program apart tiling ts
some_trees None program marked tiling ts h = (marked, h)
some_trees (Some s) program marked tiling ts h = (h.apart, h.trees)

-- the plan keeps the order that it has to
pub order_kept : {S : Type 0} (o : Option S) (program : Program) (marked : List ℕ) (tiling : Tiling) (ts : Trees)
    (params : List ℤ) → HasParameters program params → HaveTrees o program marked tiling ts
    → MatchOption o (IsGoodFor program params marked tiling) (λ s. IsFlowPlan program params tiling)
order_kept None program marked tiling ts params has h = (h.carry_out params has).good
order_kept (Some s) program marked tiling ts params has h = h.flow params has
