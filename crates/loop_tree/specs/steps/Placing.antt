-- What the code asks of a kernel's parts while it makes their loop tree.
use Rattle.std.specs.Prelude.{ℕ, ◌+◌, ◌≤◌, ◌^◌, List, [], ◌∷◌, ◌++◌}
use Rattle.whole_numbers.specs.Affine.{Affine, composed}
use Rattle.scop_syntax.specs.Kernel.{test_form}
use Rattle.scop_syntax.specs.Tree.{Test as Comparison, Trees as Items}
use Rattle.scop_syntax.specs.Walk.{statements_in_all}
use Rattle.iteration_domains.specs.Path.{Path, CanModel}
use Rattle.iteration_domains.specs.Sizes.{CanCompose, form_size}
use Rattle.loop_tree.specs.Source.{begun}

-- the condition at turn 0 can be made
pub record CanBegin (n : ℕ) (forms : List Affine) (first condition : Affine) : Type 0 where
  pub first_can : CanCompose n forms first
  pub condition_can : CanCompose n (forms ++ composed first forms n ∷ []) condition
  pub small : form_size (begun n forms first condition) ≤ 2 ^ 50

-- a comparison can be composed
pub record CanTest (n : ℕ) (forms : List Affine) (test : Comparison) : Type 0 where
  pub can : CanCompose n forms (test_form test)
  pub small : form_size (composed (test_form test) forms n) ≤ 2 ^ 50

-- what the code asks of trees of a kernel that stand there behind k statements
pub record CanPlace (path : Path) (ts : Items) (k : ℕ) : Type 0 where
  pub model : CanModel path ts
  pub few : k + statements_in_all ts ≤ 32
