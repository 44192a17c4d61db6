-- Quasts (Feautrier, Parametric integer programming, 1988) as trees.
use Rattle.std.specs.Prelude.{◌≡◌, ℕ, ℤ, pos, ◌+◌, ◌≤ℤ◌, length, All, ⊤}
use Rattle.whole_numbers.specs.Affine.{Affine}
use Rattle.quast_trees.specs.Source.{Source, Forms, with_source}

-- a quasi-affine selection tree: the answer of a parametric problem
pub data Tree : Type 0 where
  -- the initial value
  initial : Tree
  -- forms, with their source where they have one
  leaf : Forms → Tree
  -- the first tree where the form is at least 0, else the second
  branch : Affine → Tree → Tree → Tree
  -- the tree, with the form's quotient by the divisor, rounded down, as one more variable behind those that stand
  bind : Affine → ℤ → Tree → Tree

-- how many nodes a tree has: one for each branch, bind and leaf
abbrev pub count : Tree → ℕ
count initial = 1
count (leaf l) = 1
count (branch test first second) = (count first + count second) + 1
count (bind form divisor body) = count body + 1

-- each form speaks of the variables that stand at its place, n at the root, and each divisor is at least 1
abbrev pub Speaks : ℕ → Tree → Type 0
Speaks n initial = ⊤
Speaks n (leaf l) = (l.variables ≡ n) × All (λ f. length f.coefficients ≡ n) l.forms
Speaks n (branch test first second) = (length test.coefficients ≡ n) × Speaks n first × Speaks n second
Speaks n (bind form divisor body) = (length form.coefficients ≡ n) × (pos 1 ≤ℤ divisor) × Speaks (n + 1) body

-- the tree with a source for each leaf of forms
abbrev pub named : Source → Tree → Tree
named s initial = initial
named s (leaf l) = leaf (with_source s l)
named s (branch test first second) = branch test (named s first) (named s second)
named s (bind form divisor body) = bind form divisor (named s body)

-- each leaf of forms has n of them
abbrev pub LeavesHave : ℕ → Tree → Type 0
LeavesHave n initial = ⊤
LeavesHave n (leaf l) = length l.forms ≡ n
LeavesHave n (branch test first second) = LeavesHave n first × LeavesHave n second
LeavesHave n (bind form divisor body) = LeavesHave n body
