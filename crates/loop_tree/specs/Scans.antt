-- Visits of exactly the keys of a predicate, each once, in rising order.
use Rattle.std.specs.Prelude.{◌≡◌, ℤ, pos, ◌≤ℤ◌, List, [], ◌∷◌, ◌++◌}
use Rattle.whole_numbers.specs.Lexicographic.{LexLess}
use Rattle.scop_syntax.specs.Members.{In, Sorted}
use Rattle.loop_tree.specs.Tree.{Bounds}
use Rattle.loop_tree.specs.Walk.{lower, upper, Visit}

-- the place of a visit: the loops' values and then the statement, as if it were one more dimension
abbrev pub key : Visit → List ℤ
key v = v.values ++ pos v.number ∷ []

-- a visit has the lesser place
abbrev pub Before : Visit → Visit → Type 0
Before v w = LexLess (key v) (key w)

-- x is one of the loop's values
abbrev pub Within : Bounds → Bounds → List ℤ → ℤ → Type 0
Within lo up point x = (lower lo point ≤ℤ x) × (x ≤ℤ upper up point)

-- the tree visits the keys of P, each once, no other, in rising order
pub record Exact (P : List ℤ → Type 0) (visits : List Visit) : Type 0 where
  pub rising : Sorted Before visits
  pub none_else : (v : Visit) → In v visits → P (key v)
  pub all : (r : List ℤ) → P r → (v : Visit) × In v visits × (key v ≡ r)
