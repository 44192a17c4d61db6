-- Candidates of a read: the instances of one writing statement at some turns.
use Rattle.std.specs.Prelude.{◌≡◌, ℕ, ℤ, List, [], ◌∷◌, Some}
use Rattle.whole_numbers.specs.Lexicographic.{LexLe}
use Rattle.quast_trees.specs.Source.{source_of}
use Rattle.quast_trees.specs.Tree.{Tree}
use Rattle.quast_trees.specs.Leaf.{Leaf, initial, found}
use Rattle.quast_joins.specs.Joins.{join}
use Rattle.quast_joins.specs.declared.way.Way.{Way}
use Rattle.quast_joins.specs.declared.way.Way.TheVariants.{Later, Earlier}

-- the turns xs come at most as wanted as ys
abbrev pub TurnsAtMost : Way → List ℤ → List ℤ → Type 0
TurnsAtMost Later xs ys = LexLe xs ys
TurnsAtMost Earlier xs ys = LexLe ys xs

-- the answer is the wanted one of the turns of Q: the greatest or least by components, or the initial value where
-- there are none
abbrev pub IsWanted : Way → ℕ → List ℕ → (List ℤ → Type 0) → Leaf → Type 0
IsWanted way number loops Q initial = (xs : List ℤ) → Q xs → ⊥
IsWanted way number loops Q (found o xs) =
    (o ≡ Some (source_of number loops)) × Q xs × ((ys : List ℤ) → Q ys → TurnsAtMost way ys xs)

-- the candidates' quasts joined in order behind a first one
abbrev pub joined : {C : Type 0} → Way → ℕ → (C → Tree) → Tree → List C → Tree
joined way n tree_of acc [] = acc
joined way n tree_of acc (c ∷ cs) = joined way n tree_of (join way n acc (tree_of c)) cs
