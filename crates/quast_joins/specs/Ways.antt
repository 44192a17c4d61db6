-- The two ways to look along a walk: back to the last writer, on to the next one.
use Rattle.std.specs.Prelude.{ℕ, Bool, true, false, ℤ, pos, ◌-ℤ◌, List, ◌∷◌, nat_eq, nat_lt, if◌then◌else◌, Option}
use Rattle.std.specs.Prelude.{Some, None, []}
use Rattle.quast_trees.specs.Source.{Source}
use Rattle.quast_trees.specs.Leaf.{Leaf, initial, found}
use Rattle.quast_trees.specs.Value.{by_sign}
use Rattle.quast_joins.specs.declared.way.Way.{Way}
use Rattle.quast_joins.specs.declared.way.Way.TheVariants.{Later, Earlier}

-- at least 0 just where x is wanted before y
abbrev pub ahead : Way → ℤ → ℤ → ℤ
ahead Later x y = (x -ℤ y) -ℤ pos 1
ahead Earlier x y = (y -ℤ x) -ℤ pos 1

-- whether of two statements the first stands at the end of the tests: that of the wanted textual place, and the
-- first of two that are one
abbrev pub text : Way → ℕ → ℕ → Bool
text Later s t = if nat_lt s t then false else true
text Earlier s t = if nat_lt t s then false else true

-- whether of two instances the first stands: their common iterators from the outermost, then the text
abbrev pub first_stands : Way → ℕ → ℕ → List ℕ → List ℕ → List ℤ → List ℤ → Bool
first_stands way s t (k ∷ ks) (l ∷ ls) (x ∷ xs) (y ∷ ys) =
    if nat_eq k l
    then by_sign (ahead way x y) true (by_sign (ahead way y x) false (first_stands way s t ks ls xs ys))
    else text way s t
first_stands way s t _ _ _ _ = text way s t

-- a leaf without a source counts as an instance of the first statement, in no loop
abbrev pub statement_of : Option Source → ℕ
statement_of None = 0
statement_of (Some s) = s.statement

-- the loops round a leaf's instances
abbrev pub loops_of : Option Source → List ℕ
loops_of None = []
loops_of (Some s) = s.loops

-- whether of two leaves' values those of the first stand
abbrev pub stands : Way → Option Source → Option Source → List ℤ → List ℤ → Bool
stands way a b xs ys = first_stands way (statement_of a) (statement_of b) (loops_of a) (loops_of b) xs ys

-- the wanted one of two answers; the initial value counts as none
abbrev pub chosen : Way → Leaf → Leaf → Leaf
chosen way initial m = m
chosen way (found a xs) initial = found a xs
chosen way (found a xs) (found b ys) = if stands way a b xs ys then found a xs else found b ys
