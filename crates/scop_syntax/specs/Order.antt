-- The order of instances: common loops lexicographically by turns, then the text.
use Rattle.std.specs.Prelude.{ℕ, suc, pos, List, [], ◌∷◌, ◌++◌, take, if◌then◌else◌, ℤ, nat_eq}
use Rattle.whole_numbers.specs.Lexicographic.{LexLess}
use Rattle.scop_syntax.specs.Walk.{Visit}

-- how many loops two statements have in common
abbrev pub common : List ℕ → List ℕ → ℕ
common [] ls = 0
common (k ∷ ks) [] = 0
common (k ∷ ks) (l ∷ ls) = if nat_eq k l then suc (common ks ls) else 0

-- the turns of the outermost c loops, and then the statement's number
abbrev pub key : ℕ → Visit → List ℤ
key c v = take c v.turns ++ pos v.number ∷ []

-- the instance v comes before the instance w
abbrev pub Before : Visit → Visit → Type 0
Before v w = LexLess (key (common v.loops w.loops) v) (key (common v.loops w.loops) w)
