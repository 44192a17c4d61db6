-- Instances that stretches give in turn.
use Rattle.std.specs.Prelude.{◌≤◌, ◌<◌, ◌+◌, ℕ, zero, suc, List, [], ◌∷◌, ◌++◌, length, map, take, drop, All}
use Rattle.scop_syntax.specs.Walk.{Instance}
use Rattle.loop_tree.specs.Conditions.{IsHeld}
use Rattle.loop_tree.specs.Stretches.{left_of}
use Rattle.loop_tree.specs.declared.braid.Braid.{Braid}
use Rattle.loop_tree.specs.declared.stretch.Stretch.{Stretch}

-- each list in turn gives its first, so many times, until the one whose turn it is has none
abbrev pub taking : ℕ → List (List Instance) → List Instance
taking zero ls = []
taking (suc k) [] = []
taking (suc k) ([] ∷ ls) = []
taking (suc k) ((i ∷ is) ∷ ls) = i ∷ taking k (ls ++ is ∷ [])

-- how many instances lists have together
abbrev pub together : List (List Instance) → ℕ
together [] = 0
together (l ∷ ls) = length l + together ls

-- all that they give in turn
abbrev pub woven : List (List Instance) → List Instance
woven ls = taking (together ls) ls

-- a braid's strands, from the one whose turn it is on and then those before it
abbrev pub strands_in_turn : Braid → List Stretch
strands_in_turn b = drop b.at (take b.count b.strands) ++ take b.at b.strands

-- the instances that are left of a braid
abbrev pub left_of_braid : Braid → List Instance
left_of_braid b = woven (map left_of (strands_in_turn b))

-- it is the turn of one of its strands, and its instances can be held
pub record IsBraid (b : Braid) : Type 0 where
  pub few : b.count ≤ 4
  pub turn : b.at < b.count
  pub held : All IsHeld (left_of_braid b)
