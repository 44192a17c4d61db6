-- The instances along a stretch, by their places in it, and braids of whole rounds.
use Rattle.std.specs.Prelude.{◌≡◌, ℕ, zero, suc, ℤ, pos, List, take, All}
use Rattle.whole_numbers.specs.Lists.{multiples, sums}
use Rattle.scop_syntax.specs.View.{instance_of}
use Rattle.scop_syntax.specs.Walk.{Instance}
use Rattle.loop_tree.specs.declared.braid.Braid.{Braid}
use Rattle.loop_tree.specs.declared.stretch.Stretch.{Stretch}

-- turns that went on by the same steps so many times
abbrev pub turns_on : List ℤ → List ℤ → ℕ → List ℤ
turns_on turns steps zero = turns
turns_on turns steps (suc j) = sums (turns_on turns steps j) steps

-- the instance of a statement so many steps behind these turns
abbrev pub steps_on : ℕ → List ℤ → List ℤ → ℕ → Instance
steps_on n turns steps k = record { number = n; turns = sums turns (multiples (pos k) steps) }

-- that of a stretch
abbrev pub instance_at : Stretch → ℕ → Instance
instance_at s k = steps_on s.before.statement (instance_of s.before).turns (take s.before.loops s.steps) k

-- so many rounds are left of a braid, the first strand of which is next
pub record HasRounds (b : Braid) (rounds : ℕ) : Type 0 where
  pub turn : b.at ≡ 0
  pub lefts : All (λ s. s.left ≡ rounds) (take b.count b.strands)
