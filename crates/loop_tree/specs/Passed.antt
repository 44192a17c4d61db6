-- Instances that are passed by at once: how many there are, and the last of them.
use Rattle.std.specs.Prelude.{◌≡◌, ℕ, ◌+◌, List, [], ◌∷◌, ◌++◌, length, ⊤}
use Rattle.scop_syntax.specs.View.{instance_of}
use Rattle.scop_syntax.specs.Walk.{Instance}
use Rattle.loop_tree.specs.declared.tally.Tally.{Tally}
use Rattle.loop_tree.specs.declared.tally.Tally.TheVariants.{Nothing, Unseen, Seen, Lost}

-- so many instances, of which x is the last
pub record AreRun (xs : List Instance) (count : ℕ) (x : Instance) : Type 0 where
  pub front : List Instance
  pub all : xs ≡ front ++ x ∷ []
  pub size : length front + 1 ≡ count

-- what was to come begins with so many instances, of which x is the last, and behind them is what is to come now
pub record HasLeft (old : List Instance) (count : ℕ) (x : Instance) (new : List Instance) : Type 0 where
  pub part : List Instance
  pub run : AreRun part count x
  pub split : old ≡ part ++ new

-- the tally of these instances; of none where they were too many to count
abbrev pub StandsFor : Tally → List Instance → Type 0
StandsFor Nothing xs = xs ≡ []
StandsFor (Unseen count) xs = length xs ≡ count
StandsFor (Seen p) xs = AreRun xs p.count (instance_of p.last)
StandsFor Lost xs = ⊤
