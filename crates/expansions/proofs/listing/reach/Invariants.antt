use Rattle.scop_syntax.proofs.Common.{◌≡◌, ◌-◌, ℕ, length, suc}
use Rattle.expansions.specs.steps.Listing.{entries_in}
use Rattle.expansions.proofs.listing.reach.Given as goal

abbrev pub invariant-loop-alloc : goal.invariant-loop-alloc
invariant-loop-alloc l = (s : ℕ) → entries_in l.lists.items s ≡ entries_in l.fn.lists.items s

abbrev pub decreases-loop-alloc : goal.decreases-loop-alloc
decreases-loop-alloc l = suc l.statement - length l.lists.items
