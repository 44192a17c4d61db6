use Rattle.whole_numbers.proofs.Common.{◌≡◌, ℕ, suc, length, drop, reverse, Ok}
use Rattle.quast_trees.specs.Postfix.{standing, top}
use Rattle.pip_solver.specs.steps.Frames.{under, joins, seconds, AreReady}
use Rattle.pip_solver.proofs.frames.resume.Given as goal

abbrev pub invariant-loop-form : goal.invariant-loop-form
invariant-loop-form l =
    (length (standing l.builder) ≡ suc (joins (reverse l.frames.items)))
    × ((n left : ℕ) → under n l.fn.frames.items (drop 1 (standing l.fn.builder))
    (Ok (top (standing l.fn.builder), left))
    ≡ under n l.frames.items (drop 1 (standing l.builder)) (Ok (top (standing l.builder), left)))
    × (seconds (reverse l.fn.frames.items) ≡ seconds (reverse l.frames.items))
    × ((n : ℕ) → AreReady n (reverse l.fn.frames.items) → AreReady n (reverse l.frames.items))

abbrev pub decreases-loop-form : goal.decreases-loop-form
decreases-loop-form l = length l.frames.items
