use Rattle.scop_syntax.proofs.Common.{◌≡◌, ◌∙◌, ℕ, zero, suc, ◌+◌, ◌<◌, ◌&&◌, inl, inr, ⊎_elim, Bool, true, refl, arith}
use Rattle.scop_syntax.proofs.Common.{nat_eq, and_from}
use Rattle.tile_events.specs.Core.{State}
use Rattle.tile_events.specs.Example.{both_to_last, counted, three}
use Rattle.tile_events.specs.Plan.{count_of}
use Rattle.tile_events.specs.Releases.{IsDone}
use Rattle.tile_events.specs.Sound.{is_done, IsFinished}
use Rattle.run_callers.proofs.ThreeTiles.{led, three_covered, three_dealt, three_edges}
use Rattle.run_callers.proofs.releases.last_of_three_tiles.Goals as goal

both_count : (f : ℕ → Bool) → f 0 ≡ true → f 1 ≡ true → count_of f 2 ≡ 2
both_count f a b = rw (b, a) refl

pub returns-clause-opened : goal.returns-clause-opened
returns-clause-opened c = λ s sound begun.
    let told = c.opened_tiles_have_waited.ensures.released three both_to_last s three_dealt three_edges (omega arith)
    sound in
    let o = told.opened 1 (omega arith) begun in (o.0 0 (omega arith), o.1)

pub returns-clause-counts : goal.returns-clause-counts
returns-clause-counts c = λ s sound begun.
    let told = c.opened_tiles_have_waited.ensures.released three both_to_last s three_dealt three_edges (omega arith)
    sound in
    told.counts 2 (omega arith)
    ∙ both_count (λ i. is_done counted s (3 + i) && nat_eq (both_to_last.target i) 2)
    (and_from (is_done counted s 3) true (told.opened 0 (omega arith) begun).1 refl)
    (and_from (is_done counted s 4) true (told.opened 1 (omega arith) begun).1 refl)

pub returns-clause-releases : goal.returns-clause-releases
returns-clause-releases c = λ s sound done.
    let told = c.opened_tiles_have_waited.ensures.released three both_to_last s three_dealt three_edges (omega arith)
    sound in
    told.releases 0 (omega arith) done 0 (omega arith)

pub returns-clause-conflicts : goal.returns-clause-conflicts
returns-clause-conflicts c = λ s sound begun. ⊎_elim
    (λ (same : three.tile 0 ≡ three.tile 2). absurd (omega (arith, same)))
    (λ (all : IsDone three both_to_last s 0). all 0 (omega arith))
    (c.opened_tiles_have_waited.ensures.conflicts three both_to_last s 0 2 three_dealt three_edges
    three_covered sound (omega arith) (omega arith) (inr (inl (inl refl))) begun)

pub returns-clause-filled : goal.returns-clause-filled
returns-clause-filled c = λ s sound first second.
    c.opened_tiles_have_waited.ensures.filled three both_to_last s 2 three_dealt three_edges (omega arith) sound
    (omega arith) (λ t l. over s first second t (led t 2 l).0)
  where
    over : (s : State) → IsFinished s 0 → IsFinished s 1 → (t : ℕ) → t < 2 → IsFinished s t
    over s first second zero l = first
    over s first second (suc zero) l = second
    over s first second (suc (suc t)) l = absurd (omega (arith, l))
