use Rattle.scop_syntax.proofs.Common.{◌≡◌, ◌⊎◌, inl, inr, ℕ, zero, suc, ◌<◌, refl, arith, Some, In}
use Rattle.tile_events.specs.Copies.{AreSources, IsFlowPlan}
use Rattle.tile_events.specs.Example.{sources_of_two, two}
use Rattle.run_callers.proofs.SmallPlans.{two_dealt, two_inside}
use Rattle.run_callers.proofs.releases.copies_of_two_places.Goals as goal

are : (j : ℕ) → j < two.places → AreSources two j (two.read j) (sources_of_two j)
are zero l = tt
are (suc zero) l = ((omega arith, refl, λ k m n e. omega (arith, m, e)), tt)
are (suc (suc j)) l = absurd (omega (arith, l))

flow : IsFlowPlan two sources_of_two
flow = record { ordered = ordered }
  where
    ordered : (i j : ℕ) → j < two.places → In (Some i) (sources_of_two j)
        → ((two.tile i ≡ two.tile j) × (two.position i < two.position j))
        ⊎ (two.wave (two.tile i) < two.wave (two.tile j))
    ordered i zero l s = absurd s
    ordered i (suc j) l (inl e) = let z : i ≡ 0 = cc in inr (omega (arith, z))
    ordered i (suc j) l (inr s) = absurd s

pub returns-clause-reads : goal.returns-clause-reads
returns-clause-reads c =
    c.copies_keep_what_is_read.ensures.reads two sources_of_two (λ cell. refl) two_inside are 1 (omega arith)

pub returns-clause-dealt : goal.returns-clause-dealt
returns-clause-dealt c =
    c.copies_keep_what_is_read.ensures.dealt two sources_of_two (λ cell. refl) refl two_dealt are

pub returns-clause-good : goal.returns-clause-good
returns-clause-good c =
    c.copies_keep_what_is_read.ensures.good two sources_of_two (λ cell. refl) refl two_dealt are flow

pub returns-clause-copies : goal.returns-clause-copies
returns-clause-copies c = λ done.
    c.copies_keep_what_is_read.ensures.copies two sources_of_two done 2 1 (λ cell. refl) (omega arith)

pub returns-clause-cells : goal.returns-clause-cells
returns-clause-cells c = λ done.
    c.copies_keep_what_is_read.ensures.cells two sources_of_two done 2 0 (omega arith)
