-- Passes before and after a run.
use Rattle.scop_syntax.proofs.Common.{◌≡◌, ◌∙◌, ◌<◌, ℕ, suc, List, [], ◌∷◌, ◌++◌, take, drop, All, length, ap, refl}
use Rattle.scop_syntax.proofs.Common.{sym, subst, take-append_seam, arith}
use Rattle.tile_events.specs.Sound.{Holds, total}
use Rattle.tile_core.specs.Passes.{IsPass}
use Rattle.tile_core.specs.Plans.{shape_of}
use Rattle.tile_core.specs.Workers.{staged}
use Rattle.tile_core.specs.declared.worker.Stage.TheVariants.{Working}
use Rattle.tile_core.specs.declared.words.Words.{Words}
use Rattle.tile_core.specs.declared.words.Pass.{Pass}
use Rattle.array_words.specs.Closing.{IsResting, Rests, one_if_ended, stage_in}
use Rattle.tile_runner.specs.steps.Running.{IsOver}

-- where all passes have ended they are counted all
all_over : (words : Words) (passes : List Pass) → All (IsOver words) passes
    → total (λ p. one_if_ended (stage_in p)) passes ≡ length passes
all_over words [] h = refl
all_over words (p ∷ ps) h =
    let i = all_over words ps (λ k d l. h (suc k) d (omega (arith, l))) in
    let e = ap one_if_ended (h 0 p (omega arith)).ended in
    omega (arith, i, e)

-- a vector whose slice was written whole holds what was written
pub whole : {A : Type 0} (old new : List A) (n : ℕ) → n ≡ length old → length new ≡ length old
    → take n (new ++ drop (length new) old) ≡ new
whole old new n is same =
    ap (λ (m : ℕ). take m (new ++ drop (length new) old)) (is ∙ sym same) ∙ take-append_seam new (drop (length new) old)

-- where each pass of so many was replaced by one that has ended, all have
pub all_count : (words : Words) (old new : List Pass) (n : ℕ) → n ≡ length old → length new ≡ length old
    → All (IsOver words) new
    → total (λ p. one_if_ended (stage_in p)) (take n (new ++ drop (length new) old)) ≡ length old
all_count words old new n is same over =
    ap (total (λ (p : Pass). one_if_ended (stage_in p))) (whole old new n is same) ∙ (all_over words new over ∙ same)

-- all are passes of the words
pub all_passes : (words : Words) (old new : List Pass) (n : ℕ) → n ≡ length old → length new ≡ length old
    → All (IsOver words) new → All (IsPass words) (take n (new ++ drop (length new) old))
all_passes words old new n is same over =
    subst (All (IsPass words)) (sym (whole old new n is same)) (λ k d l. (over k d l).is)

-- and hold no tile
pub all_rest : (words : Words) (old new : List Pass) (n : ℕ) → n ≡ length old → length new ≡ length old
    → All (IsOver words) new → All IsResting (take n (new ++ drop (length new) old))
all_rest words old new n is same over =
    subst (All IsResting) (sym (whole old new n is same)) (λ k d l. subst Rests (sym (over k d l).ended) tt)

-- the tile in which a pass works is one of the plan's
pub works_within : (words : Words) (pass : Pass) (t k : ℕ) → IsPass words pass → pass.worker.stage ≡ Working t k
    → t < (shape_of words.plan).tiles
works_within words pass t k is works =
    is.worker.tile t (subst (λ s. Holds (staged s pass.worker.reads.items) t) (sym works) refl)
