use Rattle.scop_syntax.proofs.Common.{◌≡◌, ◌∙◌, ℕ, ◌+◌, ◌%◌, ◌^◌, Bool, true, refl, arith}
use Rattle.tile_events.specs.Example.{adding}
use Rattle.tile_events.specs.Sound.{is_done}
use Rattle.tile_events.specs.Sums.{sum_of}
use Rattle.run_callers.proofs.releases.sum_of_three_places.Goals as goal

all_three : (done : ℕ → Bool) → done 0 ≡ true → done 1 ≡ true → done 2 ≡ true
    → (0 + sum_of adding done 3 0) % 2 ^ 64 ≡ 6
all_three done a b c = rw (c, b, a) refl

pub returns : goal.returns
returns c = λ s sound first second third.
    c.cells_hold_their_sums.ensures adding s 0 sound (omega arith) refl (omega arith)
    ∙ all_three (is_done adding s) first second third
