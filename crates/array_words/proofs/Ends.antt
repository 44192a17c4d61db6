-- Cells that hold what execution leaves, as those of a sound state at the end of a run (`sound_end`, `quiet_end`).
use Rattle.scop_syntax.proofs.Common.{◌≡◌, ◌∙◌, ◌<◌, ℕ, true, List, [], length, refl, subst, sym, arith, lt-ltb}
use Rattle.scop_syntax.proofs.Common.{some-ne-none}
use Rattle.tile_events.specs.Core.{State, working, ended}
use Rattle.tile_events.specs.Flat.{flat}
use Rattle.tile_events.specs.Opening.{IsQuiet}
use Rattle.tile_events.specs.Plan as events
use Rattle.tile_events.specs.Plan.{Gate, IsDealt, waves, counters}
use Rattle.tile_events.specs.Sound.{AreOpened, Sound, is_done}
use Rattle.tile_events.proofs.Cells.{words_all}
use Rattle.array_words.specs.Closing.{IsClosed}
use Rattle.tile_core.specs.Plans.{plan_of, shape_of}
use Rattle.tile_core.specs.declared.plan.Plan.{Plan}

-- all tiles are claimed and finished, and nobody is left
abbrev pub end_of : events.Plan → List ℕ → State
end_of p cells = record { claims = p.tiles; finished = p.tiles; cells = cells; workers = [] }

pub quiet_end : (p : events.Plan) (cells : List ℕ) → IsQuiet p (end_of p cells)
quiet_end p cells = record {
  out = omega arith;
  free = λ i t w at. absurd (some-ne-none w (sym at));
}

module _ (p : events.Plan) (cells : List ℕ) (dealt : IsDealt p) where
  -- all places are done
  all_done : (j : ℕ) → j < p.places → is_done p (end_of p cells) j ≡ true
  all_done j less = rw (lt-ltb (p.tile j) p.tiles (dealt.tile j less)) refl

  opened_end : (g : Gate) → AreOpened g p (end_of p cells)
  opened_end waves = λ t u below less begun earlier. record {
    claimed = below;
    free = λ id w at. absurd (some-ne-none w (sym at));
  }
  opened_end (counters cell needs) = λ i u less below begun writes. all_done i less

  closed_sound : (first : List ℕ) → length first ≡ p.cells → IsClosed p first cells → Sound p (end_of p cells)
  closed_sound first wide closed = record {
    apart = λ i j t v w at. absurd (some-ne-none v (sym at));
    below = λ i t w at. absurd (some-ne-none w (sym at));
    tally = omega arith;
    opened = opened_end p.gate;
    reads = λ i t k xs at. absurd (some-ne-none (working t k xs) (sym at));
    wide = closed.long ∙ wide;
    cells = λ c less. closed.cells c less
        ∙ sym (words_all p (is_done p (end_of p cells)) p.places c all_done);
    over = λ i at. absurd (some-ne-none ended (sym at));
  }

-- the cells at the end of a plan's run from a row that holds the contents
pub sound_end : (plan : Plan) (contents : List (List ℕ)) (row first cells : List ℕ)
    → plan_of plan row ≡ plan_of plan (flat contents) → IsDealt (plan_of plan (flat contents))
    → length first ≡ (shape_of plan).cells → IsClosed (plan_of plan row) first cells
    → Sound (plan_of plan (flat contents)) (end_of (plan_of plan (flat contents)) cells)
sound_end plan contents row first cells same dealt wide closed =
    closed_sound (plan_of plan (flat contents)) cells dealt first wide
    (subst (λ (p : events.Plan). IsClosed p first cells) same closed)
