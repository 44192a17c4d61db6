-- Where a counter holds as much as there are places that count for a tile, all of these are done.
use Rattle.scop_syntax.proofs.Common.{◌≡◌, ℕ, ◌^◌, ◌<◌, ◌≤◌, ◌&&◌, true, get_or, arith, nat_eq, eq-eqb, and_parts}
use Rattle.std.proofs.Math.Nat.{mod-le}
use Rattle.tile_events.specs.Plan.{Plan, values_read, count_of, IsCounted}
use Rattle.tile_events.specs.Core.{State}
use Rattle.tile_events.specs.Sound.{is_done, Sound}
use Rattle.tile_events.proofs.CountedNumbers.{count_all}
use Rattle.tile_events.proofs.Sums.{cell_counts}

pub counter_opens : (p : Plan) (s : State) (cell needs : ℕ → ℕ) (u : ℕ) → IsCounted p cell needs → Sound p s
    → u < p.tiles → needs u ≤ get_or s.cells (cell u) 0
    → (i : ℕ) → i < p.places → p.written i ≡ cell u → is_done p s i ≡ true
counter_opens p s cell needs u count sound within reached i less wrote =
    (and_parts (is_done p s i) (nat_eq (p.written i) (cell u))
    (count_all (λ j. is_done p s j && nat_eq (p.written j) (cell u)) (λ j. nat_eq (p.written j) (cell u)) p.places
    (λ j e. (and_parts (is_done p s j) (nat_eq (p.written j) (cell u)) e).1) all i less
    (eq-eqb (p.written i) (cell u) wrote))).0
  where
    all : count_of (λ j. nat_eq (p.written j) (cell u)) p.places
        ≤ count_of (λ j. is_done p s j && nat_eq (p.written j) (cell u)) p.places
    all =
        let a = cell_counts p s (cell u) sound (count.cell u within) (count.adds u within) (count.initial u within)
        (λ j l e. count.one j u (values_read p j) l within e) in
        let b = mod-le (count_of (λ j. is_done p s j && nat_eq (p.written j) (cell u)) p.places) (2 ^ 64) in
        let c = count.needs u within in omega (arith, a, b, c, reached)
