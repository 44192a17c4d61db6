use Rattle.scop_syntax.proofs.Common.{◌-◌, [], arith, refl}
use Rattle.tile_events.specs.Deal.{Deal, IsScan}
use Rattle.run_callers.proofs.events.two_places_in_turned_order.Goals as goal

-- the scan
abbrev turned : Deal
turned = record { places = 2; tiles = 2; rank = λ j. 1 - j; at = λ r. 1 - r; start = λ t. t; wave = λ t. t }

scanned : IsScan turned
scanned =
    record {
      rank = λ j less. omega arith;
      at = λ r less. omega arith;
      there = λ j less. omega (arith, less);
      back = λ r less. omega (arith, less);
      first = refl;
      last = refl;
      rises = λ t less. omega arith;
      by_wave = λ t less. omega arith;
    }

pub returns : goal.returns
returns c = λ adds value initial.
    c.scans_are_dealt.ensures turned 2 adds (λ j. j) (λ j. []) value initial scanned (λ j less. less)
    (λ j cell less among. absurd among)
