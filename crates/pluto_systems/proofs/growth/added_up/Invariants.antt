use Rattle.scop_syntax.proofs.Common.{◌≡◌, ◌*◌, ◌^◌, drop, length, map, [], slice_index_or}
use Rattle.null_space.specs.Sizes.{AreWithin}
use Rattle.pluto_systems.specs.Posing.{added}
use Rattle.pluto_systems.proofs.growth.added_up.Given as goal

abbrev pub invariant-loop-at : goal.invariant-loop-at
invariant-loop-at l =
    (length l.sum.items ≡ length (slice_index_or (map (λ v. v.items) l.vectors) 0 []))
    × (added l.sum.items (drop l.at (map (λ v. v.items) l.vectors))
    ≡ added (slice_index_or (map (λ v. v.items) l.vectors) 0 []) (drop 1 (map (λ v. v.items) l.vectors)))
    × AreWithin (l.at * 2 ^ 109) l.sum.items
