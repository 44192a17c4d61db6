use Rattle.scop_syntax.proofs.Common.{◌≡◌, take, map, values, size_of}
use Rattle.scop_meaning.proofs.layout.sizes_at.Given as goal

abbrev pub invariant-loop-extent : goal.invariant-loop-extent
invariant-loop-extent l = l.sizes.items ≡ map size_of (values (take l.extent-index l.extents) l.params)
