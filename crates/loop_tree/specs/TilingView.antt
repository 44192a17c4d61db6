-- The tiling that the code's stands for.
use Rattle.std.specs.Prelude.{map}
use Rattle.std.specs.Int.NonZero.{non_zero_u64_get}
use Rattle.loop_tree.specs.Tiling.{Tiling, Items, Item, row, scalar, kept, tiled}
use Rattle.loop_tree.specs.declared.tiling.TileItem.TheVariants as code_item
use Rattle.loop_tree.specs.declared.tiling.TileItems.{TileItems}
use Rattle.loop_tree.specs.declared.tiling.Tiling.TheVariants as code

-- an item behind the first band
abbrev pub item_of : code_item.the_data → Item
item_of (code_item.Row form) = row form
item_of (code_item.Scalar number) = scalar number

-- a statement's items
abbrev pub items_of : TileItems → Items
items_of s = record { leading = s.leading.items; band = s.band.items; behind = map item_of s.behind.items }

-- a tiling
abbrev pub tiling_of : code.the_data → Tiling
tiling_of code.Kept = kept
tiling_of (code.Tiled size statements) = tiled (non_zero_u64_get size) (map items_of statements.items)
