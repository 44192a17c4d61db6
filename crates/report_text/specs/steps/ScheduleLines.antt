-- The lines of a schedule's items, as the code makes them: item by item.
use Rattle.std.specs.Prelude.{ℕ, suc, ◌==◌, Bool, false, List, [], ◌∷◌, ◌++◌, drop, if◌then◌else◌}
use Rattle.schedule_rows.specs.Unknowns.{Part}
use Rattle.schedule_rows.specs.Schedule.{Item, row, scalar}
use Rattle.schedule_rows.specs.declared.item.Band.{Band}
use Rattle.schedule_rows.specs.declared.item.Part as code
use Rattle.report_text.specs.ScheduleText.{row_line, scalar_line}

-- what the code's part of a statement stands for
abbrev pub part_view : code.Part → Part
part_view p = record { coefficients = p.coefficients.items; shift = p.shift }

-- the line of an item
abbrev pub item_text : ℕ → ℕ → Bool → Item → List ℕ
item_text k b parallel (row r) = row_line k b parallel r
item_text k b parallel (scalar numbers) = scalar_line k numbers

-- the first of these bands begins at an item
abbrev pub begins : List Band → ℕ → Bool
begins [] at = false
begins (b ∷ bs) at = b.first == at

-- how many bands have begun at an item, where so many had begun before it
abbrev pub entered : List Band → ℕ → ℕ → ℕ
entered bands count at = if begins (drop count bands) at then suc count else count

-- the lines of the items from this one on, where so many bands have begun before
abbrev pub items_text : ℕ → ℕ → List Band → List Item → List Bool → List ℕ
items_text at count bands [] marks = []
items_text at count bands (i ∷ is) [] = []
items_text at count bands (i ∷ is) (p ∷ ps) =
    item_text (suc at) (entered bands count at) p i ++ items_text (suc at) (entered bands count at) bands is ps
