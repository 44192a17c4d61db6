-- Room on desks.
use Rattle.scop_syntax.proofs.Common.{◌∙◌, arith}
use Rattle.tile_table.specs.Desks.{HasRoom, HasRoomForAll, HasSameRoom}
use Rattle.tile_table.specs.declared.desk.Desk.{Desk}
use Rattle.tile_table.specs.declared.table.Row.{Row}
use Rattle.tile_table.specs.declared.table.Table.{Table}

-- room stays
pub room_stays : (row : Row) (before after : Desk) → HasRoom row before → HasSameRoom before after → HasRoom row after
room_stays row before after has same =
    let a = has.cells in
    let b = has.leaves in
    let c = has.slots in
    let d = same.cells in
    let e = same.leaves in
    let f = same.slots in
    record { cells = omega (arith, a, d); leaves = omega (arith, b, e); slots = omega (arith, c, f) }

pub room_stays_for_all : (table : Table) (before after : Desk) → HasRoomForAll table before
    → HasSameRoom before after → HasRoomForAll table after
room_stays_for_all table before after has same =
    record { each = λ k row at. room_stays row before after (has.each k row at) same }

pub same_room_chain : (first second third : Desk) → HasSameRoom first second → HasSameRoom second third
    → HasSameRoom first third
same_room_chain first second third a b = record {
  cells = b.cells ∙ a.cells;
  leaves = b.leaves ∙ a.leaves;
  slots = b.slots ∙ a.slots;
}
