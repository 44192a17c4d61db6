use Rattle.whole_numbers.proofs.Common.{◌-◌, length}
use Rattle.farkas.proofs.RowQuestions.{settled-sized}
use Rattle.farkas.proofs.dropping.settle.Goals as goal

pub from_parts-requires-in-Ok : goal.from_parts-requires-in-Ok
from_parts-requires-in-Ok c = record {
  sized = settled-sized c.args.question c.dimensions-dimensions.result (length c.rows.result.now - 1) c.args.at
      c.into_parts-equalities.result.0.items c.into_parts-equalities.result.1.items c.truncate.new.self.items
      c.insert.new.self.items c.args.row c.dimensions-dimensions.ensures c.requires.flat
      c.into_parts-equalities.ensures.sized c.requires.sized c.truncate.ensures.items c.in-Ok.ensures.items;
}
