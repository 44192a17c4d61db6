use Rattle.scop_syntax.proofs.Common.{◌≡◌}
use Rattle.schedule_rows.proofs.BlockOrder.{along_values}
use Rattle.schedule_rows.proofs.run_laws.values_are_in_order.Goals as goal

pub returns : goal.returns
returns c blocks x y a = along_values blocks x y (x.number ≡ y.number) a
