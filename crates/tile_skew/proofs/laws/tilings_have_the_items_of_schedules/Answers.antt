use Rattle.tile_skew.proofs.TilingAgreement.{values_agree}
use Rattle.tile_skew.proofs.laws.tilings_have_the_items_of_schedules.Goals as goal

pub returns : goal.returns
returns c blocks x = values_agree blocks x
