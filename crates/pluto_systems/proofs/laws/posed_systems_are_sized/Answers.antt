use Rattle.pluto_systems.proofs.LowerLaws.{RowLaws}
use Rattle.pluto_systems.proofs.FormSizes.{posed_sized}
use Rattle.pluto_systems.proofs.laws.posed_systems_are_sized.Goals as goal

pub returns : goal.returns
returns c m loops ruled vectors h v =
    let laws : RowLaws = record {
      columns = c.rows_speak_of_the_layout.ensures.columns;
      legality = c.rows_speak_of_the_layout.ensures.legality;
      bounding = c.rows_speak_of_the_layout.ensures.bounding;
    } in
    posed_sized laws m loops ruled vectors h v
