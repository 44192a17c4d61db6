use Rattle.pluto_systems.proofs.LowerLaws.{RowLaws}
use Rattle.pluto_systems.proofs.Points.{has_behind, has_posed}
use Rattle.pluto_systems.proofs.laws.posed_systems_hold_the_posed_rows.Goals as goal
use Rattle.pluto_systems.proofs.laws.posed_systems_hold_the_posed_rows.Goals.{After-rows_speak_of_the_layout}

laws : After-rows_speak_of_the_layout → RowLaws
laws c =
    record {
      columns = c.rows_speak_of_the_layout.ensures.columns;
      legality = c.rows_speak_of_the_layout.ensures.legality;
      bounding = c.rows_speak_of_the_layout.ensures.bounding;
    }

pub returns-clause-before : goal.returns-clause-before
returns-clause-before c =
    has_posed (laws (goal.at.returns-clause-before c).After-rows_speak_of_the_layout)
    c.kernel_vectors_are_kept.ensures.lengths

pub returns-clause-behind : goal.returns-clause-behind
returns-clause-behind c =
    has_behind (laws (goal.at.returns-clause-behind c).After-rows_speak_of_the_layout)
    c.kernel_vectors_are_kept.ensures.lengths
