use Rattle.scop_syntax.proofs.Common.{Bool, List, refl, subst, sym, before_place, exec, layout, walk_of, HoldWidths}
use Rattle.scop_syntax.specs.Widths.{HoldTypes}
use Rattle.contract_callers.proofs.walks.cells_of_32_bits.Goals as goal

pub returns-clause-before : goal.returns-clause-before
returns-clause-before c = λ program params contents j k is only hold.
    subst (λ (narrow : List Bool). HoldWidths narrow
    (before_place (layout program params) contents (walk_of program params) j)) only
    (c.narrow_cells_stay_narrow.ensures.before program params contents j is
    (subst (λ (narrow : List Bool). HoldWidths narrow contents) (sym only) hold)) 0 k refl

pub returns-clause-behind : goal.returns-clause-behind
returns-clause-behind c = λ program params contents k is only hold.
    subst (λ (narrow : List Bool). HoldWidths narrow (exec program params contents)) only
    (c.narrow_cells_stay_narrow.ensures.behind program params contents is
    (subst (λ (narrow : List Bool). HoldWidths narrow contents) (sym only) hold)) 0 k refl

pub returns-clause-types : goal.returns-clause-types
returns-clause-types c = λ program params contents j k is only hold.
    subst (λ (narrow : List Bool). HoldTypes narrow
    (before_place (layout program params) contents (walk_of program params) j)) only
    (c.cells_hold_numbers_of_their_types.ensures program params contents j is
    (subst (λ (narrow : List Bool). HoldTypes narrow contents) (sym only) hold)) 0 k
