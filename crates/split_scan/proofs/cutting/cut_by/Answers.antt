use Rattle.scop_syntax.proofs.Common.{◌≡◌, ◌≢◌, ◌+◌, ◌++◌, [], ◌∷◌, pos, rules, ap₂, subst, sym, ◌∙◌, List, All}
use Rattle.scop_syntax.proofs.Common.{All-append, All-cons, All-nil, Affine, complement, length-multiples, negsuc}
use Rattle.affine_forms.specs.Parts.{variables_of}
use Rattle.fractions.specs.Elimination.{coefficient_of}
use Rattle.plain_scan.specs.Between.{HasSmallNumbers}
use Rattle.split_scan.specs.steps.Questions.{IsCut}
use Rattle.split_scan.proofs.NodeParts.{cell_more, goes_more}
use Rattle.split_scan.proofs.cutting.cut_by.Goals as goal
use Rattle.split_scan.proofs.cutting.cut_by.Goals.{After-deref-3}

-- the rows beyond the row
beyond_there : (c : After-deref-3) → c.push.new.list.items ≡ c.args.cuts.now.items ++ complement c.args.row.now ∷ []
beyond_there c =
    let pushed : c.push.new.list.items ≡ c.in_ok-beyond.beyond.items ++ c.in_ok-far.far ∷ [] = search rules in
    pushed ∙ ap₂ (λ (fs : List Affine) (f : Affine). fs ++ f ∷ []) (c.in_ok-beyond.ensures ∙ c.deref-2.ensures.value)
    c.in_ok-far.ensures.row

pub is_void-requires : goal.is_void-requires
is_void-requires c =
    let level = c.args.level.now in
    let P : Affine → Type 0 = λ f. variables_of f ≡ level.place + 1 + level.parameters in
    let row = c.args.row.now in
    let cuts = c.args.cuts.now.items in
    subst (All P) (sym (c.deref-3.ensures.value ∙ beyond_there (goal.at.is_void-requires c).After-deref-3))
    (All-append P cuts (complement row ∷ []) c.requires.sized (All-cons P (complement row) []
    (length-multiples (negsuc 0) row.coefficients ∙ c.requires.row) (All-nil P)))

pub returns-clause-cuts : goal.returns-clause-cuts
returns-clause-cuts c h =
    let level = c.args.level.now in
    let row = c.args.row.now in
    let P = IsCut level.place (level.place + 1 + level.parameters) in
    let bounds : coefficient_of level.place row ≢ pos 0 = search rules in
    subst (All P) (sym c.in_ok-push_copy.ensures) (All-append P c.args.cuts.now.items (row ∷ []) h
    (All-cons P row [] (record { sized = c.requires.row; small = c.requires.small; bounds = bounds }) (All-nil P)))

pub returns-clause-cells : goal.returns-clause-cells
returns-clause-cells c h olds =
    let level = c.args.level.now in
    let row = c.args.row.now in
    let cell = c.in_ok-push_cell.ensures in
    let bounds : coefficient_of level.place row ≢ pos 0 = search rules in
    let far = subst HasSmallNumbers c.in_ok-far.ensures.row c.in_ok-far.ensures.small in
    cell_more level.place (level.place + 1 + level.parameters) row c.args.cuts.now.items c.args.out.now.items
    c.push_cell.new.out.items cell.0
    (record { sized = c.requires.row; small = c.requires.small; bounds = bounds }) far
    (cell.2 ∙ beyond_there (goal.at.returns-clause-cells c).After-deref-3) cell.1 h olds

pub returns-clause-goes : goal.returns-clause-goes
returns-clause-goes c =
    let level = c.args.level.now in
    let cell = c.in_ok-push_cell.ensures in
    goes_more level.place level.inside.items c.args.row.now c.args.cuts.now.items c.push_copy.new.forms.items
    c.args.out.now.items c.push_cell.new.out.items cell.0 c.in_ok-push_copy.ensures
    (cell.2 ∙ beyond_there (goal.at.returns-clause-goes c).After-deref-3) cell.1

pub returns-clause-sized : goal.returns-clause-sized
returns-clause-sized c =
    let level = c.args.level.now in
    let P : Affine → Type 0 = λ f. variables_of f ≡ level.place + 1 + level.parameters in
    let row = c.args.row.now in
    subst (All P) (sym c.in_ok-push_copy.ensures) (All-append P c.args.cuts.now.items (row ∷ []) c.requires.sized
    (All-cons P row [] c.requires.row (All-nil P)))
