use Rattle.scop_syntax.proofs.Common.{◌≡◌, ◌≢◌, ◌+◌, [], ◌∷◌, pos, negsuc, rules, subst, sym, ◌∙◌, All, All-append}
use Rattle.scop_syntax.proofs.Common.{All-cons, All-nil, Affine, complement, length-multiples}
use Rattle.affine_forms.specs.Parts.{variables_of}
use Rattle.fractions.specs.Elimination.{coefficient_of}
use Rattle.plain_scan.specs.Hulls.{sets_in}
use Rattle.split_scan.specs.steps.Questions.{IsCut}
use Rattle.split_scan.proofs.NarrowedNodes.{hold_more}
use Rattle.split_scan.proofs.narrowing.narrow_by.Goals as goal

pub has_no_key-requires-clause-sized : goal.has_no_key-requires-clause-sized
has_no_key-requires-clause-sized c =
    let level = c.args.level.now in
    let row = c.args.row.now in
    let P : Affine → Type 0 = λ f. variables_of f ≡ level.place + 1 + level.parameters in
    subst (All P) (sym c.in_ok-cell.ensures) (All-cons P (complement row) []
    (length-multiples (negsuc 0) row.coefficients ∙ c.requires.row) (All-nil P))

pub returns-clause-cuts : goal.returns-clause-cuts
returns-clause-cuts c h =
    let level = c.args.level.now in
    let row = c.args.row.now in
    let P = IsCut level.place (level.place + 1 + level.parameters) in
    let bounds : coefficient_of level.place row ≢ pos 0 = search rules in
    subst (All P) (sym c.in_ok-push_copy.ensures) (All-append P c.args.cuts.now.items (row ∷ []) h
    (All-cons P row [] (record { sized = c.requires.row; small = c.requires.small; bounds = bounds }) (All-nil P)))

pub returns-clause-hold : goal.returns-clause-hold
returns-clause-hold c h =
    let level = c.args.level.now in
    hold_more level.place level.inside.items (sets_in c.args.outlines.now) c.args.row.now c.args.cuts.now.items
    c.push_copy.new.forms.items c.in_ok-cell.cell.cuts.items c.in_ok-push_copy.ensures c.in_ok-cell.ensures
    (c.in_ok-none.ensures c.if-not-none.false) h
