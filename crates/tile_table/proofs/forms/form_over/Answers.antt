use Rattle.scop_syntax.proofs.Common.{List, [], ◌∷◌, map, subst, IfOk-weaker, Affine, Head}
use Rattle.tile_table.specs.steps.Forms.{IsFormOver, TellsNumber}
use Rattle.tile_table.proofs.Tellings.{form_in_row, one_size}
use Rattle.tile_table.proofs.forms.form_over.Goals as goal

pub form_behind-requires-clause-extents : goal.form_behind-requires-clause-extents
form_behind-requires-clause-extents c = one_size

pub returns : goal.returns
returns c =
    let params = c.args.params.now in
    let heads : List Head = map (λ h. h.now) c.args.heads.now in
    let form = c.args.form.now in
    IfOk-weaker c.form_behind.result (TellsNumber 0 (1 ∷ []) c.from_ref.result.now heads params)
    (IsFormOver params heads form)
    (λ over tells. form_in_row params heads form over
    (subst (λ (fs : List Affine). TellsNumber 0 (1 ∷ []) fs heads params over) c.from_ref.ensures.value tells))
    c.form_behind.ensures
