use Rattle.scop_syntax.proofs.Common.{◌≡◌, ◌∙◌, ap, subst, sym, ℕ, ◌≤◌, ◌^◌, List, [], All, get_or, map, take}
use Rattle.scop_syntax.proofs.Common.{total_cells, Access, Head}
use Rattle.tile_table.proofs.Tellings.{cell_told}
use Rattle.tile_table.proofs.forms.form_of.Goals as goal

pub form_behind-requires-clause-extents : goal.form_behind-requires-clause-extents
form_behind-requires-clause-extents c =
    let es = c.args.extents.now in
    let a = c.args.access.now in
    let named = ap (λ (b : Access). get_or es b.array []) c.access.view_is in
    subst (λ (own : List ℕ). All (λ e. (1 ≤ e) × (e ≤ 2 ^ 22)) own) (sym (c.array-own.ensures ∙ named))
    (c.requires.layout.sizes a.array [] c.requires.array)

pub returns : goal.returns
returns c =
    let es = c.args.extents.now in
    let a = c.args.access.now in
    let heads : List Head = map (λ h. h.now) c.args.heads.now in
    let before = c.cells_before-before.result in
    let named = ap (λ (b : Access). get_or es b.array []) c.access.view_is in
    let spoken = c.deref.ensures.value ∙ ap (λ (b : Access). b.subscripts) c.access.view_is in
    let total : before ≡ total_cells (take a.array es) =
    c.cells_before-before.ensures.number ∙ ap (λ (b : Access). total_cells (take b.array es)) c.access.view_is in
    cell_told es a heads c.args.params.now before c.array-own.result.now c.deref.result.now c.form_behind.result total
    (c.array-own.ensures ∙ named) spoken c.form_behind.ensures
