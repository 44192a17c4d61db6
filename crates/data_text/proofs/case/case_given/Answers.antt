-- Within the limits there is a layout, and lists that are as long as their arrays fill it.
use Rattle.scop_syntax.proofs.Common.{◌≡◌, ◌≤◌, ◌∙◌, sym, ap₂, subst, length, map, List, arith, ℤ, All, length-map}
use Rattle.scop_syntax.proofs.Common.{Declaration, program_of, values, layout, size_of, IsDeclaration, narrow_arrays}
use Rattle.data_lines.specs.Sheets.{given_of}
use Rattle.data_text.specs.steps.Conditions.{AreParameters, IsLayout}
use Rattle.data_text.proofs.LayoutLemmas.{are_layouts}
use Rattle.data_text.proofs.ContentLemmas.{shaped}
use Rattle.data_text.proofs.case.case_given.Goals as goal

pub contents_of-requires-clause-layout : goal.contents_of-requires-clause-layout
contents_of-requires-clause-layout c =
    let program = program_of c.args.kernel.now in
    let params = c.args.params.items in
    let limits = c.requires.limits in
    let few : length params ≤ 4 = omega (arith, limits.count, limits.kernel.few_parameters) in
    let are : AreParameters params = record { few = few; values = limits.parameters } in
    let all = subst (λ n. All (IsDeclaration n) program.arrays) (sym limits.count) limits.kernel.declarations in
    let same : c.in_ok-extents.extents ≡ layout program params = c.in_ok-extents.ensures
    ∙ ap₂ (λ (ps : List ℤ) (ds : List Declaration). map (λ d. map size_of (values d.extents ps)) ds)
    c.deref-2.ensures.value c.deref.ensures.value in
    subst IsLayout (sym same) (record {
      arrays = are_layouts params program.arrays are all limits.kernel.few_arrays;
      cells = limits.cells;
    })

pub returns-clause-shape : goal.returns-clause-shape
returns-clause-shape c =
    let program = program_of c.args.kernel.now in
    let params = c.args.params.items in
    let rows = map given_of c.args.rows.items in
    let layouts = layout program params in
    let same : c.in_ok-extents.extents ≡ layouts = c.in_ok-extents.ensures
    ∙ ap₂ (λ (ps : List ℤ) (ds : List Declaration). map (λ d. map size_of (values d.extents ps)) ds)
    c.deref-2.ensures.value c.deref.ensures.value in
    let long : length rows ≡ length layouts = length-map c.args.rows.items given_of ∙ (c.requires.rows
    ∙ sym (length-map program.arrays (λ (d : Declaration). map size_of (values d.extents params)))) in
    rw (c.in_ok-arrays.ensures, same) (shaped (narrow_arrays program) layouts rows long c.requires.lists)
