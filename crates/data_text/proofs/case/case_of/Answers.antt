-- No rule is broken, so the case lies within the limits.
use Rattle.scop_syntax.proofs.Common.{◌≡◌, ◌≤◌, ◌^◌, ◌∙◌, sym, ap, subst, length, map, None, arith, length-map}
use Rattle.scop_syntax.proofs.Common.{Declaration, program_of, values, layout, total_cells, size_of, narrow_arrays}
use Rattle.data_lines.specs.Sheets.{given_of}
use Rattle.data_text.specs.Cases.{bad_layout, first_miscount, param_of, params_of, too_many}
use Rattle.data_text.specs.steps.Conditions.{AreParameters}
use Rattle.data_text.proofs.LayoutLemmas.{are_parameters, good_arrays}
use Rattle.data_text.proofs.ContentLemmas.{shaped, none_miscounted}
use Rattle.data_text.proofs.case.case_of.Goals as goal

pub layout_said-requires-clause-params : goal.layout_said-requires-clause-params
layout_said-requires-clause-params c =
    let values = c.args.sheet.values.items in
    let few : length values ≤ 4 = omega (arith, c.requires.sheet.values, c.requires.kernel.few_parameters) in
    let same = c.in_ok-params.ensures.params ∙ ap params_of c.deref.ensures.value in
    subst AreParameters (sym (c.deref-2.ensures.value ∙ same)) (are_parameters values c.requires.sheet.small few)

pub returns-clause-limits : goal.returns-clause-limits
returns-clause-limits c =
    let program = program_of c.args.kernel.now in
    let values = c.args.sheet.values.items in
    let params = c.in_ok-params.params.items in
    let few : length values ≤ 4 = omega (arith, c.requires.sheet.values, c.requires.kernel.few_parameters) in
    let same : params ≡ params_of values = c.in_ok-params.ensures.params ∙ ap params_of c.deref.ensures.value in
    let are : AreParameters params =
    subst AreParameters (sym same) (are_parameters values c.requires.sheet.small few) in
    let good : bad_layout program params ≡ None = ap (bad_layout program) (sym c.deref-2.ensures.value)
    ∙ c.in_ok-extents.ensures.good in
    let extents : c.in_ok-extents.extents ≡ layout program params = c.in_ok-extents.ensures.extents
    ∙ ap (layout program) c.deref-2.ensures.value in
    record {
      kernel = c.requires.kernel;
      count = ap length same ∙ (length-map values param_of ∙ c.requires.sheet.values);
      parameters = are.values;
      extents = good_arrays params program.arrays (too_many (total_cells (layout program params))) good;
      cells = subst (λ es. total_cells es ≤ 2 ^ 22) extents c.in_ok-extents.ensures.limits.cells;
    }

pub returns-clause-shape : goal.returns-clause-shape
returns-clause-shape c =
    let program = program_of c.args.kernel.now in
    let rows = map given_of c.args.sheet.rows.items in
    let layouts = c.in_ok-extents.extents in
    let long : length rows ≡ length layouts = c.requires.sheet.rows
    ∙ sym (ap length c.in_ok-extents.ensures.extents
    ∙ length-map program.arrays (λ (d : Declaration). map size_of (values d.extents c.deref-2.result.now))) in
    ap (map length) c.in_ok-arrays.ensures.contents
    ∙ shaped (narrow_arrays program) layouts rows long
    (none_miscounted (first_miscount None layouts rows) c.in_ok-arrays.ensures.good)
