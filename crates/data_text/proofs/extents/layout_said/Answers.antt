use Rattle.scop_syntax.proofs.Common.{◌∙◌, sym, ap, subst, map, arith, All, Declaration, program_of, values, size_of}
use Rattle.scop_syntax.proofs.Common.{IsDeclaration}
use Rattle.data_text.specs.steps.Conditions.{AreLayouts}
use Rattle.data_text.proofs.LayoutLemmas.{are_layouts}
use Rattle.data_text.proofs.extents.layout_said.Goals as goal

pub total_cells-total-requires : goal.total_cells-total-requires
total_cells-total-requires c =
    let params = c.args.params.now in
    let program = program_of c.args.kernel.now in
    let all = subst (λ n. All (IsDeclaration n) program.arrays) (sym c.requires.count) c.requires.kernel.declarations in
    let same = c.in-Ok.ensures ∙ ap (map (λ (d : Declaration). map size_of (values d.extents params)))
    c.deref-2.ensures.value in
    subst AreLayouts (sym same) (are_layouts params program.arrays c.requires.params all c.requires.kernel.few_arrays)

pub returns-clause-limits : goal.returns-clause-limits
returns-clause-limits c =
    let params = c.args.params.now in
    let program = program_of c.args.kernel.now in
    let all = subst (λ n. All (IsDeclaration n) program.arrays) (sym c.requires.count) c.requires.kernel.declarations in
    let same = c.in-Ok.ensures ∙ ap (map (λ (d : Declaration). map size_of (values d.extents params)))
    c.deref-2.ensures.value in
    record {
      arrays = subst AreLayouts (sym same)
          (are_layouts params program.arrays c.requires.params all c.requires.kernel.few_arrays);
      cells = omega (arith, c.total_cells-total.ensures, c.if-total-gt-MOST.false);
    }
