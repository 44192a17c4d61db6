use Rattle.scop_syntax.proofs.Common.{◌∙◌, sym, ap, rules, FitsSigned, Bor, w64, codes, to_z-of_z, program_of}
use Rattle.std.proofs.Common.{option_map}
use Rattle.scop_syntax.specs.declared.tree.Kernel.{Kernel}
use Rattle.report_text.specs.StatusText.{data_text, extent_text, named}
use Rattle.report_text.proofs.Lines.{puts_as}
use Rattle.report_text.proofs.data_line.put_data.Goals as goal

pub returns-in-Line : goal.returns-in-Line
returns-in-Line g c =
    puts_as _ _ _ _ _ _ _
    (sym (ap (data_text (option_map (λ (k : Bor Kernel). program_of k.now) c.args.kernel)) c.in-Line.is))
    c.put_numbered.ensures

pub returns-in-UnknownName : goal.returns-in-UnknownName
returns-in-UnknownName g c =
    puts_as _ _ _ _ _ _ _
    (sym (ap (data_text (option_map (λ (k : Bor Kernel). program_of k.now) c.args.kernel)) c.in-UnknownName.is))
    c.put_numbered-in-UnknownName.ensures

pub returns-in-Repeated : goal.returns-in-Repeated
returns-in-Repeated g c =
    puts_as _ _ _ _ _ _ _
    (sym (ap (data_text (option_map (λ (k : Bor Kernel). program_of k.now) c.args.kernel)) c.in-Repeated.is))
    c.put_numbered-in-Repeated.ensures

pub returns-in-Number : goal.returns-in-Number
returns-in-Number g c =
    puts_as _ _ _ _ _ _ _
    (sym (ap (data_text (option_map (λ (k : Bor Kernel). program_of k.now) c.args.kernel)) c.in-Number.is))
    c.put_numbered-in-Number.ensures

pub returns-in-ParameterRange : goal.returns-in-ParameterRange
returns-in-ParameterRange g c =
    puts_as _ _ _ _ _ _ _
    (sym (ap (data_text (option_map (λ (k : Bor Kernel). program_of k.now) c.args.kernel)) c.in-ParameterRange.is))
    c.put_numbered-in-ParameterRange.ensures

pub returns-in-Missing : goal.returns-in-Missing
returns-in-Missing g c =
    puts_as _ _ _ _ _ _ _
    (ap (λ name. named (codes "data: Missing ") name (codes "\n")) c.parameter_name.ensures
    ∙ sym (ap (data_text (option_map (λ (k : Bor Kernel). program_of k.now) c.args.kernel)) c.in-Missing.is))
    c.put_named.ensures

pub returns-in-Extent : goal.returns-in-Extent
returns-in-Extent g c =
    let fits : FitsSigned w64 c.in-Extent.value = search rules in
    puts_as _ _ _ _ _ _ _
    (ap (λ name. extent_text name c.in-Extent.dimension c.in-Extent.value) c.array_name.ensures
    ∙ sym (ap (data_text (option_map (λ (k : Bor Kernel). program_of k.now) c.args.kernel)) c.in-Extent.is))
    (simp to_z-of_z at c.put_extent.ensures)

pub returns-in-Cells : goal.returns-in-Cells
returns-in-Cells g c =
    puts_as _ _ _ _ _ _ _
    (sym (ap (data_text (option_map (λ (k : Bor Kernel). program_of k.now) c.args.kernel)) c.in-Cells.is))
    c.put_total.ensures

pub returns-in-Count : goal.returns-in-Count
returns-in-Count g c =
    puts_as _ _ _ _ _ _ _
    (sym (ap (data_text (option_map (λ (k : Bor Kernel). program_of k.now) c.args.kernel)) c.in-Count.is))
    c.put_count.ensures
