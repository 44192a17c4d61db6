use Rattle.scop_syntax.proofs.Common.{◌≡◌, length, sym, ◌∙◌, length-map}
use Rattle.scop_units.specs.View.{scope_of, words_in}
use Rattle.scop_units.proofs.Parts.{number_by}
use Rattle.scop_units.proofs.units.number_fault.Goals as goal

pub returns : goal.returns
returns c =
    let s = scope_of c.args.scope.now in
    let count : c.len.result ≡ length s.parameters =
    let v = c.args.scope.now.parameters in c.len.ensures ∙ (v.ok.0 ∙ sym (length-map v.items (λ n. n.items))) in
    number_by (words_in c.args.words.now) s c.args.at c.len.result c.name_fault.result c.told_where.result
    c.first_of.result c.name_fault.ensures count c.told_where.ensures c.first_of.ensures
