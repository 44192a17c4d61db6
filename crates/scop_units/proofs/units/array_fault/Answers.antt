use Rattle.scop_syntax.proofs.Common.{◌≡◌, length, map, sym, ◌∙◌, length-map}
use Rattle.scop_roles.specs.Formula.{formula_of}
use Rattle.scop_units.specs.View.{ranked, scope_of, words_in}
use Rattle.scop_units.proofs.Parts.{array_by}
use Rattle.scop_units.proofs.units.array_fault.Goals as goal

pub returns : goal.returns
returns c =
    let s = scope_of c.args.scope.now in
    let fs = map formula_of c.args.extents.now in
    let size : length c.args.extents.now ≡ length fs = sym (length-map c.args.extents.now formula_of) in
    let count : c.len.result ≡ length s.arrays =
    let v = c.args.scope.now.arrays in c.len.ensures ∙ (v.ok.0 ∙ sym (length-map v.items (ranked))) in
    array_by (words_in c.args.words.now) s c.args.at fs (length c.args.extents.now) c.len.result c.entries.result
    c.name_fault.result c.told_where-rank.result c.told_where-many.result c.in_ok-extent.extent
    c.first_of.result c.first_of-2.result c.first_of-3.result size c.told_where-rank.ensures count
    c.told_where-many.ensures c.entries.ensures c.in_ok-extent.ensures c.name_fault.ensures c.first_of.ensures
    c.first_of-2.ensures c.first_of-3.ensures
