use Rattle.scop_syntax.proofs.Common.{◌≡◌, length, sym, ◌∙◌, length-map}
use Rattle.scop_units.specs.View.{head_of, scope_of}
use Rattle.scop_units.proofs.Parts.{loop_by}
use Rattle.scop_units.proofs.loops.loop_fault.Goals as goal

pub returns : goal.returns
returns c =
    let s = scope_of c.args.scope.now in
    let size : c.len.result ≡ length s.open_loops =
    let v = c.args.scope.now.open_loops in c.len.ensures ∙ (v.ok.0 ∙ sym (length-map v.items (λ n. n.items))) in
    loop_by s (head_of c.args.head.now) c.entries.result c.len.result c.is_form.result c.in_ok-part.part
    c.told_where-own.result c.told_where-deep.result c.or_fault.result c.first_of.result c.in_ok-part.ensures
    c.entries.ensures c.is_form.ensures c.told_where-own.ensures size c.told_where-deep.ensures c.or_fault.ensures
    c.first_of.ensures
