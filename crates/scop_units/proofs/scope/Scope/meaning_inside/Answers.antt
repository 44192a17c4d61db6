use Rattle.scop_syntax.proofs.Common.{◌≡◌, length, sym, ◌∙◌, length-map}
use Rattle.scop_units.specs.View.{scope_of}
use Rattle.scop_units.proofs.InnerNames.{inside_some, inside_none}
use Rattle.scop_units.proofs.scope.Scope.meaning_inside.Goals as goal

pub returns-in-Some : goal.returns-in-Some
returns-in-Some c =
    let s = scope_of c.args.self.now in
    let count : c.len.result ≡ length s.parameters =
    let v = c.args.self.now.parameters in c.len.ensures ∙ (v.ok.0 ∙ sym (length-map v.items (λ n. n.items))) in
    inside_some s c.args.iterator.now c.args.word.now c.in-Some.number c.len.result c.in-Some.ensures.number count

pub returns-in-None : goal.returns-in-None
returns-in-None c =
    inside_none (scope_of c.args.self.now) c.args.iterator.now c.args.word.now c.outer_meaning.result
    c.in-None.ensures.number c.outer_meaning.ensures
