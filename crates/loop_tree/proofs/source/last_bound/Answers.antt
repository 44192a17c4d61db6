use Rattle.scop_syntax.proofs.Common.{◌≡◌, ℕ, ◌+◌, List, length, ap, subst, sym, rules, Affine, Head}
use Rattle.iteration_domains.specs.Path.{path_of}
use Rattle.loop_tree.specs.Source.{point_at}
use Rattle.loop_tree.specs.steps.Placing.{CanBegin}
use Rattle.loop_tree.proofs.Placings.{can_begin}
use Rattle.loop_tree.proofs.source.last_bound.Goals as goal

pub first_condition-requires : goal.first_condition-requires
first_condition-requires c =
    let p = path_of c.args.path.now in
    let head = c.args.head.now in
    let named : c.len.result ≡ length p.loops = search rules in
    let first = ap (λ (h : Head). h.first) c.head.view_is in
    let condition = ap (λ (h : Head). h.condition) c.head.view_is in
    let can = can_begin p head c.requires.place c.requires.head in
    subst (λ (d : ℕ). CanBegin (d + p.parameters) c.in_ok-forms.forms.items c.head.inside.first c.head.inside.condition)
    (sym named)
    (subst (λ (fs : List Affine). CanBegin (length p.loops + p.parameters) fs c.head.inside.first
    c.head.inside.condition) (sym c.in_ok-forms.ensures)
    (subst (λ (f : Affine). CanBegin (length p.loops + p.parameters) (point_at p) f c.head.inside.condition) (sym first)
    (subst (λ (f : Affine). CanBegin (length p.loops + p.parameters) (point_at p) head.first f) (sym condition) can)))
