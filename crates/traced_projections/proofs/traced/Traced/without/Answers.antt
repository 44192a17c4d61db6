use Rattle.whole_numbers.proofs.Common.{rules, ◌≡◌, ◌∙◌, ◌+◌, [], subst, sym, Ok, Option, IfSome, Affine}
use Rattle.affine_forms.specs.Parts.{variables_of}
use Rattle.fm_projection.specs.Projecting.{Follow}
use Rattle.traced_projections.specs.Tracing.{IsTraced, Tracing, constraints_of}
use Rattle.traced_projections.specs.Eliminating.{Adds, first_equality, pairings_by, sources_with}
use Rattle.traced_projections.proofs.Overs.{IsRest, first_all, follow_traced, rest_is}
use Rattle.traced_projections.proofs.traced.Traced.without.Goals as goal
use Rattle.traced_projections.proofs.traced.Traced.without.Goals.{After-count_pairings-pairings}

pub add_all-requires-clause-equality : goal.add_all-requires-clause-equality
add_all-requires-clause-equality c =
    let t = c.args.self.now in
    let P : Affine → Type 0 = λ f. variables_of f ≡ t.dimensions + t.parameters in
    let own : IsTraced t = search rules in
    let e : c.in-Ok.equality ≡ first_equality c.args.dimension t.equalities = search rules in
    subst (λ (o : Option Affine). IfSome o P) (sym e) (first_all P c.args.dimension t.equalities own.over.equalities_over)

rest_made : (c : After-count_pairings-pairings) → IsRest c.args.dimension c.args.self.now c.in-Ok-frame.equalities.items
    c.add_all.new.out.items c.count_pairings-pairings.result
rest_made c =
    let t = c.args.self.now in
    let i = c.args.dimension in
    let own : IsTraced t = search rules in
    let e : c.in-Ok.equality ≡ first_equality i t.equalities = search rules in
    let none : c.new-rows.result.items ≡ [] = search rules in
    let added : Adds i (sources_with c.in-Ok.equality i t) c.new-rows.result.items c.add_all.new.out.items (Ok tt) =
    c.in-Ok-add_all.ensures in
    let count : c.count_pairings-pairings.result ≡ pairings_by c.in-Ok.equality t.pairings = search rules in
    rest_is i t c.in-Ok.equality c.in-Ok-frame.equalities.items c.new-rows.result.items c.add_all.new.out.items
    c.count_pairings-pairings.result c.requires own e c.in-Ok-frame.ensures.1 none added count

pub rest-requires-clause-is : goal.rest-requires-clause-is
rest-requires-clause-is c =
    let made = rest_made (goal.at.rest-requires-clause-is c).After-count_pairings-pairings in
    subst IsTraced (sym made.is) made.traced

pub returns-clause-points : goal.returns-clause-points
returns-clause-points c =
    let t = c.args.self.now in
    let i = c.args.dimension in
    let made = rest_made (goal.at.returns-clause-points c).After-count_pairings-pairings in
    subst (λ (u : Tracing). Follow i (constraints_of t) (constraints_of u)) (sym (c.rest.ensures ∙ made.is))
    (follow_traced i t)
