use Rattle.scop_syntax.proofs.Common.{◌≡◌, ◌+◌, ◌∙◌, ◌++◌, ap, sym, subst, arith, map, All, All-append}
use Rattle.integer_sets.specs.Constraints.{Constraints, variables_in}
use Rattle.loop_tree.specs.TilingView.{items_of}
use Rattle.tile_skew.specs.ScanSets.{domain_form, dimension_equalities, wave_equalities, item_equalities}
use Rattle.tile_skew.specs.ScanSets.{missing_equalities}
use Rattle.tile_skew.proofs.ItemSteps.{four_put}
use Rattle.tile_skew.proofs.ConstraintVariables.{Over, all_wide, resized, domain_over, dimensions_over}
use Rattle.tile_skew.proofs.sets.equalities.Goals as goal

pub push_domain-requires : goal.push_domain-requires
push_domain-requires c =
    let s = c.args.scattering.now in
    let e = ap variables_in c.domain-domain.ensures in
    let d = s.turns in
    all_wide s.layout.turns (variables_in c.domain-domain.result.now) c.equalities.result.now (omega (arith, d, e))
    c.equalities.ensures.sized

pub returns-clause-forms : goal.returns-clause-forms
returns-clause-forms c =
    let l = c.args.scattering.now.layout in
    let s = items_of c.args.scattering.now.items.now in
    let none = c.new-out.result.items in
    let shown = c.equalities.ensures.forms ∙ ap (λ (d : Constraints). d.equalities) c.domain-domain.ensures in
    four_put none c.push_domain.new.out.items c.push_waves.new.out.items c.push_item_values.new.out.items
    c.push_missing.new.out.items (map (domain_form l) c.args.scattering.now.statement.now.domain.equalities)
    (wave_equalities l s) (item_equalities l s) (missing_equalities l) c.new-out.ensures.items
    (c.in_ok-push_domain.ensures ∙ ap (λ fs. none ++ map (domain_form l) fs) shown) c.in_ok-push_waves.ensures
    c.in_ok-push_item_values.ensures c.in_ok-push_missing.ensures

pub returns-clause-sized : goal.returns-clause-sized
returns-clause-sized c =
    let s = c.args.scattering.now in
    let l = s.layout in
    let items = items_of s.items.now in
    let own = s.statement.now.domain in
    let shown = c.equalities.ensures.forms ∙ ap (λ (d : Constraints). d.equalities) c.domain-domain.ensures in
    let many : variables_in c.domain-domain.result.now ≡ l.turns + l.parameters =
    let e = ap variables_in c.domain-domain.ensures in
    let d = s.turns in
    let p = s.parameters in
    omega (arith, d, p, e) in
    let domain = domain_over l own.equalities (resized (variables_in c.domain-domain.result.now) (l.turns + l.parameters)
    c.equalities.result.now own.equalities many shown c.equalities.ensures.sized) in
    subst (All (Over l)) (sym (returns-clause-forms c))
    (All-append (Over l) (map (domain_form l) own.equalities) (dimension_equalities l items) domain
    (dimensions_over l items (omega (arith, s.front)) s.small))
