use Rattle.scop_syntax.proofs.Common.{◌≡◌, ◌+◌, ◌∙◌, ap, arith, map, pos, refl}
use Rattle.affine_forms.specs.Parts.{variables_of}
use Rattle.integer_sets.specs.Constraints.{variables_in}
use Rattle.iteration_domains.proofs.Surroundings.{length-variable}
use Rattle.tile_skew.specs.ScanSets.{domain_form}
use Rattle.tile_skew.proofs.ConstraintVariables.{all_wide, resized, domain_over, coordinates_over, parts_over}
use Rattle.tile_skew.proofs.sets.rows.Goals as goal

pub push_domain-requires : goal.push_domain-requires
push_domain-requires c =
    let s = c.args.scattering.now in
    let e = ap variables_in c.domain-domain.ensures in
    let d = s.turns in
    all_wide s.layout.turns (variables_in c.domain-domain.result.now) c.rows.result.now (omega (arith, d, e))
    c.rows.ensures.sized

pub returns-clause-sized : goal.returns-clause-sized
returns-clause-sized c =
    let s = c.args.scattering.now in
    let l = s.layout in
    let many : variables_in c.domain-domain.result.now ≡ l.turns + l.parameters =
    let e = ap variables_in c.domain-domain.ensures in
    let d = s.turns in
    let p = s.parameters in
    omega (arith, d, p, e) in
    let domain = domain_over l c.rows.result.now (resized (variables_in c.domain-domain.result.now) (l.turns + l.parameters)
    c.rows.result.now c.rows.result.now many refl c.rows.ensures.sized) in
    parts_over l c.new-out.result.items c.push_domain.new.out.items c.push.new.list.items
    c.push_coordinates.new.out.items (map (domain_form l) c.rows.result.now) _ _ c.new-out.ensures.items
    c.in_ok-push_domain.ensures c.in_ok-push.ensures.pushed c.in_ok-push_coordinates.ensures domain
    (ap variables_of c.in_ok-variable_form.ensures ∙ (length-variable _ _ ∙ c.width.ensures))
    (coordinates_over l (pos s.size) _ s.items.now.band.items s.small.band)
