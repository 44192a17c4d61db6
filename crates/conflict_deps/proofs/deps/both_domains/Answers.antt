use Rattle.conflict_deps.proofs.Common.{◌≡◌, ap, ◌∙◌, Constraints, source_of, target_of}
use Rattle.conflict_deps.proofs.Shapes.{both_put, domain_sized, domains_shown}
use Rattle.conflict_deps.proofs.deps.both_domains.Goals as goal

pub returns : goal.returns
returns c =
    let pair = c.args.pair.now in
    let s = source_of pair in
    let t = target_of pair in
    let m = pair.parameters in
    let a = pair.loops in
    let b = pair.others in
    let ds : c.domain-first.result.now ≡ s.statement.domain = c.domain-first.ensures in
    let dt : c.domain-second.result.now ≡ t.statement.domain = c.domain-second.ensures in
    let es = c.equalities.ensures.forms ∙ ap (λ (z : Constraints). z.equalities) ds in
    let et = c.equalities-2.ensures.forms ∙ ap (λ (z : Constraints). z.equalities) dt in
    let rs = c.rows.ensures.forms ∙ ap (λ (z : Constraints). z.rows) ds in
    let rt = c.rows-2.ensures.forms ∙ ap (λ (z : Constraints). z.rows) dt in
    domains_shown m s t _
    (domain_sized m s.statement.domain c.domain-first.result.now c.equalities.result.now c.rows.result.now ds
    pair.first.parameters es rs c.equalities.ensures.sized c.rows.ensures.sized)
    (domain_sized m t.statement.domain c.domain-second.result.now c.equalities-2.result.now c.rows-2.result.now dt
    pair.second.parameters et rt c.equalities-2.ensures.sized c.rows-2.ensures.sized)
    (both_put s t a b c.equalities.result.now c.equalities-2.result.now s.statement.domain.equalities
    t.statement.domain.equalities c.new-equalities.result.items c.push_sources.new.out.items
    c.push_targets.new.out.items
    pair.turns pair.other_turns es et c.new-equalities.ensures.items c.in_ok-push_sources.ensures
    c.in_ok-push_targets.ensures)
    (both_put s t a b c.rows.result.now c.rows-2.result.now s.statement.domain.rows t.statement.domain.rows
    c.new-rows.result.items c.push_sources-2.new.out.items c.push_targets-2.new.out.items pair.turns pair.other_turns
    rs rt c.new-rows.ensures.items c.in_ok-push_sources-2.ensures c.in_ok-push_targets-2.ensures)
