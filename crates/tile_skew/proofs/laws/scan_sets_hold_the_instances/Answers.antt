use Rattle.scop_syntax.proofs.Common.{◌-◌, pos, refl, sym, ◌∙◌, ap, subst, arith, length, ◌<ℤ◌, ints, not_negative_all}
use Rattle.iteration_domains.specs.Model.{model_of}
use Rattle.iteration_domains.proofs.TreeStatements.{one_model}
use Rattle.tile_skew.proofs.WalkedInstances.{turns_from_0}
use Rattle.schedule_rows.specs.Schedule.{loops_in}
use Rattle.tile_skew.specs.Places.{place_of}
use Rattle.tile_skew.specs.ScanSets.{layout_of}
use Rattle.tile_skew.specs.Tilings.{statement_items}
use Rattle.tile_skew.specs.steps.Sizes.{AreOver}
use Rattle.tile_skew.proofs.Instances.{parted, from_point, to_point, statement_over, wave_from_0, loops_are}
use Rattle.tile_skew.proofs.Instances.{parameters_are}
use Rattle.tile_skew.proofs.laws.scan_sets_hold_the_instances.Goals as goal

pub returns-clause-points : goal.returns-clause-points
returns-clause-points c program blocks params size n s xs kernel count positive sized among sizes holds =
    let model = model_of program in
    let items = statement_items blocks s.number in
    let l = layout_of n s items in
    let one = one_model program kernel (c.statements_are_numbered.ensures.same program)
    (c.statements_are_numbered.ensures.number program) in
    let loops = loops_are model s one among in
    let many = count ∙ sym (parameters_are model s one among) in
    let p = parted l items xs params sizes many refl in
    let turns = p.parts.turns in
    let over : AreOver (length p.ts) items =
    subst (λ k. AreOver k items) (loops ∙ sym turns) (statement_over (loops_in model) blocks s.number sized) in
    let size_is : pos 0 <ℤ pos size = omega (arith, ints, positive) in
    let f = from_point l (pos size) n s items xs params size_is p over (ap (λ k. n - k) (sym turns)) holds in
    let v = c.domains_hold_the_instances.ensures.points program params s p.ts kernel count among turns f.0 in
    (v.0, v.1, f.1 ∙ ap (place_of (pos size) n items) (sym v.2))

pub returns-clause-instances : goal.returns-clause-instances
returns-clause-instances c program blocks params size n s v kernel count positive sized is =
    let model = model_of program in
    let items = statement_items blocks s.number in
    let l = layout_of n s items in
    let one = one_model program kernel (c.statements_are_numbered.ensures.same program)
    (c.statements_are_numbered.ensures.number program) in
    let loops = loops_are model s one is.statement in
    let many = count ∙ sym (parameters_are model s one is.statement) in
    let own = c.domains_hold_the_instances.ensures.instances program params s v count is in
    let over : AreOver (length v.turns) items =
    subst (λ k. AreOver k items) (loops ∙ sym own.0) (statement_over (loops_in model) blocks s.number sized) in
    let size_is : pos 0 <ℤ pos size = omega (arith, ints, positive) in
    let runs = c.instances_are_those_of_statements.ensures.found program params in
    let up = (not_negative_all v.turns).1 (turns_from_0 program params v runs is.walked) in
    let wave = wave_from_0 (loops_in model) (pos size) blocks s.number v.turns size_is up sized in
    to_point l (pos size) n s items v.turns params size_is own.0 many refl (ap (λ k. n - k) (sym own.0)) over wave
    own.1
