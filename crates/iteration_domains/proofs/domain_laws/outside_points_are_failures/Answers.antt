use Rattle.scop_syntax.proofs.Common.{◌≡◌, length, ap, subst, sym, ◌∙◌, layout, walk_of}
use Rattle.integer_sets.specs.Constraints.{Constraints}
use Rattle.integer_sets.specs.Points.{Satisfies}
use Rattle.iteration_domains.proofs.Instances.{WalkLaws, cells_are_touched, instance_is_point, point_is_instance}
use Rattle.iteration_domains.proofs.FixedForms.{outside_points}
use Rattle.iteration_domains.proofs.OutsideLaws.{asked_stands, asks_one, failure_satisfies, none_outside, point_fails}
use Rattle.iteration_domains.proofs.OutsideLaws.{system_asks}
use Rattle.iteration_domains.proofs.domain_laws.outside_points_are_failures.Goals as goal

pub returns-clause-systems : goal.returns-clause-systems
returns-clause-systems c = λ program params s. system_asks program params s

pub returns-clause-each : goal.returns-clause-each
returns-clause-each c = λ program params s a d side system. asked_stands program params s a d side system

pub returns-clause-point : goal.returns-clause-point
returns-clause-point c = λ program params s a d side system xs is count asks l holds.
    let laws : WalkLaws program params = record {
      found = c.instances_are_those_of_statements.ensures.found program params;
      turns = c.instances_are_those_of_statements.ensures.turns;
      same = c.statements_are_numbered.ensures.same program;
    } in
    let turns = l ∙ ap (λ (k : Constraints). k.dimensions) asks.is_system in
    let points = outside_points s.domain params xs asks.subscript asks.extent side turns in
    let both = points.0 (subst (λ (k : Constraints). Satisfies k xs) asks.is_system holds) in
    let v = point_is_instance program params s xs
    (λ p ys h runs. c.instances_are_those_of_statements.ensures.stands program params p ys is count h runs) count
    asks.is_statement turns both.0 in (
      v.0,
      v.1,
      v.2,
      point_fails program params s a d side system v.0 asks (cells_are_touched program params s v.0 laws count v.1)
          (ap length v.2 ∙ turns) (subst (Satisfies system) (sym v.2) holds),
    )

pub returns-clause-failure : goal.returns-clause-failure
returns-clause-failure c = λ program params s a d side system v count asks is fails.
    let laws : WalkLaws program params = record {
      found = c.instances_are_those_of_statements.ensures.found program params;
      turns = c.instances_are_those_of_statements.ensures.turns;
      same = c.statements_are_numbered.ensures.same program;
    } in
    let point = instance_is_point program params s v laws count is in
    let r = failure_satisfies program params s a d side v is.statement
    (cells_are_touched program params s v laws count is) point.0 point.1 fails in
    subst (λ (k : Constraints). (length v.turns ≡ k.dimensions) × Satisfies k v.turns)
    (asks_one program params s a d side r.0 system r.1 asks) (r.2, r.3)

pub returns-clause-inside : goal.returns-clause-inside
returns-clause-inside c = λ program params is count none.
    let ranked = c.accesses_have_the_ranks_of_arrays.ensures program params is count in
    none_outside program params
    (record {
      found = c.instances_are_those_of_statements.ensures.found program params;
      turns = c.instances_are_those_of_statements.ensures.turns;
      same = c.statements_are_numbered.ensures.same program;
    }) count
    (record {
      inside = c.failures_are_the_first.ensures.inside (layout program params) (walk_of program params) ranked;
      first = λ f. c.failures_are_the_first.ensures.first (layout program params) (walk_of program params) f ranked;
    }) none
