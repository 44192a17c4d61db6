use Rattle.scop_syntax.proofs.Common.{refl, sym, ap, map, ℕ, List, [], Some, ◌∙◌}
use Rattle.loop_tree.specs.Walk.{walk_all}
use Rattle.c_meaning.specs.Visits.{act_of}
use Rattle.c_meaning.proofs.Races.{raceless_program}
use Rattle.c_meaning.proofs.Wholes.{program_runs, program_makes, program_leaves, call_runs, call_made}
use Rattle.c_meaning.proofs.laws.printed_programs_leave_the_arrays_of_the_source.Goals as goal

pub returns-clause-some : goal.returns-clause-some
returns-clause-some c = λ program params plan ts named are has have narrow.
    let is = c.flat_trees_can_be_printed.ensures program are.nested.0 ts are.flat are.statements are.over are.small
    are.nested.2 are.nested.1 in (
      Some (map (act_of program params) (walk_all ts params [])),
      call_made program ts params (Some (map (act_of program params) (walk_all ts params []))) have
          (program_makes program ts params named is (sym has.count) narrow (walk_all ts params [])
          (c.loops_end_as_the_source_does.ensures.walk ts params)),
    )

pub returns-clause-once : goal.returns-clause-once
returns-clause-once c = λ program params plan ts o named are has have narrow h.
    let is = c.flat_trees_can_be_printed.ensures program are.nested.0 ts are.flat are.statements are.over are.small
    are.nested.2 are.nested.1 in
    let free = raceless_program program params ts (act_of program params) has.kernel named (sym has.count) is narrow
    (λ v. refl) ((are.carry_out params has).free refl)
    (c.loops_end_as_the_source_does.ensures.once program params plan ts (walk_all ts params []) are has
    (c.loops_end_as_the_source_does.ensures.walk ts params)) in
    let r = program_runs program ts params named is (sym has.count) narrow free o
    (call_runs program ts params o have h) in
    (r.0, r.2, c.loops_end_as_the_source_does.ensures.once program params plan ts r.0 are has r.1)

pub returns-clause-arrays : goal.returns-clause-arrays
returns-clause-arrays c = λ program params plan ts contents o named are has have narrow inside shaped hold h.
    let is = c.flat_trees_can_be_printed.ensures program are.nested.0 ts are.flat are.statements are.over are.small
    are.nested.2 are.nested.1 in
    let free = raceless_program program params ts (act_of program params) has.kernel named (sym has.count) is narrow
    (λ v. refl) ((are.carry_out params has).free refl)
    (c.loops_end_as_the_source_does.ensures.once program params plan ts (walk_all ts params []) are has
    (c.loops_end_as_the_source_does.ensures.walk ts params)) in
    let r = program_runs program ts params named is (sym has.count) narrow free o
    (call_runs program ts params o have h) in
    let ws = c.loops_end_as_the_source_does.ensures.visits program params plan ts r.0 are has r.1 in
    program_leaves program params ts contents o r.0 ws.0 named has.kernel is (sym has.count) narrow inside hold r.1 r.2
    ws.1
    ∙ ap (λ (q : List (List ℕ)). Some q) (c.loops_end_as_the_source_does.ensures.ends program params plan ts contents r.0 ws.0 are has
    inside shaped r.1 ws.1)
