use Rattle.scop_syntax.proofs.Common.{List, [], subst, sym, IfOk-weaker, In, program_of}
use Rattle.iteration_domains.specs.Dependence.{Dependence}
use Rattle.iteration_domains.specs.Held.{HoldCovers}
use Rattle.polypar.specs.Schedules.{IsScheduleFor}
use Rattle.test_calls.proofs.loop_trees.planned.Goals.{In-Ok}
use Rattle.test_calls.proofs.loop_trees.planned.Goals as goal

pub schedule_of-requires : goal.schedule_of-requires
schedule_of-requires c = λ d i.
    c.in_ok-deps.ensures.between d (subst (λ (ds : List Dependence). In d ds) c.deref.ensures.value i)

-- what is found is a schedule for the kernel
found : (c : In-Ok) → IsScheduleFor (program_of c.args.kernel.now) [] c.in-Ok.schedule
found c =
    let program = program_of c.args.kernel.now in
    c.in-Ok.ensures.found.own program [] c.requires.kernel c.in_ok-model.ensures
    (λ params has. subst (HoldCovers program params []) (sym c.deref.ensures.value)
    (c.in_ok-deps.ensures.held program c.in_ok-model.ensures params has))

pub scanned-requires-clause-schedule : goal.scanned-requires-clause-schedule
scanned-requires-clause-schedule c =
    (program_of c.args.kernel.now, [], found (goal.at.scanned-requires-clause-schedule c).In-Ok)

pub returns-in-Ok : goal.returns-in-Ok
returns-in-Ok c =
    let program = program_of c.args.kernel.now in
    let is = found (goal.at.returns-in-Ok c).In-Ok in
    IfOk-weaker c.scanned.result _ _ (λ t walks params has. walks program params is has) c.scanned.ensures
