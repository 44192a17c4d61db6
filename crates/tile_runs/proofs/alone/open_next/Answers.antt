use Rattle.scop_syntax.proofs.Common.{subst, sym, ◌<◌}
use Rattle.tile_core.specs.Boards.{seen_of}
use Rattle.tile_core.specs.Cores.{plan_in, state_in}
use Rattle.tile_core.specs.Plans.{shape_of}
use Rattle.tile_core.specs.declared.plan.Plan.{Plan}
use Rattle.tile_runs.specs.steps.Alone.{shape_in}
use Rattle.tile_runs.proofs.Cores.{enough_seen, later_then}
use Rattle.tile_runs.proofs.Steps.{claims_alone, opens_alone}
use Rattle.tile_runs.proofs.alone.open_next.Goals as goal

pub returns-clause-later : goal.returns-clause-later
returns-clause-later c =
    later_then c.args.core.now c.act.new.core c.act-2.new.core c.act.ensures.later c.act-2.ensures.later

pub returns-clause-alone : goal.returns-clause-alone
returns-clause-alone c =
    let a = c.args.core.now in
    let b = c.act.new.core in
    let d = c.act-2.new.core in
    let t = c.args.tile in
    let later = c.act.ensures.later in
    let held = claims_alone (shape_in a) (state_in a) (state_in b) (seen_of c.act.result) t c.requires.tile
    c.act.ensures.step c.requires.alone in
    let less = subst (λ (p : Plan). t < (shape_of p).tiles) (sym later.plan) c.requires.tile in
    opens_alone (shape_in b) (state_in b) (state_in d) (seen_of c.act-2.result) t
    (enough_seen c.opened_tiles_were_released.ensures.filled (plan_in b) later.core.opening (state_in b) t
    later.core.planned later.core.run less held)
    c.act-2.ensures.step held
