use Rattle.conflict_deps.proofs.Common.{refl, source_of, target_of}
use Rattle.conflict_deps.proofs.Shapes.{up_gained, up_put}
use Rattle.conflict_deps.proofs.deps.push_up.Goals as goal

pub returns : goal.returns
returns c =
    let pair = c.args.pair.now in
    let s = source_of pair in
    let t = target_of pair in
    up_gained pair.parameters s t c.args.rows.now _ refl
    (up_put pair.parameters s t pair.loops pair.others c.args.rows.now.rows.items c.push_variables.new.out.items
    pair.turns pair.other_turns c.in_ok-push_variables.ensures)
