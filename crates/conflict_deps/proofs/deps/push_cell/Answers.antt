use Rattle.conflict_deps.proofs.Common.{ap, ◌∙◌, refl, Access, source_of, target_of}
use Rattle.conflict_deps.proofs.Shapes.{cells_gained, cells_put}
use Rattle.conflict_deps.proofs.deps.push_cell.Goals as goal

pub returns : goal.returns
returns c =
    let pair = c.args.pair.now in
    let s = source_of pair in
    let t = target_of pair in
    cells_gained pair.parameters s t c.args.rows.now _ pair.first pair.second
    (cells_put s t pair.loops pair.others c.as_slice.result.now c.as_slice-2.result.now
    c.args.rows.now.equalities.items c.push_subscripts.new.out.items pair.turns pair.other_turns
    (c.as_slice.ensures.value ∙ ap (λ (z : Access). z.subscripts) c.first.view_is)
    (c.as_slice-2.ensures.value ∙ ap (λ (z : Access). z.subscripts) c.second.view_is)
    c.in_ok-push_subscripts.ensures)
    refl
