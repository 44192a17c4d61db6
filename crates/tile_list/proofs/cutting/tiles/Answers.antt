use Rattle.scop_syntax.proofs.Common.{◌≡◌, ◌∙◌, [], refl, sym, IfOk-weaker}
use Rattle.loop_tree.specs.TilingView.{tiling_of}
use Rattle.loop_tree.specs.View.{trees_in}
use Rattle.loop_tree.specs.Walk.{visits}
use Rattle.tile_list.specs.TilesView.{IsTileListOf}
use Rattle.tile_list.specs.steps.Cutting.{IsListed}
use Rattle.tile_list.proofs.WholeLists.{all_listed, none_listed}
use Rattle.tile_list.proofs.cutting.tiles.Goals as goal

pub next-requires-clause-spot : goal.next-requires-clause-spot
next-requires-clause-spot c = c.in_ok-spot.ensures.spot c.args.params.now

pub next-requires-clause-room : goal.next-requires-clause-room
next-requires-clause-room c = c.in_ok-front.ensures ∙ (c.in_ok-spot.ensures.spot c.args.params.now).room

pub returns-in-None : goal.returns-in-None
returns-in-None c =
    let ts = trees_in c.args.tree.now in
    let params = c.args.params.now in
    let tiling = tiling_of c.args.tiling.now in
    let none : visits ts params ≡ [] = sym (c.in_ok-spot.ensures.rest params) ∙ c.in-None.ensures.none.0 refl in
    IfOk-weaker c.listed.result (IsListed c.new.result.items) (IsTileListOf ts params tiling)
    (λ list is. none_listed ts params tiling list none c.new.result.items c.new.ensures.items is) c.listed.ensures

pub returns : goal.returns
returns c =
    let ts = trees_in c.args.tree.now in
    let params = c.args.params.now in
    let tiling = tiling_of c.args.tiling.now in
    IfOk-weaker c.listed-in-Some.result (IsListed c.in_ok-end-in-Some.field-0.items) (IsTileListOf ts params tiling)
    (λ list is. all_listed ts params tiling c.in_ok-cut-in-Some.cut list c.in_ok-cut-in-Some.ensures
    c.in_ok-end-in-Some.field-0.items c.in_ok-end-in-Some.ensures is) c.listed-in-Some.ensures
