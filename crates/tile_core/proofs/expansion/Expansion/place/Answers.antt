use Rattle.scop_syntax.proofs.Common.{rules, ◌≡◌, ◌∙◌, ◌+◌, ◌<◌, ap, arith, get_or, length}
use Rattle.tile_core.proofs.Successors.{any_default}
use Rattle.tile_core.proofs.expansion.Expansion.place.Goals as goal
use Rattle.tile_core.proofs.expansion.Expansion.place.Goals.{After-index}

start : (c : After-index) → c.index.result.now ≡ get_or c.args.self.now.starts.items c.args.tile 0
start c =
    let found : c.index.result.now ≡ get_or c.args.self.now.starts.items c.args.tile c.index.result.now = search rules in
    found ∙ any_default c.args.self.now.starts.items c.args.tile c.index.result.now c.requires.tile

within : (c : After-index) → c.index.result.now + c.args.done < length c.args.self.now.places.items
within c =
    let same = start c in
    let less = c.requires.place in
    omega (arith, same, less)

pub overflow_add-index : goal.overflow_add-index
overflow_add-index c =
    let less = within (goal.at.overflow_add-index c).After-index in
    let long = c.args.self.now.places.ok.0 in
    let room : c.index.result.now + c.args.done < 18446744073709551616 = omega (arith, less, long) in
    search rules

pub index-requires-2 : goal.index-requires-2
index-requires-2 c = let less = within (goal.at.index-requires-2 c).After-index in search rules

pub returns : goal.returns
returns c =
    let at = (goal.at.returns c).After-index in
    let ps = c.args.self.now.places.items in
    let i = c.index.result.now + c.args.done in
    let found : c.index-2.result.now ≡ get_or ps i c.index-2.result.now = search rules in
    found ∙ (any_default ps i c.index-2.result.now (within at) ∙ ap (λ n. get_or ps (n + c.args.done) 0) (start at))
