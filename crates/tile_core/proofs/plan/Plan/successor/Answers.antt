use Rattle.scop_syntax.proofs.Common.{rules, ◌≡◌, ◌∙◌, ◌+◌, ◌<◌, ap, arith, get_or, length, subst, sym}
use Rattle.tile_core.specs.Plans.{shape_of, walk_shape}
use Rattle.tile_core.proofs.Successors.{any_default, counter_with, start_within, target_is, target_within}
use Rattle.tile_core.proofs.plan.Plan.successor.Goals as goal
use Rattle.tile_core.proofs.plan.Plan.successor.Goals.{After-index, After-index-2}

start : (c : After-index) → c.index.result.now ≡ get_or c.in-Some.edges.now.starts.items c.args.tile 0
start c =
    let e = c.in-Some.edges in
    let within = start_within c.args.self.now e c.in-Some.is c.requires.plan c.args.tile c.requires.tile in
    let found : c.index.result.now ≡ get_or e.now.starts.items c.args.tile c.index.result.now = search rules in
    found ∙ any_default e.now.starts.items c.args.tile c.index.result.now (omega (arith, within))

within : (c : After-index) → c.index.result.now + c.args.released < length c.in-Some.edges.now.targets.items
within c =
    let e = c.in-Some.edges in
    let less = target_within c.args.self.now e c.in-Some.is c.requires.plan c.args.tile c.requires.tile c.args.released
    c.requires.left in
    let same = start c in
    omega (arith, less, same)

pub overflow_add-index : goal.overflow_add-index
overflow_add-index c =
    let less = within (goal.at.overflow_add-index c).After-index in
    let long = c.in-Some.edges.now.targets.ok.0 in
    let room : c.index.result.now + c.args.released < 18446744073709551616 = omega (arith, less, long) in
    search rules

pub index-requires-2 : goal.index-requires-2
index-requires-2 c = let less = within (goal.at.index-requires-2 c).After-index in search rules

target : (c : After-index-2) → c.index.result.now ≡ get_or c.in-Some.edges.now.starts.items c.args.tile 0
    → c.index.result.now + c.args.released < length c.in-Some.edges.now.targets.items
    → c.index-2.result.now
    ≡ get_or c.in-Some.edges.now.targets.items (get_or c.in-Some.edges.now.starts.items c.args.tile 0 + c.args.released) 0
target c begins less =
    let ts = c.in-Some.edges.now.targets.items in
    let at = c.index.result.now + c.args.released in
    let found : c.index-2.result.now ≡ get_or ts at c.index-2.result.now = search rules in
    found
    ∙ (any_default ts at c.index-2.result.now less ∙ ap (λ n. get_or ts (n + c.args.released) 0) begins)

pub returns-clause-tile : goal.returns-clause-tile
returns-clause-tile c =
    let plan = c.args.self.now in
    let at = goal.at.returns-clause-tile c in
    subst (λ n. n < (shape_of plan).tiles)
    (sym (target at.After-index-2 (start at.After-index) (within at.After-index)))
    (target_is plan c.in-Some.edges c.in-Some.is c.requires.plan c.args.tile c.requires.tile c.args.released
    c.requires.left)

pub returns-clause-counter : goal.returns-clause-counter
returns-clause-counter c =
    let plan = c.args.self.now in
    let at = goal.at.returns-clause-counter c in
    counter_with plan c.in-Some.edges c.in-Some.is c.args.tile c.args.released
    ∙ ap (λ n. (walk_shape plan).cells + n)
    (sym (target at.After-index-2 (start at.After-index) (within at.After-index)))
