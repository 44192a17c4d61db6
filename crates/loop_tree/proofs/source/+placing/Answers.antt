use Rattle.scop_syntax.proofs.Common.{◌≡◌, ℕ, ◌+◌, ◌<◌, [], ◌∷◌, ◌++◌, map, ap, subst, sym, ◌∙◌, rules, arith, Head}
use Rattle.scop_syntax.proofs.Common.{more, none, round, items_of, test_of, tree_of, weight, weight_all, item_weight}
use Rattle.scop_syntax.proofs.Common.{drop_of_length-le}
use Rattle.iteration_domains.specs.Path.{Path, path_at, path_of}
use Rattle.loop_tree.specs.Source.{in_loop}
use Rattle.loop_tree.specs.steps.Placing.{CanPlace}
use Rattle.loop_tree.proofs.Placings.{placing_can, placing_step, placing_ends, place_within_loop, place_within_guard}
use Rattle.loop_tree.proofs.source.+placing.Goals as goal

pub place_guard-place_items-requires : goal.place_guard-place_items-requires
place_guard-place_items-requires t c =
    let p = path_of c.args.path.now in
    let tests = map test_of c.args.guarded.now.tests.items in
    let body = items_of c.args.body.now in
    let can : CanPlace (path_of c.enter_scope.new.path) body c.args.counted.now =
    subst (λ (q : Path). CanPlace q body c.args.counted.now) (sym c.in_ok-enter_scope.ensures)
    (place_within_guard p tests body c.args.counted.now c.requires) in
    let less : weight_all body + 1 < weight_all body + 3 = omega arith in
    search rules

pub place_items-place_item-requires : goal.place_items-place_item-requires
place_items-place_item-requires t c =
    let l = c.loop-item in
    let items = c.args.items.now in
    let tree = tree_of c.item-item.result in
    let can : CanPlace (path_of l.path) (more tree none) l.counted =
    placing_can (path_of c.args.path.now) (path_of l.path) items l.item-index c.args.counted.now l.counted l.nodes.items
    c.item-item.result c.item-item.is c.loop-item-test.true l.invariant in
    let heavy = item_weight items l.item-index c.item-item.result c.item-item.is c.loop-item-test.true in
    let less : weight tree < weight_all (items_of items) + 1 = omega arith in
    search rules

-- within the loop that begins with statement k, where the path's loops have gained it
entered : (p scoped looped : Path) (k : ℕ) (head : Head)
    → scoped ≡ path_at p.parameters (p.scopes ++ round head ∷ []) p.loops
    → looped ≡ path_at scoped.parameters scoped.scopes (scoped.loops ++ k ∷ []) → looped ≡ in_loop p head k
entered p scoped looped k head first second =
    second ∙ ap (λ (q : Path). path_at q.parameters q.scopes (q.loops ++ k ∷ [])) first

pub place_loop-place_items-requires : goal.place_loop-place_items-requires
place_loop-place_items-requires t c =
    let p = path_of c.args.path.now in
    let head = c.args.head.now in
    let body = items_of c.args.body.now in
    let k = c.args.counted.now in
    let inside = entered p (path_of c.enter_scope.new.path) (path_of c.enter_loop.new.path) k head
    c.in_ok-enter_scope.ensures c.in_ok-enter_loop.ensures in
    let can : CanPlace (path_of c.enter_loop.new.path) body k =
    subst (λ (q : Path). CanPlace q body k) (sym inside) (place_within_loop p head body k c.requires) in
    let less : weight_all body + 1 < weight_all body + 3 = omega arith in
    search rules

pub place_items-loop-item-preserved : goal.place_items-loop-item-preserved
place_items-loop-item-preserved t c =
    let l = c.loop-item in
    placing_step (path_of c.args.path.now) (path_of l.path) (path_of c.place_item.new.path) c.args.items.now
    l.item-index
    c.args.counted.now l.counted c.place_item.new.counted l.nodes.items c.push.new.list.items c.item-item.result
    c.in_ok-place_item.field-0 c.item-item.is c.loop-item-test.true l.invariant c.in_ok-place_item.ensures.node
    c.in_ok-place_item.ensures.path c.in_ok-place_item.ensures.counted c.in_ok-push.ensures.pushed

pub place_items-returns-clause-nodes : goal.place_items-returns-clause-nodes
place_items-returns-clause-nodes t c =
    let l = c.loop-item in
    (placing_ends (path_of c.args.path.now) (path_of l.path) c.args.items.now l.item-index c.args.counted.now l.counted
    l.nodes.items (drop_of_length-le c.args.items.now (omega arith)) l.invariant).0
