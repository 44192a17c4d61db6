use Rattle.scop_syntax.proofs.Common.{◌≡◌, ℕ, ◌+◌, ◌<◌, List, [], ◌∷◌, ◌++◌, length, map, refl, ap, subst, sym, ◌∙◌}
use Rattle.scop_syntax.proofs.Common.{rules, arith, Head, more, none, round, placed_all, items_of, test_of, tree_of}
use Rattle.scop_syntax.proofs.Common.{weight, weight_all, item_weight}
use Rattle.std.proofs.Common.{vec_len}
use Rattle.iteration_domains.specs.Model.{Modelled}
use Rattle.iteration_domains.specs.Path.{Path, CanModel, modelled_in, path_at, path_of, scope_of, scopes_of}
use Rattle.iteration_domains.proofs.TreeStatements.{can_loop, can_guard, item_can, item_step, models_of_loop}
use Rattle.iteration_domains.proofs.TreeStatements.{models_of_guard, last_off, last_off_map, path_back}
use Rattle.iteration_domains.proofs.items.+modelling.Goals as goal

pub model_guard-model_items-requires : goal.model_guard-model_items-requires
model_guard-model_items-requires t c =
    let p = path_of c.args.path.now in
    let tests = map test_of c.args.guarded.now.tests.items in
    let body = items_of c.args.body.now in
    let can : CanModel (path_of c.enter_scope.new.path) body =
    subst (λ (q : Path). CanModel q body) (sym c.in_ok-enter_scope.ensures) (can_guard p tests body c.requires) in
    let less : weight_all body + 1 < weight_all body + 3 = omega arith in
    search rules

pub model_guard-returns-clause-statements : goal.model_guard-returns-clause-statements
model_guard-returns-clause-statements t c =
    let p = path_of c.args.path.now in
    let old = c.args.statements.now.items in
    let ps = placed_all (items_of c.args.body.now) (length old) in
    c.in_ok-model_items.ensures.statements
    ∙ (ap (λ (q : Path). old ++ map (modelled_in q) ps) c.in_ok-enter_scope.ensures
    ∙ ap (λ (ms : List Modelled). old ++ ms) (models_of_guard p (map test_of c.args.guarded.now.tests.items) ps))

pub model_items-model_item-requires : goal.model_items-model_item-requires
model_items-model_item-requires t c =
    let l = c.loop-item in
    let items = c.args.items.now in
    let tree = tree_of c.item-item.result in
    let can : CanModel (path_of l.path) (more tree none) =
    item_can (path_of c.args.path.now) (path_of l.path) items l.item-index c.args.statements.now.items
    l.statements.items
    c.item-item.result c.item-item.is c.loop-item-test.true l.invariant in
    let heavy = item_weight items l.item-index c.item-item.result c.item-item.is c.loop-item-test.true in
    let less : weight tree < weight_all (items_of items) + 1 = omega arith in
    search rules

pub model_items-loop-item-preserved : goal.model_items-loop-item-preserved
model_items-loop-item-preserved t c =
    let l = c.loop-item in
    item_step (path_of c.args.path.now) (path_of l.path) (path_of c.model_item.new.path) c.args.items.now l.item-index
    c.args.statements.now.items l.statements.items c.model_item.new.statements.items c.item-item.result c.item-item.is
    c.loop-item-test.true l.invariant c.in_ok-model_item.ensures.statements c.in_ok-model_item.ensures.path

-- within the loop that begins with statement n, where the path's loops have gained it
entered : (p scoped looped : Path) (n k : ℕ) (head : Head)
    → scoped ≡ path_at p.parameters (p.scopes ++ round head ∷ []) p.loops
    → looped ≡ path_at scoped.parameters scoped.scopes (scoped.loops ++ k ∷ []) → k ≡ n
    → looped ≡ path_at p.parameters (p.scopes ++ round head ∷ []) (p.loops ++ n ∷ [])
entered p scoped looped n k head first second same =
    second ∙ (ap (λ (q : Path). path_at q.parameters q.scopes (q.loops ++ k ∷ [])) first
    ∙ ap (λ (j : ℕ). path_at p.parameters (p.scopes ++ round head ∷ []) (p.loops ++ j ∷ [])) same)

pub model_loop-model_items-requires : goal.model_loop-model_items-requires
model_loop-model_items-requires t c =
    let p = path_of c.args.path.now in
    let head = c.args.head.now in
    let body = items_of c.args.body.now in
    let n = length c.args.statements.now.items in
    let number : c.len.result ≡ n = search rules in
    let inside = entered p (path_of c.enter_scope.new.path) (path_of c.enter_loop.new.path) n c.len.result head
    c.in_ok-enter_scope.ensures c.in_ok-enter_loop.ensures number in
    let can : CanModel (path_of c.enter_loop.new.path) body =
    subst (λ (q : Path). CanModel q body) (sym inside) (can_loop p head body n c.requires) in
    let less : weight_all body + 1 < weight_all body + 3 = omega arith in
    search rules

pub model_loop-returns-clause-statements : goal.model_loop-returns-clause-statements
model_loop-returns-clause-statements t c =
    let p = path_of c.args.path.now in
    let head = c.args.head.now in
    let old = c.args.statements.now.items in
    let ps = placed_all (items_of c.args.body.now) (length old) in
    let number : c.len.result ≡ length old = search rules in
    let inside = entered p (path_of c.enter_scope.new.path) (path_of c.enter_loop.new.path) (length old) c.len.result
    head
    c.in_ok-enter_scope.ensures c.in_ok-enter_loop.ensures number in
    c.in_ok-model_items.ensures.statements
    ∙ (ap (λ (q : Path). old ++ map (modelled_in q) ps) inside
    ∙ ap (λ (ms : List Modelled). old ++ ms) (models_of_loop p head (length old) ps))

pub model_guard-returns-clause-path : goal.model_guard-returns-clause-path
model_guard-returns-clause-path t c =
    let p = path_of c.args.path.now in
    let inner = c.model_items.new.path in
    let e = c.in_ok-model_items.ensures.path ∙ c.in_ok-enter_scope.ensures in
    let long : vec_len inner.scopes ≡ length inner.scopes.items = search rules in
    path_back p (path_of inner) (scopes_of c.pop-scope.new.self.items) inner.loops.items
    (ap (λ (q : Path). q.parameters) e)
    (last_off_map scope_of inner.scopes.items c.pop-scope.new.self.items p.scopes _ _ c.pop-scope.ensures.rest long
    (ap (λ (q : Path). q.scopes) e))
    (ap (λ (q : Path). q.loops) e)

pub model_loop-returns-clause-path : goal.model_loop-returns-clause-path
model_loop-returns-clause-path t c =
    let p = path_of c.args.path.now in
    let inner = c.model_items.new.path in
    let e = c.in_ok-model_items.ensures.path
    ∙ entered p (path_of c.enter_scope.new.path) (path_of c.enter_loop.new.path) c.len.result c.len.result
    c.args.head.now c.in_ok-enter_scope.ensures c.in_ok-enter_loop.ensures refl in
    let long : vec_len inner.scopes ≡ length inner.scopes.items = search rules in
    let long_loops : vec_len inner.loops ≡ length inner.loops.items = search rules in
    path_back p (path_of inner) (scopes_of c.pop-scope.new.self.items) c.pop-loop.new.self.items
    (ap (λ (q : Path). q.parameters) e)
    (last_off_map scope_of inner.scopes.items c.pop-scope.new.self.items p.scopes _ _ c.pop-scope.ensures.rest long
    (ap (λ (q : Path). q.scopes) e))
    (last_off inner.loops.items c.pop-loop.new.self.items p.loops _ _ c.pop-loop.ensures.rest long_loops
    (ap (λ (q : Path). q.loops) e))
