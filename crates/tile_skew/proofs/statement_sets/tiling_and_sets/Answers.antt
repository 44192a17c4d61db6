use Rattle.scop_syntax.proofs.Common.{◌≡◌, ◌<◌, ◌≤◌, ◌-◌, ◌∙◌, ◌++◌, ◌∷◌, [], ap, ap₂, sym, subst, arith, length, map, pos}
use Rattle.scop_syntax.proofs.Common.{get_or, drop_of_length-le, map-append, rules}
use Rattle.integer_sets.specs.Scanned.{Scanned}
use Rattle.iteration_domains.specs.Model.{Modelled, KernelModel}
use Rattle.loop_tree.specs.Tiling.{tiled}
use Rattle.loop_tree.specs.TilingView.{items_of}
use Rattle.tile_skew.specs.steps.Sizes.{FitItems}
use Rattle.tile_skew.specs.ScanSets.{scan_set, most_iterators}
use Rattle.tile_skew.specs.Tilings.{statement_items, statements_from}
use Rattle.tile_skew.proofs.ItemSteps.{mapped_step, nothing_left, statements_step}
use Rattle.tile_skew.proofs.ModelStatements.{within_there, found_there, loops_there}
use Rattle.tile_skew.proofs.statement_sets.tiling_and_sets.Goals as goal

pub scan_set-requires-clause-most : goal.scan_set-requires-clause-most
scan_set-requires-clause-most c =
    let ss = c.statements-statements.result.now in
    let x = c.index-statements-k.result in
    let few : c.loop-k.k < length ss = omega (arith, c.loop-k-test.true) in
    subst (λ n. x.domain.dimensions ≤ n) (sym c.most_iterators-most.ensures)
    (within_there ss c.loop-k.k x few c.index-statements-k.is)

pub loop-k-preserved : goal.loop-k-preserved
loop-k-preserved c =
    let size = pos c.args.size in
    let own = c.statements-statements.result.now in
    let ss = c.args.schedule.now.model.statements in
    let x = c.index-statements-k.result in
    let k = c.loop-k.k in
    let tiles = c.loop-k.tiles.items in
    let done = c.loop-k.sets.items in
    let shown : own ≡ ss =
    c.statements-statements.ensures.statements ∙ ap (λ (m : KernelModel). m.statements) c.model.ensures in
    let few : k < length own = omega (arith, c.loop-k-test.true) in
    let many = ap length shown in
    let inside : k < length ss = omega (arith, few, many) in
    let number : x.number ≡ k =
    c.statements-statements.ensures.places k x (found_there own k x few c.index-statements-k.is) in
    let more : map items_of c.push-in-loop-k.new.self.items ≡ map items_of tiles ++ items_of c.in_ok-items.items ∷ [] =
    ap (map items_of) c.in_ok-push-2.ensures.items ∙ map-append items_of tiles (c.in_ok-items.items ∷ []) in
    let most = c.most_iterators-most.ensures ∙ ap most_iterators shown in (
      λ s. statements_step s.blocks (map items_of tiles) (map items_of c.push-in-loop-k.new.self.items) _ k (length ss) inside
          (more ∙ ap (λ z. map items_of tiles ++ z ∷ []) (c.in_ok-items.ensures.items s)) (c.loop-k.invariant.0 s),
      λ s. mapped_step
          (λ (m : Modelled). scan_set size (most_iterators ss) m (statement_items s.blocks m.number)) ss k x done
          c.push.new.self.items _ inside (sym (c.index-statements-k.is ∙ ap (λ zs. get_or zs k x) shown))
          (c.in_ok-push.ensures.items
          ∙ ap (λ z. done ++ z ∷ []) (c.in_ok-set.ensures
          ∙ ap₂ (λ n t. scan_set size n x t) most (c.in_ok-items.ensures.items s
          ∙ ap (statement_items s.blocks) (sym number))))
          (c.loop-k.invariant.1 s),
    )

pub returns-clause-tiling : goal.returns-clause-tiling
returns-clause-tiling c s =
    let ss = c.args.schedule.now.model.statements in
    let k = c.loop-k.k in
    let shown = c.statements-statements.ensures.statements ∙ ap (λ (m : KernelModel). m.statements) c.model.ensures in
    let many = ap length shown in
    let none : length ss - k ≡ 0 = omega (arith, c.loop-k-test.false, many) in
    ap₂ tiled (search rules)
    (nothing_left (map items_of c.loop-k.tiles.items) _ _ (ap (statements_from s.blocks k) none)
    (c.loop-k.invariant.0 s))

pub returns-clause-sets : goal.returns-clause-sets
returns-clause-sets c s =
    let size = pos c.args.size in
    let ss = c.args.schedule.now.model.statements in
    let shown = c.statements-statements.ensures.statements ∙ ap (λ (m : KernelModel). m.statements) c.model.ensures in
    let many = ap length shown in
    let all : length ss ≤ c.loop-k.k = omega (arith, c.loop-k-test.false, many) in
    let Set : Modelled → Scanned = λ m. scan_set size (most_iterators ss) m (statement_items s.blocks m.number) in
    nothing_left c.loop-k.sets.items _ _ (ap (map Set) (drop_of_length-le ss all)) (c.loop-k.invariant.1 s)

pub statement-requires : goal.statement-requires
statement-requires c =
    let shown = c.statements-statements.ensures.statements ∙ ap (λ (m : KernelModel). m.statements) c.model.ensures in
    let many = ap length shown in
    omega (arith, c.loop-k-test.true, many)

pub scan_set-requires-clause-fit : goal.scan_set-requires-clause-fit
scan_set-requires-clause-fit c =
    let m = c.args.schedule.now.model in
    let x = c.index-statements-k.result in
    let k = c.loop-k.k in
    let shown = c.statements-statements.ensures.statements ∙ ap (λ (m : KernelModel). m.statements) c.model.ensures in
    let many = ap length shown in
    let few : k < length m.statements = omega (arith, c.loop-k-test.true, many) in
    let loops = loops_there m k x few (c.index-statements-k.is ∙ ap (λ zs. get_or zs k x) shown) in
    subst (λ n. FitItems n (items_of c.in_ok-items.items)) loops c.in_ok-items.ensures.fit
