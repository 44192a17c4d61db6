use Rattle.scop_syntax.proofs.Common.{◌≡◌, ◌+◌, ◌<◌, ℕ, List, length, drop, ap, ap₂, subst, sym, ◌∙◌, arith, rules}
use Rattle.scop_syntax.proofs.Common.{to_z, of_z, ℤ, pos, FitsSigned, w64, to_z-of_z, Affine, value_of, accesses, Tree}
use Rattle.scop_syntax.proofs.Common.{Trees, Head, statement, more, none, items_of, tree_of, statement_of, turn_point}
use Rattle.scop_syntax.proofs.Common.{weight, weight_all, item_weight, item_here}
use Rattle.scop_syntax.specs.declared.tree.Item.{Item}
use Rattle.scop_syntax.specs.declared.tree.Item.TheVariants as variant
use Rattle.scop_syntax.specs.declared.tree.Stmt.{Stmt}
use Rattle.scop_syntax.proofs.Views.{tree_statement}
use Rattle.scop_meaning.specs.Conditions.{CanTurn}
use Rattle.scop_meaning.specs.steps.Conditions.{CanRun, AreCells}
use Rattle.scop_syntax.specs.declared.limits.TheConstants.{MOST_ENTRIES}
use Rattle.scop_meaning.proofs.WalkSteps.{can_turn, first_turn_fits, loop_head, loop_space}
use Rattle.scop_meaning.proofs.Turns.{first_fits}
use Rattle.scop_meaning.proofs.Runs.{can_first, can_act, item_step, turns_begin, can_body, turn_step}
use Rattle.scop_meaning.proofs.interpreter.+running.Goals as goal

pub run_items-run_item-requires : goal.run_items-run_item-requires
run_items-run_item-requires t c =
    let l = c.loop-item in
    let items = c.args.items.now in
    let tree = tree_of c.item-item.result in
    let h : l.item-index < length items = c.loop-item-test.true in
    let here = item_here items l.item-index c.item-item.result c.item-item.is h in
    let whole = subst (λ (ts : Trees). CanRun MOST_ENTRIES c.args.layout.now ts l.point.items l.arrays) here
    l.invariant.can in
    let can : CanRun MOST_ENTRIES c.args.layout.now (more tree none) l.point.items l.arrays =
    can_first MOST_ENTRIES c.args.layout.now tree (items_of (drop (l.item-index + 1) items)) l.point.items l.arrays
    whole in
    let heavy = item_weight items l.item-index c.item-item.result c.item-item.is h in
    let less : weight tree < weight_all (items_of items) + 1 = omega arith in
    search rules

pub run_items-loop-item-preserved : goal.run_items-loop-item-preserved
run_items-loop-item-preserved t c =
    let l = c.loop-item in
    let items = c.args.items.now in
    let here = item_here items l.item-index c.item-item.result c.item-item.is c.loop-item-test.true in
    item_step MOST_ENTRIES c.args.layout.now items l.item-index c.args.point.now.items l.point.items
    c.run_item.new.point.items c.args.arrays.now l.arrays c.run_item.new.arrays (tree_of c.item-item.result) l.invariant here
    c.run_item.ensures.point
    c.run_item.ensures.arrays c.run_item.ensures.ready

-- where an item is a statement, that can run
can_alone : {es : List (List ℕ)} {point : List ℤ} {now : List (List ℕ)} (item : Item) (s : Stmt) → item ≡ variant.Stmt s
    → CanRun MOST_ENTRIES es (more (tree_of item) none) point now
    → CanRun MOST_ENTRIES es (more (statement (statement_of s)) none) point now
can_alone {es = es} {point = point} {now = now} item s is can =
    subst (λ (u : Tree). CanRun MOST_ENTRIES es (more u none) point now) (ap tree_of is ∙ tree_statement s) can

pub run_item-run_statement-requires-clause-cells : goal.run_item-run_statement-requires-clause-cells
run_item-run_statement-requires-clause-cells t c =
    let s = statement_of c.in-Stmt.statement in
    subst (λ (x : List ℤ). AreCells c.args.layout.now x (accesses s)) (sym c.as_slice-in-Stmt.ensures.value)
    (can_act MOST_ENTRIES c.args.layout.now s c.args.point.now.items c.args.arrays.now
    (can_alone c.args.item.now c.in-Stmt.statement c.in-Stmt.is c.requires))

pub run_item-run_statement-requires-clause-few : goal.run_item-run_statement-requires-clause-few
run_item-run_statement-requires-clause-few t c =
    (can_alone c.args.item.now c.in-Stmt.statement c.in-Stmt.is c.requires).walks.formed.0.few_reads

pub run_loop-exact_at-first-requires : goal.run_loop-exact_at-first-requires
run_loop-exact_at-first-requires t c =
    let head = c.args.head.now in
    let point = c.args.point.now.items in
    let fits = first_fits head point
    (first_turn_fits MOST_ENTRIES c.requires.ranks head (items_of c.args.body.now) point c.requires.walks).iterator in
    subst (λ (f : Affine). FitsSigned w64 (value_of f c.as_slice.result.now))
    (sym (ap (λ (h : Head). h.first) c.head.view_is))
    (subst (λ (x : List ℤ). FitsSigned w64 (value_of head.first x)) (sym c.as_slice.ensures.value) fits)

pub run_loop-loop-turn-init : goal.run_loop-loop-turn-init
run_loop-loop-turn-init t c =
    turns_begin MOST_ENTRIES c.args.layout.now c.args.head.now (items_of c.args.body.now) c.turns_of-turns.result
    c.args.point.now.items
    c.turns_of-turns.new.point.items c.args.arrays.now c.requires c.turns_of-turns.ensures.turns
    c.turns_of-turns.ensures.point

pub run_loop-run_turn-requires : goal.run_loop-run_turn-requires
run_loop-run_turn-requires t c =
    let l = c.loop-turn in
    let head = c.args.head.now in
    let body = items_of c.args.body.now in
    let start = c.args.point.now.items in
    let m = c.turns_of-turns.result in
    let first = c.exact_at-first.result in
    let fit : FitsSigned w64 first = search rules in
    let is : first ≡ value_of head.first start =
    c.exact_at-first.ensures
    ∙ ap₂ (λ (f : Affine) (x : List ℤ). value_of f x) (ap (λ (h : Head). h.first) c.head.view_is)
    c.as_slice.ensures.value in
    let there : CanTurn MOST_ENTRIES head first l.turn start =
    can_turn MOST_ENTRIES c.requires.ranks head body start m l.turn first c.requires.walks
    c.turns_of-turns.ensures.turns c.turns_of-turns.ensures.few c.loop-turn-test.true is in
    let turn : CanTurn MOST_ENTRIES head (to_z w64 (of_z w64 first)) l.turn l.point.items =
    subst (λ (z : ℤ). CanTurn MOST_ENTRIES head z l.turn l.point.items) (sym (to_z-of_z w64 first fit))
    (subst (λ (x : List ℤ). CanTurn MOST_ENTRIES head first l.turn x) (sym l.invariant.same) there) in
    let can : CanRun MOST_ENTRIES c.args.layout.now body (turn_point head l.point.items (pos l.turn)) l.arrays =
    can_body MOST_ENTRIES c.args.layout.now head body m l.turn start l.point.items c.args.arrays.now l.arrays c.requires
    c.turns_of-turns.ensures.turns c.loop-turn-test.true l.invariant in
    search rules

pub run_loop-loop-turn-preserved : goal.run_loop-loop-turn-preserved
run_loop-loop-turn-preserved t c =
    let l = c.loop-turn in
    turn_step c.args.layout.now c.args.head.now (items_of c.args.body.now) c.turns_of-turns.result l.turn
    c.args.point.now.items l.point.items
    c.run_turn.new.point.items c.args.arrays.now l.arrays c.run_turn.new.arrays c.loop-turn-test.true l.invariant
    c.run_turn.ensures.point
    c.run_turn.ensures.arrays c.run_turn.ensures.ready

pub run_loop-turns_of-turns-requires-clause-room : goal.run_loop-turns_of-turns-requires-clause-room
run_loop-turns_of-turns-requires-clause-room t c =
    loop_space MOST_ENTRIES c.requires.ranks c.args.head.now (items_of c.args.body.now) c.args.point.now.items
    c.requires.walks

-- the first iterator is what the head's form says
first_is : {form : Affine} {lent : List ℤ} (head : Head) (start : List ℤ) (first : ℤ) → first ≡ value_of form lent
    → form ≡ head.first → lent ≡ start → FitsSigned w64 first → to_z w64 (of_z w64 first) ≡ value_of head.first start
first_is head start first said form lent fit =
    to_z-of_z w64 first fit ∙ (said ∙ ap₂ (λ (f : Affine) (x : List ℤ). value_of f x) form lent)

pub run_loop-turns_of-turns-requires-clause-first : goal.run_loop-turns_of-turns-requires-clause-first
run_loop-turns_of-turns-requires-clause-first t c =
    let fit : FitsSigned w64 c.exact_at-first.result = search rules in
    first_is c.args.head.now c.args.point.now.items c.exact_at-first.result c.exact_at-first.ensures
    (ap (λ (h : Head). h.first) c.head.view_is) c.as_slice.ensures.value fit

pub run_loop-turns_of-turns-requires-clause-head : goal.run_loop-turns_of-turns-requires-clause-head
run_loop-turns_of-turns-requires-clause-head t c =
    loop_head MOST_ENTRIES c.requires.ranks c.args.head.now (items_of c.args.body.now) c.args.point.now.items
    c.requires.walks

pub run_loop-turns_of-turns-requires-clause-fits : goal.run_loop-turns_of-turns-requires-clause-fits
run_loop-turns_of-turns-requires-clause-fits t c =
    first_turn_fits MOST_ENTRIES c.requires.ranks c.args.head.now (items_of c.args.body.now) c.args.point.now.items
    c.requires.walks
