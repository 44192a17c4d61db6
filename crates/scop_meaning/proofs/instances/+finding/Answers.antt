use Rattle.scop_syntax.proofs.Common.{◌≡◌, ◌-◌, ◌+◌, ◌<◌, List, length, take, drop, get_or, ap, subst, sym, ◌∙◌, arith}
use Rattle.scop_syntax.proofs.Common.{rules, ℤ, pos, ◌+ℤ◌, ◌*ℤ◌, FitsSigned, w64, to_z-of_z, value_of, Tree, loop, more}
use Rattle.scop_syntax.proofs.Common.{none, items_of, tree_of, turn_point, weight, weight_all}
use Rattle.scop_syntax.specs.declared.tree.Item.{Item}
use Rattle.scop_syntax.proofs.Views.{tree_loop}
use Rattle.scop_meaning.specs.steps.Conditions.{CanFind, act_at, act_at_all}
use Rattle.scop_syntax.specs.declared.limits.TheConstants.{MOST_ENTRIES}
use Rattle.scop_meaning.proofs.StatementSearch.{can_enter, is_entered}
use Rattle.scop_meaning.proofs.instances.+finding.Goals as goal

pub find_in-enter_at-requires : goal.find_in-enter_at-requires
find_in-enter_at-requires t c =
    let is : tree_of c.args.item.now ≡ loop c.in-Loop.head (items_of c.in-Loop.body.items) =
    ap tree_of c.in-Loop.is ∙ tree_loop c.in-Loop.head c.in-Loop.body in
    let can = subst (λ (u : Tree). CanFind MOST_ENTRIES (more u none) c.args.number c.args.point.now.items c.args.turns.now)
    is c.requires in
    (can_enter MOST_ENTRIES _ _ c.args.number c.args.point.now.items c.args.turns.now can).space

pub find_in-find_among-requires : goal.find_in-find_among-requires
find_in-find_among-requires t c =
    let point = c.args.point.now.items in
    let head = c.in-Loop.head in
    let body = c.in-Loop.body in
    let turns = c.args.turns.now in
    let x = get_or turns 0 (pos 0) in
    let xs = take (length turns - 1) (drop 1 turns) in
    let is : tree_of c.args.item.now ≡ loop head (items_of body.items) =
    ap tree_of c.in-Loop.is ∙ tree_loop head body in
    let whole = subst (λ (u : Tree). CanFind MOST_ENTRIES (more u none) c.args.number point turns) is c.requires in
    let there : CanFind MOST_ENTRIES (items_of body.items) c.args.number (turn_point head point x) xs =
    (can_enter MOST_ENTRIES _ _ c.args.number point turns whole).can in
    let fit : FitsSigned w64 x = search rules in
    let fitting : FitsSigned w64 (value_of head.first point +ℤ (head.stride *ℤ x))
    → c.enter_at.new.point.items ≡ turn_point head point x = simp to_z-of_z at c.enter_at.ensures.fitting in
    let entered = fitting (can_enter MOST_ENTRIES _ _ c.args.number point turns whole).fits in
    let can : CanFind MOST_ENTRIES (items_of c.deref.result.now) c.args.number c.enter_at.new.point.items xs =
    subst (λ (l : List ℤ). CanFind MOST_ENTRIES (items_of c.deref.result.now) c.args.number l xs) (sym entered)
    (subst (λ (l : List Item). CanFind MOST_ENTRIES (items_of l) c.args.number (turn_point head point x) xs)
    (sym c.deref.ensures.value) there) in
    let heavy = ap weight is in
    let same = ap (λ (l : List Item). weight_all (items_of l)) c.deref.ensures.value in
    let less : weight_all (items_of c.deref.result.now) + 1 < weight (tree_of c.args.item.now) = omega arith in
    search rules

pub find_in-returns-in-Loop : goal.find_in-returns-in-Loop
find_in-returns-in-Loop t c =
    let point = c.args.point.now.items in
    let head = c.in-Loop.head in
    let body = c.in-Loop.body in
    let turns = c.args.turns.now in
    let x = get_or turns 0 (pos 0) in
    let xs = take (length turns - 1) (drop 1 turns) in
    let is : tree_of c.args.item.now ≡ loop head (items_of body.items) =
    ap tree_of c.in-Loop.is ∙ tree_loop head body in
    let whole = subst (λ (u : Tree). CanFind MOST_ENTRIES (more u none) c.args.number point turns) is c.requires in
    let fit : FitsSigned w64 x = search rules in
    let fitting : FitsSigned w64 (value_of head.first point +ℤ (head.stride *ℤ x))
    → c.enter_at.new.point.items ≡ turn_point head point x = simp to_z-of_z at c.enter_at.ensures.fitting in
    let entered = fitting (can_enter MOST_ENTRIES _ _ c.args.number point turns whole).fits in
    ap (λ (u : Tree). act_at u c.args.number point turns) is
    ∙ (is_entered MOST_ENTRIES head (items_of body.items) c.args.number point turns whole
    ∙ (ap (λ (l : List ℤ). act_at_all (items_of body.items) c.args.number l xs) (sym entered)
    ∙ (ap (λ (l : List Item). act_at_all (items_of l) c.args.number c.enter_at.new.point.items xs)
    (sym c.deref.ensures.value) ∙ c.find_among.ensures)))
