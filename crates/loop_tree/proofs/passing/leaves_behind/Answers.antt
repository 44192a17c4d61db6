use Rattle.scop_syntax.proofs.Common.{◌+ℤ◌, ints, ◌∙◌, ap, append-nil, pos, arith, ◌++◌, ◌∷◌, [], List, All, subst, sym}
use Rattle.scop_syntax.proofs.Common.{Instance}
use Rattle.loop_tree.specs.steps.Passing.{AreLeaves, shown_along}
use Rattle.loop_tree.specs.Stretches.{left_of}
use Rattle.loop_tree.proofs.Stretches.{leaf_few}
use Rattle.loop_tree.specs.steps.Chain.{values_in}
use Rattle.loop_tree.specs.Conditions.{CanWalk, IsHeld}
use Rattle.loop_tree.specs.Tree.{Trees, instance, more, none}
use Rattle.loop_tree.proofs.Braids.{shown_held}
use Rattle.loop_tree.proofs.passing.leaves_behind.Goals as goal

pub stretch_behind-requires : goal.stretch_behind-requires
stretch_behind-requires c =
    let leaf = c.in-Some.leaf.now in
    let x = c.args.value in
    let params = c.args.params.now in
    let point = values_in c.args.outer.now ++ x ∷ [] in
    leaf_few leaf.statement leaf.turns.items params point
    (subst (λ (ts : Trees). CanWalk ts params point) c.in-Some.ensures
    (c.requires.walk x (omega (arith, ints)) (omega (arith, ints))))

pub returns-in-Some-clause-rest : goal.returns-in-Some-clause-rest
returns-in-Some-clause-rest c = λ e.
    let leaf = c.in-Some.leaf.now in
    let x = c.args.value in
    let params = c.args.params.now in
    let s = c.stretch_behind.result in
    ap (λ (is : List Instance). left_of s ++ is) c.requires.spent.nothing
    ∙ (append-nil (left_of s)
    ∙ (c.stretch_behind.ensures.rest params x
    (c.requires.alone leaf.statement leaf.turns.items c.in-Some.ensures)
    ∙ ap (λ (ts : Trees). shown_along ts params (values_in c.args.outer.now) (x +ℤ pos 1) c.args.left)
    (sym c.in-Some.ensures)))

pub returns-in-Some-clause-held : goal.returns-in-Some-clause-held
returns-in-Some-clause-held c = λ e.
    let leaf = c.in-Some.leaf.now in
    let x = c.args.value in
    let params = c.args.params.now in
    let outer = values_in c.args.outer.now in
    let shown = c.stretch_behind.ensures.rest params x
    (c.requires.alone leaf.statement leaf.turns.items c.in-Some.ensures) in
    record {
      held = subst (λ (is : List Instance). All IsHeld is) (sym shown)
          (shown_held (more (instance leaf.statement leaf.turns.items) none) params outer x c.args.left
          (λ y from to. subst (λ (ts : Trees). CanWalk ts params (outer ++ y ∷ [])) c.in-Some.ensures
          (c.requires.walk y from to)));
      braid = c.requires.spent.braid;
    }

pub returns-in-Some-clause-leaves : goal.returns-in-Some-clause-leaves
returns-in-Some-clause-leaves c = λ e. subst (λ (ts : Trees). AreLeaves ts) (sym c.in-Some.ensures) tt
