use Rattle.scop_syntax.proofs.Common.{◌≡◌, ◌++◌, List, ℤ, pos, length, subst, sym, ◌+ℤ◌, ◌≤ℤ◌, w128, arith, ints}
use Rattle.scop_syntax.proofs.Common.{to_z-of_z, Instance}
use Rattle.loop_tree.specs.steps.Chain.{values_in}
use Rattle.loop_tree.specs.steps.Passing.{shown_along}
use Rattle.loop_tree.specs.View.{nodes_of}
use Rattle.loop_tree.proofs.Runs.{passed_by, skipped}
use Rattle.loop_tree.proofs.WalkSteps.{turns_shown}
use Rattle.loop_tree.proofs.walking.skip_values.Goals as goal

pub returns-then-pass_by-clause-shown : goal.returns-then-pass_by-clause-shown
returns-then-pass_by-clause-shown g c = λ l s.
    let body = nodes_of c.args.body.now in
    let params = c.args.params.now in
    let outer = values_in c.args.outer.now in
    let first = c.args.first in
    let last = c.args.last in
    let first_is = to_z-of_z w128 first c.ranges.first in
    let last_is = to_z-of_z w128 last c.ranges.last in
    let up : first ≤ℤ last = grind (arith, ints, c.if-last-first.false, first_is, last_is) in
    let old = g.V.Visitor.stands c.args.visitor.now in
    let new = g.V.Visitor.stands c.pass_by.new.self in
    subst (λ (z : ℤ). (done : List Instance) × (done ++ turns_shown body params outer z last
    ≡ l ++ turns_shown body params outer first last) × new done) (sym last_is)
    (passed_by old new body params outer first last up (c.pass_by.ensures.taken c.if-pass_by.true) l s)

pub returns-then-skip-clause-shown : goal.returns-then-skip-clause-shown
returns-then-skip-clause-shown g c = λ l s.
    let body = nodes_of c.args.body.now in
    let params = c.args.params.now in
    let outer = values_in c.args.outer.now in
    let first = c.args.first in
    let last = c.args.last in
    let first_is = to_z-of_z w128 first c.ranges.first in
    let last_is = to_z-of_z w128 last c.ranges.last in
    let counted = c.in-Some.ensures in
    let way = counted.0 in
    let far = counted.1 in
    let e : first +ℤ pos way ≡ last = omega (arith, ints, far, first_is, last_is) in
    let size = subst (λ (z : ℤ). length (shown_along body params outer z way) ≡ c.in-Some.count) first_is counted.2 in
    let old = g.V.Visitor.stands c.args.visitor.now in
    let new = g.V.Visitor.stands c.skip.new.self in
    subst (λ (z : ℤ). (done : List Instance) × (done ++ turns_shown body params outer z last
    ≡ l ++ turns_shown body params outer first last) × new done) (sym last_is)
    (skipped old new body params outer first last way c.in-Some.count e size
    (λ k part t. c.skip.ensures.seen c.if-skip.true k part
    (c.can_skip.ensures k (c.pass_by.ensures.stays c.if-pass_by.false k t))) l s)
