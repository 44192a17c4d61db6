use Rattle.tree_simplification.proofs.Common.{true, ◌≡◌, pos, ap, ◌∙◌, rules, ◌≤ℤ◌, ◌*ℤ◌, le_z, floor, test_of, holds}
use Rattle.loop_tree.specs.declared.tree.Test.{Test}
use Rattle.tree_simplification.proofs.Heads.{multiple_holds, number_holds, zero_holds}
use Rattle.tree_simplification.proofs.single.heads.always_holds.Goals as goal

pub returns-else-not-constant_is_up : goal.returns-else-not-constant_is_up
returns-else-not-constant_is_up c = λ yes point.
    let up : pos 0 ≤ℤ c.in-AtLeast.form.constant = search rules in
    ap (λ (t : Test). holds (test_of t) point) c.in-AtLeast.is
    ∙ number_holds c.in-AtLeast.form (c.is_number.ensures yes) up point

pub returns-else-not-constant_is_zero : goal.returns-else-not-constant_is_zero
returns-else-not-constant_is_zero c = λ yes point.
    let zero : c.in-Equal.form.constant ≡ pos 0 = search rules in
    ap (λ (t : Test). holds (test_of t) point) c.in-Equal.is
    ∙ zero_holds c.in-Equal.form (c.is_number-in-Equal.ensures yes) zero point

pub returns-else-not-constant_is_multiple : goal.returns-else-not-constant_is_multiple
returns-else-not-constant_is_multiple c = λ yes point.
    let f = c.in-Multiple.form in
    let d = c.in-Multiple.divisor in
    let told : le_z f.constant (floor f.constant d *ℤ d) ≡ true = search rules in
    ap (λ (t : Test). holds (test_of t) point) c.in-Multiple.is
    ∙ multiple_holds f d (c.is_number-in-Multiple.ensures yes) told point
