use Rattle.tree_simplification.proofs.Common.{◌^◌, ◌≤◌, length, map, ap, ap₂, subst, sym, ◌∙◌, List, All, unsigned_abs}
use Rattle.tree_simplification.proofs.Common.{IsOver, Bound, bounds_of, bound_over}
use Rattle.tree_simplification.proofs.Heads.{bounds_of_over, divisor_parts, over_parts, up_to_from}
use Rattle.tree_simplification.proofs.single.heads.bounds_at.Goals as goal

pub bound_at-requires-clause-count : goal.bound_at-requires-clause-count
bound_at-requires-clause-count c =
    let bs = c.args.bounds.now in
    (over_parts (length c.args.forms.now) bs.first bs.others.items c.requires.count).0

pub bound_at-requires-clause-divisor : goal.bound_at-requires-clause-divisor
bound_at-requires-clause-divisor c =
    let bs = c.args.bounds.now in
    (divisor_parts (2 ^ 40) bs.first bs.others.items c.requires.numbers).0

pub all_bounds-requires-clause-count : goal.all_bounds-requires-clause-count
all_bounds-requires-clause-count c =
    let bs = c.args.bounds.now in
    subst (λ (cs : List Bound). All (λ b. IsOver (length c.args.forms.now) b.form) cs) (sym c.as_slice.ensures.value)
    (over_parts (length c.args.forms.now) bs.first bs.others.items c.requires.count).1

pub all_bounds-requires-clause-divisors : goal.all_bounds-requires-clause-divisors
all_bounds-requires-clause-divisors c =
    let bs = c.args.bounds.now in
    subst (λ (cs : List Bound). All (λ b. unsigned_abs b.divisor ≤ 2 ^ 40) cs) (sym c.as_slice.ensures.value)
    (divisor_parts (2 ^ 40) bs.first bs.others.items c.requires.numbers).1

pub returns-clause-bounds : goal.returns-clause-bounds
returns-clause-bounds c =
    let n = c.args.variables in
    let forms = c.args.forms.now in
    let bs = c.args.bounds.now in
    let others = c.in_ok-others.ensures.bounds
    ∙ ap (λ (cs : List Bound). map (bound_over c.args.up n forms) cs) c.as_slice.ensures.value in
    ap₂ (λ (b : Bound) (cs : List Bound). bounds_of b cs) c.in_ok-first.ensures.bound others
    ∙ bounds_of_over c.args.up n forms bs.first bs.others.items

pub returns-clause-small : goal.returns-clause-small
returns-clause-small c =
    up_to_from (2 ^ 45) c.in_ok-first.first c.in_ok-others.others.items c.in_ok-first.ensures.small
    c.in_ok-others.ensures.small
