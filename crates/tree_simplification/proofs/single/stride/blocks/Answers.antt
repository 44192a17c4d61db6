use Rattle.tree_simplification.proofs.Common.{◌^◌, map, ap, ap₂, subst, sym, ◌∙◌, List, All, IsOverUpTo, Bound}
use Rattle.tree_simplification.proofs.Common.{bounds_of, block}
use Rattle.tree_simplification.proofs.Heads.{up_to_from}
use Rattle.tree_simplification.proofs.Strides.{blocks_of, up_to_parts}
use Rattle.tree_simplification.proofs.single.stride.blocks.Goals as goal

pub block_part-requires-clause-small : goal.block_part-requires-clause-small
block_part-requires-clause-small c =
    let bs = c.args.bounds.now in (up_to_parts (2 ^ 40) bs.first bs.others.items c.requires.small).0

pub block_parts-requires-clause-small : goal.block_parts-requires-clause-small
block_parts-requires-clause-small c =
    let bs = c.args.bounds.now in
    subst (λ (cs : List Bound). All (λ b. IsOverUpTo (2 ^ 40) b.form b.divisor) cs) (sym c.as_slice.ensures.value)
    (up_to_parts (2 ^ 40) bs.first bs.others.items c.requires.small).1

pub returns-clause-bounds : goal.returns-clause-bounds
returns-clause-bounds c =
    let bs = c.args.bounds.now in
    let others = c.in_ok-others.ensures.parts
    ∙ ap (λ (cs : List Bound). map (block c.args.by c.args.at) cs) c.as_slice.ensures.value in
    ap₂ (λ (b : Bound) (cs : List Bound). bounds_of b cs) c.in_ok-first.ensures.part others
    ∙ blocks_of c.args.by c.args.at bs.first bs.others.items

pub returns-clause-small : goal.returns-clause-small
returns-clause-small c =
    up_to_from (2 ^ 40) c.in_ok-first.first c.in_ok-others.others.items c.in_ok-first.ensures.small
    c.in_ok-others.ensures.small
