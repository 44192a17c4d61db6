use Rattle.tree_simplification.proofs.Common.{ap, subst, arith, true, not, IfOk-weaker, Affine, variables_of, Context}
use Rattle.tree_simplification.proofs.Common.{NeverHolds, part_row, context_of}
use Rattle.tree_simplification.proofs.Contexts.{implied_part, sized_part}
use Rattle.tree_simplification.proofs.asking.is_implied_part.Goals as goal

pub never_holds-requires : goal.never_holds-requires
never_holds-requires c =
    let old = c.args.context.now in
    let same = c.in_ok-within.ensures in
    let h = c.requires.part in
    let loops = ap (λ (d : Context). d.loops) same in
    let parameters = ap (λ (d : Context). d.parameters) same in
    let row = ap variables_of c.in_ok-row.ensures in
    let s = sized_part old.loops (not c.args.turned) true c.args.part.now (omega (arith, h)) in
    omega (arith, h, loops, parameters, row, s)

pub returns : goal.returns
returns c =
    let old = c.args.context.now in
    let context = context_of old in
    let turned = c.args.turned in
    let bs = c.args.parts.now in
    let others = c.args.others.now in
    let b = c.args.part.now in
    let natural = c.in_ok-are_natural_between.ensures c.if-not-branch.false in
    let within = context_of c.in_ok-within.within in
    IfOk-weaker c.never_holds.result _ _ (λ answer never found params outer m x on others_on.
    implied_part context turned bs others b c.requires.parts c.requires.others c.requires.part
    (subst (λ (d : Context). NeverHolds d (part_row context.loops (not turned) true b)) c.in_ok-within.ensures
    (subst (λ (f : Affine). NeverHolds within f) c.in_ok-row.ensures (never found)))
    params outer m x (natural params outer m x on others_on) on others_on) c.never_holds.ensures
