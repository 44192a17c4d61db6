use Rattle.tree_simplification.proofs.Common.{◌+◌, ◌<◌, List, length, subst, sym, ◌∙◌, true, false, Bound, bounds_in}
use Rattle.tree_simplification.proofs.Common.{ArePartsOver, TrimsSide, parts, context_of}
use Rattle.tree_simplification.proofs.RemainingParts.{parts_among}
use Rattle.tree_simplification.proofs.TrimmedTrees.{some_part, trims_both}
use Rattle.tree_simplification.proofs.Walks.{parts_over}
use Rattle.tree_simplification.proofs.implied.trimmed_head.Goals as goal

pub trim_parts-requires-clause-some : goal.trim_parts-requires-clause-some
trim_parts-requires-clause-some c =
    subst (λ (bs : List Bound). 0 < length bs) (sym c.in_ok-lower.ensures) (some_part (bounds_in c.args.head.now.lower))

pub trim_parts-requires-clause-left : goal.trim_parts-requires-clause-left
trim_parts-requires-clause-left c =
    let n = c.args.context.now.loops + c.args.context.now.parameters in
    subst (ArePartsOver n) (sym c.in_ok-lower.ensures)
    (parts_over n (bounds_in c.args.head.now.lower) c.requires.over.0 c.requires.flat.0)

pub trim_parts-requires-clause-others : goal.trim_parts-requires-clause-others
trim_parts-requires-clause-others c =
    let n = c.args.context.now.loops + c.args.context.now.parameters in
    subst (ArePartsOver n) (sym (c.deref.ensures.value ∙ c.in_ok-upper.ensures))
    (parts_over n (bounds_in c.args.head.now.upper) c.requires.over.1 c.requires.flat.1)

pub trim_parts-requires-2-clause-some : goal.trim_parts-requires-2-clause-some
trim_parts-requires-2-clause-some c =
    subst (λ (bs : List Bound). 0 < length bs) (sym c.in_ok-upper.ensures) (some_part (bounds_in c.args.head.now.upper))

pub trim_parts-requires-2-clause-left : goal.trim_parts-requires-2-clause-left
trim_parts-requires-2-clause-left c =
    let n = c.args.context.now.loops + c.args.context.now.parameters in
    subst (ArePartsOver n) (sym c.in_ok-upper.ensures)
    (parts_over n (bounds_in c.args.head.now.upper) c.requires.over.1 c.requires.flat.1)

pub trim_parts-requires-2-clause-others : goal.trim_parts-requires-2-clause-others
trim_parts-requires-2-clause-others c =
    let n = c.args.context.now.loops + c.args.context.now.parameters in
    let old =
    subst (ArePartsOver n) (sym c.in_ok-lower.ensures)
    (parts_over n (bounds_in c.args.head.now.lower) c.requires.over.0 c.requires.flat.0) in
    subst (ArePartsOver n) (sym c.deref-2.ensures.value)
    (parts_among n c.trim_parts.new.left.items c.in_ok-lower.lower.items c.in_ok-trim_parts.ensures.among old)

pub returns-clause-bounds : goal.returns-clause-bounds
returns-clause-bounds c =
    let context = context_of c.args.context.now in
    let lo = bounds_in c.args.head.now.lower in
    let up = bounds_in c.args.head.now.upper in
    let low = bounds_in c.bounds_from.result in
    let high = bounds_in c.bounds_from-2.result in
    let lo_is = c.in_ok-lower.ensures in
    let up_is = c.in_ok-upper.ensures in
    let low_is = c.bounds_from.ensures in
    let high_is = c.bounds_from-2.ensures in
    let first : TrimsSide context true (parts lo) (parts up) (parts low) =
    subst (λ (bs : List Bound). TrimsSide context true bs (parts up) (parts low)) lo_is
    (subst (λ (bs : List Bound). TrimsSide context true c.in_ok-lower.lower.items bs (parts low))
    (c.deref.ensures.value ∙ up_is)
    (subst (λ (bs : List Bound). TrimsSide context true c.in_ok-lower.lower.items c.deref.result.now bs) (sym low_is)
    c.in_ok-trim_parts.ensures)) in
    let second : TrimsSide context false (parts up) (parts low) (parts high) =
    subst (λ (bs : List Bound). TrimsSide context false bs (parts low) (parts high)) up_is
    (subst (λ (bs : List Bound). TrimsSide context false c.in_ok-upper.upper.items bs (parts high))
    (c.deref-2.ensures.value ∙ sym low_is)
    (subst (λ (bs : List Bound). TrimsSide context false c.in_ok-upper.upper.items c.deref-2.result.now bs)
    (sym high_is)
    c.in_ok-trim_parts-2.ensures)) in
    trims_both context lo up low high c.requires.flat.0 c.requires.flat.1 first second
