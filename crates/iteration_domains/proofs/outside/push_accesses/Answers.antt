use Rattle.scop_syntax.proofs.Common.{◌≡◌, ◌∙◌, List, ap, get_or, length, subst, sym, All, Affine, Access, Declaration}
use Rattle.iteration_domains.specs.Sizes.{IsNarrow}
use Rattle.iteration_domains.specs.steps.Asking.{CanAsk, IsExtent}
use Rattle.iteration_domains.proofs.OutsideSteps.{can_rank}
use Rattle.iteration_domains.proofs.outside.push_accesses.Goals as goal

pub push_subscripts-requires-clause-narrow : goal.push_subscripts-requires-clause-narrow
push_subscripts-requires-clause-narrow c =
    let n = length c.args.forms.now in
    let a = c.access-item.result in
    let own = subst (λ (b : Access). All (IsNarrow n) b.subscripts) (sym c.access-item.is)
    (c.requires.narrow c.loop-access.access-index a c.loop-access-test.true) in
    subst (λ (fs : List Affine). All (IsNarrow n) fs)
    (sym (c.deref.ensures.value ∙ ap (λ (z : Access). z.subscripts) c.access.view_is)) own

pub push_subscripts-requires-clause-rank : goal.push_subscripts-requires-clause-rank
push_subscripts-requires-clause-rank c =
    let arrays : List Declaration = c.args.kernel.now.arrays.items in
    let params = c.args.params.now in
    let a = c.access-item.result in
    let d : Declaration = c.index.result.now in
    let can = subst (CanAsk arrays params) (sym c.access-item.is)
    (c.requires.accesses c.loop-access.access-index a c.loop-access-test.true) in
    let is : d ≡ get_or arrays a.array d =
    c.index.ensures ∙ ap (λ (z : Access). get_or arrays z.array d) c.access.view_is in
    let r = can_rank arrays params a d can is in
    ap (λ (fs : List Affine). length fs) c.deref.ensures.value
    ∙ (ap (λ (z : Access). length z.subscripts) c.access.view_is
    ∙ (r.0
    ∙ sym (ap (λ (fs : List Affine). length fs) c.deref-in-loop-access.ensures.value
    ∙ ap (λ (z : Declaration). length z.extents) c.behind-kernel.view_is)))

pub push_subscripts-requires-clause-extents : goal.push_subscripts-requires-clause-extents
push_subscripts-requires-clause-extents c =
    let arrays : List Declaration = c.args.kernel.now.arrays.items in
    let params = c.args.params.now in
    let a = c.access-item.result in
    let d : Declaration = c.index.result.now in
    let can = subst (CanAsk arrays params) (sym c.access-item.is)
    (c.requires.accesses c.loop-access.access-index a c.loop-access-test.true) in
    let is : d ≡ get_or arrays a.array d =
    c.index.ensures ∙ ap (λ (z : Access). get_or arrays z.array d) c.access.view_is in
    let r = can_rank arrays params a d can is in
    subst (λ (fs : List Affine). All (IsExtent params) fs)
    (sym (c.deref-in-loop-access.ensures.value ∙ ap (λ (z : Declaration). z.extents) c.behind-kernel.view_is)) r.1
