use Rattle.scop_syntax.proofs.Common.{◌≡◌, ◌<◌, ℕ, List, arith, get_or, length, map, subst, sym, values, size_of}
use Rattle.iteration_domains.proofs.OutsideSteps.{dimension_more, extent_at, extents_many}
use Rattle.iteration_domains.proofs.outside.push_subscripts.Goals as goal

pub loop-at-preserved : goal.loop-at-preserved
loop-at-preserved c =
    let i = c.loop-at.at in
    let es = c.args.extents.now in
    let params = c.args.params.now in
    let sizes : List ℕ = map size_of (values es params) in
    let e = c.wrapped_at-extent.result in
    let many = extents_many es params in
    let rank = c.requires.rank in
    let h = c.loop-at-test.true in
    let within : i < length es = omega arith in
    let inside : i < length sizes = omega arith in
    let size : e ≡ get_or sizes i e =
    subst (λ (k : ℕ). k ≡ get_or sizes i k) (sym c.wrapped_at-extent.ensures)
    (extent_at es params i c.index-extents-at.result within c.index-extents-at.is c.requires.extents) in
    dimension_more c.args.domain.now c.args.forms.now c.args.subscripts.now sizes i c.index-subscripts-at.result e
    c.loop-at.out.items c.push_subscript.new.out.items _ h inside c.index-subscripts-at.is size
    c.in_ok-push_subscript.ensures c.loop-at.invariant
