use Rattle.dataflow.proofs.Common.{◌+◌, ◌∙◌, ap, subst, sym, All, Access, IsNarrow, side_of}
use Rattle.dataflow.proofs.LeafShapes.{narrow_bound}
use Rattle.dataflow.proofs.leaf_deps.push_cells.Goals as goal

pub push_subscripts-requires-clause-second : goal.push_subscripts-requires-clause-second
push_subscripts-requires-clause-second c =
    let t = side_of c.args.target.now in
    let e = c.loops_of-others.result in
    let k = c.args.binds in
    let m = c.args.parameters in
    let narrow : All (IsNarrow (e + m)) t.access.subscripts = rw c.loops_of-others.ensures c.requires.target.narrow in
    let own : All (IsNarrow (e + m)) c.as_slice.result.now =
    subst (All (IsNarrow (e + m)))
    (sym (c.as_slice.ensures.value ∙ ap (λ (z : Access). z.subscripts) c.second.view_is)) narrow in
    subst (All (IsNarrow (e + k + m))) (sym (c.deref.ensures.value ∙ c.in_ok-wide.ensures))
    (narrow_bound e k m c.as_slice.result.now own)
