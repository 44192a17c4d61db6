use Rattle.whole_numbers.proofs.Common.{length, sym, ◌∙◌, arith}
use Rattle.null_space.proofs.ListLoops.{views, views_length, long_at, small_at}
use Rattle.null_space.proofs.vectors.push_orthogonal.Goals as goal

pub made_orthogonal-requires-clause-row : goal.made_orthogonal-requires-clause-row
made_orthogonal-requires-clause-row c =
    let vs = c.args.vectors.now in
    let e = views_length vs in
    sym (long_at (length c.args.row.now) c.loop-at.at (views vs) c.vector_at.result.now c.vector_at.ensures
    (omega arith) c.requires.lengths)

pub made_orthogonal-requires-clause-gone : goal.made_orthogonal-requires-clause-gone
made_orthogonal-requires-clause-gone c =
    let vs = c.args.vectors.now in
    let e = views_length vs in
    long_at (length c.args.row.now) c.args.goes
    (views vs) c.vector_at-gone.result.now c.vector_at-gone.ensures (omega arith) c.requires.lengths
    ∙ sym (long_at (length c.args.row.now) c.loop-at.at (views vs) c.vector_at.result.now c.vector_at.ensures
    (omega arith) c.requires.lengths)

pub made_orthogonal-requires-clause-few : goal.made_orthogonal-requires-clause-few
made_orthogonal-requires-clause-few c =
    let vs = c.args.vectors.now in
    let e = views_length vs in
    let f = long_at (length c.args.row.now) c.loop-at.at (views vs) c.vector_at.result.now c.vector_at.ensures
    (omega arith) c.requires.lengths in
    omega arith

pub made_orthogonal-requires-clause-gone_size : goal.made_orthogonal-requires-clause-gone_size
made_orthogonal-requires-clause-gone_size c =
    let vs = c.args.vectors.now in
    let e = views_length vs in
    small_at c.args.goes (views vs) c.vector_at-gone.result.now c.vector_at-gone.ensures (omega arith)
    (omega arith) c.requires.sizes

pub made_orthogonal-requires-clause-vector_size : goal.made_orthogonal-requires-clause-vector_size
made_orthogonal-requires-clause-vector_size c =
    let vs = c.args.vectors.now in
    let e = views_length vs in
    small_at c.loop-at.at (views vs) c.vector_at.result.now c.vector_at.ensures (omega arith)
    (omega arith) c.requires.sizes
