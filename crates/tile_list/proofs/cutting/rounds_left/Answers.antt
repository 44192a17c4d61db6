use Rattle.scop_syntax.proofs.Common.{◌≡◌, arith, get_or, take, all_next, all_taken}
use Rattle.tile_list.proofs.cutting.rounds_left.Goals as goal

pub loop-strand-preserved : goal.loop-strand-preserved
loop-strand-preserved c =
    let b = c.args.braid.now in
    let rounds = (get_or b.strands 0 c.index-braid-0.result).left in
    all_next (λ s. s.left ≡ rounds) (take b.count b.strands) c.loop-strand.strand-index c.strand-item.result
    c.strand-item.is c.loop-strand-test.true c.loop-strand.invariant c.if-strand-rounds.false

pub returns-clause-rounds : goal.returns-clause-rounds
returns-clause-rounds c some =
    let b = c.args.braid.now in
    let rounds = (get_or b.strands 0 c.index-braid-0.result).left in
    let first = c.if-braid-gt0.false in
    record {
      turn = omega (arith, first);
      lefts = all_taken (λ s. s.left ≡ rounds) (take b.count b.strands) c.loop-strand.strand-index
          c.loop-strand-test.false c.loop-strand.invariant;
    }
