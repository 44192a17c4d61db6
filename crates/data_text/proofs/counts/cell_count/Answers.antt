-- At most four extents of at most 2^23.
use Rattle.scop_syntax.proofs.Common.{◌≤◌, ◌+◌, ◌*◌, ◌^◌, ◌∙◌, sym, ap, subst, drop, arith, cell_count}
use Rattle.data_text.proofs.CountLemmas.{count_next, count_small, count_most}
use Rattle.data_text.proofs.counts.cell_count.Goals as goal

pub overflow_mul-count : goal.overflow_mul-count
overflow_mul-count c =
    let i = c.loop-extent.extent-index in
    let few : i + 1 ≤ 4 = omega (arith, c.requires.few, c.loop-extent-test.true) in
    let fits : c.from-count.result ≤ 2 ^ 23 = subst (λ n. n ≤ 2 ^ 23) (sym c.from-count.ensures)
    (c.requires.sizes i 0 c.loop-extent-test.true) in
    let small = count_small i c.loop-extent.count c.from-count.result c.loop-extent.invariant.small fits in
    omega (arith, small, count_most (i + 1) few)

pub loop-extent-preserved : goal.loop-extent-preserved
loop-extent-preserved c =
    let i = c.loop-extent.extent-index in
    let fits : c.from-count.result ≤ 2 ^ 23 = subst (λ n. n ≤ 2 ^ 23) (sym c.from-count.ensures)
    (c.requires.sizes i 0 c.loop-extent-test.true) in
    let next = count_next c.args.extents.now i c.loop-extent.count _ c.loop-extent-test.true
    c.loop-extent.invariant.value in
    record {
      value = ap (λ n. (c.loop-extent.count * n) * cell_count (drop (i + 1) c.args.extents.now))
          c.from-count.ensures ∙ next;
      small = count_small i c.loop-extent.count c.from-count.result c.loop-extent.invariant.small fits;
    }

pub returns-clause-small : goal.returns-clause-small
returns-clause-small c =
    let i = c.loop-extent.extent-index in
    let few : i ≤ 4 = omega (arith, c.requires.few, c.loop-extent.auto.extent-index-end) in
    omega (arith, c.loop-extent.invariant.small, count_most i few)
