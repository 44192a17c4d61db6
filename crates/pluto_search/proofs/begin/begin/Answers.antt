use Rattle.scop_syntax.proofs.Common.{refl}
use Rattle.pluto_search.proofs.GoodStates.{good_first}
use Rattle.pluto_search.proofs.NextStates.{no_rules}
use Rattle.pluto_search.proofs.begin.begin.Goals as goal

pub invariant_of-result : goal.invariant_of-result
invariant_of-result c =
    let g = c.args.search.now in
    rw (c.new.ensures.items, c.new-2.ensures.items, c.new-3.ensures.items)
    (record { good = good_first g.parameters g.loops.now c.args.taken.items _ c.in_ok-vectors.ensures c.requires })

pub returns-clause-own : goal.returns-clause-own
returns-clause-own c =
    record { search = refl; rules = no_rules c.args.search.now.budget c.new-3.result.items c.new-3.ensures.items }
