use Rattle.scop_syntax.proofs.Common.{List, refl, sym, ap, subst}
use Rattle.iteration_domains.specs.Dependence.{Dependence}
use Rattle.schedule_rows.specs.Outcomes.{state}
use Rattle.pluto_search.specs.steps.Good.{IsGood}
use Rattle.pluto_search.specs.steps.Steps.{state_of, vectors_in}
use Rattle.pluto_search.proofs.GoodStates.{all_remain}
use Rattle.pluto_search.proofs.next.with_all_rows.Goals as goal

pub invariant_of-result : goal.invariant_of-result
invariant_of-result c =
    let p = c.args.progress in
    let g = p.search.now in
    record {
      good = subst (λ (l : List Dependence). IsGood g.parameters g.loops.now
          (state (state_of p).closed (state_of p).rows l) (vectors_in p)) (sym
          (all_remain p c.in-Ok.ruled.items c.new.result.items c.new.ensures.items c.in-Ok.ensures.deps)) p.good;
    }

pub returns-clause-ruled : goal.returns-clause-ruled
returns-clause-ruled c =
    let p = c.args.progress in
    record {
      search = refl;
      same = ap (λ (l : List Dependence). state (state_of p).closed (state_of p).rows l)
          (all_remain p c.in-Ok.ruled.items c.new.result.items c.new.ensures.items c.in-Ok.ensures.deps);
      none_bare = c.new.ensures.items;
      rules = c.in-Ok.ensures.rules;
    }
