use Rattle.scop_syntax.proofs.Common.{arith, refl}
use Rattle.contract_callers.specs.Worked.{end}
use Rattle.contract_callers.proofs.worked_dependences.layouts_of_one_loop_each.Goals as goal

pub returns-clause-one : goal.returns-clause-one
returns-clause-one c = c.unknowns_stand_by_the_layout.ensures.one 1 (end 1) (end 1) refl

pub returns-clause-source_first : goal.returns-clause-source_first
returns-clause-source_first c = c.unknowns_stand_by_the_layout.ensures.source_first 1 (end 1) (end 2) (omega arith)

pub returns-clause-target_first : goal.returns-clause-target_first
returns-clause-target_first c = c.unknowns_stand_by_the_layout.ensures.target_first 1 (end 2) (end 1) (omega arith)

pub returns-clause-unknowns : goal.returns-clause-unknowns
returns-clause-unknowns c = c.unknowns_stand_by_the_layout.ensures.unknowns 0
