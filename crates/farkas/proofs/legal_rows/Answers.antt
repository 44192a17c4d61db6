use Rattle.whole_numbers.proofs.Common.{subst, IfOk}
use Rattle.iteration_domains.specs.Dependence.{Dependence}
use Rattle.farkas.specs.declared.claim.Claim.TheVariants.{Legality}
use Rattle.farkas.specs.Meaning.{IsFarkas, Keeps}
use Rattle.farkas.proofs.EliminationRuns.{if_ok}
use Rattle.farkas.proofs.Meaning.{farkas-keeps}
use Rattle.farkas.proofs.legal_rows.Goals as goal

pub returns-clause-keeps : goal.returns-clause-keeps
returns-clause-keeps c =
    let dep = c.args.dependence.now in
    if_ok {P = IsFarkas Legality dep.source dep.target dep.system} {Q = Keeps dep.source dep.target dep.system}
    c.rows_of.result
    (λ t farkas. farkas-keeps dep.source dep.target dep.system t farkas)
    (subst (λ (d : Dependence). IfOk c.rows_of.result (IsFarkas Legality d.source d.target d.system))
    c.dependence.view_is c.rows_of.ensures.farkas)
