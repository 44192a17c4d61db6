use Rattle.whole_numbers.proofs.Common.{subst, IfOk}
use Rattle.iteration_domains.specs.Dependence.{Dependence}
use Rattle.farkas.specs.declared.claim.Claim.TheVariants.{Bounding}
use Rattle.farkas.specs.Meaning.{IsFarkas, Bounds}
use Rattle.farkas.proofs.EliminationRuns.{if_ok}
use Rattle.farkas.proofs.Meaning.{farkas-bounds}
use Rattle.farkas.proofs.bounded_rows.Goals as goal

pub returns-clause-bounds : goal.returns-clause-bounds
returns-clause-bounds c =
    let dep = c.args.dependence.now in
    if_ok {P = IsFarkas Bounding dep.source dep.target dep.system} {Q = Bounds dep.source dep.target dep.system}
    c.rows_of.result
    (λ t farkas. farkas-bounds dep.source dep.target dep.system t farkas)
    (subst (λ (d : Dependence). IfOk c.rows_of.result (IsFarkas Bounding d.source d.target d.system))
    c.dependence.view_is c.rows_of.ensures.farkas)
