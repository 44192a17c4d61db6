use Rattle.whole_numbers.proofs.Common.{◌∙◌, ap, subst, Ok}
use Rattle.integer_sets.specs.Constraints.{Constraints}
use Rattle.fm_projection.specs.Gives.{Eliminates}
use Rattle.fm_projection.specs.Projecting.{without_column}
use Rattle.fm_projection.specs.Tightest.{tightened}
use Rattle.fm_projection.proofs.projecting.without.Goals as goal

pub returns : goal.returns
returns c =
    let i = c.args.dimension in
    let is = c.in-Ok.ensures.exact in (
      subst (λ (t : Constraints). Eliminates i c.args.system.now (Ok t)) is c.in-Ok.ensures.run,
      c.in-Ok-tightened.ensures ∙ ap tightened (c.in-Ok-without_column.ensures ∙ ap (without_column i) is),
    )
