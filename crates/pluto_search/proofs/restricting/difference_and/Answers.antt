use Rattle.scop_syntax.proofs.Common.{rules, ◌∙◌, FitsSigned, subst, sym, to_z-of_z, w128}
use Rattle.iteration_domains.specs.Dependence.{Dependence}
use Rattle.schedule_rows.specs.Items.{part_of}
use Rattle.schedule_rows.specs.Schedule.{row_of}
use Rattle.pluto_search.specs.steps.Sizes.{AreCounts, IsCount}
use Rattle.pluto_search.proofs.restricting.difference_and.Goals as goal

pub difference_numbers-requires : goal.difference_numbers-requires
difference_numbers-requires c =
    let r = row_of c.args.row.now in
    subst AreCounts (sym (c.deref.ensures.value ∙ c.part_at-source.ensures.coefficients))
    (subst (λ (d : Dependence). AreCounts (part_of r d.source.statement).coefficients) (sym c.dep.view_is)
    c.requires.tells.source_counts)

pub shift_between-shift-requires-clause-source : goal.shift_between-shift-requires-clause-source
shift_between-shift-requires-clause-source c =
    let r = row_of c.args.row.now in
    let fits : FitsSigned w128 c.part_at-source.result.now.shift = search rules in
    simp to_z-of_z (subst IsCount (sym c.part_at-source.ensures.shift)
    (subst (λ (d : Dependence). IsCount (part_of r d.source.statement).shift) (sym c.dep.view_is)
    c.requires.tells.source_shift))

pub shift_between-shift-requires-clause-target : goal.shift_between-shift-requires-clause-target
shift_between-shift-requires-clause-target c =
    let r = row_of c.args.row.now in
    let fits : FitsSigned w128 c.part_at-target.result.now.shift = search rules in
    simp to_z-of_z (subst IsCount (sym c.part_at-target.ensures.shift)
    (subst (λ (d : Dependence). IsCount (part_of r d.target.statement).shift) (sym c.dep.view_is)
    c.requires.tells.target_shift))
