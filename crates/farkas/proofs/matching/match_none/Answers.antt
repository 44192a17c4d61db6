use Rattle.whole_numbers.proofs.Common.{◌∙◌, subst, List, ℤ, pos, replicate-zeros}
use Rattle.affine_forms.specs.Gives.{Gives}
use Rattle.farkas.specs.Matching.{matched_run}
use Rattle.farkas.specs.declared.matching.Entry.TheVariants as entry
use Rattle.farkas.proofs.matching.match_none.Goals as goal

pub returns-in-Ok : goal.returns-in-Ok
returns-in-Ok c =
    let z = c.in-Ok.ensures.items_if_clones_equal (λ y e. e) ∙ replicate-zeros c.args.unknowns in
    subst (λ (zs : List ℤ). Gives (λ f. f) c.matched.result (matched_run (entry.Coefficient c.args.variable) zs (pos 0)
    c.args.system.now)) z c.matched.ensures
