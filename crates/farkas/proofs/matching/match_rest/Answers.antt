use Rattle.whole_numbers.proofs.Common.{rules, ◌≡◌, ◌+◌, ◌-◌, sym, subst, ℕ, ℤ, FitsSigned, Ok, w128, to_z-of_z}
use Rattle.affine_forms.specs.Gives.{Fails}
use Rattle.iteration_domains.specs.Dependence.{binds_between}
use Rattle.farkas.specs.Claims.{bound_factor, nones, parameters}
use Rattle.farkas.specs.Matching.{coefficients_run}
use Rattle.farkas.specs.steps.Questions.{with_more, Gains}
use Rattle.farkas.proofs.MatchingParts.{both, rest_run, fails-both, gains-both, fails-same, gains-same}
use Rattle.farkas.proofs.matching.match_rest.Goals as goal

pub returns-in-Err : goal.returns-in-Err
returns-in-Err c =
    let s = c.args.system.now in
    let n = c.args.unknowns in
    let d = c.args.source.loops + c.args.target.loops in
    let b = binds_between c.args.source c.args.target s in
    let stop = c.in-Err.stop in
    let first = coefficients_run d (nones n b) s in
    let second = coefficients_run s.dimensions (parameters n 0 (bound_factor c.args.claim) s.parameters) s in
    let failed : Fails stop first =
    subst (λ (k : ℕ). Fails stop (coefficients_run d (nones n (k - d)) s)) c.dimensions.ensures c.in-Err.ensures in
    fails-same stop (both first second) _
    (sym (rest_run c.args.claim c.args.source c.args.target n s c.requires.iterators))
    (fails-both stop first second failed)

pub returns : goal.returns
returns c =
    let s = c.args.system.now in
    let n = c.args.unknowns in
    let d = c.args.source.loops + c.args.target.loops in
    let b = binds_between c.args.source c.args.target s in
    let old = c.args.equalities.now.items in
    let mid = c.match_nones.new.equalities.items in
    let new = c.match_parameters.new.equalities.items in
    let fits : FitsSigned w128 c.bound.result = search rules in
    let first = coefficients_run d (nones n b) s in
    let second = coefficients_run s.dimensions (parameters n 0 (bound_factor c.args.claim) s.parameters) s in
    let made : with_more old first ≡ Ok mid =
    subst (λ (k : ℕ). with_more old (coefficients_run d (nones n (k - d)) s) ≡ Ok mid) c.dimensions.ensures
    c.in-Ok.ensures in
    let given = simp to_z-of_z at c.match_parameters.ensures in
    let gives = subst (λ (k : ℤ). Gains mid new c.match_parameters.result (coefficients_run s.dimensions
    (parameters n 0 k s.parameters) s)) c.bound.ensures given in
    gains-same old new (both first second) _ c.match_parameters.result
    (sym (rest_run c.args.claim c.args.source c.args.target n s c.requires.iterators))
    (gains-both old mid new first second c.match_parameters.result made gives)
