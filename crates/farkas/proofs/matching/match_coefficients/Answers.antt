use Rattle.whole_numbers.proofs.Common.{rules, ◌≡◌, sym, subst, arith, ℤ, FitsSigned, Ok, w128, to_z-of_z}
use Rattle.affine_forms.specs.Gives.{Fails}
use Rattle.iteration_domains.specs.Dependence.{binds_between}
use Rattle.farkas.specs.Claims.{iterators, linear}
use Rattle.farkas.specs.Matching.{coefficients_run}
use Rattle.farkas.specs.steps.Questions.{with_more}
use Rattle.farkas.proofs.ClaimedForms.{facts}
use Rattle.farkas.proofs.MatchingParts.{together, source_run, target_run, bound_run, linear_run, fails-same}
use Rattle.farkas.proofs.MatchingParts.{fails-first, fails-second, gains-together, gains-same}
use Rattle.farkas.proofs.matching.match_coefficients.Goals as goal
use Rattle.farkas.proofs.matching.match_coefficients.Goals.{In-Ok}

pub match_iterators-requires-clause-place : goal.match_iterators-requires-clause-place
match_iterators-requires-clause-place c =
    let inside = (facts _ _ _ _ c.requires.layout c.requires.one).source_inside in
    omega arith

pub match_iterators-requires-2-clause-place : goal.match_iterators-requires-2-clause-place
match_iterators-requires-2-clause-place c =
    let inside = (facts _ _ _ _ c.requires.layout c.requires.one).target_inside in
    omega arith

pub match_rest-requires-clause-place : goal.match_rest-requires-clause-place
match_rest-requires-clause-place c =
    let inside = (facts _ _ _ _ c.requires.layout c.requires.one).bound in
    omega arith

-- the source's part is formed
formed : (c : In-Ok) → with_more c.args.equalities.now.items
    (source_run c.args.claim c.args.source c.args.layout c.args.system.now) ≡ Ok c.match_iterators.new.equalities.items
formed c =
    let l = c.args.layout in
    let fits : FitsSigned w128 c.source-factor.result = search rules in
    let given = simp to_z-of_z at c.in-Ok.ensures in
    subst (λ (k : ℤ). with_more c.args.equalities.now.items (coefficients_run 0 (iterators l.unknowns l.source k
    c.args.source.loops) c.args.system.now) ≡ Ok c.match_iterators.new.equalities.items)
    c.source-factor.ensures given

pub returns-in-Err : goal.returns-in-Err
returns-in-Err c =
    let l = c.args.layout in
    let s = c.args.system.now in
    let claim = c.args.claim in
    let fits : FitsSigned w128 c.source-factor.result = search rules in
    let first = source_run claim c.args.source l s in
    let second = target_run claim c.args.source c.args.target l s in
    let third = bound_run claim c.args.source c.args.target l s in
    let told = simp to_z-of_z at c.in-Err.ensures in
    let failed = subst (λ (k : ℤ). Fails c.in-Err.stop (coefficients_run 0 (iterators l.unknowns l.source k
    c.args.source.loops) s))
    c.source-factor.ensures told in
    fails-same c.in-Err.stop (together first second third) (coefficients_run 0 (linear claim c.args.source c.args.target
    (binds_between c.args.source c.args.target s) s.parameters) s)
    (sym (linear_run claim c.args.source c.args.target l s c.requires.layout c.requires.iterators))
    (fails-first c.in-Err.stop first second third failed)

pub returns-in-Err-match_iterators : goal.returns-in-Err-match_iterators
returns-in-Err-match_iterators c =
    let l = c.args.layout in
    let s = c.args.system.now in
    let claim = c.args.claim in
    let stop = c.in-Err-match_iterators.stop in
    let fits : FitsSigned w128 c.target-factor.result = search rules in
    let first = source_run claim c.args.source l s in
    let second = target_run claim c.args.source c.args.target l s in
    let third = bound_run claim c.args.source c.args.target l s in
    let told = simp to_z-of_z at c.in-Err-match_iterators.ensures in
    let failed = subst (λ (k : ℤ). Fails stop (coefficients_run c.args.source.loops (iterators l.unknowns l.target k
    c.args.target.loops) s))
    c.target-factor.ensures told in
    fails-same stop (together first second third) (coefficients_run 0 (linear claim c.args.source c.args.target
    (binds_between c.args.source c.args.target s) s.parameters) s)
    (sym (linear_run claim c.args.source c.args.target l s c.requires.layout c.requires.iterators))
    (fails-second stop c.args.equalities.now.items c.match_iterators.new.equalities.items first second third
    (formed (goal.at.returns-in-Err-match_iterators c).In-Ok) failed)

pub returns : goal.returns
returns c =
    let l = c.args.layout in
    let s = c.args.system.now in
    let claim = c.args.claim in
    let old = c.args.equalities.now.items in
    let mid = c.match_iterators.new.equalities.items in
    let late = c.match_iterators-2.new.equalities.items in
    let new = c.match_rest.new.equalities.items in
    let result = c.match_rest.result in
    let fits : FitsSigned w128 c.target-factor.result = search rules in
    let first = source_run claim c.args.source l s in
    let second = target_run claim c.args.source c.args.target l s in
    let third = bound_run claim c.args.source c.args.target l s in
    let given = simp to_z-of_z at c.in-Ok-match_iterators.ensures in
    let gives = subst (λ (k : ℤ). with_more mid (coefficients_run c.args.source.loops (iterators l.unknowns l.target k
    c.args.target.loops) s) ≡ Ok late)
    c.target-factor.ensures given in
    gains-same old new (together first second third) (coefficients_run 0 (linear claim c.args.source c.args.target
    (binds_between c.args.source c.args.target s) s.parameters) s) result
    (sym (linear_run claim c.args.source c.args.target l s c.requires.layout c.requires.iterators))
    (gains-together old mid late new first second third result (formed (goal.at.returns c).In-Ok) gives
    c.match_rest.ensures)
