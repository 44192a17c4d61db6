use Rattle.whole_numbers.proofs.Common.{rules, ◌≡◌, ◌∙◌, sym, ap, subst, List, ◌++◌, map, Result, Ok, Affine}
use Rattle.wide_math.specs.declared.Wide.{Wide}
use Rattle.affine_forms.specs.Gives.{Fails}
use Rattle.whole_numbers.specs.Content.{lowest_of_form}
use Rattle.fractions.specs.Elimination.{chosen, is_zero, is_not_zero}
use Rattle.fm_projection.specs.Runs.{forms_run, reduced_run}
use Rattle.fm_projection.proofs.JoinedLists.{reduced_parts, reduced_parts-stop, chain-stop}
use Rattle.fm_projection.proofs.rows.reduce_all.Goals as goal

pub returns-in-Err-append_reduced : goal.returns-in-Err-append_reduced
returns-in-Err-append_reduced c =
    reduced_parts-stop c.args.variable c.args.equality.now c.args.before.now c.args.after.now
    c.in-Err-append_reduced.stop
    c.in-Err-append_reduced.ensures

pub returns-in-Err-append_reduced-2 : goal.returns-in-Err-append_reduced-2
returns-in-Err-append_reduced-2 c =
    let i = c.args.variable in
    let before = c.args.before.now in
    let after = c.args.after.now in
    let first : c.append_without.new.out.items ≡ map lowest_of_form (chosen is_zero i before) = search rules in
    let kept = c.in-Ok-append_without.ensures ∙ ap
    (λ (zs : List Affine). zs ++ map lowest_of_form (chosen is_zero i after)) first in
    let new = c.append_reduced.new.out.items in
    let parts = reduced_parts i c.args.equality.now before after c.append_without-2.new.out.items new kept
    c.in-Ok-append_reduced.ensures in
    let run = forms_run (reduced_run i c.args.equality.now) (chosen is_not_zero i after) in
    let stop = c.in-Err-append_reduced-2.stop in
    subst (λ (r : Result (List Affine) Wide). Fails stop r) (sym parts)
    (chain-stop stop run (λ (rest : List Affine). Ok (new ++ rest)) c.in-Err-append_reduced-2.ensures)

pub returns : goal.returns
returns c =
    let i = c.args.variable in
    let before = c.args.before.now in
    let after = c.args.after.now in
    let first : c.append_without.new.out.items ≡ map lowest_of_form (chosen is_zero i before) = search rules in
    let kept = c.in-Ok-append_without.ensures ∙ ap
    (λ (zs : List Affine). zs ++ map lowest_of_form (chosen is_zero i after)) first in
    let new = c.append_reduced.new.out.items in
    let parts = reduced_parts i c.args.equality.now before after c.append_without-2.new.out.items new kept
    c.in-Ok-append_reduced.ensures in
    parts ∙ c.in-Ok-append_reduced-2.ensures
