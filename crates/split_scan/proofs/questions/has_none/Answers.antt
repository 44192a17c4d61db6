use Rattle.scop_syntax.proofs.Common.{◌≡◌, true, rules, ap, subst, ◌∙◌, List, [], ℤ, Ok, Affine}
use Rattle.integer_sets.specs.Constraints.{Constraints, system_of}
use Rattle.pip_solver.specs.Emptiness.{IsBoundedPoint}
use Rattle.split_scan.proofs.EmptinessAnswers.{none_of}
use Rattle.split_scan.proofs.questions.has_none.Goals as goal

pub returns-in-Ok : goal.returns-in-Ok
returns-in-Ok c t =
    let d = c.args.dimensions in
    let p = c.args.parameters in
    let rows = c.args.rows.items in
    let e : c.in-Ok.none ≡ true = search rules in
    let made : c.from_parts-system.result ≡ system_of d p [] rows =
    c.from_parts-system.ensures ∙ ap (λ (es : List Affine). system_of d p es rows) c.new.ensures.items in
    none_of d p rows c.requires (subst (λ (s : Constraints). (x q : List ℤ) → IsBoundedPoint s x q → ⊥) made
    (c.in-Ok.ensures.empty (ap Ok e)))
