-- No system of the index check has a point, so every subscript lies inside.
use Rattle.scop_syntax.proofs.Common.{◌≡◌, ◌∙◌, [], ℤ, List, append-nil, refl, subst, sym, true, All, All-nil}
use Rattle.scop_syntax.proofs.Common.{IfOk-weaker, IsInside, In, program_of, all_in}
use Rattle.pip_solver.specs.Emptiness.{IsBoundedPoint}
use Rattle.polypar.proofs.index_check.lies_inside.Goals as goal

pub returns : goal.returns
returns c =
    let program = program_of c.args.kernel.now in
    let params = c.args.params.now in
    let limits = c.requires in
    let law = c.outside_points_are_failures.ensures in
    let systems = c.deref.result.now in
    let are = c.deref.ensures.value ∙ c.in_ok-systems.ensures in
    IfOk-weaker c.all_have_none.result
    (λ none. none ≡ true → All (λ s. (x p : List ℤ) → IsBoundedPoint s x p → ⊥) systems)
    (λ inside. inside ≡ true → IsInside program params)
    (λ told shows yes. law.inside program params limits.kernel limits.count
    (λ s among xs l not_negative holds.
    all_in (λ t. (x p : List ℤ) → IsBoundedPoint t x p → ⊥) systems s (shows yes) (subst (In s) (sym are) among) xs []
    (record {
      dimensions = l;
      parameters = rw (law.systems program params s among).4.is_system refl;
      not_negative = rw (append-nil xs) not_negative;
      bounded = All-nil _;
      inside = rw (append-nil xs) holds;
    })))
    c.all_have_none.ensures
