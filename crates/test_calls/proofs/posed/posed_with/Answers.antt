-- One dependence and its rows are those that are asked for.
use Rattle.scop_syntax.proofs.Common.{◌≡◌, ◌∷◌, [], ℕ, List, subst, sym, inl, inr, In}
use Rattle.integer_sets.specs.Constraints.{Constraints}
use Rattle.iteration_domains.specs.Dependence.{Dependence}
use Rattle.pluto_systems.specs.Schedule.{loops_in}
use Rattle.pluto_systems.specs.Posing.{IsBetween, IsFarkasOf, RuledDep, ruled_dep, ruled_deps}
use Rattle.test_calls.proofs.posed.posed_with.Goals as goal

abbrev AreRuled : ℕ → List ℕ → List RuledDep → Type 0
AreRuled m loops xs = (x : RuledDep) → In x xs → IsFarkasOf x × IsBetween m loops x.dep

one_ruled : (m : ℕ) (loops : List ℕ) (r : RuledDep) → IsFarkasOf r → IsBetween m loops r.dep
    → AreRuled m loops (r ∷ [])
one_ruled m loops r farkas between x (inl is) =
    subst (λ y. IsFarkasOf y × IsBetween m loops y.dep) (sym is) (farkas, between)
one_ruled m loops r farkas between x (inr none) = absurd none

ruled_as : (m : ℕ) (loops : List ℕ) (ds : List Dependence) (ls bs : List Constraints) (d : Dependence)
    (l b : Constraints) → ds ≡ d ∷ [] → ls ≡ l ∷ [] → bs ≡ b ∷ [] → IsFarkasOf (ruled_dep d l b)
    → IsBetween m loops d → AreRuled m loops (ruled_deps ds ls bs)
ruled_as m loops ds ls bs d l b deps legal bounded farkas between =
    subst (λ es. AreRuled m loops (ruled_deps es ls bs)) (sym deps)
    (subst (λ ks. AreRuled m loops (ruled_deps (d ∷ []) ks bs)) (sym legal)
    (subst (λ cs. AreRuled m loops (ruled_deps (d ∷ []) (l ∷ []) cs)) (sym bounded)
    (one_ruled m loops (ruled_dep d l b) farkas between)))

pub posed-requires-clause-farkas : goal.posed-requires-clause-farkas
posed-requires-clause-farkas c =
    let m = c.args.model.now.parameters in
    let loops = loops_in c.args.model.now in
    ruled_as m loops c.from_ref.result.now c.from_ref-in-Ok-bounded_rows.result.now c.from_ref-in-Ok-bounded_rows-2.result.now c.args.dep.now
    c.in-Ok.legal c.in-Ok-bounded_rows.bounded c.from_ref.ensures.value c.from_ref-in-Ok-bounded_rows.ensures.value
    c.from_ref-in-Ok-bounded_rows-2.ensures.value
    (record { legal = c.in-Ok.ensures.farkas; bounded = c.in-Ok-bounded_rows.ensures.farkas }) c.requires.dep
