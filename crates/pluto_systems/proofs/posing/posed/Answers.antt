use Rattle.scop_syntax.proofs.Common.{ℕ, ℤ, List, ◌++◌, map, Vec, Global, sym, ◌∙◌, ap, subst, All, ◌≤◌}
use Rattle.scop_syntax.proofs.Common.{IfOk-weaker, In}
use Rattle.iteration_domains.specs.Dependence.{Dependence}
use Rattle.pluto_systems.specs.Placing.{columns_of}
use Rattle.pluto_systems.specs.Posing.{RuledDep, IsRuled, IsBetween, growth_from, HasPosed}
use Rattle.pluto_systems.specs.Posing.{posed_system, ruled_deps, vectors_for, AreSmallVectors, HasPosedBehind}
use Rattle.schedule_rows.specs.Schedule.{loops_in}
use Rattle.pluto_systems.proofs.DependenceSystems.{ArePosed, are_posed, posed_sizes, posed_is, is_ruled, ruled_alone}
use Rattle.pluto_systems.proofs.posing.posed.Goals as goal
use Rattle.pluto_systems.proofs.posing.posed.Goals.{In_ok-equalities, After-deref-2}

-- the vectors as plain lists
abbrev views : List (Vec (Vec ℤ Global) Global) → List (List (List ℤ))
views vectors = map (λ (vs : Vec (Vec ℤ Global) Global). map (λ (v : Vec ℤ Global). v.items) vs.items) vectors

ruled : (c : In_ok-equalities) (x : RuledDep)
    → In x (ruled_deps c.args.deps.now c.args.legal.now c.args.bounded.now)
    → IsRuled x × IsBetween c.args.model.now.parameters (loops_in c.args.model.now) x.dep
ruled c x i =
    let f = c.requires.farkas x i in
    (is_ruled x f.0 (c.in_ok-equalities.ensures.sized x i), f.1)

parts : (c : After-deref-2)
    → ArePosed c.args.model.now.parameters (loops_in c.args.model.now)
    (ruled_deps c.args.deps.now c.args.legal.now c.args.bounded.now) (vectors_for (loops_in c.args.model.now)
    (views c.args.rows.now))
    (columns_of c.parameters.result c.deref.result.now) c.in_ok-equalities.equalities.items
    (c.in_ok-equalities.rules.items
    ++ growth_from c.parameters.result c.deref.result.now 0 (views c.deref-2.result.now))
parts c =
    let m = c.args.model.now.parameters in
    let loops = loops_in c.args.model.now in
    let rows = views c.args.rows.now in
    let is = c.in_ok-loops.ensures.loops in
    are_posed m c.parameters.result loops c.deref.result.now
    (ruled_deps c.args.deps.now c.args.legal.now c.args.bounded.now) (vectors_for loops rows)
    (views c.deref-2.result.now) c.in_ok-equalities.equalities.items c.in_ok-equalities.rules.items
    c.parameters.ensures.parameters (c.deref.ensures.value ∙ is)
    (ap views c.deref-2.ensures.value
    ∙ (c.in_ok-vectors.ensures ∙ ap (λ (l : List ℕ). vectors_for l rows) (c.deref.ensures.value ∙ is)))
    c.in_ok-equalities.ensures.equalities c.in_ok-equalities.ensures.rows

pub with_growth-requires-clause-sized : goal.with_growth-requires-clause-sized
with_growth-requires-clause-sized c =
    let m = c.args.model.now.parameters in
    let loops = loops_in c.args.model.now in
    let all = ruled_deps c.args.deps.now c.args.legal.now c.args.bounded.now in
    let vs = vectors_for loops (views c.args.rows.now) in
    let five = subst (All (λ (l : ℕ). l ≤ 5)) c.in_ok-loops.ensures.loops c.in_ok-loops.ensures.few in
    let small : AreSmallVectors loops vs =
    c.kernel_vectors_of_rows_are_small.ensures loops (views c.args.rows.now) five c.requires.rows in
    posed_sizes (parts c) (c.posed_systems_are_sized.ensures m loops all vs (ruled
    (goal.at.with_growth-requires-clause-sized c).In_ok-equalities) small)

pub returns-clause-points : goal.returns-clause-points
returns-clause-points c =
    let m = c.args.model.now.parameters in
    let loops = loops_in c.args.model.now in
    let deps = c.args.deps.now in
    let all = ruled_deps deps c.args.legal.now c.args.bounded.now in
    let rows = views c.args.rows.now in
    let alone = ruled_alone deps c.args.legal.now c.args.bounded.now c.requires.legal c.requires.bounded in
    IfOk-weaker c.with_growth.result _ _ (λ s e.
    subst (HasPosedBehind m loops deps rows)
    (sym (posed_is (parts (goal.at.returns-clause-points c).After-deref-2) e))
    (subst (λ (ds : List Dependence). HasPosedBehind m loops ds rows (posed_system m loops all
    (vectors_for loops rows))) alone
    (c.posed_systems_hold_the_posed_rows.ensures.behind m loops all rows
    (ruled (goal.at.returns-clause-points c).In_ok-equalities) c.requires.rows.size))) c.with_growth.ensures

pub returns-clause-before : goal.returns-clause-before
returns-clause-before c =
    let m = c.args.model.now.parameters in
    let loops = loops_in c.args.model.now in
    let deps = c.args.deps.now in
    let all = ruled_deps deps c.args.legal.now c.args.bounded.now in
    let vs = vectors_for loops (views c.args.rows.now) in
    let alone = ruled_alone deps c.args.legal.now c.args.bounded.now c.requires.legal c.requires.bounded in
    IfOk-weaker c.with_growth.result _ _ (λ s e before v.
    subst (HasPosed m loops deps before)
    (sym (posed_is (parts (goal.at.returns-clause-before c).After-deref-2) e))
    (subst (λ (ds : List Dependence). HasPosed m loops ds before (posed_system m loops all vs)) alone
    (c.posed_systems_hold_the_posed_rows.ensures.before m loops all before vs
    (ruled (goal.at.returns-clause-before c).In_ok-equalities) v))) c.with_growth.ensures
