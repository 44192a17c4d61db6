use Rattle.scop_syntax.proofs.Common.{ℤ, List, ◌++◌, map, Vec, Global, refl, sym, subst, IfOk-weaker}
use Rattle.integer_sets.specs.Constraints.{Constraints}
use Rattle.pluto_systems.specs.Placing.{columns_of}
use Rattle.pluto_systems.specs.Posing.{growth_from, HasPosed, dep_of}
use Rattle.pluto_systems.proofs.DependenceSystems.{ArePosed, are_posed, posed_sizes, posed_is}
use Rattle.pluto_systems.proofs.posing.posed_over.Goals as goal
use Rattle.pluto_systems.proofs.posing.posed_over.Goals.{In_ok-equalities}

-- the vectors as plain lists
abbrev views : List (Vec (Vec ℤ Global) Global) → List (List (List ℤ))
views vectors = map (λ (vs : Vec (Vec ℤ Global) Global). map (λ (v : Vec ℤ Global). v.items) vs.items) vectors

parts : (c : In_ok-equalities)
    → ArePosed c.args.parameters c.args.loops.now c.args.ruled.now (views c.args.vectors.now)
    (columns_of c.args.parameters c.args.loops.now) c.in_ok-equalities.equalities.items
    (c.in_ok-equalities.rows.items ++ growth_from c.args.parameters c.args.loops.now 0 (views c.args.vectors.now))
parts c =
    are_posed c.args.parameters c.args.parameters c.args.loops.now c.args.loops.now c.args.ruled.now
    (views c.args.vectors.now) (views c.args.vectors.now) c.in_ok-equalities.equalities.items
    c.in_ok-equalities.rows.items refl refl refl c.in_ok-equalities.ensures.equalities
    c.in_ok-equalities.ensures.rows

pub with_growth-requires-clause-sized : goal.with_growth-requires-clause-sized
with_growth-requires-clause-sized c =
    let m = c.args.parameters in
    let loops = c.args.loops.now in
    let ruled = c.args.ruled.now in
    let vs = views c.args.vectors.now in
    posed_sizes (parts (goal.at.with_growth-requires-clause-sized c).In_ok-equalities)
    (c.posed_systems_are_sized.ensures m loops ruled vs c.requires.between c.requires.vectors)

pub returns-clause-points : goal.returns-clause-points
returns-clause-points c =
    let m = c.args.parameters in
    let loops = c.args.loops.now in
    let ruled = c.args.ruled.now in
    let vs = views c.args.vectors.now in
    IfOk-weaker c.with_growth.result _ _ (λ s e before v.
    subst (λ (t : Constraints). HasPosed m loops (map dep_of ruled) before t)
    (sym (posed_is (parts (goal.at.returns-clause-points c).In_ok-equalities) e))
    (c.posed_systems_hold_the_posed_rows.ensures.before m loops ruled before vs c.requires.between v))
    c.with_growth.ensures
