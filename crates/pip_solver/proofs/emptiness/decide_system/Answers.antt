use Rattle.whole_numbers.proofs.Common.{◌≡◌, ◌∙◌, ◌++◌, ap, sym, ℕ, List, Ok, Affine}
use Rattle.checked_tableau.specs.Emptiness.{bound_rows, posed_run}
use Rattle.pip_solver.proofs.Decisions.{posed_parts, posed_flat, posed_sized, empties_rows}
use Rattle.pip_solver.proofs.emptiness.decide_system.Goals as goal
use Rattle.pip_solver.proofs.emptiness.decide_system.Goals.{Then-parameters-eq0, In-Ok}

-- the posed rows, without parameters and with them
flat : (c : Then-parameters-eq0) → posed_run c.args.system.now ≡ Ok (c.args.front.items ++ c.args.own.now)
flat c =
    posed_flat c.args.system.now c.args.front.items c.args.own.now
    (sym c.parameters.ensures ∙ c.if-parameters-eq0.true) c.requires.own c.requires.front

bounded : (c : In-Ok) (own : List Affine) → own ≡ c.in-Ok.bounded.items
    → posed_run c.args.system.now ≡ Ok (c.args.front.items ++ own)
bounded c own is =
    let s = c.args.system.now in
    posed_parts s c.args.front.items own c.requires.front
    (is ∙ c.in-Ok.ensures ∙ ap (λ (k : ℕ). s.rows ++ bound_rows k s.dimensions s.parameters) c.requires.unknowns)

pub decide-requires : goal.decide-requires
decide-requires c =
    let at = (goal.at.decide-requires c).Then-parameters-eq0 in
    posed_sized c.args.system.now c.args.unknowns (c.args.front.items ++ c.args.own.now) c.requires.sized (flat at)
    c.requires.unknowns

pub returns-then-parameters-eq0 : goal.returns-then-parameters-eq0
returns-then-parameters-eq0 c =
    let at = (goal.at.returns-then-parameters-eq0 c).Then-parameters-eq0 in
    empties_rows c.args.budget c.args.unknowns c.args.system.now (c.args.front.items ++ c.args.own.now)
    c.decide.result (flat at) c.requires.unknowns c.decide.ensures

pub decide-requires-in-Ok : goal.decide-requires-in-Ok
decide-requires-in-Ok c =
    let at = (goal.at.decide-requires-in-Ok c).In-Ok in
    posed_sized c.args.system.now c.args.unknowns (c.args.front.items ++ c.deref.result.now) c.requires.sized
    (bounded at c.deref.result.now c.deref.ensures.value) c.requires.unknowns

pub returns-in-Ok : goal.returns-in-Ok
returns-in-Ok c =
    let at = (goal.at.returns-in-Ok c).In-Ok in
    empties_rows c.args.budget c.args.unknowns c.args.system.now (c.args.front.items ++ c.deref.result.now)
    c.decide-in-Ok.result (bounded at c.deref.result.now c.deref.ensures.value) c.requires.unknowns
    c.decide-in-Ok.ensures
