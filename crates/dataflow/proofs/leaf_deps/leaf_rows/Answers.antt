use Rattle.dataflow.proofs.Common.{◌≡◌, ◌+◌, ◌++◌, ◌∙◌, ℕ, ap, map, subst, arith, Constraints, variables}
use Rattle.dataflow.proofs.Common.{sized-variables, LeafPath, turns_held, loops_of, side_of, path_rows, first_form}
use Rattle.dataflow.proofs.Common.{pair_rows, second_form, AreOver}
use Rattle.dataflow.proofs.LeafShapes.{both_shown, end_sized, parts_put, parts_sized, path_sized}
use Rattle.dataflow.proofs.leaf_deps.leaf_rows.Goals.{In_ok-push_variables}
use Rattle.dataflow.proofs.leaf_deps.leaf_rows.Goals as goal

shown : (c : In_ok-push_variables) → c.push_variables.new.out.items
    ≡ pair_rows c.args.layout.parameters c.args.layout.binds (side_of c.args.source.now) (side_of c.args.target.now)
    (path_rows c.args.layout 0 c.args.path.now.turns)
shown c =
    let l = c.args.layout in
    let s = side_of c.args.source.now in
    let t = side_of c.args.target.now in
    let rs = c.rows.ensures.forms ∙ ap (λ (z : Constraints). z.rows) c.domain-first.ensures in
    let rt = c.rows-2.ensures.forms ∙ ap (λ (z : Constraints). z.rows) c.domain-second.ensures in
    let ka = c.dimensions.ensures ∙ ap (λ (z : Constraints). z.dimensions) c.domain-first.ensures in
    let kb = c.dimensions-2.ensures ∙ ap (λ (z : Constraints). z.dimensions) c.domain-second.ensures in
    let la = c.dimensions-3.ensures ∙ ap (λ (z : Constraints). z.dimensions) c.domain-first.ensures in
    let lb = c.dimensions-4.ensures ∙ ap (λ (z : Constraints). z.dimensions) c.domain-second.ensures in
    let before : c.dimensions.result + c.dimensions-2.result + l.binds ≡ loops_of s + loops_of t + l.binds =
    omega (arith, ka, kb) in
    let turns = ap turns_held c.deref.ensures.value ∙ ap (λ (p : LeafPath). p.turns) c.path.view_is in
    parts_put (map (first_form l.binds s t) s.statement.domain.rows)
    (map (second_form l.binds s t) t.statement.domain.rows)
    (path_rows l 0 c.args.path.now.turns)
    (variables (loops_of s + loops_of t + l.binds + l.parameters) (loops_of s + loops_of t + l.binds) l.parameters)
    c.new-all.result.items c.push_both.new.out.items c.push_path.new.out.items
    c.push_variables.new.out.items c.new-all.ensures.items
    (both_shown l.binds c.dimensions-3.result c.dimensions-4.result s t c.rows.result.now
    c.rows-2.result.now s.statement.domain.rows t.statement.domain.rows c.new-all.result.items
    c.push_both.new.out.items la lb rs rt c.in_ok-push_both.ensures)
    (c.in_ok-push_path.ensures ∙ ap (λ ts. c.push_both.new.out.items ++ path_rows l 0 ts) turns)
    (c.in_ok-push_variables.ensures
    ∙ ap (λ (n : ℕ). c.push_path.new.out.items ++ variables (n + l.parameters) n l.parameters) before)

pub returns-clause-rows : goal.returns-clause-rows
returns-clause-rows c = shown (goal.at.returns-clause-rows c).In_ok-push_variables

pub returns-clause-sized : goal.returns-clause-sized
returns-clause-sized c =
    let l = c.args.layout in
    let s = side_of c.args.source.now in
    let t = side_of c.args.target.now in
    let can = c.requires in
    let n = loops_of s + loops_of t + l.binds + l.parameters in
    let rs = c.rows.ensures.forms ∙ ap (λ (z : Constraints). z.rows) c.domain-first.ensures in
    let rt = c.rows-2.ensures.forms ∙ ap (λ (z : Constraints). z.rows) c.domain-second.ensures in
    let plain : l.parameters + l.turns ≡ l.parameters + l.turns + 0 = omega arith in
    parts_sized _ (loops_of s) (loops_of t) l.binds l.parameters s.statement.domain.rows
    t.statement.domain.rows (path_rows l 0 c.args.path.now.turns)
    (variables n (loops_of s + loops_of t + l.binds) l.parameters) c.push_variables.new.out.items can.all
    (end_sized l.parameters s.statement.domain c.domain-first.result.now c.rows.result.now
    s.statement.domain.rows c.domain-first.ensures can.source.parameters rs c.rows.ensures.sized)
    (end_sized l.parameters t.statement.domain c.domain-second.result.now c.rows-2.result.now
    t.statement.domain.rows c.domain-second.ensures can.target.parameters rt c.rows-2.ensures.sized)
    (path_sized l 0 c.args.path.now.turns can.small (subst (λ i. AreOver i c.args.path.now.turns) plain can.over)
    (omega (arith, can.binds)))
    (sized-variables n (loops_of s + loops_of t + l.binds) l.parameters)
    (shown (goal.at.returns-clause-sized c).In_ok-push_variables)
