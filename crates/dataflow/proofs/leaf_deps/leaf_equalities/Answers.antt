use Rattle.dataflow.proofs.Common.{◌≡◌, ◌++◌, ◌∙◌, List, ap, map, Affine, Constraints, LeafPath, loops_of, side_of}
use Rattle.dataflow.proofs.Common.{turn_equalities, cell_equalities, first_form, pair_equalities, second_form}
use Rattle.quast_trees.specs.Source.{Forms}
use Rattle.dataflow.proofs.LeafShapes.{all_placed, both_shown, cells_sized, end_sized, parts_put, parts_sized}
use Rattle.dataflow.proofs.LeafShapes.{turns_sized}
use Rattle.dataflow.proofs.leaf_deps.leaf_equalities.Goals.{In_ok-push_cells}
use Rattle.dataflow.proofs.leaf_deps.leaf_equalities.Goals as goal

shown : (c : In_ok-push_cells) → c.push_cells.new.out.items
    ≡ pair_equalities c.args.layout.binds (side_of c.args.source.now) (side_of c.args.target.now)
    (turn_equalities c.args.layout c.args.from c.args.path.now.leaf.forms)
shown c =
    let l = c.args.layout in
    let s = side_of c.args.source.now in
    let t = side_of c.args.target.now in
    let es = c.equalities.ensures.forms ∙ ap (λ (z : Constraints). z.equalities) c.domain-first.ensures in
    let et = c.equalities-2.ensures.forms ∙ ap (λ (z : Constraints). z.equalities) c.domain-second.ensures in
    let la = c.dimensions.ensures ∙ ap (λ (z : Constraints). z.dimensions) c.domain-first.ensures in
    let lb = c.dimensions-2.ensures ∙ ap (λ (z : Constraints). z.dimensions) c.domain-second.ensures in
    let forms = c.deref.ensures.value ∙ (ap (λ (f : Forms). f.forms) c.leaf.view_is
    ∙ ap (λ (p : LeafPath). p.leaf.forms) c.path.view_is) in
    parts_put (map (first_form l.binds s t) s.statement.domain.equalities)
    (map (second_form l.binds s t) t.statement.domain.equalities)
    (turn_equalities l c.args.from c.args.path.now.leaf.forms) (cell_equalities l.binds s t)
    c.new-all.result.items c.push_both.new.out.items c.push_turn_equalities.new.out.items
    c.push_cells.new.out.items c.new-all.ensures.items
    (both_shown l.binds c.dimensions.result c.dimensions-2.result s t c.equalities.result.now
    c.equalities-2.result.now s.statement.domain.equalities t.statement.domain.equalities c.new-all.result.items
    c.push_both.new.out.items la lb es et c.in_ok-push_both.ensures)
    (c.in_ok-push_turn_equalities.ensures
    ∙ ap (λ (fs : List Affine). c.push_both.new.out.items ++ turn_equalities l c.args.from fs) forms)
    c.in_ok-push_cells.ensures

pub returns-clause-equalities : goal.returns-clause-equalities
returns-clause-equalities c = shown (goal.at.returns-clause-equalities c).In_ok-push_cells

pub returns-clause-sized : goal.returns-clause-sized
returns-clause-sized c =
    let l = c.args.layout in
    let s = side_of c.args.source.now in
    let t = side_of c.args.target.now in
    let can = c.requires in
    let es = c.equalities.ensures.forms ∙ ap (λ (z : Constraints). z.equalities) c.domain-first.ensures in
    let et = c.equalities-2.ensures.forms ∙ ap (λ (z : Constraints). z.equalities) c.domain-second.ensures in
    parts_sized _ (loops_of s) (loops_of t) l.binds l.parameters s.statement.domain.equalities
    t.statement.domain.equalities (turn_equalities l c.args.from c.args.path.now.leaf.forms)
    (cell_equalities l.binds s t) c.push_cells.new.out.items can.all
    (end_sized l.parameters s.statement.domain c.domain-first.result.now c.equalities.result.now
    s.statement.domain.equalities c.domain-first.ensures can.source.parameters es c.equalities.ensures.sized)
    (end_sized l.parameters t.statement.domain c.domain-second.result.now c.equalities-2.result.now
    t.statement.domain.equalities c.domain-second.ensures can.target.parameters et c.equalities-2.ensures.sized)
    (turns_sized l c.args.from c.args.path.now.leaf.forms
    (all_placed l c.args.path.now.leaf.forms can.small can.forms))
    (cells_sized (loops_of s) (loops_of t) l.binds l.parameters s.access.subscripts t.access.subscripts
    can.source.narrow can.target.narrow) (shown (goal.at.returns-clause-sized c).In_ok-push_cells)
