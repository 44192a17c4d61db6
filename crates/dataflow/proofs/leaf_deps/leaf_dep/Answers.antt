use Rattle.dataflow.proofs.Common.{◌≡◌, ◌∙◌, ℕ, List, ap, ap₂, length, subst, sym, arith, length-map, IfOk-weaker}
use Rattle.dataflow.proofs.Common.{LeafPath, Turn, binds_in, turn_held, turns_held, side_of, path_rows, turn_equalities}
use Rattle.dataflow.proofs.Common.{CanLay, leaf_dep, leaf_layout, pair_dep}
use Rattle.quast_joins.specs.declared.way.Way.{Way}
use Rattle.quast_joins.specs.declared.way.Way.TheVariants.{Earlier, Later}
use Rattle.dataflow.specs.declared.leaf_rows.Layout.{Layout}
use Rattle.dataflow.proofs.LeafPlaces.{earlier_lay, later_lay}
use Rattle.dataflow.proofs.leaf_deps.leaf_dep.Goals.{After-leaf_layout-layout}
use Rattle.dataflow.proofs.leaf_deps.leaf_dep.Goals as goal

pub binds_in-binds-requires : goal.binds_in-binds-requires
binds_in-binds-requires c =
    let turns = ap turns_held c.deref.ensures.value ∙ ap (λ (p : LeafPath). p.turns) c.path.view_is in
    let same = ap (λ (ts : List Turn). length ts) turns in
    let size = length-map c.deref.result.now turn_held in
    omega (arith, same, size, c.requires.leaf.short)

-- the layout of the way
laid : (c : After-leaf_layout-layout) → (way : Way) → c.args.way ≡ way → c.leaf_layout-layout.result
    ≡ leaf_layout way c.args.parameters (binds_in c.args.path.now.turns) (side_of c.args.reader.now)
    (side_of c.args.writer.now)
laid c way is =
    let turns = ap turns_held c.deref.ensures.value ∙ ap (λ (p : LeafPath). p.turns) c.path.view_is in
    let r = side_of c.args.reader.now in
    let w = side_of c.args.writer.now in
    c.leaf_layout-layout.ensures
    ∙ ap₂ (λ (v : Way) (k : ℕ). leaf_layout v c.args.parameters k r w) is
    (c.binds_in-binds.ensures ∙ ap binds_in turns)

pub pair_dep-requires : goal.pair_dep-requires
pair_dep-requires c =
    let r = side_of c.args.reader.now in
    let w = side_of c.args.writer.now in
    subst (λ (l : Layout). CanLay l 0 w r c.args.path.now)
    (sym (laid (goal.at.pair_dep-requires c).After-leaf_layout-layout Later c.in-Later.is))
    (later_lay c.args.parameters r w c.args.path.now c.requires)

pub pair_dep-requires-in-Earlier : goal.pair_dep-requires-in-Earlier
pair_dep-requires-in-Earlier c =
    let r = side_of c.args.reader.now in
    let w = side_of c.args.writer.now in
    subst (λ (l : Layout). CanLay l l.turns r w c.args.path.now)
    (sym (laid (goal.at.pair_dep-requires-in-Earlier c).After-leaf_layout-layout Earlier c.in-Earlier.is))
    (earlier_lay c.args.parameters r w c.args.path.now c.requires)

pub returns-in-Later : goal.returns-in-Later
returns-in-Later c =
    let r = side_of c.args.reader.now in
    let w = side_of c.args.writer.now in
    let p = c.args.path.now in
    IfOk-weaker c.pair_dep.result _ _
    (λ d put. put
    ∙ (ap (λ (l : Layout). pair_dep l.parameters l.binds w r (turn_equalities l 0 p.leaf.forms)
    (path_rows l 0 p.turns)) (laid (goal.at.returns-in-Later c).After-leaf_layout-layout Later c.in-Later.is)
    ∙ ap (λ (v : Way). leaf_dep v c.args.parameters r w p) (sym c.in-Later.is))) c.pair_dep.ensures

pub returns-in-Earlier : goal.returns-in-Earlier
returns-in-Earlier c =
    let r = side_of c.args.reader.now in
    let w = side_of c.args.writer.now in
    let p = c.args.path.now in
    IfOk-weaker c.pair_dep-in-Earlier.result _ _
    (λ d put. put
    ∙ (ap (λ (l : Layout). pair_dep l.parameters l.binds r w (turn_equalities l l.turns p.leaf.forms)
    (path_rows l 0 p.turns)) (laid (goal.at.returns-in-Earlier c).After-leaf_layout-layout Earlier c.in-Earlier.is)
    ∙ ap (λ (v : Way). leaf_dep v c.args.parameters r w p) (sym c.in-Earlier.is))) c.pair_dep-in-Earlier.ensures
