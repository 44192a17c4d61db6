use Rattle.dataflow.proofs.Common.{◌+◌, ◌-◌, ◌∙◌, All, ap, drop, length, All-take, All-drop, Affine, Constraints}
use Rattle.dataflow.proofs.Common.{Dependence, CanCompose}
use Rattle.dataflow.proofs.PosableCandidates.{own_can}
use Rattle.dataflow.proofs.problem.push_own_rows.Goals.{After-rows-system}
use Rattle.dataflow.proofs.problem.push_own_rows.Goals as goal

-- the conflict's rows can be composed
can : (c : After-rows-system) → All (CanCompose (length c.loops.result.now + (c.args.parameters + length
    c.loops-2.result.now)) c.args.inner.now) c.rows-system.result.now
can c =
    let system = ap (λ (d : Dependence). d.system) c.dep.view_is in
    own_can c.args.way c.args.parameters c.args.writer.now c.args.reader.now c.args.dep.now c.dep.inside.system
    c.args.inner.now (length c.loops.result.now) (length c.loops-2.result.now) c.rows-system.result.now
    c.args.dep.now.system.rows c.requires.can system c.requires.inner c.loops.ensures.dimensions
    c.loops-2.ensures.dimensions c.rows-system.ensures.sized
    (c.rows-system.ensures.forms ∙ ap (λ (z : Constraints). z.rows) system) c.requires.can.small_rows

pub push_composed-requires : goal.push_composed-requires
push_composed-requires c =
    let all = can (goal.at.push_composed-requires c).After-rows-system in
    All-take (CanCompose (length c.loops.result.now + (c.args.parameters + length c.loops-2.result.now))
    c.args.inner.now) c.reader_begins-first.result c.rows-system.result.now all

pub push_composed-requires-2 : goal.push_composed-requires-2
push_composed-requires-2 c =
    let P : Affine → Type 0 = CanCompose (length c.loops.result.now + (c.args.parameters + length
    c.loops-2.result.now)) c.args.inner.now in
    let k = c.reader_begins-first.result + length c.rows-2.result.now in
    let fs = c.rows-system.result.now in
    let all = can (goal.at.push_composed-requires-2 c).After-rows-system in
    All-take P (length fs - c.args.parameters - k) (drop k fs) (All-drop P k fs all)
