use Rattle.dataflow.proofs.Common.{◌+◌, ◌-◌, ◌∙◌, All, ap, drop, length, All-take, All-drop, Affine, Constraints}
use Rattle.dataflow.proofs.Common.{Dependence, CanCompose, reader_begins}
use Rattle.dataflow.proofs.PosableCandidates.{own_can, own_put}
use Rattle.dataflow.proofs.problem.push_own_equalities.Goals.{After-equalities-system}
use Rattle.dataflow.proofs.problem.push_own_equalities.Goals as goal

-- the conflict's equalities can be composed
can : (c : After-equalities-system) → All (CanCompose (length c.loops.result.now + (c.args.parameters + length
    c.loops-2.result.now)) c.args.inner.now) c.equalities-system.result.now
can c =
    let system = ap (λ (d : Dependence). d.system) c.dep.view_is in
    own_can c.args.way c.args.parameters c.args.writer.now c.args.reader.now c.args.dep.now c.dep.inside.system
    c.args.inner.now (length c.loops.result.now) (length c.loops-2.result.now) c.equalities-system.result.now
    c.args.dep.now.system.equalities c.requires.can system c.requires.inner c.loops.ensures.dimensions
    c.loops-2.ensures.dimensions c.equalities-system.ensures.sized
    (c.equalities-system.ensures.forms ∙ ap (λ (z : Constraints). z.equalities) system)
    c.requires.can.small_equalities

pub push_flat-requires : goal.push_flat-requires
push_flat-requires c =
    let all = can (goal.at.push_flat-requires c).After-equalities-system in
    All-take (CanCompose (length c.loops.result.now + (c.args.parameters + length c.loops-2.result.now))
    c.args.inner.now) c.reader_begins-first.result c.equalities-system.result.now all

pub push_flat-requires-2 : goal.push_flat-requires-2
push_flat-requires-2 c =
    let P : Affine → Type 0 = CanCompose (length c.loops.result.now + (c.args.parameters + length
    c.loops-2.result.now)) c.args.inner.now in
    let k = c.reader_begins-first.result + length c.equalities-2.result.now in
    let fs = c.equalities-system.result.now in
    let all = can (goal.at.push_flat-requires-2 c).After-equalities-system in
    All-take P (length fs - k) (drop k fs) (All-drop P k fs all)

pub returns : goal.returns
returns c =
    let system = ap (λ (d : Dependence). d.system) c.dep.view_is in
    own_put c.args.way c.args.parameters c.args.writer.now c.args.reader.now c.args.dep.now c.args.inner.now
    (length c.loops.result.now) (length c.loops-2.result.now) c.reader_begins-first.result
    (length c.equalities-2.result.now) c.equalities-system.result.now c.args.rows.now.items c.push_flat.new.out.items
    c.push_flat-2.new.out.items c.requires.inner c.loops.ensures.dimensions c.loops-2.ensures.dimensions
    (c.reader_begins-first.ensures.begins ∙ ap (reader_begins c.args.way)
    (ap length (c.equalities.ensures.forms ∙ ap (λ (z : Constraints). z.equalities) c.domain.ensures)))
    (ap length (c.equalities-2.ensures.forms ∙ ap (λ (z : Constraints). z.equalities) c.domain-2.ensures))
    (c.equalities-system.ensures.forms ∙ ap (λ (z : Constraints). z.equalities) system)
    c.in_ok-push_flat.ensures c.in_ok-push_flat-2.ensures
