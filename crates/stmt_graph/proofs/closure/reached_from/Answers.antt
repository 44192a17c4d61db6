use Rattle.scop_syntax.proofs.Common.{List, Bool, subst, None, Some}
use Rattle.stmt_graph.specs.steps.Closure.{Leads}
use Rattle.stmt_graph.proofs.Reachability.{grown, grows, unreached_falls}
use Rattle.stmt_graph.proofs.closure.reached_from.Goals as goal

pub loop-next-smaller : goal.loop-next-smaller
loop-next-smaller c =
    let old = c.loop-next.reached.items in
    let lead : Leads c.args.edges.now old (Some c.in-Some.next) =
    subst (λ (z : List Bool). Leads c.args.edges.now z
    (Some c.in-Some.next)) c.deref.ensures.value c.in-Some.ensures in
    unreached_falls old c.in-Some.next lead.3 lead.4

pub loop-next-preserved : goal.loop-next-preserved
loop-next-preserved c =
    let old = c.loop-next.reached.items in
    let lead : Leads c.args.edges.now old (Some c.in-Some.next) =
    subst (λ (z : List Bool). Leads c.args.edges.now z
    (Some c.in-Some.next)) c.deref.ensures.value c.in-Some.ensures in
    grows c.args.n c.args.edges.now c.args.from c.in-Some.next old c.requires.edges c.loop-next.invariant lead

pub returns : goal.returns
returns c =
    let old = c.loop-next.reached.items in
    let lead : Leads c.args.edges.now old None =
    subst (λ (z : List Bool). Leads c.args.edges.now z None) c.deref.ensures.value c.in_default.ensures in
    grown c.args.n c.args.edges.now c.args.from old c.loop-next.invariant lead
