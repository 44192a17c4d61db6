use Rattle.dataflow.proofs.Common.{◌≤◌, ◌∙◌, ℕ, ap, subst, count, tree_of, join_count, node_limit, join-count}
use Rattle.dataflow.proofs.Common.{reader_end, read_variables}
use Rattle.quast_joins.specs.Limits.{IsStopOf}
use Rattle.dataflow.proofs.CandidateRuns.{joins_on, joins_too_many}
use Rattle.dataflow.proofs.reads.joined.Goals as goal

pub returns : goal.returns
returns c =
    let model = c.args.model.now in
    let dep = c.args.dep.now in
    let first = c.args.first.now in
    let second = c.in-Ok.second in
    let nodes = ap count c.in-Ok-join_of.ensures.tree
    ∙ join-count c.args.way first.parameters (tree_of first) (tree_of second) in
    joins_on c.args.way model c.args.budget (read_variables model (reader_end c.args.way dep).statement) first second
    c.in-Ok-join_of.join dep
    c.in-Ok.ensures.0 (subst (λ (k : ℕ). k ≤ node_limit) nodes c.in-Ok-join_of.ensures.few) c.requires.first
    c.in-Ok.ensures.1 c.in-Ok-join_of.ensures.parameters c.in-Ok-join_of.ensures.tree

pub returns-in-Err-Spent : goal.returns-in-Err-Spent
returns-in-Err-Spent c =
    let first = tree_of c.args.first.now in
    let second = tree_of c.in-Ok.second in
    let spent = subst (IsStopOf (join_count first second)) c.in-Err-Spent.field-0-is c.in-Err-Spent.ensures.spent in
    joins_too_many c.args.way c.args.model.now c.args.budget
    (read_variables c.args.model.now (reader_end c.args.way c.args.dep.now).statement)
    first second c.args.dep.now c.in-Err-Spent.nodes c.in-Ok.ensures.0 spent.0 spent.1
