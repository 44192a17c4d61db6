use Rattle.dataflow.proofs.Common.{◌+◌, ◌++◌, ◌∙◌, ℕ, List, ap, length, subst, sym, on_ok_weaker, tree_of, Dependence}
use Rattle.dataflow.proofs.Common.{IsKernelModel, one_model, side_of, is_in_role, told_deps, IsSourceOf, IsQuastOver}
use Rattle.dataflow.proofs.Common.{IsToldOver, chosen_deps}
use Rattle.dataflow.proofs.LeafFacts.{all_told, unresolved_told}
use Rattle.dataflow.proofs.QuastSigns.{resolved_tells}
use Rattle.dataflow.proofs.covers.push_role.Goals as goal

pub push_leaves-requires-clause-leaves : goal.push_leaves-requires-clause-leaves
push_leaves-requires-clause-leaves c =
    let way = c.args.way in
    let model = c.args.model.now in
    let reader = side_of c.args.reader.now in
    let k = c.requires.kernel in
    let numbered = c.statements_are_numbered.ensures in
    let tree = tree_of c.in-Resolved.quast in
    let run = subst (IsSourceOf way model c.args.budget reader.statement.number reader.number) c.in-Resolved.is
    c.in_ok-source.ensures.run in
    let told = subst (IsToldOver model (model.parameters + length reader.statement.loops)) c.in-Resolved.is
    c.in_ok-source.ensures.told in
    let tells = resolved_tells way model c.args.budget reader.statement.number reader.number tree run in
    all_told model reader tree
    (subst IsKernelModel (sym k.2) (one_model k.0 k.1 (numbered.same k.0) (numbered.number k.0)))
    c.requires.reader.statement
    (subst (λ (n : ℕ). IsQuastOver model (model.parameters + n) tree) c.requires.reader.pairs.loops told) tells.1 tells.0

pub returns-in-Resolved : goal.returns-in-Resolved
returns-in-Resolved c =
    let way = c.args.way in
    let model = c.args.model.now in
    let reader = side_of c.args.reader.now in
    let run = subst (IsSourceOf way model c.args.budget reader.statement.number reader.number) c.in-Resolved.is
    c.in_ok-source.ensures.run in
    on_ok_weaker c.push_leaves.result
    (λ put. put ∙ ap (λ r. c.args.out.now.items ++ told_deps way model reader r) (sym run))
    c.push_leaves.ensures

pub returns : goal.returns
returns c =
    let way = c.args.way in
    let model = c.args.model.now in
    let reader = side_of c.args.reader.now in
    let old = c.args.out.now.items in
    let why = subst (IsSourceOf way model c.args.budget reader.statement.number reader.number) c.in-Unresolved.is
    c.in_ok-source.ensures.run in
    let role : ℕ → List Dependence → List Dependence = λ n ds. chosen_deps (is_in_role way n reader.number) ds in
    on_ok_weaker c.push_conflicts.result
    (λ put. put ∙ (ap (λ (n : ℕ). old ++ role n c.args.conflicts.now) c.number.ensures
    ∙ (ap (λ (ds : List Dependence). old ++ ds) c.requires.conflicts.role
    ∙ ap (λ (ds : List Dependence). old ++ ds) (sym (unresolved_told way model c.args.budget reader _ _ why)))))
    c.push_conflicts.ensures
