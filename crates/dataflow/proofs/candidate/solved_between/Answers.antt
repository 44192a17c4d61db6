use Rattle.dataflow.proofs.Common.{◌≡◌, ◌∙◌, ℕ, List, Some, None, ap, ap₂, sym, subst, length, tree_of, source_of}
use Rattle.dataflow.proofs.Common.{IsPosed, HeldOver, fitting, turned_back}
use Rattle.quast_trees.specs.Tree.{named}
use Rattle.iteration_domains.specs.declared.dep.DepEnd.{DepEnd}
use Rattle.dataflow.specs.steps.Steps.{tree_held}
use Rattle.dataflow.proofs.CandidateQuasts.{IsBetween, found_told, leaf_told, posed_over, stop_told}
use Rattle.dataflow.proofs.candidate.solved_between.Goals.{In-Ok}
use Rattle.dataflow.proofs.candidate.solved_between.Goals as goal

-- the problem is that of the two statements
between : (c : In-Ok)
    → IsBetween c.args.way c.args.model.now c.args.dep.now c.args.writer.now c.args.reader.now c.in-Ok.problem
between c =
    record {
      writes = c.requires.writer;
      reads = c.requires.reader;
      posed = subst
          (λ (m : ℕ). IsPosed c.args.way m c.args.writer.now c.args.reader.now c.args.dep.now c.in-Ok.problem)
          c.parameters.ensures.parameters c.in-Ok.ensures;
    }

pub lexmin-requires-clause-rows : goal.lexmin-requires-clause-rows
lexmin-requires-clause-rows c =
    (posed_over c.args.way c.args.model.now.parameters c.args.writer.now c.args.reader.now c.args.dep.now
    c.in-Ok.problem (between c).posed).0

pub lexmin-requires-clause-context : goal.lexmin-requires-clause-context
lexmin-requires-clause-context c =
    (posed_over c.args.way c.args.model.now.parameters c.args.writer.now c.args.reader.now c.args.dep.now
    c.in-Ok.problem (between c).posed).1

pub returns-in-Err-lexmin : goal.returns-in-Err-lexmin
returns-in-Err-lexmin c =
    stop_told c.args.way c.args.model.now c.args.budget c.args.dep.now c.args.writer.now c.args.reader.now
    c.in-Ok.problem c.in-Err-lexmin.stop (between (goal.at.returns-in-Err-lexmin c).In-Ok) c.in-Err-lexmin.ensures.run

pub returns-in-Ok-None : goal.returns-in-Ok-None
returns-in-Ok-None c =
    let least = tree_of c.in-Ok-lexmin.least in
    let run = c.in-Ok-lexmin.ensures.run in
    let n = length c.loops.result.now in
    let none : fitting (turned_back c.args.way n least) ≡ None =
    sym c.in-Ok-None.ensures.tree ∙ ap tree_held c.in-Ok-None.field-0-is in
    leaf_told c.args.way c.args.model.now c.args.budget c.args.dep.now c.args.writer.now c.args.reader.now
    c.in-Ok.problem least run.0 c.too_wide.result (between (goal.at.returns-in-Ok-None c).In-Ok) run.1
    (subst (λ (d : ℕ). fitting (turned_back c.args.way d least) ≡ None) c.loops.ensures.dimensions none)
    (c.too_wide.ensures c.args.budget)

pub returns-in-Ok-named : goal.returns-in-Ok-named
returns-in-Ok-named c =
    let least = tree_of c.in-Ok-lexmin.least in
    let wanted = c.in-Ok-Some.wanted in
    let run = c.in-Ok-lexmin.ensures.run in
    let n = length c.loops.result.now in
    let some : fitting (turned_back c.args.way n least) ≡ Some (tree_of wanted) =
    sym c.in-Ok-Some.ensures.tree ∙ ap tree_held c.in-Ok-Some.field-0-is in
    let over : HeldOver c.in-Ok-lexmin.least.parameters (Some wanted) =
    subst (HeldOver c.in-Ok-lexmin.least.parameters) c.in-Ok-Some.field-0-is c.in-Ok-Some.ensures.parameters in
    let place = ap (λ (e : DepEnd). e.statement) c.writer_end.ensures in
    let source = ap₂ (λ (k : ℕ) (ls : List ℕ). named (source_of k ls) (tree_of wanted)) place
    c.loops-in-Ok-Some.ensures.loops in
    found_told c.args.way c.args.model.now c.args.budget c.args.dep.now c.args.writer.now c.args.reader.now
    c.in-Ok.problem least run.0 wanted c.in-Ok-named.named (between (goal.at.returns-in-Ok-named c).In-Ok) run.1
    (subst (λ (d : ℕ). fitting (turned_back c.args.way d least) ≡ Some (tree_of wanted)) c.loops.ensures.dimensions
    some)
    (c.in-Ok-named.ensures.tree ∙ source) (c.in-Ok-named.ensures.parameters ∙ (over ∙ run.2))
