use Rattle.dataflow.proofs.Common.{rules, ◌≡◌, ◌<◌, ◌∙◌, List, Some, ap, length, subst, sym, Modelled, CanPose}
use Rattle.dataflow.proofs.Common.{reader_end, writer_end}
use Rattle.scop_syntax.proofs.Common.{slice_get_within}
use Rattle.iteration_domains.specs.declared.dep.DepEnd.{DepEnd}
use Rattle.dataflow.proofs.PosableCandidates.{IsReady, item_is, ready}
use Rattle.dataflow.proofs.candidate.solved.Goals.{After-index-statements-reads, After-statements-statements}
use Rattle.dataflow.proofs.candidate.solved.Goals as goal

-- the candidate's statements
found : (c : After-statements-statements) → IsReady c.args.way c.args.model.now c.args.dep.now
found c =
    let k = c.requires.kernel in
    ready c.args.way k.0 c.args.model.now c.args.dep.now k.1 k.2 (c.statements_are_numbered.ensures.same k.0)
    (c.statements_are_numbered.ensures.number k.0) (λ q h. c.statements_are_numbered.ensures.placed k.0 q k.1 h)
    c.systems_have_parts.ensures c.requires.dep

-- both are among them
writer_inside : (c : After-statements-statements)
    → c.writer_end-writes.result.statement < length c.statements-statements.result.now
writer_inside c =
    let r = found c in
    subst (λ (ss : List Modelled). c.writer_end-writes.result.statement < length ss)
    (sym c.statements-statements.ensures.statements)
    (subst (λ (e : DepEnd). e.statement < length c.args.model.now.statements) (sym c.writer_end-writes.ensures)
    (slice_get_within c.args.model.now.statements (writer_end c.args.way c.args.dep.now).statement r.writer r.writes))

reader_inside : (c : After-statements-statements)
    → c.reader_end-reads.result.statement < length c.statements-statements.result.now
reader_inside c =
    let r = found c in
    subst (λ (ss : List Modelled). c.reader_end-reads.result.statement < length ss)
    (sym c.statements-statements.ensures.statements)
    (subst (λ (e : DepEnd). e.statement < length c.args.model.now.statements) (sym c.reader_end-reads.ensures)
    (slice_get_within c.args.model.now.statements (reader_end c.args.way c.args.dep.now).statement r.reader r.reads))

pub offset_bounds-statements-writes : goal.offset_bounds-statements-writes
offset_bounds-statements-writes c =
    let h : c.writer_end-writes.result.statement < length c.statements-statements.result.now =
    writer_inside (goal.at.offset_bounds-statements-writes c).After-statements-statements in
    search rules

pub bounds-statements-writes : goal.bounds-statements-writes
bounds-statements-writes c = writer_inside (goal.at.bounds-statements-writes c).After-statements-statements

pub offset_bounds-statements-reads : goal.offset_bounds-statements-reads
offset_bounds-statements-reads c =
    let h : c.reader_end-reads.result.statement < length c.statements-statements.result.now =
    reader_inside (goal.at.offset_bounds-statements-reads c).After-statements-statements in
    search rules

pub bounds-statements-reads : goal.bounds-statements-reads
bounds-statements-reads c = reader_inside (goal.at.bounds-statements-reads c).After-statements-statements

-- they are those that are found
writer_is : (c : After-index-statements-reads) → (r : IsReady c.args.way c.args.model.now c.args.dep.now)
    → c.index-statements-writes.result ≡ r.writer
writer_is c r =
    item_is c.statements-statements.result.now c.args.model.now.statements c.writer_end-writes.result.statement
    (writer_end c.args.way c.args.dep.now).statement c.index-statements-writes.result r.writer
    c.statements-statements.ensures.statements (ap (λ (e : DepEnd). e.statement) c.writer_end-writes.ensures)
    c.index-statements-writes.is r.writes

reader_is : (c : After-index-statements-reads) → (r : IsReady c.args.way c.args.model.now c.args.dep.now)
    → c.index-statements-reads.result ≡ r.reader
reader_is c r =
    item_is c.statements-statements.result.now c.args.model.now.statements c.reader_end-reads.result.statement
    (reader_end c.args.way c.args.dep.now).statement c.index-statements-reads.result r.reader
    c.statements-statements.ensures.statements (ap (λ (e : DepEnd). e.statement) c.reader_end-reads.ensures)
    c.index-statements-reads.is r.reads

pub solved_between-requires-clause-can : goal.solved_between-requires-clause-can
solved_between-requires-clause-can c =
    let at = goal.at.solved_between-requires-clause-can c in
    let r = found at.After-statements-statements in
    subst (λ (x : Modelled). CanPose c.args.model.now.parameters x c.index-statements-reads.result c.args.dep.now)
    (sym (writer_is at.After-index-statements-reads r))
    (subst (λ (y : Modelled). CanPose c.args.model.now.parameters r.writer y c.args.dep.now)
    (sym (reader_is at.After-index-statements-reads r)) r.can)

pub solved_between-requires-clause-writer : goal.solved_between-requires-clause-writer
solved_between-requires-clause-writer c =
    let at = goal.at.solved_between-requires-clause-writer c in
    let r = found at.After-statements-statements in
    r.writes ∙ ap (λ (x : Modelled). Some x) (sym (writer_is at.After-index-statements-reads r))

pub solved_between-requires-clause-reader : goal.solved_between-requires-clause-reader
solved_between-requires-clause-reader c =
    let at = goal.at.solved_between-requires-clause-reader c in
    let r = found at.After-statements-statements in
    r.reads ∙ ap (λ (x : Modelled). Some x) (sym (reader_is at.After-index-statements-reads r))
