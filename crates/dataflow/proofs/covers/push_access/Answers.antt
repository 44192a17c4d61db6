use Rattle.dataflow.proofs.Common.{◌∙◌, ap, subst, sym, is_marked, Access, IsKernelModel, one_model, side_of}
use Rattle.dataflow.proofs.UnmarkedConflicts.{unmarked_held}
use Rattle.dataflow.proofs.covers.push_access.Goals as goal

pub push_roles-requires-clause-conflicts : goal.push_roles-requires-clause-conflicts
push_roles-requires-clause-conflicts c = λ way.
    let k = c.requires.kernel in
    let numbered = c.statements_are_numbered.ensures in
    unmarked_held way c.args.model.now c.args.marked.now (side_of c.args.reader.now) c.args.conflicts.now
    (subst IsKernelModel (sym k.2) (one_model k.0 k.1 (numbered.same k.0) (numbered.number k.0)))
    c.requires.reader.statement c.requires.access
    (sym (ap (λ (g : Access). is_marked c.args.marked.now g.array) c.access.view_is)
    ∙ (sym c.is_marked.ensures ∙ c.if-is_marked.false)) c.requires.conflicts
