use Rattle.dataflow.proofs.Common.{◌≡◌, ◌∙◌, ◌++◌, List, Some, ap, subst, sym, slice_get, flat_map, Access, sides_from}
use Rattle.dataflow.proofs.Common.{pair_can, covers_at}
use Rattle.scop_syntax.proofs.Common.{slice_get-get_or}
use Rattle.conflict_deps.proofs.GatheredDependences.{sides_step}
use Rattle.dataflow.proofs.covers.push_statement.Goals as goal

pub push_access-requires-clause-reader : goal.push_access-requires-clause-reader
push_access-requires-clause-reader c = record {
  statement = c.requires.statement;
  pairs = pair_can c.args.model.now.parameters c.args.statement.now c.loop-number.number _
      c.accesses-accesses.result.now c.accesses-accesses.ensures.dimensions
      c.accesses-accesses.ensures.few c.requires.parameters
      c.accesses-accesses.ensures.narrow c.index-accesses-number.is c.loop-number-test.true;
}

pub push_access-requires-clause-access : goal.push_access-requires-clause-access
push_access-requires-clause-access c =
    subst (λ (fs : List Access). slice_get fs c.loop-number.number ≡ Some c.index-accesses-number.result)
    c.accesses-accesses.ensures.accesses
    (slice_get-get_or c.accesses-accesses.result.now c.loop-number.number c.index-accesses-number.result
    c.loop-number-test.true
    ∙ ap Some (sym c.index-accesses-number.is))

pub loop-number-preserved : goal.loop-number-preserved
loop-number-preserved c =
    let f = covers_at c.args.budget c.args.marked.now c.args.model.now in
    sides_step f c.args.statement.now c.accesses-accesses.result.now c.loop-number.number
    c.index-accesses-number.result c.loop-number.out.items c.push_access.new.out.items
    (c.args.out.now.items ++ flat_map f (sides_from c.args.statement.now 0 c.accesses-accesses.result.now))
    c.index-accesses-number.is c.loop-number-test.true c.loop-number.invariant c.in_ok-push_access.ensures
