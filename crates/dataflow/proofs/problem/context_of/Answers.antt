use Rattle.dataflow.proofs.Common.{◌∙◌, ap, length, Constraints}
use Rattle.dataflow.proofs.PosableCandidates.{reader_can}
use Rattle.dataflow.proofs.problem.context_of.Goals as goal

pub push_flat-requires : goal.push_flat-requires
push_flat-requires c =
    reader_can c.args.parameters (length c.loops-turns.result.now) c.args.reader.now c.domain-domain.result.now
    c.deref.result.now c.equalities.result.now c.args.reader.now.domain.equalities c.requires.few
    c.loops-turns.ensures.few c.domain-domain.ensures c.requires.parameters c.loops-turns.ensures.dimensions
    (c.deref.ensures.value ∙ c.in_ok-inner.ensures) c.equalities.ensures.sized
    (c.equalities.ensures.forms ∙ ap (λ (z : Constraints). z.equalities) c.domain-domain.ensures)
    c.requires.equalities

pub push_composed-requires : goal.push_composed-requires
push_composed-requires c =
    reader_can c.args.parameters (length c.loops-turns.result.now) c.args.reader.now c.domain-domain.result.now
    c.deref-2.result.now c.rows.result.now c.args.reader.now.domain.rows c.requires.few
    c.loops-turns.ensures.few c.domain-domain.ensures c.requires.parameters c.loops-turns.ensures.dimensions
    (c.deref-2.ensures.value ∙ c.in_ok-inner.ensures) c.rows.ensures.sized
    (c.rows.ensures.forms ∙ ap (λ (z : Constraints). z.rows) c.domain-domain.ensures) c.requires.rows
