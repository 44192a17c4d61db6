use Rattle.whole_numbers.proofs.Common.{◌∙◌, sym, refl}
use Rattle.scop_syntax.proofs.NamedArrays.{first_reads, second_reads}
use Rattle.scop_syntax.proofs.marking.+reads_array.Goals as goal

pub returns-then-reads_array : goal.returns-then-reads_array
returns-then-reads_array t c =
    c.if-reads_array.true
    ∙ sym (first_reads c.args.array c.args.expression.now c.deref-in-Binary.result.now c.in-Binary.right.value
    c.in-Binary.field-0 c.in-Binary.left c.in-Binary.right c.in-Binary.is c.deref-in-Binary.ensures refl
    (sym c.reads_array-in-Binary.ensures ∙ c.if-reads_array.true))

pub returns-else-reads_array : goal.returns-else-reads_array
returns-else-reads_array t c =
    c.reads_array-else-reads_array.ensures
    ∙ sym (second_reads c.args.array c.args.expression.now c.deref-in-Binary.result.now
    c.deref-else-reads_array.result.now c.in-Binary.field-0 c.in-Binary.left c.in-Binary.right c.in-Binary.is
    c.deref-in-Binary.ensures c.deref-else-reads_array.ensures
    (sym c.reads_array-in-Binary.ensures ∙ c.if-reads_array.false))
