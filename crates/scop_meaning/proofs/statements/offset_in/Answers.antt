use Rattle.scop_syntax.proofs.Common.{ℕ, List, [], ◌<◌, ◌^◌, get_or, length, subst, sym, ap, ◌∙◌, ◌≡◌, rules, Access}
use Rattle.scop_syntax.proofs.Common.{cell_of, cell_count, offset_of}
use Rattle.scop_syntax.proofs.Memory.{cell_array, cell_offset}
use Rattle.scop_meaning.proofs.statements.offset_in.Goals as goal

pub offset_at-requires-clause-count : goal.offset_at-requires-clause-count
offset_at-requires-clause-count c =
    let named = ap (λ (a : Access). get_or c.args.layout.now a.array []) c.access.view_is in
    subst (λ (es : List ℕ). cell_count es < 2 ^ 64) (sym (c.array.ensures ∙ named))
    (c.requires.ready.counts c.args.access.now.array)

pub returns-clause-array : goal.returns-clause-array
returns-clause-array c =
    cell_array c.args.layout.now c.args.arrays.now (cell_of c.args.access.now c.args.point.now) c.requires.ready.shape
    c.requires.cell

pub returns-clause-below : goal.returns-clause-below
returns-clause-below c =
    let cell = cell_of c.args.access.now c.args.point.now in
    let offset : c.offset_at.result ≡ offset_of c.args.layout.now cell = search rules in
    subst (λ n. n < length (get_or c.args.arrays.now c.args.access.now.array [])) (sym offset)
    (cell_offset c.args.layout.now c.args.arrays.now cell c.requires.ready.shape c.requires.cell)
