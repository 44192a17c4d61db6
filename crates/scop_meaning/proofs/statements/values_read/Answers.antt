use Rattle.scop_syntax.proofs.Common.{◌≡◌, ◌∙◌, ◌+◌, ◌<◌, ℕ, List, [], ◌∷◌, ◌++◌, Some, ap, ap₂, arith, length, suc}
use Rattle.scop_syntax.proofs.Common.{sym, slice_get, get_or_from_slice_get, accesses, cell_of, held, Access}
use Rattle.scop_syntax.proofs.Common.{statement_of, in_from_place}
use Rattle.std.proofs.lemmas.List.{map_more}
use Rattle.scop_syntax.specs.Cells.{reads as reads_by}
use Rattle.scop_meaning.proofs.statements.values_read.Goals as goal

pub read-requires-clause-cell : goal.read-requires-clause-cell
read-requires-clause-cell c =
    c.requires.cells.each c.access_at-access.result.now
    (in_from_place (accesses (statement_of c.args.statement.now)) (c.loop-number.number + 1) c.access_at-access.result.now
    c.access_at-access.ensures)

pub loop-number-preserved : goal.loop-number-preserved
loop-number-preserved c =
    let s = statement_of c.args.statement.now in
    let k = c.loop-number.number in
    let access = c.access_at-access.result.now in
    let f : Access → ℕ = λ a. held c.args.layout.now c.args.arrays.now (cell_of a c.args.point.now) in
    let next : suc k ≡ k + 1 = omega arith in
    let there : slice_get (reads_by s) k ≡ Some access = ap (slice_get (accesses s)) next ∙ c.access_at-access.ensures in
    let inside : k < length (reads_by s) = omega (arith, c.loop-number-test.true, c.read_count-number-end.ensures) in
    c.push.ensures.items
    ∙ (ap₂ (λ (vs : List ℕ) (v : ℕ). vs ++ v ∷ []) c.loop-number.invariant
    (c.read.ensures ∙ ap f (sym (get_or_from_slice_get (reads_by s) k access access there)))
    ∙ sym (map_more f (reads_by s) k access inside))
