use Rattle.scop_syntax.proofs.Common.{◌≡◌, ◌∙◌, ap, refl, ℕ, ℤ, List, [], length, map, arith, Ok}
use Rattle.scop_syntax.proofs.Common.{reads_of, reads_with, Access, Head, moved_left, moved_right, stored_by}
use Rattle.scop_syntax.proofs.Common.{expression_of, right_of}
use Rattle.scop_syntax.specs.declared.tree.Right.{Right}
use Rattle.tile_table.specs.declared.code.Change.TheVariants.{ShiftedLeft, ShiftedRight, Narrowed}
use Rattle.tile_table.specs.steps.Codes.{MakesStored}
use Rattle.tile_table.specs.Points.{point_in}
use Rattle.tile_table.proofs.Compiling.{change_made, moved_made}
use Rattle.tile_table.proofs.code.put_right.Goals as goal

pub put_value-requires-clause-reads : goal.put_value-requires-clause-reads
put_value-requires-clause-reads c =
    let place : Access = record { array = 0; subscripts = [] } in
    let same : c.args.code.now.reads ≡ length (reads_of (expression_of c.in-Assigned.value)) =
    c.requires.reads place ∙ ap (λ (r : Right). length (reads_with place (right_of r))) c.in-Assigned.is in
    omega arith

pub put_combined-requires-clause-reads : goal.put_combined-requires-clause-reads
put_combined-requires-clause-reads c =
    let place : Access = record { array = 0; subscripts = [] } in
    c.requires.reads place ∙ ap (λ (r : Right). length (reads_with place (right_of r))) c.in-Combined.is

pub returns-in-Combined : goal.returns-in-Combined
returns-in-Combined c = rw (ap right_of c.in-Combined.is) c.put_combined.ensures

pub returns-in-ShiftedLeft : goal.returns-in-ShiftedLeft
returns-in-ShiftedLeft c =
    let heads : List Head = map (λ h. h.now) c.args.heads.now in
    let count = c.in-ShiftedLeft.count in
    moved_made c.args.params.now heads (right_of c.args.right.now) (moved_left count) (ShiftedLeft count)
    c.args.code.now c.put.new.code c.put.result (ap right_of c.in-ShiftedLeft.is) c.requires.begun c.requires.reads
    (λ place. refl) (λ p vs. refl) c.put.ensures

pub returns-in-ShiftedRight : goal.returns-in-ShiftedRight
returns-in-ShiftedRight c =
    let heads : List Head = map (λ h. h.now) c.args.heads.now in
    let count = c.in-ShiftedRight.count in
    moved_made c.args.params.now heads (right_of c.args.right.now) (moved_right count) (ShiftedRight count)
    c.args.code.now c.put-in-ShiftedRight.new.code c.put-in-ShiftedRight.result (ap right_of c.in-ShiftedRight.is)
    c.requires.begun c.requires.reads (λ place. refl) (λ p vs. refl) c.put-in-ShiftedRight.ensures

pub put_combined-requires-in-CombinedNarrow-clause-reads : goal.put_combined-requires-in-CombinedNarrow-clause-reads
put_combined-requires-in-CombinedNarrow-clause-reads c =
    let place : Access = record { array = 0; subscripts = [] } in
    c.requires.reads place ∙ ap (λ (r : Right). length (reads_with place (right_of r))) c.in-CombinedNarrow.is

pub returns-in_ok-slot-in-CombinedNarrow : goal.returns-in_ok-slot-in-CombinedNarrow
returns-in_ok-slot-in-CombinedNarrow c =
    let heads : List Head = map (λ h. h.now) c.args.heads.now in
    let point : List ℤ → List ℤ = λ turns. point_in heads c.args.params.now turns in
    let slot = c.in_ok-slot-in-CombinedNarrow.slot in
    change_made (length heads) (λ turns values. stored_by (right_of c.args.right.now) (point turns) values) _
    Narrowed c.args.code.now c.put_combined-in-CombinedNarrow.new.code
    c.put-in-CombinedNarrow.new.code slot c.put-in-CombinedNarrow.result c.in_ok-slot-in-CombinedNarrow.ensures
    (λ turns values. ap (λ (r : Right). stored_by (right_of r) (point turns) values) c.in-CombinedNarrow.is)
    c.put-in-CombinedNarrow.ensures

pub returns-in_ok-slot-in-ShiftedLeftNarrow : goal.returns-in_ok-slot-in-ShiftedLeftNarrow
returns-in_ok-slot-in-ShiftedLeftNarrow c =
    let heads : List Head = map (λ h. h.now) c.args.heads.now in
    let point : List ℤ → List ℤ = λ turns. point_in heads c.args.params.now turns in
    let slot = c.in_ok-slot-in-ShiftedLeftNarrow.slot in
    let count = c.in-ShiftedLeftNarrow.count in
    let mid = c.put-in-ShiftedLeftNarrow.new.code in
    let moved : MakesStored c.args.params.now heads (moved_left count) c.args.code.now mid slot =
    moved_made {E = ℕ} c.args.params.now heads (moved_left count) (moved_left count)
    (ShiftedLeft count) c.args.code.now mid (Ok slot) refl c.requires.begun
    (λ place. c.requires.reads place
    ∙ ap (λ (r : Right). length (reads_with place (right_of r))) c.in-ShiftedLeftNarrow.is)
    (λ place. refl) (λ p vs. refl) c.in_ok-slot-in-ShiftedLeftNarrow.ensures in
    change_made (length heads) (λ turns values. stored_by (right_of c.args.right.now) (point turns) values) _
    Narrowed c.args.code.now mid c.put-in-ShiftedLeftNarrow-2.new.code slot c.put-in-ShiftedLeftNarrow-2.result moved
    (λ turns values.
    ap (λ (r : Right). stored_by (right_of r) (point turns) values) c.in-ShiftedLeftNarrow.is ∙ omega arith)
    c.put-in-ShiftedLeftNarrow-2.ensures
