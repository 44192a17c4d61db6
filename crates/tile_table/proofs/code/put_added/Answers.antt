use Rattle.scop_syntax.proofs.Common.{◌≡◌, ◌∙◌, ap, ℤ, List, [], drop, length, map, arith, reads_of, reads_with}
use Rattle.scop_syntax.proofs.Common.{added_by, Access, Head, value_on, expression_of, right_of}
use Rattle.scop_syntax.specs.declared.tree.Right.{Right}
use Rattle.tile_table.specs.Points.{point_in}
use Rattle.tile_table.proofs.Compiling.{goes_nowhere, means_so, zero_made}
use Rattle.tile_table.proofs.code.put_added.Goals as goal

pub returns-in-Assigned : goal.returns-in-Assigned
returns-in-Assigned c =
    let heads : List Head = map (λ h. h.now) c.args.heads.now in
    let point : List ℤ → List ℤ = λ turns. point_in heads c.args.params.now turns in
    zero_made (length heads) (λ turns values. added_by (right_of c.args.right.now) (point turns) values)
    c.args.code.now c.args.code.now c.put.new.code c.put.result (goes_nowhere c.args.code.now c.requires.begun)
    (λ turns values. ap (λ (r : Right). added_by (right_of r) (point turns) values) c.in-Assigned.is) c.put.ensures

pub put_value-requires-clause-reads : goal.put_value-requires-clause-reads
put_value-requires-clause-reads c =
    let place : Access = record { array = 0; subscripts = [] } in
    let same : c.args.code.now.reads ≡ length (reads_of (expression_of c.in-Combined.value)) =
    c.requires.reads place
    ∙ ap (λ (r : Right). length (drop 1 (reads_with place (right_of r)))) c.in-Combined.is in
    omega arith

pub returns-in_ok-slot-in-Combined : goal.returns-in_ok-slot-in-Combined
returns-in_ok-slot-in-Combined c =
    let heads : List Head = map (λ h. h.now) c.args.heads.now in
    let point : List ℤ → List ℤ = λ turns. point_in heads c.args.params.now turns in
    let e = expression_of c.in-Combined.value in
    means_so (length heads) (λ turns values. added_by (right_of c.args.right.now) (point turns) values) _
    c.args.code.now c.put_addend.new.code c.put_addend.result
    (λ turns values. ap (λ (r : Right). added_by (right_of r) (point turns) values) c.in-Combined.is)
    (c.put_addend.ensures (length heads) (λ turns values. value_on e (point turns) (drop 0 values)) c.args.code.now
    c.in_ok-slot-in-Combined.ensures.makes)

pub returns-in-ShiftedLeft : goal.returns-in-ShiftedLeft
returns-in-ShiftedLeft c =
    let heads : List Head = map (λ h. h.now) c.args.heads.now in
    let point : List ℤ → List ℤ = λ turns. point_in heads c.args.params.now turns in
    zero_made (length heads) (λ turns values. added_by (right_of c.args.right.now) (point turns) values)
    c.args.code.now c.args.code.now c.put-in-ShiftedLeft.new.code c.put-in-ShiftedLeft.result
    (goes_nowhere c.args.code.now c.requires.begun)
    (λ turns values. ap (λ (r : Right). added_by (right_of r) (point turns) values) c.in-ShiftedLeft.is)
    c.put-in-ShiftedLeft.ensures

pub returns-in-ShiftedRight : goal.returns-in-ShiftedRight
returns-in-ShiftedRight c =
    let heads : List Head = map (λ h. h.now) c.args.heads.now in
    let point : List ℤ → List ℤ = λ turns. point_in heads c.args.params.now turns in
    zero_made (length heads) (λ turns values. added_by (right_of c.args.right.now) (point turns) values)
    c.args.code.now c.args.code.now c.put-in-ShiftedRight.new.code c.put-in-ShiftedRight.result
    (goes_nowhere c.args.code.now c.requires.begun)
    (λ turns values. ap (λ (r : Right). added_by (right_of r) (point turns) values) c.in-ShiftedRight.is)
    c.put-in-ShiftedRight.ensures

pub returns-in-CombinedNarrow : goal.returns-in-CombinedNarrow
returns-in-CombinedNarrow c =
    let heads : List Head = map (λ h. h.now) c.args.heads.now in
    let point : List ℤ → List ℤ = λ turns. point_in heads c.args.params.now turns in
    zero_made (length heads) (λ turns values. added_by (right_of c.args.right.now) (point turns) values)
    c.args.code.now c.args.code.now c.put-in-CombinedNarrow.new.code c.put-in-CombinedNarrow.result
    (goes_nowhere c.args.code.now c.requires.begun)
    (λ turns values. ap (λ (r : Right). added_by (right_of r) (point turns) values) c.in-CombinedNarrow.is)
    c.put-in-CombinedNarrow.ensures

pub returns-in-ShiftedLeftNarrow : goal.returns-in-ShiftedLeftNarrow
returns-in-ShiftedLeftNarrow c =
    let heads : List Head = map (λ h. h.now) c.args.heads.now in
    let point : List ℤ → List ℤ = λ turns. point_in heads c.args.params.now turns in
    zero_made (length heads) (λ turns values. added_by (right_of c.args.right.now) (point turns) values)
    c.args.code.now c.args.code.now c.put-in-ShiftedLeftNarrow.new.code c.put-in-ShiftedLeftNarrow.result
    (goes_nowhere c.args.code.now c.requires.begun)
    (λ turns values. ap (λ (r : Right). added_by (right_of r) (point turns) values) c.in-ShiftedLeftNarrow.is)
    c.put-in-ShiftedLeftNarrow.ensures
