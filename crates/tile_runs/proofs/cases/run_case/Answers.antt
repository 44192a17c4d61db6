use Rattle.scop_syntax.proofs.Common.{rules, ◌≡◌, ◌∙◌, ap, length, map, set, List, ℕ, [], subst, sym, IsShaped, exec}
use Rattle.scop_syntax.proofs.Common.{layout, program_of}
use Rattle.tile_runs.proofs.Cells.{flat_long, shape_executed}
use Rattle.tile_runs.proofs.FirstArray.{all_given, behind, front_within, long_behind, shape_behind, whole}
use Rattle.tile_runs.proofs.cases.run_case.Goals as goal

pub run_shared-requires-clause-cells : goal.run_shared-requires-clause-cells
run_shared-requires-clause-cells g c =
    let old = c.args.case.now.arrays in
    let taken = c.take_first-row.ensures in
    let count : c.len-first.result ≡ length c.take_first-row.result.items = search rules in
    ap length (whole old old c.take_first-row.new.arrays c.take_first-row.result.items [] c.len-first.result taken.first
    taken.arrays count)
    ∙ flat_long c.args.case.now.extents old c.requires.shape

pub give_back-requires-clause-first : goal.give_back-requires-clause-first
give_back-requires-clause-first g c =
    let program = program_of c.args.kernel.now in
    let params = c.args.case.now.params.items in
    let es = layout program params in
    let old = c.args.case.now.arrays in
    let new = exec program params old in
    let shape : IsShaped es old = subst (λ (xs : List (List ℕ)). IsShaped xs old) c.requires.laid c.requires.shape in
    let same : map length new ≡ map length old = shape_executed program params old shape ∙ sym shape in
    let first = c.take_first-row.result.items in
    let others = c.take_first-row.new.arrays in
    let row = c.run_shared.new.row.items in
    let n = c.len-first.result in
    let taken = c.take_first-row.ensures in
    let count : n ≡ length first = search rules in
    let all = c.in-Ok.ensures.executed old c.requires.shape
    (whole old new others first row n taken.first taken.arrays count) in
    front_within old new others first row n taken.first taken.arrays count same all

pub give_back-requires-clause-rest : goal.give_back-requires-clause-rest
give_back-requires-clause-rest g c =
    let program = program_of c.args.kernel.now in
    let params = c.args.case.now.params.items in
    let es = layout program params in
    let old = c.args.case.now.arrays in
    let new = exec program params old in
    let shape : IsShaped es old = subst (λ (xs : List (List ℕ)). IsShaped xs old) c.requires.laid c.requires.shape in
    let same : map length new ≡ map length old = shape_executed program params old shape ∙ sym shape in
    let first = c.take_first-row.result.items in
    let others = c.take_first-row.new.arrays in
    let row = c.run_shared.new.row.items in
    let n = c.len-first.result in
    let taken = c.take_first-row.ensures in
    let count : n ≡ length first = search rules in
    let all = c.in-Ok.ensures.executed old c.requires.shape
    (whole old new others first row n taken.first taken.arrays count) in
    long_behind old new others first row n taken.first taken.arrays count same all

pub returns-in-Ok-clause-arrays : goal.returns-in-Ok-clause-arrays
returns-in-Ok-clause-arrays g c =
    let program = program_of c.args.kernel.now in
    let params = c.args.case.now.params.items in
    let es = layout program params in
    let old = c.args.case.now.arrays in
    let new = exec program params old in
    let shape : IsShaped es old = subst (λ (xs : List (List ℕ)). IsShaped xs old) c.requires.laid c.requires.shape in
    let same : map length new ≡ map length old = shape_executed program params old shape ∙ sym shape in
    let first = c.take_first-row.result.items in
    let others = c.take_first-row.new.arrays in
    let row = c.run_shared.new.row.items in
    let n = c.len-first.result in
    let taken = c.take_first-row.ensures in
    let count : n ≡ length first = search rules in
    let all = c.in-Ok.ensures.executed old c.requires.shape
    (whole old new others first row n taken.first taken.arrays count) in
    c.give_back.ensures (set new 0 [])
    (shape_behind old new others first row n taken.first taken.arrays count same all)
    (behind old new others first row n taken.first taken.arrays count same all)
    ∙ all_given old new others first row n taken.first taken.arrays count same all

pub returns-in-Ok-clause-shape : goal.returns-in-Ok-clause-shape
returns-in-Ok-clause-shape g c =
    let program = program_of c.args.kernel.now in
    let params = c.args.case.now.params.items in
    let arrays = c.args.case.now.arrays in
    subst (IsShaped c.args.case.now.extents) (sym (returns-in-Ok-clause-arrays g c))
    (subst (λ (xs : List (List ℕ)). IsShaped xs (exec program params arrays)) (sym c.requires.laid)
    (shape_executed program params arrays
    (subst (λ (xs : List (List ℕ)). IsShaped xs arrays) c.requires.laid c.requires.shape)))
