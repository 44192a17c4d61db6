use Rattle.scop_syntax.proofs.Common.{rules, arith, ◌≡◌, ◌∙◌, ap, length, sym}
use Rattle.tile_runner.proofs.Passes.{all_count, all_passes, all_rest, whole}
use Rattle.tile_runner.proofs.workers.run_plan.Goals as goal

pub close-requires-clause-all : goal.close-requires-clause-all
close-requires-clause-all g c =
    let n : c.in_ok-words.passes.len ≡ length c.in_ok-words.passes.items = search rules in
    let l : length c.work_all.new.passes ≡ length c.in_ok-words.passes.items = search rules in
    let k : length c.in_ok-words.passes.items ≡ c.args.workers = search rules in
    ap length (whole c.in_ok-words.passes.items c.work_all.new.passes c.in_ok-words.passes.len n l)
    ∙ (l ∙ (k ∙ sym c.in_ok-words.ensures.key.all))

pub close-requires-clause-over : goal.close-requires-clause-over
close-requires-clause-over g c =
    let n : c.in_ok-words.passes.len ≡ length c.in_ok-words.passes.items = search rules in
    let l : length c.work_all.new.passes ≡ length c.in_ok-words.passes.items = search rules in
    let k : length c.in_ok-words.passes.items ≡ c.args.workers = search rules in
    let t = all_count c.in_ok-words.words c.in_ok-words.passes.items c.work_all.new.passes c.in_ok-words.passes.len n l
    c.work_all.ensures.passes in
    let w = c.requires.some in
    omega (arith, t, k, w)

pub close-requires-clause-passes : goal.close-requires-clause-passes
close-requires-clause-passes g c =
    let n : c.in_ok-words.passes.len ≡ length c.in_ok-words.passes.items = search rules in
    let l : length c.work_all.new.passes ≡ length c.in_ok-words.passes.items = search rules in
    all_passes c.in_ok-words.words c.in_ok-words.passes.items c.work_all.new.passes c.in_ok-words.passes.len n l
    c.work_all.ensures.passes

pub close-requires-clause-rest : goal.close-requires-clause-rest
close-requires-clause-rest g c =
    let n : c.in_ok-words.passes.len ≡ length c.in_ok-words.passes.items = search rules in
    let l : length c.work_all.new.passes ≡ length c.in_ok-words.passes.items = search rules in
    all_rest c.in_ok-words.words c.in_ok-words.passes.items c.work_all.new.passes c.in_ok-words.passes.len n l
    c.work_all.ensures.passes

pub returns-clause-ended : goal.returns-clause-ended
returns-clause-ended g c =
    let n : c.in_ok-words.passes.len ≡ length c.in_ok-words.passes.items = search rules in
    let l : length c.work_all.new.passes ≡ length c.in_ok-words.passes.items = search rules in
    let k : length c.in_ok-words.passes.items ≡ c.args.workers = search rules in
    let t = all_count c.in_ok-words.words c.in_ok-words.passes.items c.work_all.new.passes c.in_ok-words.passes.len n l
    c.work_all.ensures.passes in
    let e = c.close.ensures.ended in
    omega (arith, t, k, e)

pub returns-clause-results : goal.returns-clause-results
returns-clause-results g c =
    let k = c.in_ok-words.ensures.key in
    let n : c.start.new.cells.len ≡ length c.start.new.cells.items = search rules in
    let l = c.close.ensures.cells.long ∙ (c.deref_mut-2.ensures.len ∙ n) in
    rw (whole c.start.new.cells.items c.close.new.cells c.start.new.cells.len n l)
    (rw (k.planned, k.opening) at c.close.ensures.results)

pub returns-clause-cells : goal.returns-clause-cells
returns-clause-cells g c =
    let k = c.in_ok-words.ensures.key in
    let n : c.start.new.cells.len ≡ length c.start.new.cells.items = search rules in
    let l = c.close.ensures.cells.long ∙ (c.deref_mut-2.ensures.len ∙ n) in
    let same : c.deref_mut-2.result.now ≡ c.args.cells.now.items
    = c.deref_mut-2.ensures.value ∙ c.in_ok-words.ensures.kept in
    rw (whole c.start.new.cells.items c.close.new.cells c.start.new.cells.len n l)
    (rw (k.planned, k.opening, same) at c.close.ensures.cells)
