use Rattle.whole_numbers.proofs.Common.{◌∙◌, ◌-◌, ◌<◌, ap, arith}
use Rattle.farkas.specs.Run.{left_run}
use Rattle.farkas.proofs.EliminationRuns.{narrowing-shape, left-halts-first, left-halts-second, Left, left-step}
use Rattle.farkas.proofs.elimination.without_multipliers.Goals as goal
use Rattle.farkas.proofs.elimination.without_multipliers.Goals.{In-Ok-without_implied}

pub returns-in-Err : goal.returns-in-Err
returns-in-Err c =
    let s = c.loop-alloc.system in
    let u = c.args.unknowns in
    let inside : u < s.dimensions = omega arith in
    left-halts-first c.args.budget u s c.in-Err.stuck (left_run c.args.budget u (c.args.system.dimensions - u)
    c.args.system) inside
    c.loop-alloc.invariant.left (c.in-Err.ensures c.args.budget)

pub overflow_sub-own : goal.overflow_sub-own
overflow_sub-own c =
    let s = c.loop-alloc.system in
    let u = c.args.unknowns in
    let inside : u < s.dimensions = omega arith in
    let shape = narrowing-shape (s.dimensions - 1) u s c.in-Ok.next (c.in-Ok.ensures c.args.budget) in
    let dims = shape.0 in
    omega arith

pub without_implied-requires : goal.without_implied-requires
without_implied-requires c =
    let s = c.loop-alloc.system in
    (narrowing-shape (s.dimensions - 1) c.args.unknowns s c.in-Ok.next (c.in-Ok.ensures c.args.budget)).1

pub returns-in-Err-without_implied : goal.returns-in-Err-without_implied
returns-in-Err-without_implied c =
    let s = c.loop-alloc.system in
    let u = c.args.unknowns in
    let inside : u < s.dimensions = omega arith in
    left-halts-second c.args.budget u s c.in-Ok.next c.in-Err-without_implied.stuck (c.dimensions-in-Ok.result - u)
    (left_run c.args.budget u (c.args.system.dimensions - u) c.args.system) inside c.loop-alloc.invariant.left
    (c.in-Ok.ensures c.args.budget) (ap (λ k. k - u) c.dimensions-in-Ok.ensures) c.in-Err-without_implied.ensures

-- what an elimination and the rows dropped behind it leave
left_of : (c : In-Ok-without_implied) → c.args.unknowns < c.loop-alloc.system.dimensions
    → Left c.args.budget c.args.unknowns c.loop-alloc.system c.in-Ok-without_implied.kept
left_of c inside =
    let u = c.args.unknowns in
    left-step c.args.budget u c.loop-alloc.system c.in-Ok.next c.in-Ok-without_implied.kept
    (c.dimensions-in-Ok.result - u) inside (c.in-Ok.ensures c.args.budget)
    (ap (λ k. k - u) c.dimensions-in-Ok.ensures) c.in-Ok-without_implied.ensures

pub loop-alloc-smaller : goal.loop-alloc-smaller
loop-alloc-smaller c =
    let less = (left_of (goal.at.loop-alloc-smaller c).In-Ok-without_implied (omega arith)).less in
    omega arith

pub loop-alloc-preserved : goal.loop-alloc-preserved
loop-alloc-preserved c =
    let left = left_of (goal.at.loop-alloc-preserved c).In-Ok-without_implied (omega arith) in
    let less = left.less in
    record {
      flat = left.flat;
      inside = omega arith;
      left = left.run ∙ c.loop-alloc.invariant.left;
    }
