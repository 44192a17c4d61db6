use Rattle.scop_syntax.proofs.Common.{ap, arith, length, ◌++◌, negsuc, Affine, multiples, zeros, length-multiples}
use Rattle.scop_syntax.proofs.Common.{length-zeros}
use Rattle.std.proofs.lemmas.List.{length-append}
use Rattle.iteration_domains.specs.Dependence.{binds_in}
use Rattle.schedule_rows.specs.Items.{part_of}
use Rattle.schedule_rows.specs.Schedule.{row_of}
use Rattle.pluto_search.proofs.restricting.above_at.Goals as goal

pub with_row-requires : goal.with_row-requires
with_row-requires c =
    let m = c.args.parameters in
    let r = row_of c.args.row.now in
    let d = c.args.dep.now in
    let xs = (part_of r d.source.statement).coefficients in
    let ys = (part_of r d.target.statement).coefficients in
    let e = ap (λ (f : Affine). length f.coefficients) c.in_ok-form.ensures in
    let b = binds_in d in
    let l = length-append (multiples (negsuc 0) xs) (ys ++ (zeros b ++ zeros m)) in
    let k = length-append ys (zeros b ++ zeros m) in
    let j = length-append (zeros b) (zeros m) in
    let y = length-zeros b in
    let n = length-multiples (negsuc 0) xs in
    let z = length-zeros m in
    let a = c.requires.source_loops in
    let s = c.requires.target_loops in
    let t = c.requires.turns in
    let p = c.requires.parameters in
    omega arith
