use Rattle.whole_numbers.proofs.Common.{rules, ◌≡◌, sym, subst, arith, ◌^◌, FitsSigned, w128, to_z-of_z, dot}
use Rattle.null_space.specs.Sizes.{IsWithin}
use Rattle.null_space.proofs.Sizes.{within_dot}
use Rattle.null_space.proofs.vectors.made_orthogonal.Goals as goal

pub flattened-requires-clause-a : goal.flattened-requires-clause-a
flattened-requires-clause-a c =
    let fits = c.ranges.a in
    let e : c.args.a ≡ dot c.args.gone.now c.args.row.now = c.requires.product in
    let l = within_dot (2 ^ 47)
    (2 ^ 14) c.args.gone.now c.args.row.now c.requires.gone_size c.requires.coefficients in
    let f = c.requires.few in
    let g = c.requires.gone in
    let size : IsWithin (2 ^ 64) c.args.a = subst (IsWithin (2 ^ 64)) (sym e) (omega (arith, l, f, g)) in
    simp to_z-of_z size

pub flattened-requires-clause-b : goal.flattened-requires-clause-b
flattened-requires-clause-b c =
    let fits : FitsSigned w128 c.dot-b.result = search rules in
    let e : c.dot-b.result ≡ dot c.args.vector.now c.args.row.now = c.dot-b.ensures in
    let l = within_dot (2 ^ 47)
    (2 ^ 14) c.args.vector.now c.args.row.now c.requires.vector_size c.requires.coefficients in
    let f = c.requires.few in
    let size : IsWithin (2 ^ 64) c.dot-b.result = subst (IsWithin (2 ^ 64)) (sym e) (omega (arith, l, f)) in
    simp to_z-of_z size
