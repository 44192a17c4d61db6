use Rattle.scop_syntax.proofs.Common.{rules, ◌≡◌, ℤ, List, length, set, ap, ◌∙◌, to_z, of_z, FitsSigned, arith, w128}
use Rattle.scop_syntax.proofs.Common.{to_z-of_z}
use Rattle.std.proofs.Math.ListN.{length-set}
use Rattle.affine_forms.proofs.Steps.{refill_same}
use Rattle.dataflow.specs.LeafRows.{placed_numbers}
use Rattle.dataflow.proofs.LeafForms.{length-placed}
use Rattle.dataflow.proofs.leaf_rows.tied_numbers.Goals as goal

pub bounds-deref_mut-at : goal.bounds-deref_mut-at
bounds-deref_mut-at c =
    let size = length-placed c.args.layout c.args.numbers.now c.requires.numbers in
    let same = ap (λ (xs : List ℤ). length xs) (c.deref_mut.ensures.value ∙ c.in_ok-all.ensures) in
    omega (arith, size, same, c.requires.at)

pub returns : goal.returns
returns c =
    let at = c.args.at in
    let fits : FitsSigned w128 c.args.factor = search rules in
    let z = to_z w128 (of_z w128 c.args.factor) in
    let held : z ≡ c.args.factor = to_z-of_z w128 c.args.factor fits in
    let made = c.in_ok-all.all.items in
    let term = set c.deref_mut.result.now at z in
    let sized : length term ≡ length made = length-set c.deref_mut.result.now at z
    ∙ ap (λ (xs : List ℤ). length xs) c.deref_mut.ensures.value in
    refill_same made term sized
    ∙ (ap (λ (xs : List ℤ). set xs at z) (c.deref_mut.ensures.value ∙ c.in_ok-all.ensures)
    ∙ ap (set (placed_numbers c.args.layout c.args.numbers.now) at) held)
