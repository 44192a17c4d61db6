use Rattle.std.proofs.Common.{
  ◌≡◌,
  ℕ,
  ◌+◌,
  ◌<◌,
  true,
  false,
  Some,
  length,
  get_or,
  ap,
  ap₂,
  sym,
  ◌∙◌,
  arith,
  rules,
  to_z,
  of_z,
}
use Rattle.scop_syntax.proofs.Common.{ℤ, pos, FitsSigned, w64, to_z-of_z, length-map, value_of, values}
use Rattle.scop_syntax.specs.Failures.{is_within}
use Rattle.scop_meaning.specs.declared.index.Outside.{Outside}
use Rattle.scop_meaning.specs.steps.Conditions.{first_of}
use Rattle.scop_meaning.proofs.Offsets.{subscript_at}
use Rattle.scop_meaning.proofs.Checks.{dimension_passes, dimension_fails}
use Rattle.scop_meaning.proofs.index.outside_dimension.Goals as goal

pub returns-then-not-lies_in : goal.returns-then-not-lies_in
returns-then-not-lies_in c = λ v n.
    let ss = values c.args.subscripts.now c.args.point.now in
    let es = c.args.sizes.now in
    let at = c.loop-at.at in
    let z = c.exact_at-value.result in
    let e = get_or es at 0 in
    let l = length-map c.args.subscripts.now (λ form. value_of form c.args.point.now) in
    let rank = c.requires.rank in
    let test = c.loop-at-test.true in
    let h : at < length ss = omega arith in
    let k : at < length es = omega arith in
    let s = subscript_at c.args.subscripts.now c.args.point.now at c.index-subscripts-at.result
    c.index-subscripts-at.is test in
    let is : z ≡ get_or ss at (pos 0) = c.exact_at-value.ensures ∙ sym s in
    let fit : FitsSigned w64 z = search rules in
    let back : to_z w64 (of_z w64 z) ≡ get_or ss at (pos 0) = to_z-of_z w64 z fit ∙ is in
    let outside : is_within (get_or ss at (pos 0)) e ≡ false =
    ap (λ y. is_within y e) (sym back) ∙ (sym c.lies_in.ensures ∙ c.if-not-lies_in.true) in
    let told : ℕ → ℤ → Outside = λ m y. record
    { stmt = m; access = c.args.access; dim = at + 1; value = y; extent = e } in
    ap₂ (λ (m : ℕ) (y : ℤ). Some (told m y)) (sym n) back
    ∙ (sym (dimension_fails v c.args.access at ss es h k outside) ∙ c.loop-at.invariant v n)

pub loop-at-preserved : goal.loop-at-preserved
loop-at-preserved c = λ v n.
    let ss = values c.args.subscripts.now c.args.point.now in
    let es = c.args.sizes.now in
    let at = c.loop-at.at in
    let z = c.exact_at-value.result in
    let e = get_or es at 0 in
    let l = length-map c.args.subscripts.now (λ form. value_of form c.args.point.now) in
    let rank = c.requires.rank in
    let test = c.loop-at-test.true in
    let h : at < length ss = omega arith in
    let k : at < length es = omega arith in
    let s = subscript_at c.args.subscripts.now c.args.point.now at c.index-subscripts-at.result
    c.index-subscripts-at.is test in
    let is : z ≡ get_or ss at (pos 0) = c.exact_at-value.ensures ∙ sym s in
    let fit : FitsSigned w64 z = search rules in
    let back : to_z w64 (of_z w64 z) ≡ get_or ss at (pos 0) = to_z-of_z w64 z fit ∙ is in
    let inside : is_within (get_or ss at (pos 0)) e ≡ true =
    ap (λ y. is_within y e) (sym back) ∙ (sym c.lies_in.ensures ∙ c.if-not-lies_in.false) in
    ap first_of (sym (dimension_passes v c.args.access at ss es h k inside)) ∙ c.loop-at.invariant v n
