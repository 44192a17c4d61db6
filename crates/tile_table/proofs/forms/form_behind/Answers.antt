use Rattle.scop_syntax.proofs.Common.{◌≡◌, ◌∙◌, ap, List, [], ◌∷◌, ◌++◌, length, map, arith, rules, ℤ, FitsSigned, w64}
use Rattle.scop_syntax.proofs.Common.{to_z-of_z, length-map, length_push, Head}
use Rattle.std.specs.Int.{int_wrap}
use Rattle.tile_table.specs.steps.Forms.{number_form}
use Rattle.tile_table.proofs.Congruences.{same_wrapped}
use Rattle.tile_table.proofs.Tellings.{coefficients_more, form_tells}
use Rattle.tile_table.proofs.forms.form_behind.Goals as goal

pub loop-at-preserved : goal.loop-at-preserved
loop-at-preserved c =
    let heads : List Head = map (λ h. h.now) c.args.heads.now in
    let form = number_form 5 c.args.before c.args.extents.now c.args.subscripts.now heads c.args.params.now in
    let ks = c.loop-at.coefficients.items in
    let stride = c.stride_of.result in
    let fit : FitsSigned w64 stride = search rules in
    let pushed : c.push.new.self.items ≡ ks ++ stride ∷ [] = simp to_z-of_z at c.in_ok-push.ensures.items in
    let long = ap (λ (l : List ℤ). length l) pushed in
    let grown = length_push ks stride in
    let before = c.loop-at.invariant.count in
    record {
      count = omega (arith, long, grown, before);
      each = coefficients_more form ks c.push.new.self.items c.loop-at.at stride before c.loop-at.invariant.each
          c.stride_of.ensures pushed;
    }

pub returns : goal.returns
returns c =
    let heads : List Head = map (λ h. h.now) c.args.heads.now in
    let r = c.number_in-constant.result in
    let fit : FitsSigned w64 r = search rules in
    let many = length-map c.args.heads.now (λ h. h.now) in
    let few = c.requires.loops in
    let ended = c.loop-at-test.false in
    form_tells 5 c.args.before c.args.extents.now c.args.subscripts.now heads c.args.params.now _
    (omega (arith, many, few))
    (ap (int_wrap w64) (to_z-of_z w64 r fit ∙ c.number_in-constant.ensures) ∙ same_wrapped _)
    (λ i less. c.loop-at.invariant.each i (omega (arith, less, ended)))
