use Rattle.whole_numbers.proofs.Common.{rules, ◌≡◌, ◌∙◌, ◌+◌, ap, ap₂, sym, pos, neg_ℤ, ℕ, ℤ, List, get_or, map, arith}
use Rattle.whole_numbers.proofs.Common.{FitsSigned, w128, to_z-of_z, remainder, form_of}
use Rattle.checked_tableau.specs.Moves.{row_at}
use Rattle.checked_tableau.specs.Nodes.{taken_off}
use Rattle.pip_solver.proofs.LineParts.{taken-off-line}
use Rattle.pip_solver.proofs.parts.taken_off.Goals as goal

pub returns : goal.returns
returns c =
    let line = c.line-line.result.now in
    let n = c.unknowns-at.result in
    let row = row_at c.args.rows.now.rows c.args.row in
    let d = get_or line 0 (pos 0) in
    let k : n ≡ c.args.rows.now.unknowns = search rules in
    let f0 : FitsSigned w128 d = search rules in
    let f1 : FitsSigned w128 (get_or line (n + 1) (pos 0)) = search rules in
    let fr : FitsSigned w128 c.opposite_remainder.result = search rules in
    let cs = simp to_z-of_z at c.in-Ok.ensures in
    let r = simp to_z-of_z at c.opposite_remainder.ensures in
    let made = simp to_z-of_z at c.in-Ok-of.ensures.form in
    let form : form_of c.deref.result.now c.opposite_remainder.result ≡ c.in-Ok-of.form = cc in
    let size = c.line-line.ensures.length in
    sym form
    ∙ ap₂ (λ (zs : List ℤ) (z : ℤ). form_of zs z)
    (c.deref.ensures.value ∙ cs ∙ ap (λ (zs : List ℤ). map (λ b. remainder (neg_ℤ b) d) zs) c.split_at.ensures.back) r
    ∙ taken-off-line n line row c.line-line.ensures.line (omega arith) ∙ ap (λ (j : ℕ). taken_off j row) k
