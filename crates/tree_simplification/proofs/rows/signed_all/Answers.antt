use Rattle.scop_syntax.proofs.Common.{rules, ◌+◌, ◌∙◌, ◌++◌, ◌∷◌, [], ℤ, List, pos, ap, sym, append-nil, append_assoc, drop}
use Rattle.scop_syntax.proofs.Common.{drop_all, drop_more, get_or, FitsSigned, w64, w128, to_z-of_z, multiples}
use Rattle.tree_simplification.specs.steps.Context.{sign_of}
use Rattle.tree_simplification.proofs.rows.signed_all.Goals as goal

pub loop-number-preserved : goal.loop-number-preserved
loop-number-preserved c =
    let xs = c.args.numbers.now in
    let i = c.loop-number.number-index in
    let sign = sign_of c.args.turned in
    let out = c.loop-number.out.items in
    let fits : FitsSigned w64 (get_or xs i (pos 0)) = search rules in
    let fits_signed : FitsSigned w128 c.signed.result = search rules in
    let is = simp to_z-of_z at c.signed.ensures in
    let pushed = simp to_z-of_z at c.in_ok-push.ensures.pushed in
    let rest = multiples sign (drop (i + 1) xs) in
    ap (λ (ys : List ℤ). ys ++ rest) pushed
    ∙ (append_assoc out (c.signed.result ∷ []) rest
    ∙ (ap (λ (y : ℤ). out ++ y ∷ rest) is
    ∙ (ap (λ (ys : List ℤ). out ++ multiples sign ys) (sym (drop_more xs i (pos 0) c.loop-number-test.true))
    ∙ c.loop-number.invariant)))

pub returns : goal.returns
returns c =
    let xs = c.args.numbers.now in
    let out = c.loop-number.out.items in
    sym (append-nil out)
    ∙ (ap (λ (ys : List ℤ). out ++ multiples (sign_of c.args.turned) ys)
    (sym (drop_all c.loop-number.number-index xs c.loop-number-test.false)) ∙ c.loop-number.invariant)
