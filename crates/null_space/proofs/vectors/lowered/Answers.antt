use Rattle.whole_numbers.proofs.Common.{◌≡◌, sym, ◌∙◌, ap, arith, ℤ, List, content, content_from, lowest_stays}
use Rattle.null_space.proofs.vectors.lowered.Goals as goal

pub returns-then-divisor-le1 : goal.returns-then-divisor-le1
returns-then-divisor-le1 c =
    let e : c.content-divisor.result ≡ content c.args.row.items =
    c.content-divisor.ensures ∙ ap (λ (xs : List ℤ). content_from 0 xs) c.deref.ensures.value in
    let l = c.if-divisor-le1.true in
    sym (lowest_stays c.args.row.items (omega (arith, e, l)))
