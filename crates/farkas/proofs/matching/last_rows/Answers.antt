use Rattle.whole_numbers.proofs.Common.{◌∙◌, ap, ℕ, ◌≡◌, ◌+◌, ◌-◌, ◌++◌, sym, subst, arith, pos, List, Ok, Affine}
use Rattle.whole_numbers.proofs.Common.{form_of}
use Rattle.std.proofs.lemmas.List.{append-nil}
use Rattle.fm_projection.proofs.RemovedEntries.{same_ok}
use Rattle.wide_math.specs.declared.Wide.{Wide}
use Rattle.fractions.specs.Farkas.{own_rows}
use Rattle.farkas.specs.Claims.{only}
use Rattle.farkas.proofs.Steps.{own_rows_more}
use Rattle.farkas.proofs.matching.last_rows.Goals as goal

pub loop-at-preserved : goal.loop-at-preserved
loop-at-preserved c =
    let b = c.args.before in
    let k = c.args.count in
    let i = c.loop-at.at in
    let form = form_of (only (b + k) (b + i) (pos 1)) (pos 0) in
    let all = own_rows b k in
    let row = same_ok {E = Wide} form c.in-Ok.row c.in-Ok.ensures in
    subst (λ (zs : List Affine). zs ++ own_rows (b + (i + 1)) (k - (i + 1)) ≡ all) (sym c.in-Ok-push.ensures.items)
    (own_rows_more (b + k) b i (k - i) (k - (i + 1)) c.loop-at.rows.items all c.in-Ok.row (omega arith) (omega arith)
    (sym row) c.loop-at.invariant)

pub returns : goal.returns
returns c =
    let b = c.args.before in
    let i = c.loop-at.at in
    let ended : c.args.count - i ≡ 0 = omega arith in
    ap (λ (fs : List Affine). Ok fs)
    (sym c.loop-at.invariant ∙ ap (λ (n : ℕ). c.loop-at.rows.items ++ own_rows (b + i) n) ended
    ∙ append-nil c.loop-at.rows.items)
