use Rattle.whole_numbers.proofs.Common.{rules, ◌≡◌, ◌∙◌, ◌∷◌, ◌++◌, [], sym}
use Rattle.fractions.specs.Elimination.{coefficient_of}
use Rattle.traced_projections.specs.Tracing.{has_sign}
use Rattle.traced_projections.proofs.Additions.{ahead, with_sign, without_sign}
use Rattle.traced_projections.proofs.rows.signed.Goals as goal
use Rattle.traced_projections.proofs.rows.signed.Goals.{then-has_sign+in_ok-push_row, else-has_sign}

pub loop-row-preserved : goal.loop-row-preserved
loop-row-preserved c =
    let s = c.args.sign in
    let i = c.args.variable in
    let k = c.loop-row.row-index in
    let rows = c.args.rows.now in
    let r = c.row-item.result in
    let old = c.loop-row.out.items in
    let next = ahead k rows r c.loop-row-test.true c.row-item.is in
    let is : c.has_sign.result ≡ has_sign s (coefficient_of i r.form) = search rules in
    elim c.if-has_sign.branch [
      | then-has_sign+in_ok-push_row w ↦
          let made : w.push_row.new.rows.items ≡ old ++ r ∷ [] = search rules in
          rw w.out-is (with_sign s i k rows r next old w.push_row.new.rows.items _ (sym is ∙ w.if-has_sign.true) made
          c.loop-row.invariant)
      | else-has_sign w ↦
          rw w.out-is (without_sign s i k rows r next old _ (sym is ∙ w.if-has_sign.false) c.loop-row.invariant)
    ]
