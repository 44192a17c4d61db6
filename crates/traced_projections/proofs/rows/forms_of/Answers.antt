use Rattle.whole_numbers.proofs.Common.{rules, ◌≡◌, ◌∷◌, ◌++◌, [], map_more, refl}
use Rattle.traced_projections.specs.Tracing.{Row}
use Rattle.traced_projections.proofs.rows.forms_of.Goals as goal

pub loop-row-preserved : goal.loop-row-preserved
loop-row-preserved c =
    let r = c.row-item.result in
    let old = c.loop-row.out.items in
    let made : c.push_copy.new.forms.items ≡ old ++ r.form ∷ [] = search rules in
    map_more (λ (s : Row). s.form) c.args.rows.now c.loop-row.row-index r r.form old c.push_copy.new.forms.items _
    c.loop-row-test.true c.row-item.is refl made c.loop-row.invariant
