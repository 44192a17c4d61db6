use Rattle.whole_numbers.proofs.Common.{rules, ◌≡◌, ◌+◌, ◌-◌, ◌++◌, ◌∷◌, [], List, arith, pos, set, sym, subst, negsuc}
use Rattle.whole_numbers.proofs.Common.{zeros, Affine, form_of}
use Rattle.checked_tableau.specs.Emptiness.{bound_rows}
use Rattle.pip_solver.proofs.PosedRows.{bounds-more}
use Rattle.pip_solver.proofs.emptiness.push_bounds.Goals as goal

pub loop-place-preserved : goal.loop-place-preserved
loop-place-preserved c =
    let v = c.args.variables in
    let i = c.loop-place.place in
    let old = c.loop-place.rows.items in
    let pushed : c.push.new.list.items ≡ old ++ form_of (set (zeros v) i (negsuc 0)) (pos 65536) ∷ [] =
    subst (λ (f : Affine). c.push.new.list.items ≡ old ++ f ∷ []) c.in-Ok.ensures (search rules) in
    subst (λ (rs : List Affine). rs ++ bound_rows v (i + 1) (v - (i + 1))
    ≡ c.args.rows.now.items ++ bound_rows v c.args.first (v - c.args.first)) (sym pushed)
    (bounds-more v i (v - i) (v - (i + 1)) old (c.args.rows.now.items ++ bound_rows v c.args.first (v - c.args.first))
    (omega arith) c.loop-place.invariant)
