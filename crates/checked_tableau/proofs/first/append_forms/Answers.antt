use Rattle.whole_numbers.proofs.Common.{rules, ◌≡◌, ◌+◌, ◌++◌, ◌∷◌, [], length, take, subst, ap, sym, ◌∙◌, arith}
use Rattle.whole_numbers.proofs.Common.{take_more, take_all, Affine}
use Rattle.tableau_rows.specs.Problem.{given_rows}
use Rattle.checked_tableau.specs.Lines.{Holds}
use Rattle.checked_tableau.proofs.Beginnings.{held_form}
use Rattle.checked_tableau.proofs.first.append_forms.Goals as goal

pub loop-form-preserved : goal.loop-form-preserved
loop-form-preserved c count rows held =
    let k = c.loop-form.form-index in
    let f = c.form-item.result in
    let size : length f.coefficients + 2 ≡ c.args.stride = search rules in
    let more : take (k + 1) c.args.forms.now ≡ take k c.args.forms.now ++ f ∷ [] =
    take_more c.args.forms.now k f (omega arith)
    ∙ ap (λ (g : Affine). take k c.args.forms.now ++ g ∷ []) (sym c.form-item.is) in
    held_form c.args.unknowns c.args.stride count k c.loop-form.cells.items c.append_form.new.cells.items rows
    (take k c.args.forms.now) (take (k + 1) c.args.forms.now) f
    c.requires.unknowns size (c.loop-form.invariant count rows held) c.in-Ok.ensures more

pub returns : goal.returns
returns c count rows held =
    let k = c.loop-form.form-index in
    let e : k ≡ length c.args.forms.now = omega arith in
    let all : take k c.args.forms.now ≡ c.args.forms.now = take_all k c.args.forms.now (omega arith) in
    subst (λ n. Holds c.args.stride (count + n) c.loop-form.cells.items
    (rows ++ given_rows c.args.unknowns c.args.forms.now)) e
    (subst (λ fs. Holds c.args.stride (count + k) c.loop-form.cells.items (rows ++ given_rows c.args.unknowns fs)) all
    (c.loop-form.invariant count rows held))
