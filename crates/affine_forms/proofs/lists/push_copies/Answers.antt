use Rattle.std.proofs.Common.{◌∙◌, ◌++◌, ◌∷◌, [], ap, sym, append_assoc, take, take_all}
use Rattle.std.proofs.lemmas.List.{take_more}
use Rattle.affine_forms.proofs.lists.push_copies.Goals as goal

pub loop-form-preserved : goal.loop-form-preserved
loop-form-preserved c =
    let l = c.loop-form in
    let x = c.form-item.result in
    let old = c.args.forms.now.items in
    let front = take l.form-index c.args.more.now in
    c.in-Ok.ensures ∙ (ap (λ fs. fs ++ x ∷ []) l.invariant ∙ (append_assoc old front (x ∷ [])
    ∙ ap (λ fs. old ++ fs) (ap (λ y. front ++ y ∷ []) c.form-item.is
    ∙ sym (take_more c.args.more.now l.form-index x c.loop-form-test.true))))

pub returns : goal.returns
returns c =
    let l = c.loop-form in
    l.invariant ∙ ap (λ fs. c.args.forms.now.items ++ fs) (take_all l.form-index c.args.more.now c.loop-form-test.false)
