use Rattle.whole_numbers.proofs.Common.{◌≡◌, ◌∙◌, ap, sym, ℤ, List, pos, set, negsuc, zeros, form_of, replicate-zeros}
use Rattle.pip_solver.proofs.emptiness.bound.Goals as goal

pub returns : goal.returns
returns c =
    let z = c.in-Ok.ensures.items_if_clones_equal (λ y e. e) ∙ replicate-zeros c.args.variables in
    let line : c.deref.result.now ≡ set (zeros c.args.variables) c.args.place (negsuc 0) =
    c.deref.ensures.value ∙ ap (λ (zs : List ℤ). set zs c.args.place (negsuc 0)) z in
    let made : form_of c.deref.result.now (pos 65536) ≡ c.in-Ok-of.form = cc (c.in-Ok-of.ensures.form) in
    sym made ∙ ap (λ (zs : List ℤ). form_of zs (pos 65536)) line
