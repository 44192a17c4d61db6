use Rattle.scop_syntax.proofs.Common.{◌≡◌, ◌∙◌, ◌+◌, sym, ap, ℤ, pos, negsuc, List, set, zeros, form_of}
use Rattle.scop_syntax.proofs.Common.{replicate-zeros}
use Rattle.integer_sets.specs.Wide.{Wide}
use Rattle.fm_projection.proofs.RemovedEntries.{same_ok}
use Rattle.split_scan.proofs.ordering.difference.Goals as goal

pub returns : goal.returns
returns c =
    let z = c.in_ok-coefficients.ensures.items_if_clones_equal (λ y e. e) ∙ replicate-zeros c.args.variables in
    let line : c.deref.result.now ≡ set (set (zeros c.args.variables) c.args.place (pos 1)) (c.args.place + 1)
    (negsuc 0) =
    c.deref.ensures.value ∙ ap (λ (zs : List ℤ). set (set zs c.args.place (pos 1)) (c.args.place + 1) (negsuc 0)) z in
    let made = same_ok {E = Wide} (form_of c.deref.result.now (pos 0)) c.in-Ok.form c.in-Ok.ensures.form in
    sym made ∙ ap (λ (zs : List ℤ). form_of zs (pos 0)) line
