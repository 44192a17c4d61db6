use Rattle.whole_numbers.proofs.Common.{rules, ◌≡◌, ◌++◌, ◌-◌, ap, ◌∙◌, take, drop, length, form_of, replicate-zeros}
use Rattle.quast_joins.proofs.JoinForms.{shifted_put}
use Rattle.quast_joins.proofs.forms.move_form.Goals as goal

pub returns : goal.returns
returns c =
    let f = c.args.form.now in
    let n = c.args.variables in
    let k = c.args.more in
    let front = c.in_ok-numbers.numbers.items in
    let a : front ≡ take n f.coefficients = search rules in
    let b : c.extend_from_slice.new.self.items ≡ front ++ c.in_ok-zeros.zeros.items = search rules in
    let zero = c.in_ok-zeros.ensures.items_if_clones_equal (search rules) ∙ replicate-zeros k in
    let d : c.extend_from_slice-2.new.self.items
    ≡ c.extend_from_slice.new.self.items ++ take (length f.coefficients - n) (drop n f.coefficients) = search rules in
    let form : c.in-Ok.form ≡ form_of c.extend_from_slice-2.new.self.items f.constant = search rules in
    shifted_put n k f c.in-Ok.form front c.extend_from_slice.new.self.items c.extend_from_slice-2.new.self.items
    c.requires a (b ∙ ap (λ zs. front ++ zs) zero) d form
