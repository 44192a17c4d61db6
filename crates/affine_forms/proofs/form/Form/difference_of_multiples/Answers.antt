use Rattle.std.proofs.Common.{rules}
use Rattle.wide_math.specs.Checked.{cross_of}
use Rattle.affine_forms.specs.Runs.{forms_difference_run, multiples_difference_run}
use Rattle.affine_forms.proofs.Exact.{forms_difference_run-exact, gives-ok}
use Rattle.affine_forms.proofs.form.Form.difference_of_multiples.Goals as goal

pub returns-clause-run : goal.returns-clause-run
unfolding forms_difference_run multiples_difference_run
returns-clause-run c =
    let fits_a = c.ranges.a in
    let fits_b = c.ranges.b in
    c.combined.ensures.run (λ x y. cross_of c.args.a x c.args.b y) (λ x y r fits_x fits_y gave. search rules)

pub returns-clause-entries : goal.returns-clause-entries
returns-clause-entries c =
    gives-ok _ _ _ (returns-clause-run c)
    (λ f. forms_difference_run-exact c.args.a c.args.self.now c.args.b c.args.other.now f c.requires)
