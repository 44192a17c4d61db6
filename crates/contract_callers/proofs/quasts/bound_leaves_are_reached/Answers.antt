use Rattle.scop_syntax.proofs.Common.{[], ◌∷◌, ℤ, arith, refl, Contains, Affine, values_of}
use Rattle.quast_trees.specs.Paths.{bound, leaf_paths, path_to}
use Rattle.quast_trees.specs.Source.{Forms}
use Rattle.quast_trees.specs.Tree.{bind, leaf}
use Rattle.contract_callers.proofs.quasts.bound_leaves_are_reached.Goals as goal

one : (form : Affine) (divisor : ℤ) (l : Forms) → Contains (leaf_paths (bind form divisor (leaf l))) (path_to (bound form divisor ∷ []) l)
one form divisor l = (0, omega arith, refl)

pub returns-clause-found : goal.returns-clause-found
returns-clause-found c = λ l n point speaks.
    c.answers_are_leaves.ensures.found (leaf l) n point l.source (values_of l.forms point) speaks refl

pub returns-clause-answers : goal.returns-clause-answers
returns-clause-answers c = λ form divisor q l n point speaks is.
    c.answers_are_leaves.ensures.answers (bind form divisor (leaf l)) n point (q ∷ []) (path_to (bound form divisor ∷ []) l) speaks
    (one form divisor l) (is, refl)

pub returns-clause-over : goal.returns-clause-over
returns-clause-over c = λ form divisor l n speaks.
    (c.answers_are_leaves.ensures.over (bind form divisor (leaf l)) n (path_to (bound form divisor ∷ []) l) speaks
    (one form divisor l)).1
