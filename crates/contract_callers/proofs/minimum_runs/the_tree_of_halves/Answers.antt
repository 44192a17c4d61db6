use Rattle.scop_syntax.proofs.Common.{[], ◌∷◌, ◌≡◌, refl, pos, negsuc, arith, Ok, form_of}
use Rattle.whole_numbers.specs.Content.{gcd_of}
use Rattle.wide_math.specs.Checked.{checked, cross_of}
use Rattle.tableau_rows.specs.Moves.{crossed_run, cut_run, lowest_row, pivot_run, row_run}
use Rattle.tableau_rows.specs.Run.{next, question}
use Rattle.quast_trees.specs.Source.{unnamed}
use Rattle.quast_trees.specs.Tree.{Tree, bind, leaf}
use Rattle.lexmin_runs.specs.Nodes.{above_run, at_least_run, lexmin_run, opposite_run, step, under_run, whole}
use Rattle.contract_callers.specs.Halves.{doubled, five, given, halved}
use Rattle.contract_callers.proofs.minimum_runs.the_tree_of_halves.Goals as goal

-- it binds the quotient q of p by 2, and x is p - q
abbrev rest : Tree
rest = bind given (pos 2) (leaf (unnamed 2 (form_of (pos 1 ∷ negsuc 0 ∷ []) (pos 0) ∷ [])))

-- in 28 moves
made : lexmin_run 28 1 halved five ≡ Ok (rest, 0)
unfolding above_run at_least_run checked cross_of crossed_run cut_run gcd_of lexmin_run lowest_row next opposite_run
    pivot_run question row_run step under_run whole
made = refl

pub returns-clause-answers : goal.returns-clause-answers
returns-clause-answers c =
    c.trees_are_right.ensures.answers 28 1 1 doubled five rest 0 (refl, tt) (refl, (refl, tt)) made (pos 5 ∷ []) refl
    (omega arith, tt) (omega arith, (omega arith, tt))

pub returns-clause-speaks : goal.returns-clause-speaks
returns-clause-speaks c = λ budget left tree run.
    c.trees_are_right.ensures.speaks budget 1 1 doubled five tree left (refl, tt) (refl, (refl, tt)) run

pub returns-clause-forms : goal.returns-clause-forms
returns-clause-forms c = λ budget left tree run.
    c.trees_are_right.ensures.forms budget 1 1 doubled five tree left (refl, tt) (refl, (refl, tt)) run
