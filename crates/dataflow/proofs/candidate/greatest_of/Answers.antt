use Rattle.dataflow.proofs.Common.{◌≡◌, ◌++◌, ◌∙◌, ℕ, List, Ok, ap, sym, subst, Affine, Suits, tree_of, all_below, top}
use Rattle.dataflow.proofs.Common.{HeldOver, fitting}
use Rattle.quast_trees.specs.Mapped.{map_run}
use Rattle.dataflow.proofs.Fits.{suits_below}
use Rattle.dataflow.proofs.candidate.greatest_of.Goals.{After-deref}
use Rattle.dataflow.proofs.candidate.greatest_of.Goals as goal

-- the forms are 2^46 less each
forms : (c : After-deref) → c.deref.result.now ≡ all_below top c.args.unknowns 0 c.args.unknowns
forms c =
    let d = c.args.unknowns in
    c.deref.ensures.value ∙ (c.in_ok-push_below.ensures
    ∙ ap (λ (fs : List Affine). fs ++ all_below top d 0 d) c.new-forms.ensures.items)

pub map-requires : goal.map-requires
map-requires c =
    let d = c.args.unknowns in
    subst (λ (fs : List Affine). Suits fs (tree_of c.args.least.now))
    (sym (forms (goal.at.map-requires c).After-deref)) (suits_below top d (tree_of c.args.least.now) c.requires)

pub returns-clause-tree : goal.returns-clause-tree
returns-clause-tree c =
    let least = tree_of c.args.least.now in
    let is = forms (goal.at.returns-clause-tree c).After-deref in
    let run : map_run c.deref.result.now least ≡ Ok (tree_of c.in-Ok.greatest) = c.in-Ok.ensures.run in
    c.fitting.ensures.tree ∙ ap fitting (sym run ∙ ap (λ (fs : List Affine). map_run fs least) is)

pub returns-clause-parameters : goal.returns-clause-parameters
returns-clause-parameters c =
    subst (λ (n : ℕ). HeldOver n c.fitting.result) c.in-Ok.ensures.parameters c.fitting.ensures.parameters
