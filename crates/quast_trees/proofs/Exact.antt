-- Runs that end well give the exact values.
use Rattle.whole_numbers.proofs.Common.{◌≡◌, ℤ, List, [], ◌∷◌, ◌++◌, Result, Ok, Err, IfOk, refl, sym, ap, ◌∙◌, Affine}
use Rattle.whole_numbers.proofs.Common.{value_of, values_of, floor}
use Rattle.std.proofs.lemmas.List.Folds.{map_fixed}
use Rattle.affine_forms.specs.Gives.{Gives}
use Rattle.affine_forms.specs.declared.stop.FormStop.{FormStop}
use Rattle.affine_forms.specs.Runs.{value_run as form_run}
use Rattle.wide_math.proofs.Steps.{chain-ok}
use Rattle.affine_forms.proofs.Exact.{value_run-exact as form_run-exact}
use Rattle.quast_trees.specs.Tree.{Tree, initial, leaf, branch, bind}
use Rattle.quast_trees.specs.Leaf.{Leaf, leaf_of}
use Rattle.quast_trees.specs.declared.leaf.Leaf.{Leaf as Answer}
use Rattle.quast_trees.specs.Leaf as answer
use Rattle.quast_trees.specs.Value.{by_sign, value, values_run, value_run, bound_run}
use Rattle.quast_trees.proofs.SignChoices.{by_sign-exact}
use Rattle.quast_trees.proofs.ListRuns.{each_run-map}

-- forms whose values fit have their exact values
pub values_run-exact : (forms : List Affine) (point vs : List ℤ) → values_run forms point ≡ Ok vs
    → vs ≡ values_of forms point
values_run-exact forms point vs h =
    let e = each_run-map (λ f. form_run f point) (λ f. value_of f point) (λ (v : ℤ). v)
    (λ f v r. form_run-exact f point v r) forms vs h in
    sym (map_fixed (λ (v : ℤ). v) vs (λ k d inside. refl)) ∙ e

-- a point is longer by the exact quotient
pub bound_run-exact : (f : Affine) (divisor : ℤ) (point longer : List ℤ) → bound_run f divisor point ≡ Ok longer
    → longer ≡ point ++ floor (value_of f point) divisor ∷ []
bound_run-exact f divisor point longer h =
    let c = chain-ok (form_run f point) (λ v. Ok (point ++ floor v divisor ∷ [])) longer h in
    let e = form_run-exact f point c.0 c.1 in
    let k : point ++ floor c.0 divisor ∷ [] ≡ longer = cc (c.2) in
    sym k ∙ ap (λ v. point ++ floor v divisor ∷ []) e

-- a run that ends well gives the tree's leaf
pub value_run-exact : (t : Tree) (point : List ℤ) (l : Leaf) → value_run t point ≡ Ok l → l ≡ value t point
value_run-exact initial point l h = cc
value_run-exact (leaf s) point l h =
    let c = chain-ok (values_run s.forms point) (λ vs. Ok (answer.found s.source vs)) l h in
    let e = values_run-exact s.forms point c.0 c.1 in
    cc (c.2)
value_run-exact (branch test first second) point l h =
    let c = chain-ok (form_run test point) (λ v. by_sign v (value_run first point) (value_run second point)) l h in
    let e = form_run-exact test point c.0 c.1 in
    rw (← e) (by_sign-exact c.0 (value_run first point) (value_run second point) (value first point)
    (value second point) l
    (value_run-exact first point l) (value_run-exact second point l) c.2)
value_run-exact (bind form divisor body) point l h =
    let c = chain-ok (bound_run form divisor point) (λ longer. value_run body longer) l h in
    rw (← bound_run-exact form divisor point c.0 c.1) (value_run-exact body c.0 l c.2)

-- a call that gives what the run gives answers the tree's leaf
pub value-from_run : (result : Result Answer FormStop) (t : Tree) (point : List ℤ)
    → Gives leaf_of result (value_run t point)
    → IfOk result (λ l. leaf_of l ≡ value t point)
value-from_run (Ok l) t point h = value_run-exact t point (leaf_of l) h
value-from_run (Err e) t point h = tt
