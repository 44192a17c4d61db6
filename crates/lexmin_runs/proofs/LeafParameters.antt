-- The tree of a leaf speaks of the parameters.
use Rattle.whole_numbers.proofs.Common.{◌≡◌, ℕ, suc, ◌+◌, ◌<◌, pos, Bool, true, false, List, [], ◌∷◌, ◌++◌, length, map}
use Rattle.whole_numbers.proofs.Common.{drop, refl, subst, sym, arith, length-append, add-one, if◌then◌else◌, ints}
use Rattle.whole_numbers.proofs.Common.{length-map, length-drop, zeros, Affine, form_of, length-zeros}
use Rattle.tableau_rows.specs.Rows.{Row, entry, Sized}
use Rattle.tableau_rows.specs.Problem.{Speaks}
use Rattle.lexmin_runs.specs.Nodes.{longer_form, part_of, all_divided, divided, padded, leaf_tree}
use Rattle.lexmin_runs.proofs.AddedParameters.{speaks-longer, speaks-append, all_speak}
use Rattle.quast_trees.specs.Tree.{bind, LeavesHave, Speaks as TreeSpeaks}

pub padded_size : (k : ℕ) (f : Affine) → length (padded k f).coefficients ≡ length f.coefficients + k
padded_size k f = let z = length-zeros k in simp length-append (omega arith)

-- m parameters stand, k of them bound at the leaf
pub leaf_tree-speaks : (n m k size : ℕ) (rows : List Row) (forms : List Affine) → Speaks m forms → Sized size rows
    → n + 1 + m ≡ size + k → n < size → TreeSpeaks m (leaf_tree n m k rows forms)
leaf_tree-speaks n m k size [] forms speaks sized h more = (refl, all_speak m forms speaks)
leaf_tree-speaks n m k size (row ∷ rows) forms speaks sized h more =
    by_division (all_divided row.denominator (entry row n ∷ drop (n + 1) row.entries))
    (λ fs s. leaf_tree-speaks n m k size rows fs s sized.2 h more)
    (λ fs s. leaf_tree-speaks n (suc m) (suc k) size rows fs s sized.2 (omega arith) more)
  where
    part_long : length (part_of n row).coefficients + k ≡ m
    part_long = let l = length-drop (n + 1) row.entries in let e = sized.1 in omega arith

    last : Affine
    last = form_of (zeros m ++ pos 1 ∷ []) (pos 0)

    by_division : (b : Bool)
        → ((fs : List Affine) → Speaks m fs → TreeSpeaks m (leaf_tree n m k rows fs))
        → ((fs : List Affine) → Speaks (suc m) fs → TreeSpeaks (suc m) (leaf_tree n (suc m) (suc k) rows fs))
        → TreeSpeaks m
        (if b
        then leaf_tree n m k rows (forms ++ padded k (divided row.denominator (part_of n row)) ∷ [])
        else bind (padded k (part_of n row)) row.denominator
        (leaf_tree n (suc m) (suc k) rows (map longer_form forms ++ form_of (zeros m ++ pos 1 ∷ []) (pos 0) ∷ [])))
    by_division true same further =
        let f = divided row.denominator (part_of n row) in
        let e : length f.coefficients ≡ length (part_of n row).coefficients = simp length-map refl in
        let s = padded_size k f in
        let l = part_long in
        same (forms ++ padded k f ∷ []) (speaks-append m forms (padded k f ∷ []) speaks ((omega arith), tt))
    by_division false same further =
        let s = padded_size k (part_of n row) in
        let l = part_long in
        let positive = sized.0 in
        let z = length-zeros m in
        let one = further (map longer_form forms ++ last ∷ [])
        (speaks-append (suc m) (map longer_form forms) (last ∷ [])
        (subst (λ (j : ℕ). Speaks j (map longer_form forms)) (add-one m) (speaks-longer m forms speaks))
        ((simp length-append (omega arith)), tt)) in (
          omega arith,
          (omega (arith, ints)),
          subst (λ (j : ℕ). TreeSpeaks j (leaf_tree n (suc m) (suc k) rows (map longer_form forms ++ last ∷ [])))
              (sym (add-one m)) one,
        )

-- and has a form for each row
pub leaf_tree-forms : (n m k : ℕ) (rows : List Row) (forms : List Affine)
    → LeavesHave (length forms + length rows) (leaf_tree n m k rows forms)
leaf_tree-forms n m k [] forms = omega arith
leaf_tree-forms n m k (row ∷ rows) forms =
    by_division (all_divided row.denominator (entry row n ∷ drop (n + 1) row.entries))
    (λ fs. leaf_tree-forms n m k rows fs) (λ fs. leaf_tree-forms n (suc m) (suc k) rows fs)
  where
    one_more : (fs : List Affine) (f : Affine) → length fs ≡ length forms
        → length (fs ++ f ∷ []) + length rows ≡ length forms + suc (length rows)
    one_more fs f same = let l = length-append fs (f ∷ []) in omega arith

    by_division : (b : Bool)
        → ((fs : List Affine) → LeavesHave (length fs + length rows) (leaf_tree n m k rows fs))
        → ((fs : List Affine) → LeavesHave (length fs + length rows) (leaf_tree n (suc m) (suc k) rows fs))
        → LeavesHave (length forms + suc (length rows))
        (if b
        then leaf_tree n m k rows (forms ++ padded k (divided row.denominator (part_of n row)) ∷ [])
        else bind (padded k (part_of n row)) row.denominator
        (leaf_tree n (suc m) (suc k) rows (map longer_form forms ++ form_of (zeros m ++ pos 1 ∷ []) (pos 0) ∷ [])))
    by_division true same further =
        let f = padded k (divided row.denominator (part_of n row)) in
        subst (λ (j : ℕ). LeavesHave j (leaf_tree n m k rows (forms ++ f ∷ []))) (one_more forms f refl)
        (same (forms ++ f ∷ []))
    by_division false same further =
        let f = form_of (zeros m ++ pos 1 ∷ []) (pos 0) in
        let longer : length (map longer_form forms) ≡ length forms = length-map forms longer_form in
        subst (λ (j : ℕ). LeavesHave j (leaf_tree n (suc m) (suc k) rows (map longer_form forms ++ f ∷ [])))
        (one_more (map longer_form forms) f longer) (further (map longer_form forms ++ f ∷ []))
