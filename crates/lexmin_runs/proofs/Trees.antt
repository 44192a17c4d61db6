-- The tree of a run gives, at each point of the context, what is so there.
use Rattle.whole_numbers.proofs.Common.{◌≡◌, ℕ, zero, suc, ◌+◌, ◌<◌, ◌≤◌, ℤ, pos, negsuc, ◌≤ℤ◌, ◌<ℤ◌, Option, Some}
use Rattle.whole_numbers.proofs.Common.{None, List, [], ◌∷◌, ◌++◌, length, map, drop, take, refl, subst, sym, ◌∙◌}
use Rattle.whole_numbers.proofs.Common.{arith, length-append, Ok, ints, length-take-le, take-append-drop, length-drop}
use Rattle.whole_numbers.proofs.Common.{length-map, zeros, NotNegative, Affine, value_of, floor, IsFloor, floor_is}
use Rattle.tableau_rows.specs.Rows.{Row, Means, Sized}
use Rattle.tableau_rows.specs.Moves.{row_at, cut_run}
use Rattle.tableau_rows.specs.Problem.{Problem, row_values, Speaks, first_rows}
use Rattle.tableau_rows.specs.Run.{point}
use Rattle.tableau_rows.specs.Solutions.{tie, IsTied, IsTableau, IsPlaced}
use Rattle.tableau_rows.proofs.Invariant.{Stands}
use Rattle.tableau_rows.proofs.KeptInvariant.{stands_pivot_run, stands_cut, Settled, leaf_inside, leaf_least}
use Rattle.tableau_rows.proofs.KeptInvariant.{empty_right}
use Rattle.tableau_rows.proofs.Points.{means_longer, sized_take, sized_at}
use Rattle.tableau_rows.proofs.Cuts.{is_place}
use Rattle.tableau_rows.proofs.KeptSolutions.{cut_keeps_tableau, pivot_run_keeps}
use Rattle.tableau_rows.proofs.FirstTableau.{stands_first, givens_of, length-entries_of}
use Rattle.tableau_rows.proofs.Verdicts.{Holds, some_positive-false, holds_right}
use Rattle.lexmin_runs.specs.Leaves.{IsAnswer}
use Rattle.lexmin_runs.specs.Nodes.{Node, Next, longer_row, part_of, opposite_run, under_run, at_least_run}
use Rattle.lexmin_runs.specs.Nodes.{below_somewhere, broken_somewhere, leaf_tree, side, with_rows, taken_off}
use Rattle.lexmin_runs.specs.Nodes.{bound_node, step, first_node, whole, lexmin_run}
use Rattle.lexmin_runs.specs.Solutions.{IsInContext, IsNode}
use Rattle.lexmin_runs.proofs.Verdicts.{said, verdict, answer_right}
use Rattle.lexmin_runs.proofs.AddedParameters.{AtMost, holds_less, stands_longer, part-value, at_most-more}
use Rattle.lexmin_runs.proofs.AddedParameters.{row_at-longer, longer_tableau}
use Rattle.lexmin_runs.proofs.QuestionAnswers.{opposite-value, IsHere, context-false, not_below, not_above, not_broken}
use Rattle.lexmin_runs.proofs.Leaves.{floors, leaf_tree-value}
use Rattle.lexmin_runs.proofs.Cuts.{taken_off-value, taken_off_not_negative, constant_floor, bound_floor, tied_new}
use Rattle.lexmin_runs.proofs.Cases.{AllNo, CutCases, HandsOn, step_by, tree_by}
use Rattle.lexmin_runs.proofs.KeptSolutions.{in_side, side_node, rows_node, place_within, in_bound, cut_new_keeps}
use Rattle.lexmin_runs.proofs.KeptSolutions.{part_size, first_is_node}
use Rattle.quast_trees.specs.Tree.{Tree}
use Rattle.quast_trees.specs.Value.{by_sign, value}
use Rattle.quast_trees.specs.Leaf.{Leaf}

-- a point that a node stands for
pub record Serves (n : ℕ) (givens : List (List ℤ)) (node : Node) (p : List ℤ) : Type 0 where
  pub is : IsNode n node
  pub inside : IsInContext node p
  pub stands : Stands n givens node.rows p
  pub most : AtMost (n + 1 + length p) givens

pub here_of : {n : ℕ} {givens : List (List ℤ)} (node : Node) (p : List ℤ) → Serves n givens node p → IsHere node p
here_of node p serves =
    let h = serves.inside in
    record { size = h.size; not_negative = h.not_negative; speaks = serves.is.speaks; context = h.rows }

-- what a step says at the points that the node stands for
abbrev pub IsNext : ℕ → List (List ℤ) → List ℤ → Next → Type 0
IsNext n givens p next =
    HandsOn (List ℤ) (λ q node. Serves n givens node q) (λ q tree. Holds n givens q (verdict tree q)) p next

-- where every row was answered not to be below 0
pub settled : (n : ℕ) (givens : List (List ℤ)) (node : Node) (p : List ℤ) (rows : List Row) → IsHere node p
    → Sized (n + 1 + length p) rows
    → AllNo (λ l row. below_somewhere l node (part_of n row)) rows → Settled n p rows
settled n givens node p [] here sized nos = tt
settled n givens node p (row ∷ rows) here sized nos =
    let l = length-drop (n + 1) row.entries in
    let s = sized.1 in
    let k = here.size in
    let b = not_below nos.0.0 node (part_of n row) nos.0.1 p here (omega arith) nos.0.2 in
    let v = part-value n row p in
    (omega (arith, ints), settled n givens node p rows here sized.2 nos.1)

-- and no unknown's to be broken
pub floors_mean : (n : ℕ) (node : Node) (p : List ℤ) (rows : List Row) → IsHere node p
    → Sized (n + 1 + length p) rows → Settled n p rows
    → AllNo (λ l row. broken_somewhere l node row.denominator (part_of n row)) rows
    → Means rows (zeros n ++ pos 1 ∷ p) (floors n rows p)
floors_mean n node p [] here sized done nos = tt
floors_mean n node p (row ∷ rows) here sized done nos =
    let l = length-drop (n + 1) row.entries in
    let s = sized.1 in
    let k = here.size in
    let v = part-value n row p in
    let a = done.0 in
    let b = not_broken nos.0.0 node row.denominator (part_of n row) nos.0.1 p here (omega arith) sized.0
    (omega (arith, ints)) nos.0.2 in
    (omega (arith, ints), floors_mean n node p rows here sized.2 done.1 nos.1)

pub settled_take : (k n : ℕ) (p : List ℤ) (rows : List Row) → Settled n p rows → Settled n p (take k rows)
settled_take zero n p rows h = tt
settled_take (suc k) n p [] h = tt
settled_take (suc k) n p (row ∷ rows) h = (h.0, settled_take k n p rows h.1)

pub length-floors : (n : ℕ) (rows : List Row) (p : List ℤ) → length (floors n rows p) ≡ length rows
length-floors n [] p = refl
length-floors n (row ∷ rows) p = let more = length-floors n rows p in omega arith

-- the leaf
pub leaf_right : (n : ℕ) (givens : List (List ℤ)) (node : Node) (p : List ℤ) → Serves n givens node p
    → Settled n p node.rows
    → AllNo (λ l row. broken_somewhere l node row.denominator (part_of n row)) (take n node.rows)
    → Holds n givens p (verdict (leaf_tree n node.parameters 0 (take n node.rows) []) p)
leaf_right n givens node p serves done nos =
    let stands = serves.stands in
    let us = take n node.rows in
    let m = n + 1 + length p in
    let xs = floors n us p in
    let sized = sized_take n m node.rows stands.sized in
    let k = serves.inside.size in
    let is : verdict (leaf_tree n node.parameters 0 us []) p ≡ point xs =
    leaf_tree-value n node.parameters 0 m us [] p k tt sized (omega arith) (omega arith) in
    let count = length-take-le n node.rows stands.many in
    let size : length xs ≡ n = length-floors n us p ∙ count in
    let means = floors_mean n node p us (here_of node p serves) sized (settled_take n n p node.rows done) nos in
    let all = subst (λ (rs : List Row). Means rs (zeros n ++ pos 1 ∷ p) xs) (take-append-drop n node.rows)
    (means_longer us (drop n node.rows) (zeros n ++ pos 1 ∷ p) xs means) in
    subst (Holds n givens p) (sym is) (
      leaf_inside n givens node.rows p xs stands done size all,
      λ zs inside. leaf_least n givens node.rows p xs zs
          stands size all inside,
    )

-- one row more of the context
pub serves_side : (n : ℕ) (givens : List (List ℤ)) (node : Node) (p : List ℤ) (f : Affine) → Serves n givens node p
    → length f.coefficients ≡ node.parameters
    → pos 0 ≤ℤ value_of f p → Serves n givens (side node f) p
serves_side n givens node p f serves size more =
    record {
      is = side_node n node f serves.is size;
      inside = (in_side node f p).1 (serves.inside, more);
      stands = serves.stands;
      most = serves.most;
    }

pub serves_rows : (n : ℕ) (givens : List (List ℤ)) (node : Node) (p : List ℤ) (rows : List Row)
    → Serves n givens node p → IsTableau n node.parameters rows → Stands n givens rows p
    → Serves n givens (with_rows node rows) p
serves_rows n givens node p rows serves tableau stands =
    let h = serves.inside in
    record {
      is = rows_node n node rows serves.is tableau;
      inside = record { size = h.size; not_negative = h.not_negative; rows = h.rows };
      stands = stands;
      most = serves.most;
    }

-- a cut that needs no new parameter
pub cut_old : (n : ℕ) (givens : List (List ℤ)) (node : Node) (p : List ℤ) (i : ℕ) (place : Option ℕ) (new : Row)
    → Serves n givens node p → i < n
    → cut_run n place (row_at node.rows i) ≡ Ok new → IsPlaced n node.parameters place
    → ((ys : List ℤ) → length ys ≡ n → IsFloor (value_of (taken_off n (row_at node.rows i)) p)
    (row_at node.rows i).denominator (tie place (ys ++ pos 1 ∷ p)))
    → Serves n givens (with_rows node (node.rows ++ new ∷ [])) p
cut_old n givens node p i place new serves below run placed floors =
    let row = row_at node.rows i in
    let tableau = serves.is.tableau in
    let within : i < length node.rows = let k = tableau.many in omega arith in
    let at = sized_at (n + 1 + node.parameters) node.rows i within tableau.sized in
    serves_rows n givens node p (node.rows ++ new ∷ []) serves
    (cut_keeps_tableau n node.parameters i place node.rows new tableau within run)
    (stands_cut n givens node.rows new p i place serves.stands below run
    (is_place n node.parameters place row placed at.1)
    (λ ys size. subst (λ (z : ℤ). IsFloor z row.denominator (tie place (ys ++ pos 1 ∷ p)))
    (taken_off-value n row p) (floors ys size)))

-- a cut with a new one
pub cut_new : (n : ℕ) (givens : List (List ℤ)) (node : Node) (p : List ℤ) (i : ℕ) (new : Row) (low high : Affine)
    → Serves n givens node p → i < n
    → cut_run n (Some (n + 1 + node.parameters)) (longer_row (row_at node.rows i)) ≡ Ok new
    → at_least_run (row_at node.rows i).denominator (taken_off n (row_at node.rows i)) ≡ Ok low
    → under_run (row_at node.rows i).denominator (taken_off n (row_at node.rows i)) ≡ Ok high
    → Serves n givens (bound_node n node (taken_off n (row_at node.rows i)) (row_at node.rows i).denominator new low
    high)
    (p ++ floor (value_of (taken_off n (row_at node.rows i)) p) (row_at node.rows i).denominator ∷ [])
cut_new n givens node p i new low high serves below run at_least under =
    let stands = serves.stands in
    let m = n + 1 + length p in
    let row = row_at node.rows i in
    let d = row.denominator in
    let f = taken_off n row in
    let q = floor (value_of f p) d in
    let p' = p ++ q ∷ [] in
    let rows = map longer_row node.rows in
    let within : i < length node.rows = let k = stands.many in omega arith in
    let at = sized_at m node.rows i within stands.sized in
    let fl = floor_is (value_of f p) d at.0 in
    let same = row_at-longer node.rows i within in
    let kept = (cut_new_keeps n node i new low high serves.is below run at_least under).0 in
    let longer = (longer_tableau n node.parameters node.rows serves.is.tableau).sized in
    let place : IsPlaced n (suc node.parameters) (Some (n + 1 + node.parameters)) = omega arith in
    record {
      is = kept.0;
      inside = (in_bound n node f d new low high p q serves.is.speaks serves.inside.size kept.2 at.0 at_least under
          (λ not. taken_off_not_negative n row p at.0 not)).1 (serves.inside, fl);
      stands = stands_cut n givens rows new p' i (Some (n + 1 + node.parameters))
          (stands_longer n givens node.rows p q serves.most stands) below
          (subst (λ (r : Row). cut_run n (Some (n + 1 + node.parameters)) r ≡ Ok new) (sym same) run)
          (is_place n (suc node.parameters) (Some (n + 1 + node.parameters)) (row_at rows i) place
          (sized_at (n + 1 + suc node.parameters) rows i (simp length-map within) longer).1)
          (subst (λ (r : Row). IsTied n (Some (n + 1 + node.parameters)) r p') (sym same)
          (tied_new n node.parameters row p q at.0 at.1 serves.inside.size fl));
      most = at_most-more m (n + 1 + length p') givens (simp length-append (omega arith)) serves.most;
    }

-- a cut
pub cut_says : (n : ℕ) (givens : List (List ℤ)) (node : Node) (p : List ℤ) (i : ℕ) → Serves n givens node p → i < n
    → CutCases n node i (IsNext n givens p)
cut_says n givens node p i serves below =
    record {
      is_constant = λ none new run. cut_old n givens node p i None new serves below run tt
          (λ ys size. constant_floor n (row_at node.rows i) p positive none);
      is_bound = λ k found new run. cut_old n givens node p i (Some (n + 1 + k)) new serves below run
          (let w = place_within (taken_off n (row_at node.rows i)) (row_at node.rows i).denominator node.parameters
          node.bounds k serves.is.placed found in omega arith)
          (λ ys size. bound_floor n (row_at node.rows i) p node.bounds k positive (serves.is.bound p serves.inside)
          found ys size);
      is_new = λ some new low high run least under.
          let q = floor (value_of (taken_off n (row_at node.rows i)) p) (row_at node.rows i).denominator in (
            p ++ q ∷ [],
            cut_new n givens node p i new low high serves below run least under,
            λ t holds. holds_less n givens p q (verdict t (p ++ q ∷ [])) serves.most holds,
          );
    }
  where
    positive : pos 0 <ℤ (row_at node.rows i).denominator
    positive = (sized_at (n + 1 + node.parameters) node.rows i (let k = serves.is.tableau.many in omega arith)
        serves.is.tableau.sized).0

by_sign_holds : (n : ℕ) (givens : List (List ℤ)) (p : List ℤ) (z : ℤ) (v w : Leaf)
    → (pos 0 ≤ℤ z → Holds n givens p (said v)) → (z <ℤ pos 0 → Holds n givens p (said w))
    → Holds n givens p (said (by_sign z v w))
by_sign_holds n givens p (pos k) v w h g = h (omega (arith, ints))
by_sign_holds n givens p (negsuc k) v w h g = g (omega (arith, ints))

-- a part's sign tells which side of its split serves
pub sides_serve : (n : ℕ) (givens : List (List ℤ)) (node : Node) (p : List ℤ) (r : ℕ) (g : Affine)
    → Serves n givens node p → r < length node.rows → opposite_run (part_of n (row_at node.rows r)) ≡ Ok g
    → (pos 0 ≤ℤ value_of (part_of n (row_at node.rows r)) p
    → Serves n givens (side node (part_of n (row_at node.rows r))) p)
    × (value_of (part_of n (row_at node.rows r)) p <ℤ pos 0 → Serves n givens (side node g) p)
sides_serve n givens node p r g serves within run =
    let f = part_of n (row_at node.rows r) in
    let size = part_size n node r serves.is within in
    let o = opposite-value f g p run in
    let k = o.0 in (
      λ more. serves_side n givens node p f serves size more,
      λ less. serves_side n givens node p g serves (o.1 ∙ size) (omega (arith, ints)),
    )

-- a step says what is so at each point that its node stands for
step-says : (n : ℕ) (givens : List (List ℤ)) (p : List ℤ) (left : ℕ) (node : Node) (next : Next) (l : ℕ)
    → Serves n givens node p
    → step n left node ≡ Ok (next, l) → IsNext n givens p next
step-says n givens p left node next l serves h =
    step_by n left node next l (IsNext n givens p) serves.stands.many (record {
      is_empty = λ left k none. absurd (context-false left node k p here none);
      is_split = λ r within below above g run t u first second.
          let sides = sides_serve n givens node p r g serves within run in
          by_sign_holds n givens p (value_of (part_of n (row_at node.rows r)) p) (value t p) (value u p)
          (λ up. first (sides.0 up)) (λ low. second (sides.1 low));
      is_pivoted = λ r within rows run. serves_rows n givens node p rows serves
          (pivot_run_keeps n node.parameters r node.rows rows serves.is.tableau within run).0
          (stands_pivot_run n givens node.rows rows p r serves.stands within run);
      is_blocked = λ r left k within below none. empty_right n givens node.rows p r serves.stands within
          (let v = part-value n (row_at node.rows r) p in
          let b = not_above left node (part_of n (row_at node.rows r)) k p here (part_size n node r serves.is within)
          below in omega (arith, ints))
          (λ j low. some_positive-false (row_at node.rows r) 0 n none j (omega arith) (omega arith));
      is_cut = λ i below. cut_says n givens node p i serves below;
      is_leaf = λ nos whole. leaf_right n givens node p serves
          (settled n givens node p node.rows here serves.stands.sized nos) whole;
    }) h
  where
    here : IsHere node p
    here = here_of node p serves

pub at_most_givens : (n k : ℕ) (fs : List Affine) → n ≤ k → Speaks k fs → AtMost (k + 1) (givens_of n fs)
at_most_givens n k [] long speaks = tt
at_most_givens n k (f ∷ fs) long speaks = (
  let e = speaks.0 in let l = length-entries_of n f (omega arith) in omega arith,
  at_most_givens n k fs long
      speaks.1,
)

-- the first node serves each point of the context
pub first_serves : (n m : ℕ) (fs context : List Affine) (p : List ℤ) → Speaks (n + m) fs → Speaks m context
    → length p ≡ m → NotNegative p → NotNegative (row_values context p)
    → Serves n (givens_of n fs) (first_node m (record { unknowns = n; rows = fs }) context) p
first_serves n m fs context p speaks about size not inside =
    let problem : Problem = record { unknowns = n; rows = fs } in
    let stands = stands_first n fs p (subst (λ (k : ℕ). Speaks (n + k) fs) (sym size) speaks) in
    let e : n + m + 1 ≡ n + 1 + length p = omega arith in
    record {
      is = first_is_node n m fs context speaks about;
      inside = record { size = size; not_negative = not; rows = inside };
      stands = subst (λ (k : ℕ). Stands n (givens_of n fs) (first_rows k problem) p) size stands;
      most = subst (λ (k : ℕ). AtMost k (givens_of n fs)) e (at_most_givens n (n + m) fs (omega arith) speaks);
    }

-- the theorem: at each point of the context the tree's value is the least whole point, or none where there is none
pub lexmin-right : (budget n m : ℕ) (fs context : List Affine) (tree : Tree) (l : ℕ) → Speaks (n + m) fs
    → Speaks m context
    → lexmin_run budget m (record { unknowns = n; rows = fs }) context ≡ Ok (tree, l)
    → (p : List ℤ) → length p ≡ m → NotNegative p → NotNegative (row_values context p)
    → IsAnswer (record { unknowns = n; rows = fs }) p (value tree p)
unfolding lexmin_run whole
lexmin-right budget n m fs context tree l speaks about h p size not inside =
    answer_right (record { unknowns = n; rows = fs }) p (value tree p)
    (holds_right n (n + m) fs p (verdict tree p) (omega arith) speaks
    (tree_by (List ℤ) (λ q node. Serves n (givens_of n fs) node q)
    (λ q t. Holds n (givens_of n fs) q (verdict t q)) n (step-says n (givens_of n fs)) (suc budget) budget
    (first_node m (record { unknowns = n; rows = fs }) context) tree l p
    (first_serves n m fs context p speaks about size not inside) h))
