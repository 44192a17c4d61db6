-- No quotient that the tree of a run binds is negative at a point of the context.
use Rattle.whole_numbers.proofs.Common.{◌≡◌, ℕ, suc, ◌+◌, ◌<◌, ◌≤◌, Bool, true, false, ℤ, pos, ◌≤ℤ◌, List, [], ◌∷◌}
use Rattle.whole_numbers.proofs.Common.{◌++◌, length, map, drop, take, arith, length-append, Ok, if◌then◌else◌, ints}
use Rattle.whole_numbers.proofs.Common.{length-drop, zeros, NotNegative, Affine, form_of, value_of, floor, floor_is}
use Rattle.whole_numbers.proofs.Common.{floor_at_least, dot-past}
use Rattle.tableau_rows.specs.Rows.{Row, Sized, entry}
use Rattle.tableau_rows.specs.Moves.{row_at}
use Rattle.tableau_rows.specs.Problem.{row_values, Speaks}
use Rattle.tableau_rows.proofs.KeptInvariant.{stands_pivot_run, Settled}
use Rattle.tableau_rows.proofs.Points.{sized_take}
use Rattle.tableau_rows.proofs.KeptSolutions.{pivot_run_keeps}
use Rattle.tableau_rows.proofs.FirstTableau.{givens_of}
use Rattle.lexmin_runs.specs.Nodes.{Node, Next, part_of, padded, divided, leaf_tree, step, first_node, whole}
use Rattle.lexmin_runs.specs.Nodes.{longer_form, taken_off, lexmin_run, all_divided}
use Rattle.lexmin_runs.proofs.AddedParameters.{part-value}
use Rattle.lexmin_runs.proofs.Leaves.{padded-value}
use Rattle.lexmin_runs.proofs.Cases.{CutCases, HandsOn, step_by, tree_by}
use Rattle.lexmin_runs.proofs.Trees.{Serves, here_of, settled, settled_take, serves_rows, sides_serve, cut_new}
use Rattle.lexmin_runs.proofs.Trees.{cut_says, first_serves}
use Rattle.quast_trees.specs.Tree.{Tree, bind}
use Rattle.quast_trees.specs.Turns.{BindsUp}

-- a leaf binds the quotients of parts that are not negative
settled_longer : (n size : ℕ) (p : List ℤ) (q : ℤ) (rows : List Row) → Sized size rows → size ≤ n + 1 + length p
    → Settled n p rows → Settled n (p ++ q ∷ []) rows
settled_longer n size p q [] sized h done = tt
settled_longer n size p q (row ∷ rows) sized h done =
    let l = length-drop (n + 1) row.entries in
    let k = sized.1 in
    let e = dot-past (drop (n + 1) row.entries) p (q ∷ []) (omega arith) in
    let v = part-value n row p in
    let w = part-value n row (p ++ q ∷ []) in
    let d = done.0 in
    (omega (arith, ints), settled_longer n size p q rows sized.2 h done.1)

leaf_up : (n m k size : ℕ) (rows : List Row) (forms : List Affine) (p : List ℤ) → length p ≡ m
    → Sized size rows → size + k ≡ n + 1 + m → n < size → Settled n p rows
    → BindsUp (leaf_tree n m k rows forms) p
leaf_up n m k size [] forms p long sized h more done = tt
leaf_up n m k size (row ∷ rows) forms p long sized h more done =
    leaf_bound n m k row rows forms p (all_divided row.denominator (entry row n ∷ drop (n + 1) row.entries))
    quotient
    (λ fs. leaf_up n m k size rows fs p long sized.2 h more done.1)
    (λ q fs. leaf_up n (suc m) (suc k) size rows fs (p ++ q ∷ [])
    (let a = length-append p (q ∷ []) in omega arith) sized.2
    (omega arith) more (settled_longer n size p q rows sized.2 (omega arith) done.1))
  where
    quotient : pos 0 ≤ℤ floor (value_of (padded k (part_of n row)) p) row.denominator
    quotient =
        let v = part-value n row p in
        let w = padded-value k (part_of n row) p in
        let d = done.0 in
        let positive = sized.0 in
        let z = value_of (padded k (part_of n row)) p in
        (floor_at_least z row.denominator (floor z row.denominator) (pos 0) positive
        (floor_is z row.denominator positive)).1 (omega (arith, ints))

    leaf_bound : (n m k : ℕ) (row : Row) (rows : List Row) (forms : List Affine) (p : List ℤ) (b : Bool)
        → pos 0 ≤ℤ floor (value_of (padded k (part_of n row)) p) row.denominator
        → ((fs : List Affine) → BindsUp (leaf_tree n m k rows fs) p)
        → ((q : ℤ) (fs : List Affine) → BindsUp (leaf_tree n (suc m) (suc k) rows fs) (p ++ q ∷ []))
        → BindsUp (if b then leaf_tree n m k rows (forms ++ padded k (divided row.denominator (part_of n row)) ∷ [])
        else bind (padded k (part_of n row)) row.denominator
        (leaf_tree n (suc m) (suc k) rows (map longer_form forms ++ form_of (zeros m ++ pos 1 ∷ []) (pos 0) ∷ []))) p
    leaf_bound n m k row rows forms p true up same bound =
        same (forms ++ padded k (divided row.denominator (part_of n row)) ∷ [])
    leaf_bound n m k row rows forms p false up same bound = (
      up,
      bound (floor (value_of (padded k (part_of n row)) p) row.denominator)
          (map longer_form forms ++ form_of (zeros m ++ pos 1 ∷ []) (pos 0) ∷ []),
    )

-- the last of a list of numbers that are not negative
last_not_negative : (p : List ℤ) (q : ℤ) → NotNegative (p ++ q ∷ []) → pos 0 ≤ℤ q
last_not_negative [] q h = h.0
last_not_negative (x ∷ p) q h = last_not_negative p q h.1

-- what a step leads to at the points that the node stands for
abbrev UpNext : ℕ → List (List ℤ) → List ℤ → Next → Type 0
UpNext n givens p next = HandsOn (List ℤ) (λ q node. Serves n givens node q) (λ q tree. BindsUp tree q) p next

step_up : (n : ℕ) (givens : List (List ℤ)) (p : List ℤ) (left : ℕ) (node : Node) (next : Next) (l : ℕ)
    → Serves n givens node p → step n left node ≡ Ok (next, l) → UpNext n givens p next
step_up n givens p left node next l serves h =
    step_by n left node next l (UpNext n givens p) serves.stands.many (record {
      is_empty = λ left k none. tt;
      is_split = λ r within below above g run t u first second.
          let sides = sides_serve n givens node p r g serves within run in
          (λ up. first (sides.0 up), λ low. second (sides.1 low));
      is_pivoted = λ r within rows run. serves_rows n givens node p rows serves
          (pivot_run_keeps n node.parameters r node.rows rows serves.is.tableau within run).0
          (stands_pivot_run n givens node.rows rows p r serves.stands within run);
      is_blocked = λ r left k within below none. tt;
      is_cut = λ i below. cut_up i below;
      is_leaf = λ nos whole.
          leaf_up n node.parameters 0 (n + 1 + length p) (take n node.rows) [] p serves.inside.size
          (sized_take n (n + 1 + length p) node.rows serves.stands.sized)
          (let k = serves.inside.size in omega arith) (omega arith)
          (settled_take n n p node.rows
          (settled n givens node p node.rows (here_of node p serves) serves.stands.sized nos));
    }) h
  where
    cut_up : (i : ℕ) → i < n → CutCases n node i (UpNext n givens p)
    cut_up i below =
        let says = cut_says n givens node p i serves below in
        record {
          is_constant = says.is_constant;
          is_bound = says.is_bound;
          is_new = λ some new low high run least under.
              let q = floor (value_of (taken_off n (row_at node.rows i)) p) (row_at node.rows i).denominator in
              let s = cut_new n givens node p i new low high serves below run least under in
              (p ++ q ∷ [], s, λ t up. (last_not_negative p q s.inside.not_negative, up));
        }

pub lexmin-up : (budget n m : ℕ) (fs context : List Affine) (tree : Tree) (l : ℕ) → Speaks (n + m) fs
    → Speaks m context
    → lexmin_run budget m (record { unknowns = n; rows = fs }) context ≡ Ok (tree, l)
    → (p : List ℤ) → length p ≡ m → NotNegative p → NotNegative (row_values context p)
    → BindsUp tree p
unfolding lexmin_run whole
lexmin-up budget n m fs context tree l speaks about h p size not inside =
    tree_by (List ℤ) (λ q node. Serves n (givens_of n fs) node q) (λ q t. BindsUp t q) n (step_up n (givens_of n fs))
    (suc budget) budget (first_node m (record { unknowns = n; rows = fs }) context) tree l p
    (first_serves n m fs context p speaks about size not inside) h
