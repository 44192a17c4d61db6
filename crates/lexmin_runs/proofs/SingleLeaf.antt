-- Without parameters no node splits or gets one more: the tree of a run is one leaf.
use Rattle.whole_numbers.proofs.Common.{◌≡◌, ℕ, suc, ◌+◌, ◌<◌, ℤ, pos, ◌<ℤ◌, true, false, List, [], ◌∷◌, ◌++◌, length}
use Rattle.whole_numbers.proofs.Common.{take, refl, subst, ap, ◌∙◌, arith, Ok, if◌then◌else◌, ints, length-drop, Affine}
use Rattle.whole_numbers.proofs.Common.{remainder}
use Rattle.tableau_rows.specs.Rows.{Row, Sized}
use Rattle.tableau_rows.specs.Moves.{row_at, is_below, is_positive}
use Rattle.tableau_rows.specs.Problem.{problem_of, Speaks}
use Rattle.tableau_rows.proofs.PivotColumns.{positive_false}
use Rattle.tableau_rows.proofs.Cuts.{remainder_in}
use Rattle.tableau_rows.proofs.Points.{sized_take, sized_at}
use Rattle.lexmin_runs.specs.Nodes.{Node, Next, ends, goes, binds, splits, part_of, is_zero, all_zero, all_divided}
use Rattle.lexmin_runs.specs.Nodes.{divided, padded, leaf_tree, below_somewhere, above_somewhere, broken_somewhere}
use Rattle.lexmin_runs.specs.Nodes.{taken_off, step, tree_run, whole, first_node, lexmin_run}
use Rattle.lexmin_runs.specs.Solutions.{IsNode, LeadsOn}
use Rattle.lexmin_runs.specs.Leaves.{IsOneLeaf}
use Rattle.lexmin_runs.proofs.QuestionAnswers.{same_first}
use Rattle.lexmin_runs.proofs.Cuts.{taken_off_size}
use Rattle.lexmin_runs.proofs.Cases.{AllNo, HandsOn, step_by, tree_by}
use Rattle.lexmin_runs.proofs.KeptSolutions.{IsOver, part_size, step_over, first_is_node}
use Rattle.quast_trees.specs.Tree.{Tree}

-- no numbers
none_zero : (zs : List ℤ) → length zs ≡ 0 → all_zero zs ≡ true
none_zero [] none = refl
none_zero (z ∷ zs) none = absurd (omega arith)

none_divided : (d : ℤ) (zs : List ℤ) → length zs ≡ 0 → all_divided d zs ≡ true
none_divided d [] none = refl
none_divided d (z ∷ zs) none = absurd (omega arith)

-- a constant has one sign
one_sign : (node : Node) (f : Affine) (a b k l : ℕ) → length f.coefficients ≡ 0
    → below_somewhere a node f ≡ Ok (true, b) → above_somewhere k node f ≡ Ok (true, l) → ⊥
one_sign node f a b k l none below above =
    let e = none_zero f.coefficients none in
    let x = same_first (is_below f.constant) true a b (rw e at below) in
    let y = same_first (if is_below f.constant then false else true) true k l (rw e at above) in
    let z = rw x at y in
    cc

-- a constant that is not broken is divided
whole_divided : (node : Node) (d : ℤ) (f : Affine) (l k : ℕ) → pos 0 <ℤ d → length f.coefficients ≡ 0
    → broken_somewhere l node d f ≡ Ok (false, k) → all_divided d (f.constant ∷ f.coefficients) ≡ true
whole_divided node d f l k positive none whole =
    let e = none_zero f.coefficients none in
    let b = same_first (is_positive (remainder f.constant d)) false l k (rw e at whole) in
    let n = positive_false (remainder f.constant d) b in
    let r = (remainder_in f.constant d positive).0 in
    let z : remainder f.constant d ≡ pos 0 = omega (arith, ints) in
    ap (λ (w : ℤ). if is_zero w then all_divided d f.coefficients else false) z ∙ none_divided d f.coefficients none

-- a leaf without parameters binds none
leaf_alone : (n m : ℕ) (node : Node) (rows : List Row) (forms : List Affine) → m ≡ 0 → Sized (n + 1 + m) rows
    → AllNo (λ l row. broken_somewhere l node row.denominator (part_of n row)) rows
    → IsOneLeaf (leaf_tree n m 0 rows forms)
leaf_alone n m node [] forms flat sized whole = tt
leaf_alone n m node (row ∷ rows) forms flat sized whole =
    let size = sized.1 in
    let l = length-drop (n + 1) row.entries in
    let none : length (part_of n row).coefficients ≡ 0 = omega arith in
    let e = whole_divided node row.denominator (part_of n row) whole.0.0 whole.0.1 sized.0 none whole.0.2 in
    rw e
    (leaf_alone n m node rows (forms ++ padded 0 (divided row.denominator (part_of n row)) ∷ []) flat sized.2 whole.1)

-- a step without parameters ends in one leaf, or goes on
abbrev StaysAlone : Next → Type 0
StaysAlone (ends tree) = IsOneLeaf tree
StaysAlone (goes node) = Unit {0}
StaysAlone (binds f d node) = ⊥
StaysAlone (splits f first second) = ⊥

step-alone : (n left : ℕ) (node : Node) (next : Next) (l : ℕ) → IsNode n node → node.parameters ≡ 0
    → step n left node ≡ Ok (next, l) → StaysAlone next
step-alone n left node next l is flat h =
    step_by n left node next l StaysAlone is.tableau.many (record {
      is_empty = λ left k none. tt;
      is_split = λ r within below above g run. one_sign node (part_of n (row_at node.rows r)) below.left below.rest
          above.left above.rest (part_size n node r is within ∙ flat) below.says above.says;
      is_pivoted = λ r within rows run. tt;
      is_blocked = λ r left k within below none. tt;
      is_cut = λ i below. record {
        is_constant = λ none new run. tt;
        is_bound = λ k found new run. tt;
        is_new = λ some new low high run least under. has_no_part i below some;
      };
      is_leaf = λ settled whole. leaf_alone n node.parameters node (take n node.rows) [] flat
          (sized_take n (n + 1 + node.parameters) node.rows is.tableau.sized) whole;
    }) h
  where
    has_no_part : (i : ℕ) → i < n → all_zero (taken_off n (row_at node.rows i)).coefficients ≡ false → ⊥
    has_no_part i below some =
        let many = is.tableau.many in
        let at = sized_at (n + 1 + node.parameters) node.rows i (omega arith) is.tableau.sized in
        let e = none_zero (taken_off n (row_at node.rows i)).coefficients
        (taken_off_size n node.parameters (row_at node.rows i) at.1 ∙ flat) in
        cc

tree-alone : (n k left : ℕ) (node : Node) (tree : Tree) (l : ℕ) → IsNode n node → node.parameters ≡ 0
    → tree_run n k left node ≡ Ok (tree, l) → IsOneLeaf tree
tree-alone n k left node tree l is flat h =
    tree_by ℕ (IsOver n) (λ m t. m ≡ 0 → IsOneLeaf t) n
    (λ m left node next l is h. hands_on m next (step_over n m left node next l is h)
    (λ none. step-alone n left node next l is.0 (is.1 ∙ none) h))
    k left node tree l node.parameters (is, refl) h flat
  where
    hands_on : (m : ℕ) (next : Next) → LeadsOn n m next → (m ≡ 0 → StaysAlone next)
        → HandsOn ℕ (IsOver n) (λ m t. m ≡ 0 → IsOneLeaf t) m next
    hands_on m (ends t) on alone = alone
    hands_on m (goes node) on alone = on
    hands_on m (binds f d node) on alone = (suc m, (on.0, on.1), λ t body none. absurd (alone none))
    hands_on m (splits f a b) on alone = λ t u first second none. absurd (alone none)

pub lexmin-alone : (budget n : ℕ) (fs context : List Affine) (tree : Tree) (l : ℕ) → Speaks n fs → Speaks 0 context
    → lexmin_run budget 0 (problem_of n fs) context ≡ Ok (tree, l) → IsOneLeaf tree
unfolding lexmin_run whole
lexmin-alone budget n fs context tree l speaks about h =
    tree-alone n (suc budget) budget (first_node 0 (problem_of n fs) context) tree l
    (first_is_node n 0 fs context (subst (λ (k : ℕ). Speaks k fs) (omega arith) speaks) about) refl h
