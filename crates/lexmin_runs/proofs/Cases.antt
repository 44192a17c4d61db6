-- How a move and a step come about: what holds of each thing that they can be, holds of what they are (`step_by`,
-- `cut_by`), and what each step hands on holds of a run's tree (`tree_by`).
use Rattle.whole_numbers.proofs.Common.{◌≡◌, ℕ, zero, suc, ◌+◌, ◌<◌, ◌≤◌, Bool, true, false, Option, Some, None, List}
use Rattle.whole_numbers.proofs.Common.{[], ◌∷◌, ◌++◌, length, take, refl, subst, arith, Ok, if◌then◌else◌}
use Rattle.whole_numbers.proofs.Common.{length-take-le, Affine}
use Rattle.tableau_rows.specs.Rows.{Row}
use Rattle.tableau_rows.specs.Moves.{row_at, pivot_run, cut_run}
use Rattle.tableau_rows.specs.Run.{some_positive}
use Rattle.lexmin_runs.specs.Nodes.{Node, Next, ends, goes, binds, splits, Counted, chained, formed, paid, longer_row}
use Rattle.lexmin_runs.specs.Nodes.{part_of, all_zero, place_of, opposite_run, under_run, at_least_run, context_holds}
use Rattle.lexmin_runs.specs.Nodes.{below_somewhere, above_somewhere, broken_somewhere, first_asked, leaf_tree, side}
use Rattle.lexmin_runs.specs.Nodes.{split, with_rows, pivot, taken_off, bound_node, cut_bound, cut, cut_or_leaf}
use Rattle.lexmin_runs.specs.Nodes.{pivot_or_empty, treated, looked, step, followed, tree_run}
use Rattle.lexmin_runs.proofs.QuestionAnswers.{chained-ok, formed-ok, same_first}
use Rattle.quast_trees.specs.Tree.{Tree, initial, branch, bind}

-- what is paid for
pub paid-ok : {B : Type 0} (left : ℕ) (f : ℕ → Counted B) (y : B) (l : ℕ) → paid left f ≡ Ok (y, l)
    → (k : ℕ) × (f k ≡ Ok (y, l))
paid-ok zero f y l h = cc
paid-ok (suc left) f y l h = (left, h)

pub split_by : (left : ℕ) (node : Node) (f : Affine) (next : Next) (l : ℕ) (P : Next → Type 0)
    → ((g : Affine) → opposite_run f ≡ Ok g → P (splits f (side node f) (side node g)))
    → split left node f ≡ Ok (next, l) → P next
split_by left node f next l P made h =
    let c = paid-ok left (λ (rest : ℕ). formed left (opposite_run f)
    (λ g. Ok (splits f (side node f) (side node g), rest))) next l h in
    let d = formed-ok left (opposite_run f) (λ (g : Affine). Ok (splits f (side node f) (side node g), c.0)) next l
    c.1 in
    subst P (same_first (splits f (side node f) (side node d.0)) next c.0 l d.2) (made d.0 d.1)

pub pivot_by : (n left : ℕ) (node : Node) (r : ℕ) (next : Next) (l : ℕ) (P : Next → Type 0)
    → ((rows : List Row) → pivot_run n node.rows r ≡ Ok rows → P (goes (with_rows node rows)))
    → pivot n left node r ≡ Ok (next, l) → P next
pivot_by n left node r next l P made h =
    let c = paid-ok left (λ (rest : ℕ). formed left (pivot_run n node.rows r)
    (λ rows. Ok (goes (with_rows node rows), rest))) next l h in
    let d = formed-ok left (pivot_run n node.rows r) (λ (rows : List Row). Ok (goes (with_rows node rows), c.0)) next
    l c.1 in
    subst P (same_first (goes (with_rows node d.0)) next c.0 l d.2) (made d.0 d.1)

-- what a cut takes off has no parameter, or is bound to one, or gets a new one
pub record CutCases (n : ℕ) (node : Node) (i : ℕ) (P : Next → Type 0) : Type 0 where
  pub is_constant : all_zero (taken_off n (row_at node.rows i)).coefficients ≡ true
      → (new : Row) → cut_run n None (row_at node.rows i) ≡ Ok new
      → P (goes (with_rows node (node.rows ++ new ∷ [])))
  pub is_bound : (k : ℕ)
      → place_of (taken_off n (row_at node.rows i)) (row_at node.rows i).denominator node.bounds ≡ Some k
      → (new : Row) → cut_run n (Some (n + 1 + k)) (row_at node.rows i) ≡ Ok new
      → P (goes (with_rows node (node.rows ++ new ∷ [])))
  pub is_new : all_zero (taken_off n (row_at node.rows i)).coefficients ≡ false
      → (new : Row) (low high : Affine)
      → cut_run n (Some (n + 1 + node.parameters)) (longer_row (row_at node.rows i)) ≡ Ok new
      → at_least_run (row_at node.rows i).denominator (taken_off n (row_at node.rows i)) ≡ Ok low
      → under_run (row_at node.rows i).denominator (taken_off n (row_at node.rows i)) ≡ Ok high
      → P (binds (taken_off n (row_at node.rows i)) (row_at node.rows i).denominator
      (bound_node n node (taken_off n (row_at node.rows i)) (row_at node.rows i).denominator new low high))

pub cut_by : (n left : ℕ) (node : Node) (i : ℕ) (next : Next) (l : ℕ) (P : Next → Type 0) → CutCases n node i P
    → cut n left node i ≡ Ok (next, l) → P next
cut_by n left node i next l P cases h =
    let f = taken_off n (row_at node.rows i) in
    let c = paid-ok left (λ (rest : ℕ).
    if all_zero f.coefficients
    then formed left (cut_run n None (row_at node.rows i))
    (λ new. Ok (goes (with_rows node (node.rows ++ new ∷ [])), rest))
    else cut_bound n left rest node i (place_of f (row_at node.rows i).denominator node.bounds)) next l h in
    by_form c.0 (all_zero f.coefficients) refl c.1
  where
    by_row : (rest : ℕ) (place : Option ℕ)
        → formed left (cut_run n place (row_at node.rows i))
        (λ new. Ok (goes (with_rows node (node.rows ++ new ∷ [])), rest)) ≡ Ok (next, l)
        → ((new : Row) → cut_run n place (row_at node.rows i) ≡ Ok new
        → P (goes (with_rows node (node.rows ++ new ∷ [])))) → P next
    by_row rest place h made =
        let d = formed-ok left (cut_run n place (row_at node.rows i))
        (λ (new : Row). Ok (goes (with_rows node (node.rows ++ new ∷ [])), rest)) next l h in
        subst P (same_first (goes (with_rows node (node.rows ++ d.0 ∷ []))) next rest l d.2) (made d.0 d.1)

    by_place : (rest : ℕ) → all_zero (taken_off n (row_at node.rows i)).coefficients ≡ false → (place : Option ℕ)
        → place_of (taken_off n (row_at node.rows i)) (row_at node.rows i).denominator node.bounds ≡ place
        → cut_bound n left rest node i place ≡ Ok (next, l) → P next
    by_place rest some (Some k) e h = by_row rest (Some (n + 1 + k)) h (λ new run. cases.is_bound k e new run)
    by_place rest some None e h =
        let row = row_at node.rows i in
        let f = taken_off n row in
        let d = row.denominator in
        let a = formed-ok left (cut_run n (Some (n + 1 + node.parameters)) (longer_row row)) (λ (new : Row).
        formed left (at_least_run d f)
        (λ low. formed left (under_run d f) (λ high. Ok (binds f d (bound_node n node f d new low high), rest))))
        next l h in
        let b = formed-ok left (at_least_run d f)
        (λ (low : Affine). formed left (under_run d f)
        (λ high. Ok (binds f d (bound_node n node f d a.0 low high), rest))) next l a.2 in
        let c = formed-ok left (under_run d f)
        (λ (high : Affine). Ok (binds f d (bound_node n node f d a.0 b.0 high), rest)) next l b.2 in
        subst P (same_first (binds f d (bound_node n node f d a.0 b.0 c.0)) next rest l c.2)
        (cases.is_new some a.0 b.0 c.0 a.1 b.1 c.1)

    by_form : (rest : ℕ) (b : Bool) → all_zero (taken_off n (row_at node.rows i)).coefficients ≡ b
        → (if b then formed left (cut_run n None (row_at node.rows i))
        (λ new. Ok (goes (with_rows node (node.rows ++ new ∷ [])), rest))
        else cut_bound n left rest node i
        (place_of (taken_off n (row_at node.rows i)) (row_at node.rows i).denominator node.bounds)) ≡ Ok (next, l)
        → P next
    by_form rest true e h = by_row rest None h (λ new run. cases.is_constant e new run)
    by_form rest false e h =
        by_place rest e (place_of (taken_off n (row_at node.rows i)) (row_at node.rows i).denominator node.bounds) refl h

-- rows that were all answered no
abbrev pub AllNo : (ℕ → Row → Counted Bool) → List Row → Type 0
AllNo test [] = Unit {0}
AllNo test (row ∷ rows) = ((l : ℕ) × (k : ℕ) × (test l row ≡ Ok (false, k))) × AllNo test rows

-- a row that was answered yes
pub record IsYes (test : ℕ → Row → Counted Bool) (row : Row) : Type 0 where
  pub left : ℕ
  pub rest : ℕ
  pub says : test left row ≡ Ok (true, rest)

abbrev pub IsAsked : (ℕ → Row → Counted Bool) → ℕ → List Row → Option ℕ → Type 0
IsAsked test i rows None = AllNo test rows
IsAsked test i rows (Some k) = (j : ℕ) × (j < length rows) × (k ≡ i + j) × IsYes test (row_at rows j)

pub first_asked-says : (test : ℕ → Row → Counted Bool) (left i : ℕ) (rows : List Row) (r : Option ℕ) (l : ℕ)
    → first_asked test left i rows ≡ Ok (r, l)
    → IsAsked test i rows r
first_asked-says test left i [] r l h = let e = same_first None r left l h in subst (IsAsked test i []) e tt
first_asked-says test left i (row ∷ rows) r l h =
    let c = chained-ok (test left row)
    (λ (yes : Bool) (rest : ℕ). if yes then Ok (Some i, rest) else first_asked test rest (suc i) rows) r l h in
    by_answer c.0 c.1 c.2 c.3 (λ k g. first_asked-says test k (suc i) rows r l g)
  where
    further : (r : Option ℕ) → (k : ℕ) → test left row ≡ Ok (false, k) → IsAsked test (suc i) rows r
        → IsAsked test i (row ∷ rows) r
    further None k e is = ((left, k, e), is)
    further (Some j) k e is = (suc is.0, omega (arith, is.1), omega (arith, is.2), is.3)

    by_answer : (yes : Bool) (k : ℕ) → test left row ≡ Ok (yes, k)
        → (if yes then Ok (Some i, k) else first_asked test k (suc i) rows) ≡ Ok (r, l)
        → ((k : ℕ) → first_asked test k (suc i) rows ≡ Ok (r, l) → IsAsked test (suc i) rows r)
        → IsAsked test i (row ∷ rows) r
    by_answer true k e h more =
        let f = same_first (Some i) r k l h in
        subst (IsAsked test i (row ∷ rows)) f
        (0, omega arith, omega arith, record { left = left; rest = k; says = e })
    by_answer false k e h more = further r k e (more k h)

-- what a step can be: no point, a split or a pivot at a row below 0, such a row that shows no point, a cut, a leaf
pub record StepCases (n : ℕ) (node : Node) (P : Next → Type 0) : Type 0 where
  pub is_empty : (left k : ℕ) → context_holds left node.parameters node.context ≡ Ok (false, k) → P (ends initial)
  pub is_split : (r : ℕ) → r < length node.rows
      → IsYes (λ l row. below_somewhere l node (part_of n row)) (row_at node.rows r)
      → IsYes (λ l row. above_somewhere l node (part_of n row)) (row_at node.rows r)
      → (g : Affine) → opposite_run (part_of n (row_at node.rows r)) ≡ Ok g
      → P (splits (part_of n (row_at node.rows r)) (side node (part_of n (row_at node.rows r))) (side node g))
  pub is_pivoted : (r : ℕ) → r < length node.rows → (rows : List Row) → pivot_run n node.rows r ≡ Ok rows
      → P (goes (with_rows node rows))
  pub is_blocked : (r left k : ℕ) → r < length node.rows
      → above_somewhere left node (part_of n (row_at node.rows r)) ≡ Ok (false, k)
      → some_positive (row_at node.rows r) 0 n ≡ false → P (ends initial)
  pub is_cut : (i : ℕ) → i < n → CutCases n node i P
  pub is_leaf : AllNo (λ l row. below_somewhere l node (part_of n row)) node.rows
      → AllNo (λ l row. broken_somewhere l node row.denominator (part_of n row)) (take n node.rows)
      → P (ends (leaf_tree n node.parameters 0 (take n node.rows) []))

pub treated_by : (n left : ℕ) (node : Node) (r : Option ℕ) (next : Next) (l : ℕ) (P : Next → Type 0)
    → n ≤ length node.rows → StepCases n node P
    → IsAsked (λ l row. below_somewhere l node (part_of n row)) 0 node.rows r → treated n left node r ≡ Ok (next, l)
    → P next
treated_by n left node (Some r) next l P many cases is h =
    let f = part_of n (row_at node.rows r) in
    let c = chained-ok (above_somewhere left node f)
    (λ (yes : Bool) (rest : ℕ). if yes then split rest node f else pivot_or_empty n rest node r) next l h in
    let a = is.1 in
    let b = is.2 in
    let same : is.0 ≡ r = omega arith in
    by_answer (omega arith)
    (subst (λ (j : ℕ). IsYes (λ l row. below_somewhere l node (part_of n row)) (row_at node.rows j)) same is.3) c.0 c.1
    c.2 c.3
  where
    by_entries : r < length node.rows → (k : ℕ)
        → above_somewhere left node (part_of n (row_at node.rows r)) ≡ Ok (false, k)
        → (b : Bool) → some_positive (row_at node.rows r) 0 n ≡ b
        → (if b then pivot n k node r else Ok (ends initial, k)) ≡ Ok (next, l) → P next
    by_entries within k e true some h = pivot_by n k node r next l P (λ rows run. cases.is_pivoted r within rows run) h
    by_entries within k e false none h =
        subst P (same_first (ends initial) next k l h) (cases.is_blocked r left k within e none)

    by_answer : r < length node.rows
        → IsYes (λ l row. below_somewhere l node (part_of n row)) (row_at node.rows r)
        → (yes : Bool) (k : ℕ)
        → above_somewhere left node (part_of n (row_at node.rows r)) ≡ Ok (yes, k)
        → (if yes then split k node (part_of n (row_at node.rows r)) else pivot_or_empty n k node r) ≡ Ok (next, l)
        → P next
    by_answer within below true k e h =
        split_by k node (part_of n (row_at node.rows r)) next l P
        (λ g run. cases.is_split r within below (record { left = left; rest = k; says = e }) g run) h
    by_answer within below false k e h = by_entries within k e (some_positive (row_at node.rows r) 0 n) refl h
treated_by n left node None next l P many cases is h =
    let test : ℕ → Row → Counted Bool = λ l row. broken_somewhere l node row.denominator (part_of n row) in
    let c = chained-ok (first_asked test left 0 (take n node.rows))
    (λ (i : Option ℕ) (rest : ℕ). cut_or_leaf n rest node i) next l h in
    by_row c.0 c.1 (first_asked-says test left 0 (take n node.rows) c.0 c.1 c.2) c.3
  where
    by_row : (i : Option ℕ) (k : ℕ)
        → IsAsked (λ l row. broken_somewhere l node row.denominator (part_of n row)) 0 (take n node.rows) i
        → cut_or_leaf n k node i ≡ Ok (next, l) → P next
    by_row None k nos h =
        subst P (same_first (ends (leaf_tree n node.parameters 0 (take n node.rows) [])) next k l h)
        (cases.is_leaf is nos)
    by_row (Some i) k found h =
        let a = found.1 in
        let b = found.2 in
        let count = length-take-le n node.rows many in
        cut_by n k node i next l P (cases.is_cut i (omega arith)) h

pub looked_by : (n left : ℕ) (node : Node) (next : Next) (l : ℕ) (P : Next → Type 0) → n ≤ length node.rows
    → StepCases n node P → looked n left node ≡ Ok (next, l) → P next
looked_by n left node next l P many cases h =
    let test : ℕ → Row → Counted Bool = λ l row. below_somewhere l node (part_of n row) in
    let c = chained-ok (first_asked test left 0 node.rows) (λ (r : Option ℕ) (rest : ℕ). treated n rest node r) next l
    h in
    treated_by n c.1 node c.0 next l P many cases (first_asked-says test left 0 node.rows c.0 c.1 c.2) c.3

pub step_by : (n left : ℕ) (node : Node) (next : Next) (l : ℕ) (P : Next → Type 0) → n ≤ length node.rows
    → StepCases n node P → step n left node ≡ Ok (next, l) → P next
unfolding step
step_by n left node next l P many cases h = by_begin node.begins h
  where
    by_answer : (yes : Bool) (k : ℕ) → context_holds left node.parameters node.context ≡ Ok (yes, k)
        → (if yes then looked n k node else Ok (ends initial, k)) ≡ Ok (next, l) → P next
    by_answer true k e h = looked_by n k node next l P many cases h
    by_answer false k e h = subst P (same_first (ends initial) next k l h) (cases.is_empty left k e)

    by_begin : (b : Bool)
        → (if b then chained (context_holds left node.parameters node.context)
        (λ yes rest. if yes then looked n rest node else Ok (ends initial, rest))
        else looked n left node) ≡ Ok (next, l) → P next
    by_begin true h =
        let c = chained-ok (context_holds left node.parameters node.context)
        (λ (yes : Bool) (rest : ℕ). if yes then looked n rest node else Ok (ends initial, rest)) next l h in
        by_answer c.0 c.1 c.2 c.3
    by_begin false h = looked_by n left node next l P many cases h

-- what a step from a node that is S of x hands on: its tree is P of x, or the node that it leads to is S of x, or S of
-- some y, where a bind of a tree that is P of y is P of x, or a branch of two trees that are, as far as their nodes are S
-- of x, P of x, is so
abbrev pub HandsOn : (X : Type 0) → (X → Node → Type 0) → (X → Tree → Type 0) → X → Next → Type 0
HandsOn X S P x (ends tree) = P x tree
HandsOn X S P x (goes node) = S x node
HandsOn X S P x (binds f d node) = (y : X) × S y node × ((t : Tree) → P y t → P x (bind f d t))
HandsOn X S P x (splits f first second) =
    (t u : Tree) → (S x first → P x t) → (S x second → P x u) → P x (branch f t u)

-- so the tree of a run from a node that is S of x is P of x
pub tree_by : (X : Type 0) (S : X → Node → Type 0) (P : X → Tree → Type 0) (n : ℕ)
    → ((x : X) (left : ℕ) (node : Node) (next : Next) (l : ℕ) → S x node → step n left node ≡ Ok (next, l)
    → HandsOn X S P x next)
    → (k left : ℕ) (node : Node) (tree : Tree) (l : ℕ) (x : X) → S x node → tree_run n k left node ≡ Ok (tree, l)
    → P x tree
tree_by X S P n steps zero left node tree l x is h = absurd cc
tree_by X S P n steps (suc k) left node tree l x is h =
    let c = chained-ok (step n left node) (λ (next : Next) (rest : ℕ). followed (tree_run n k) next rest) tree l h in
    by_next c.0 c.1 (steps x left node c.0 c.1 is c.2) c.3 (λ b m t e y s g. tree_by X S P n steps k b m t e y s g)
  where
    by_next : (next : Next) (rest : ℕ) → HandsOn X S P x next → followed (tree_run n k) next rest ≡ Ok (tree, l)
        → ((left : ℕ) (m : Node) (t : Tree) (e : ℕ) (y : X) → S y m → tree_run n k left m ≡ Ok (t, e) → P y t)
        → P x tree
    by_next (ends t) rest on h more = subst (P x) (same_first t tree rest l h) on
    by_next (goes m) rest on h more = more rest m tree l x on h
    by_next (binds f d m) rest on h more =
        let c = chained-ok (tree_run n k rest m) (λ (t : Tree) (end : ℕ). Ok (bind f d t, end)) tree l h in
        subst (P x) (same_first (bind f d c.0) tree c.1 l c.3) (on.2 c.0 (more rest m c.0 c.1 on.0 on.1 c.2))
    by_next (splits f a b) rest on h more =
        let c = chained-ok (tree_run n k rest a)
        (λ (t : Tree) (end : ℕ). chained (tree_run n k end b) (λ u stop. Ok (branch f t u, stop))) tree l h in
        let d = chained-ok (tree_run n k c.1 b) (λ (u : Tree) (stop : ℕ). Ok (branch f c.0 u, stop)) tree l c.3 in
        subst (P x) (same_first (branch f c.0 d.0) tree d.1 l d.3)
        (on c.0 d.0 (λ s. more rest a c.0 c.1 x s c.2) (λ s. more c.1 b d.0 d.1 x s d.2))
