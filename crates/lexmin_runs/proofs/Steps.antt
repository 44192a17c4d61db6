-- More steps than the budget change nothing; a loop with a stack of frames over a run (`resumed_step`,
-- `resumed_stops`).
use Rattle.whole_numbers.proofs.Common.{◌≡◌, ℕ, zero, suc, ◌+◌, ◌<◌, ◌≤◌, ℤ, Bool, true, false, Option, Some, None}
use Rattle.whole_numbers.proofs.Common.{List, [], ◌∷◌, ◌++◌, map, take, refl, ap, ◌∙◌, arith, Result, Ok, Err}
use Rattle.whole_numbers.proofs.Common.{if◌then◌else◌, remainder, Affine}
use Rattle.integer_sets.specs.Wide.{Wide}
use Rattle.tableau_rows.specs.Rows.{Row}
use Rattle.tableau_rows.specs.Moves.{is_below, is_positive, row_at, pivot_run, cut_run}
use Rattle.tableau_rows.specs.Problem.{problem_of, first_rows}
use Rattle.tableau_rows.specs.Run.{Stop, point, none, Step, ends, pivots, cuts, next, moved, Outcome, go_on, at_spent}
use Rattle.tableau_rows.specs.Run.{after, run, question, some_positive}
use Rattle.lexmin_runs.specs.Nodes.{Node, Next, Counted, chained, formed, paid, longer_form, longer_row, part_of}
use Rattle.lexmin_runs.specs.Nodes.{all_zero, place_of, opposite_run, above_run, under_run, at_least_run, answered, ask}
use Rattle.lexmin_runs.specs.Nodes.{context_holds, below_somewhere, above_somewhere, broken_somewhere, first_asked}
use Rattle.lexmin_runs.specs.Nodes.{side, split, with_rows, pivot, taken_off, bound_node, cut_bound, cut, cut_or_leaf}
use Rattle.lexmin_runs.specs.Nodes.{pivot_or_empty, treated, looked, step, followed, tree_run, whole, Frame, resumed}
use Rattle.quast_trees.specs.Tree.{Tree, initial, bind, branch}
use Rattle.lexmin_runs.specs.Nodes as node

-- a counted run leaves at most this
abbrev pub Leaves : {A : Type 0} → ℕ → Counted A → Type 0
Leaves {A} left (Ok x) = x.1 ≤ left
Leaves {A} left (Err stop) = Unit {0}

pub leaves_chained : {A B : Type 0} (left : ℕ) (r : Counted A) (f : A → ℕ → Counted B) → Leaves left r
    → ((x : A) (k : ℕ) → k ≤ left → Leaves left (f x k))
    → Leaves left (chained r f)
leaves_chained left (Ok x) f h g = g x.0 x.1 h
leaves_chained left (Err stop) f h g = tt

pub leaves_formed : {A B : Type 0} (left k : ℕ) (r : Result A Wide) (f : A → Counted B)
    → ((x : A) → Leaves left (f x)) → Leaves left (formed k r f)
leaves_formed left k (Ok x) f g = g x
leaves_formed left k (Err w) f g = tt

pub leaves_more : {A : Type 0} (left more : ℕ) (r : Counted A) → left ≤ more → Leaves left r → Leaves more r
leaves_more left more (Ok x) l h = omega arith
leaves_more left more (Err stop) l h = tt

-- a question
pub leaves_run : (n left : ℕ) (rows : List Row) → Leaves left (run n left rows)
leaves_run n zero rows = by_step (next n rows)
  where
    by_step : (s : Step) → Leaves 0 (at_spent s)
    by_step (ends v) = omega arith
    by_step (pivots r) = tt
    by_step (cuts i) = tt
leaves_run n (suc left) rows = by_step (next n rows) (λ news. leaves_run n left news)
  where
    going : (r : Result (List Row) Wide) → ((news : List Row) → Leaves left (run n left news))
        → Leaves (suc left) (go_on (run n left) (suc left) r)
    going (Ok news) more = leaves_more left (suc left) (run n left news) (omega arith) (more news)
    going (Err w) more = tt

    by_step : (s : Step) → ((news : List Row) → Leaves left (run n left news))
        → Leaves (suc left) (after (run n left) n rows left s)
    by_step (ends v) more = omega arith
    by_step (pivots r) more = going (moved n rows (pivots r)) more
    by_step (cuts i) more = going (moved n rows (cuts i)) more

pub leaves_ask : (left m : ℕ) (rows : List Affine) → Leaves left (ask left m rows)
unfolding question
leaves_ask left m rows =
    by_outcome (run m left (first_rows 0 (problem_of m rows))) (leaves_run m left (first_rows 0 (problem_of m rows)))
  where
    by_outcome : (o : Outcome) → Leaves left o → Leaves left (answered o)
    by_outcome (Ok (point xs, k)) h = h
    by_outcome (Ok (none, k)) h = h
    by_outcome (Err stop) h = tt

pub leaves_if : {A : Type 0} (left : ℕ) (b : Bool) (r s : Counted A) → Leaves left r → Leaves left s
    → Leaves left (if b then r else s)
leaves_if left true r s h k = h
leaves_if left false r s h k = k

pub leaves_below : (left : ℕ) (n : Node) (f : Affine) → Leaves left (below_somewhere left n f)
leaves_below left n f =
    leaves_if left (all_zero f.coefficients) (Ok (is_below f.constant, left))
    (formed left (opposite_run f) (λ g. ask left n.parameters (n.context ++ g ∷ []))) (omega arith)
    (leaves_formed left left (opposite_run f) (λ (g : Affine). ask left n.parameters (n.context ++ g ∷ []))
    (λ g. leaves_ask left n.parameters (n.context ++ g ∷ [])))

pub leaves_above : (left : ℕ) (n : Node) (f : Affine) → Leaves left (above_somewhere left n f)
leaves_above left n f =
    leaves_if left (all_zero f.coefficients) (Ok ((if is_below f.constant then false else true), left))
    (ask left n.parameters (n.context ++ f ∷ [])) (omega arith)
    (leaves_ask left n.parameters (n.context ++ f ∷ []))

pub leaves_broken : (left : ℕ) (n : Node) (d : ℤ) (f : Affine) → Leaves left (broken_somewhere left n d f)
leaves_broken left n d f =
    leaves_if left (all_zero f.coefficients) (Ok (is_positive (remainder f.constant d), left))
    (formed left (above_run d f) (λ g. formed left (under_run d f)
    (λ h. ask left (n.parameters + 1) (map longer_form n.context ++ g ∷ h ∷ [])))) (omega arith)
    (leaves_formed left left (above_run d f)
    (λ (g : Affine). formed left (under_run d f)
    (λ h. ask left (n.parameters + 1) (map longer_form n.context ++ g ∷ h ∷ [])))
    (λ g. leaves_formed left left (under_run d f)
    (λ (h : Affine). ask left (n.parameters + 1) (map longer_form n.context ++ g ∷ h ∷ []))
    (λ h. leaves_ask left (n.parameters + 1) (map longer_form n.context ++ g ∷ h ∷ []))))

pub leaves_context : (left m : ℕ) (fs : List Affine) → Leaves left (context_holds left m fs)
leaves_context left zero fs = omega arith
leaves_context left (suc m) fs = leaves_ask left (suc m) fs

pub leaves_first : (test : ℕ → Row → Counted Bool) (left i : ℕ) (rows : List Row)
    → ((l : ℕ) (row : Row) → Leaves l (test l row))
    → Leaves left (first_asked test left i rows)
leaves_first test left i [] h = omega arith
leaves_first test left i (row ∷ rows) h =
    leaves_chained left (test left row)
    (λ (yes : Bool) (rest : ℕ). if yes then Ok (Some i, rest) else first_asked test rest (suc i) rows) (h left row)
    (further (λ k. leaves_first test k (suc i) rows h))
  where
    further : ((k : ℕ) → Leaves k (first_asked test k (suc i) rows)) → (yes : Bool) (k : ℕ) → k ≤ left
        → Leaves left (if yes then Ok (Some i, k) else first_asked test k (suc i) rows)
    further more true k l = l
    further more false k l = leaves_more k left (first_asked test k (suc i) rows) l (more k)

-- a step leaves at most the budget, and less where the run goes on
abbrev pub Costs : ℕ → Counted Next → Type 0
Costs left (Ok (node.ends tree, k)) = k ≤ left
Costs left (Ok (node.goes n, k)) = k < left
Costs left (Ok (node.binds f d n, k)) = k < left
Costs left (Ok (node.splits f a b, k)) = k < left
Costs left (Err stop) = Unit {0}

pub costs_more : (left more : ℕ) (r : Counted Next) → left ≤ more → Costs left r → Costs more r
costs_more left more (Ok (node.ends tree, k)) l h = omega arith
costs_more left more (Ok (node.goes n, k)) l h = omega arith
costs_more left more (Ok (node.binds f d n, k)) l h = omega arith
costs_more left more (Ok (node.splits f a b, k)) l h = omega arith
costs_more left more (Err stop) l h = tt

pub costs_chained : {A : Type 0} (left : ℕ) (r : Counted A) (f : A → ℕ → Counted Next) → Leaves left r
    → ((x : A) (k : ℕ) → Costs k (f x k))
    → Costs left (chained r f)
costs_chained left (Ok x) f h g = costs_more x.1 left (f x.0 x.1) h (g x.0 x.1)
costs_chained left (Err stop) f h g = tt

pub costs_formed : {A : Type 0} (left k : ℕ) (r : Result A Wide) (f : A → Counted Next)
    → ((x : A) → Costs left (f x)) → Costs left (formed k r f)
costs_formed left k (Ok x) f g = g x
costs_formed left k (Err w) f g = tt

pub costs_paid : (left : ℕ) (f : ℕ → Counted Next) → ((k : ℕ) → k < left → Costs left (f k)) → Costs left (paid left f)
costs_paid zero f g = tt
costs_paid (suc left) f g = g left (omega arith)

pub costs_if : (left : ℕ) (b : Bool) (r s : Counted Next) → Costs left r → Costs left s
    → Costs left (if b then r else s)
costs_if left true r s h k = h
costs_if left false r s h k = k

pub costs_cut : (n left : ℕ) (m : Node) (i : ℕ) → Costs left (cut n left m i)
costs_cut n left m i =
    costs_paid left (λ rest.
    if all_zero (taken_off n (row_at m.rows i)).coefficients
    then formed left (cut_run n None (row_at m.rows i))
    (λ new. Ok (node.goes (with_rows m (m.rows ++ new ∷ [])), rest))
    else cut_bound n left rest m i (place_of (taken_off n (row_at m.rows i)) (row_at m.rows i).denominator m.bounds))
    (λ k l. costs_if left (all_zero (taken_off n (row_at m.rows i)).coefficients)
    (formed left (cut_run n None (row_at m.rows i)) (λ new. Ok (node.goes (with_rows m (m.rows ++ new ∷ [])), k)))
    (cut_bound n left k m i (place_of (taken_off n (row_at m.rows i)) (row_at m.rows i).denominator m.bounds))
    (costs_formed left left (cut_run n None (row_at m.rows i))
    (λ (new : Row). Ok (node.goes (with_rows m (m.rows ++ new ∷ [])), k)) (λ new. l))
    (by_place k l (place_of (taken_off n (row_at m.rows i)) (row_at m.rows i).denominator m.bounds)))
  where
    by_place : (k : ℕ) → k < left → (place : Option ℕ) → Costs left (cut_bound n left k m i place)
    by_place k l (Some j) =
        costs_formed left left (cut_run n (Some (n + 1 + j)) (row_at m.rows i))
        (λ (new : Row). Ok (node.goes (with_rows m (m.rows ++ new ∷ [])), k)) (λ new. l)
    by_place k l None =
        let f = taken_off n (row_at m.rows i) in
        let d = (row_at m.rows i).denominator in
        costs_formed left left (cut_run n (Some (n + 1 + m.parameters)) (longer_row (row_at m.rows i))) (λ (new : Row).
        formed left (at_least_run d f)
        (λ low. formed left (under_run d f) (λ high. Ok (node.binds f d (bound_node n m f d new low high), k))))
        (λ new. costs_formed left left (at_least_run d f)
        (λ (low : Affine). formed left (under_run d f)
        (λ high. Ok (node.binds f d (bound_node n m f d new low high), k)))
        (λ low. costs_formed left left (under_run d f)
        (λ (high : Affine). Ok (node.binds f d (bound_node n m f d new low high), k)) (λ high. l)))

pub costs_treated : (n left : ℕ) (m : Node) (r : Option ℕ) → Costs left (treated n left m r)
costs_treated n left m (Some r) =
    costs_chained left (above_somewhere left m (part_of n (row_at m.rows r))) (λ (yes : Bool) (rest : ℕ).
    if yes then split rest m (part_of n (row_at m.rows r)) else pivot_or_empty n rest m r)
    (leaves_above left m (part_of n (row_at m.rows r)))
    (λ yes k. costs_if k yes (split k m (part_of n (row_at m.rows r))) (pivot_or_empty n k m r)
    (costs_paid k (λ rest. formed k (opposite_run (part_of n (row_at m.rows r))) (λ g.
    Ok (node.splits (part_of n (row_at m.rows r)) (side m (part_of n (row_at m.rows r))) (side m g), rest)))
    (λ j l. costs_formed k k (opposite_run (part_of n (row_at m.rows r))) (λ (g : Affine).
    Ok (node.splits (part_of n (row_at m.rows r)) (side m (part_of n (row_at m.rows r))) (side m g), j)) (λ g. l)))
    (costs_if k (some_positive (row_at m.rows r) 0 n) (pivot n k m r) (Ok (node.ends initial, k))
    (costs_paid k (λ rest. formed k (pivot_run n m.rows r) (λ rows. Ok (node.goes (with_rows m rows), rest)))
    (λ j l. costs_formed k k (pivot_run n m.rows r) (λ (rows : List Row). Ok (node.goes (with_rows m rows), j))
    (λ rows. l)))
    (omega arith)))
costs_treated n left m None =
    let test : ℕ → Row → Counted Bool = λ l row. broken_somewhere l m row.denominator (part_of n row) in
    costs_chained left (first_asked test left 0 (take n m.rows)) (λ (i : Option ℕ) (rest : ℕ). cut_or_leaf n rest m i)
    (leaves_first test left 0 (take n m.rows) (λ l row. leaves_broken l m row.denominator (part_of n row))) by_row
  where
    by_row : (i : Option ℕ) (k : ℕ) → Costs k (cut_or_leaf n k m i)
    by_row None k = omega arith
    by_row (Some i) k = costs_cut n k m i

pub costs_looked : (n left : ℕ) (m : Node) → Costs left (looked n left m)
costs_looked n left m =
    let test : ℕ → Row → Counted Bool = λ l row. below_somewhere l m (part_of n row) in
    costs_chained left (first_asked test left 0 m.rows) (λ (r : Option ℕ) (rest : ℕ). treated n rest m r)
    (leaves_first test left 0 m.rows (λ l row. leaves_below l m (part_of n row))) (λ r k. costs_treated n k m r)

pub costs_step : (n left : ℕ) (m : Node) → Costs left (step n left m)
unfolding step
costs_step n left m =
    costs_if left m.begins
    (chained (context_holds left m.parameters m.context)
    (λ yes rest. if yes then looked n rest m else Ok (node.ends initial, rest))) (looked n left m)
    (costs_chained left (context_holds left m.parameters m.context)
    (λ (yes : Bool) (rest : ℕ). if yes then looked n rest m else Ok (node.ends initial, rest))
    (leaves_context left m.parameters m.context)
    (λ yes k. costs_if k yes (looked n k m) (Ok (node.ends initial, k)) (costs_looked n k m) (omega arith)))
    (costs_looked n left m)

-- a run leaves at most what it got
pub leaves_tree : (n k left : ℕ) (m : Node) → Leaves left (tree_run n k left m)
leaves_tree n zero left m = tt
leaves_tree n (suc k) left m = by_step (step n left m) (costs_step n left m) (λ l q. leaves_tree n k l q)
  where
    by_step : (r : Counted Next) → Costs left r → ((l : ℕ) (q : Node) → Leaves l (tree_run n k l q))
        → Leaves left (chained r (λ next rest. followed (tree_run n k) next rest))
    by_step (Err stop) h more = tt
    by_step (Ok (node.ends t, j)) h more = h
    by_step (Ok (node.goes q, j)) h more = leaves_more j left (tree_run n k j q) (omega arith) (more j q)
    by_step (Ok (node.binds f d q, j)) h more =
        leaves_chained left (tree_run n k j q) (λ (t : Tree) (rest : ℕ). Ok (bind f d t, rest))
        (leaves_more j left (tree_run n k j q) (omega arith) (more j q)) (λ t i l. l)
    by_step (Ok (node.splits f a b, j)) h more =
        leaves_chained left (tree_run n k j a)
        (λ (t : Tree) (rest : ℕ). chained (tree_run n k rest b) (λ u end. Ok (branch f t u, end)))
        (leaves_more j left (tree_run n k j a) (omega arith) (more j a))
        (λ t i l. leaves_chained left (tree_run n k i b) (λ (u : Tree) (end : ℕ). Ok (branch f t u, end))
        (leaves_more i left (tree_run n k i b) l (more i b)) (λ u e g. g))

-- more steps than the budget change nothing
pub agree : (n k j left : ℕ) (m : Node) → left < k → left < j → tree_run n k left m ≡ tree_run n j left m
agree n zero j left m h g = absurd (omega arith)
agree n (suc k) zero left m h g = absurd (omega arith)
agree n (suc k) (suc j) left m h g = by_step (step n left m) (costs_step n left m) (λ l q a b. agree n k j l q a b)
  where
    second : (f : Affine) (b : Node) (i : ℕ) → i < left → (r : Counted Tree) → Leaves i r
        → ((l : ℕ) (q : Node) → l < k → l < j → tree_run n k l q ≡ tree_run n j l q)
        → chained r (λ t rest. chained (tree_run n k rest b) (λ u end. Ok (branch f t u, end)))
        ≡ chained r (λ t rest. chained (tree_run n j rest b) (λ u end. Ok (branch f t u, end)))
    second f b i l (Err stop) least more = refl
    second f b i l (Ok (t, rest)) least more =
        ap (λ (r : Counted Tree). chained r (λ u end. Ok (branch f t u, end)))
        (more rest b (omega arith) (omega arith))

    by_step : (r : Counted Next) → Costs left r
        → ((l : ℕ) (q : Node) → l < k → l < j → tree_run n k l q ≡ tree_run n j l q)
        → chained r (λ next rest. followed (tree_run n k) next rest) ≡ chained r
        (λ next rest. followed (tree_run n j) next rest)
    by_step (Err stop) c more = refl
    by_step (Ok (node.ends t, i)) c more = refl
    by_step (Ok (node.goes q, i)) c more = more i q (omega arith) (omega arith)
    by_step (Ok (node.binds f d q, i)) c more =
        ap (λ (r : Counted Tree). chained r (λ t rest. Ok (bind f d t, rest))) (more i q (omega arith) (omega arith))
    by_step (Ok (node.splits f a b, i)) c more =
        ap (λ (r : Counted Tree). chained r
        (λ t rest. chained (tree_run n k rest b) (λ u end. Ok (branch f t u, end))))
        (more i a (omega arith) (omega arith))
        ∙ second f b i c (tree_run n j i a) (leaves_tree n j i a) more

-- the run goes on by its steps
pub whole_step : (n left : ℕ) (m : Node)
    → whole n left m ≡ chained (step n left m) (λ next rest. followed (λ l q. whole n l q) next rest)
unfolding whole
whole_step n left m = by_step (step n left m) (costs_step n left m)
  where
    by_step : (r : Counted Next) → Costs left r
        → chained r (λ next rest. followed (tree_run n left) next rest) ≡ chained r
        (λ next rest. followed (λ l q. tree_run n (suc l) l q) next rest)
    by_step (Err stop) c = refl
    by_step (Ok (node.ends t, i)) c = refl
    by_step (Ok (node.goes q, i)) c = agree n left (suc i) i q c (omega arith)
    by_step (Ok (node.binds f d q, i)) c =
        ap (λ (r : Counted Tree). chained r (λ t rest. Ok (bind f d t, rest)))
        (agree n left (suc i) i q c (omega arith))
    by_step (Ok (node.splits f a b, i)) c =
        ap (λ (r : Counted Tree). chained r
        (λ t rest. chained (tree_run n left rest b) (λ u end. Ok (branch f t u, end))))
        (agree n left (suc i) i a c (omega arith))
        ∙ second (tree_run n (suc i) i a) (leaves_tree n (suc i) i a)
      where
        second : (r : Counted Tree) → Leaves i r
            → chained r (λ t rest. chained (tree_run n left rest b) (λ u end. Ok (branch f t u, end)))
            ≡ chained r (λ t rest. chained (tree_run n (suc rest) rest b) (λ u end. Ok (branch f t u, end)))
        second (Err stop) least = refl
        second (Ok (t, rest)) least =
            ap (λ (r : Counted Tree). chained r (λ u end. Ok (branch f t u, end)))
            (agree n left (suc rest) rest b (omega arith) (omega arith))

-- a loop with a stack of frames keeps `resumed n frames (whole n left node)`
pub resumed_step : (n left : ℕ) (m : Node) (frames : List Frame) (r : Counted Next) → step n left m ≡ r
    → resumed n frames (whole n left m)
    ≡ resumed n frames (chained r (λ next rest. followed (λ l q. whole n l q) next rest))
resumed_step n left m frames r h =
    ap (λ (t : Counted Tree). resumed n frames t)
    (whole_step n left m ∙ ap (λ (q : Counted Next). chained q
    (λ next rest. followed (λ l q. whole n l q) next rest)) h)

pub resumed_stops : (n left : ℕ) (m : Node) (frames : List Frame) (stop : Stop) → step n left m ≡ Err stop
    → resumed n frames (whole n left m) ≡ Err stop
resumed_stops n left m frames stop h = resumed_step n left m frames (Err stop) h ∙ through frames
  where
    through : (frames : List Frame) → resumed n frames (Err stop) ≡ Err stop
    through [] = refl
    through (node.binding f d ∷ frames) = through frames
    through (node.second f m ∷ frames) = through frames
    through (node.joining f a ∷ frames) = through frames
