-- Each step of a node keeps its whole solutions.
use Rattle.whole_numbers.proofs.Common.{◌≡◌, ◌↔◌, ℕ, zero, suc, ◌+◌, ◌<◌, ℤ, pos, ◌+ℤ◌, ◌≤ℤ◌, ◌<ℤ◌, Bool, true, false}
use Rattle.whole_numbers.proofs.Common.{Option, Some, None, List, [], ◌∷◌, ◌++◌, length, get_or, map, take, refl, subst}
use Rattle.whole_numbers.proofs.Common.{ap, sym, ◌∙◌, arith, length-append, add-one, Ok, if◌then◌else◌, ints}
use Rattle.whole_numbers.proofs.Common.{length-map, length-drop, length-take-le, NotNegative, not_negative-append}
use Rattle.whole_numbers.proofs.Common.{Affine, value_of, floor, IsFloor, floor_is, floor_unique, floor_at_least}
use Rattle.whole_numbers.proofs.Common.{mul_zero_left, mul_comm_int, dot-past}
use Rattle.tableau_rows.specs.Rows.{Row, Sized}
use Rattle.tableau_rows.specs.Moves.{row_at, pivot_run, cut_run}
use Rattle.tableau_rows.specs.Problem.{IsPoint, problem_of, row_values, Speaks}
use Rattle.tableau_rows.specs.Solutions.{IsTableau, IsTied, IsPlaced, HaveSameSolutions, tie}
use Rattle.tableau_rows.proofs.Points.{sized_take, sized_at, not_negative-parts}
use Rattle.tableau_rows.proofs.KeptSolutions.{pivot_run_keeps, cut_keeps_tableau, cut_keeps_solutions, cut_back}
use Rattle.tableau_rows.proofs.FirstTableau.{first_tableau, first_solutions}
use Rattle.lexmin_runs.specs.Nodes.{Node, Next, Bound, ends, goes, binds, splits, longer_form, longer_row, part_of}
use Rattle.lexmin_runs.specs.Nodes.{place_of, is_bound_as, opposite_run, under_run, at_least_run, side, split}
use Rattle.lexmin_runs.specs.Nodes.{with_rows, pivot, taken_off, bound_node, cut, step, leaf_tree, tree_run, whole}
use Rattle.lexmin_runs.specs.Nodes.{first_node, lexmin_run}
use Rattle.lexmin_runs.specs.Solutions.{IsInContext, IsNodeSolution, AreBound, ArePlaced, IsNode, LeadsOn}
use Rattle.lexmin_runs.specs.Solutions.{KeepsSolutions}
use Rattle.lexmin_runs.proofs.LeafParameters.{leaf_tree-speaks, leaf_tree-forms}
use Rattle.lexmin_runs.proofs.AddedParameters.{longer_forth, longer_back, longer_tableau, row_at-longer, values-longer}
use Rattle.lexmin_runs.proofs.AddedParameters.{speaks-longer, speaks-append, row_values-append}
use Rattle.lexmin_runs.proofs.QuestionAnswers.{opposite-value, under-value, under-size, at_least-value, at_least-size}
use Rattle.lexmin_runs.proofs.Cuts.{taken_off-value, taken_off_not_negative, taken_off_size, get_or-last}
use Rattle.lexmin_runs.proofs.Cuts.{constant_floor, bound_floor, bound-more, tied_new}
use Rattle.lexmin_runs.proofs.Cases.{HandsOn, tree_by, split_by, pivot_by, CutCases, cut_by, step_by}
use Rattle.quast_trees.specs.Tree.{LeavesHave, Tree, Speaks as TreeSpeaks}

-- one row more of the context
pub in_side : (node : Node) (f : Affine) (p : List ℤ)
    → IsInContext (side node f) p ↔ (IsInContext node p × (pos 0 ≤ℤ value_of f p))
in_side node f p = (
  λ h. let both = not_negative-parts (row_values node.context p) (value_of f p ∷ [])
      (subst NotNegative (row_values-append node.context (f ∷ []) p) h.rows) in
      (record { size = h.size; not_negative = h.not_negative; rows = both.0 }, both.1.0),
  λ h. record {
    size = h.0.size;
    not_negative = h.0.not_negative;
    rows = subst NotNegative (sym (row_values-append node.context (f ∷ []) p))
        (not_negative-append (row_values node.context p) (value_of f p ∷ []) h.0.rows (h.1, tt));
  },
)

pub side_node : (n : ℕ) (node : Node) (f : Affine) → IsNode n node → length f.coefficients ≡ node.parameters
    → IsNode n (side node f)
side_node n node f is size =
    record {
      tableau = is.tableau;
      speaks = speaks-append node.parameters node.context (f ∷ []) is.speaks (size, tt);
      placed = is.placed;
      bound = λ p h. is.bound p ((in_side node f p).0 h).0;
    }

pub side_solutions : (n : ℕ) (node : Node) (f : Affine) (p x : List ℤ)
    → IsNodeSolution n (side node f) p x ↔ (IsNodeSolution n node p x × (pos 0 ≤ℤ value_of f p))
side_solutions n node f p x = (
  λ h. let both = (in_side node f p).0 h.context in (record { context = both.0; solution = h.solution }, both.1),
  λ h. record { context = (in_side node f p).1 (h.0.context, h.1); solution = h.0.solution },
)

-- what a move leads to is nodes, and they keep the whole solutions
abbrev pub Keeps : ℕ → Node → Next → Type 0
Keeps n node next = LeadsOn n node.parameters next × KeepsSolutions n node next

pub split_made : (n : ℕ) (node : Node) (f g : Affine) → IsNode n node → length f.coefficients ≡ node.parameters
    → opposite_run f ≡ Ok g → Keeps n node (splits f (side node f) (side node g))
split_made n node f g is size run = (
  (side_node n node f is size, side_node n node g is ((opposite-value f g [] run).1 ∙ size), refl, refl, size),
  λ p x. (side_solutions n node f p x, below p x),
)
  where
    below : (p x : List ℤ)
        → IsNodeSolution n (side node g) p x ↔ (IsNodeSolution n node p x × (value_of f p <ℤ pos 0))
    below p x =
        let o = (opposite-value f g p run).0 in
        let s = side_solutions n node g p x in (
          λ h. let both = s.0 h in let k = both.1 in (both.0, omega (arith, ints)),
          λ h. let k = h.1 in s.1 (h.0, omega (arith, ints)),
        )

pub split_keeps : (n left : ℕ) (node : Node) (f : Affine) (next : Next) (l : ℕ) → IsNode n node
    → length f.coefficients ≡ node.parameters
    → split left node f ≡ Ok (next, l) → LeadsOn n node.parameters next × KeepsSolutions n node next
split_keeps n left node f next l is size h =
    split_by left node f next l (Keeps n node) (λ g run. split_made n node f g is size run) h

-- other rows under the same context
pub rows_node : (n : ℕ) (node : Node) (rows : List Row) → IsNode n node → IsTableau n node.parameters rows
    → IsNode n (with_rows node rows)
rows_node n node rows is tableau =
    record {
      tableau = tableau;
      speaks = is.speaks;
      placed = is.placed;
      bound = λ p h. is.bound p (record { size = h.size; not_negative = h.not_negative; rows = h.rows });
    }

pub rows_solutions : (n : ℕ) (node : Node) (rows : List Row) (p x : List ℤ)
    → (IsInContext node p → HaveSameSolutions n node.rows rows p)
    → IsNodeSolution n node p x ↔ IsNodeSolution n (with_rows node rows) p x
rows_solutions n node rows p x same = (
  λ h. record {
    context = record { size = h.context.size; not_negative = h.context.not_negative; rows = h.context.rows };
    solution = (same h.context x).0 h.solution;
  },
  λ h. let here : IsInContext node p = record
      { size = h.context.size; not_negative = h.context.not_negative; rows = h.context.rows } in
      record { context = here; solution = (same here x).1 h.solution },
)

pub pivot_made : (n : ℕ) (node : Node) (r : ℕ) (rows : List Row) → IsNode n node → r < length node.rows
    → pivot_run n node.rows r ≡ Ok rows → Keeps n node (goes (with_rows node rows))
pivot_made n node r rows is within run =
    let kept = pivot_run_keeps n node.parameters r node.rows rows is.tableau within run in (
      (rows_node n node rows is kept.0, refl),
      λ p x. rows_solutions n node rows p x (λ here. kept.1 p here.size),
    )

pub pivot_keeps : (n left : ℕ) (node : Node) (r : ℕ) (next : Next) (l : ℕ) → IsNode n node → r < length node.rows
    → pivot n left node r ≡ Ok (next, l) → LeadsOn n node.parameters next × KeepsSolutions n node next
pivot_keeps n left node r next l is within h =
    pivot_by n left node r next l (Keeps n node) (λ rows run. pivot_made n node r rows is within run) h

-- a cut that needs no new parameter
pub cut_old_keeps : (n : ℕ) (node : Node) (i : ℕ) (place : Option ℕ) (new : Row) → IsNode n node → i < n
    → cut_run n place (row_at node.rows i) ≡ Ok new → IsPlaced n node.parameters place
    → ((p : List ℤ) → IsInContext node p → (ys : List ℤ) → length ys ≡ n
    → IsFloor (value_of (taken_off n (row_at node.rows i)) p) (row_at node.rows i).denominator
    (tie place (ys ++ pos 1 ∷ p)))
    → Keeps n node (goes (with_rows node (node.rows ++ new ∷ [])))
cut_old_keeps n node i place new is below run placed floors =
    let row = row_at node.rows i in
    let within : i < length node.rows = let k = is.tableau.many in omega arith in (
      (
        rows_node n node (node.rows ++ new ∷ []) is
            (cut_keeps_tableau n node.parameters i place node.rows new is.tableau within run),
        refl,
      ),
      λ p x. rows_solutions n node (node.rows ++ new ∷ []) p x
          (λ here. cut_keeps_solutions n node.parameters i place node.rows new is.tableau within placed run p here.size
          (λ ys size. subst (λ (z : ℤ). IsFloor z row.denominator (tie place (ys ++ pos 1 ∷ p)))
          (taken_off-value n row p)
          (floors p here ys size))),
    )

pub placed_more : (m : ℕ) (bs : List Bound) → ArePlaced m bs → ArePlaced (suc m) bs
placed_more m [] h = tt
placed_more m (b ∷ bs) h = (let k = h.0 in omega arith, placed_more m bs h.1)

pub place_within : (f : Affine) (d : ℤ) (m : ℕ) (bs : List Bound) (k : ℕ) → ArePlaced m bs → place_of f d bs ≡ Some k
    → k < m
place_within f d m [] k placed h = cc
place_within f d m (b ∷ bs) k placed h = by_match (is_bound_as f d b) h (λ g. place_within f d m bs k placed.1 g)
  where
    by_match : (c : Bool) → (if c then Some b.place else place_of f d bs) ≡ Some k
        → (place_of f d bs ≡ Some k → k < m) → k < m
    by_match true h more = let e : b.place ≡ k = cc in subst (λ (j : ℕ). j < m) e placed.0
    by_match false h more = more h

-- a list of one number more
pub last_apart : (m : ℕ) (p : List ℤ) → length p ≡ suc m
    → (front : List ℤ) × (q : ℤ) × (p ≡ front ++ q ∷ []) × (length front ≡ m)
last_apart m [] h = absurd (omega arith)
last_apart zero (x ∷ []) h = ([], x, refl, refl)
last_apart zero (x ∷ y ∷ p) h = absurd (omega arith)
last_apart (suc m) (x ∷ p) h =
    let more = last_apart m p (omega arith) in
    (x ∷ more.0, more.1, ap (λ (zs : List ℤ). x ∷ zs) more.2, let e = more.3 in omega arith)

-- a context with one parameter more, tied to the quotient
pub in_bound : (n : ℕ) (node : Node) (f : Affine) (d : ℤ) (new : Row) (low high : Affine) (p : List ℤ) (q : ℤ)
    → Speaks node.parameters node.context
    → length p ≡ node.parameters → length f.coefficients ≡ node.parameters → pos 0 <ℤ d
    → at_least_run d f ≡ Ok low → under_run d f ≡ Ok high → (NotNegative p → pos 0 ≤ℤ value_of f p)
    → IsInContext (bound_node n node f d new low high) (p ++ q ∷ []) ↔
    (IsInContext node p × IsFloor (value_of f p) d q)
in_bound n node f d new low high p q speaks size fsize positive at_least under up =
    let old = map longer_form node.context in
    let p' = p ++ q ∷ [] in
    let same = values-longer node.context p q (subst (λ (j : ℕ). Speaks j node.context) (sym size) speaks) in
    let parts = row_values-append old (low ∷ high ∷ []) p' in
    let lv = (at_least-value d f low p q (fsize ∙ sym size) at_least).0 in
    let uv = (under-value d f high p q (fsize ∙ sym size) under).0 in
    let c = mul_comm_int q d in (
      λ h. let both = not_negative-parts (row_values old p') (value_of low p' ∷ value_of high p' ∷ [])
          (subst NotNegative parts h.rows) in
          let front = not_negative-parts p (q ∷ []) h.not_negative in
          let l = both.1.0 in
          let u = both.1.1.0 in (
            record { size = size; not_negative = front.0; rows = subst NotNegative same both.0 },
            record { below = omega (arith, ints); above = omega (arith, ints) },
          ),
      λ h. let fb = h.1.below in
          let fa = h.1.above in
          record {
            size = simp length-append (omega arith);
            not_negative = not_negative-append p (q ∷ []) h.0.not_negative (
              (floor_at_least (value_of f p) d q (pos 0) positive h.1).1
                  (let z = mul_zero_left d in let k = up h.0.not_negative in omega (arith, ints)),
              tt,
            );
            rows = subst NotNegative (sym parts)
                (not_negative-append (row_values old p') (value_of low p' ∷ value_of high p' ∷ [])
                (subst NotNegative (sym same) h.0.rows) (omega (arith, ints), (omega (arith, ints), tt)));
          },
    )

-- a cut with a new one
pub cut_new_keeps : (n : ℕ) (node : Node) (i : ℕ) (new : Row) (low high : Affine) → IsNode n node → i < n
    → cut_run n (Some (n + 1 + node.parameters)) (longer_row (row_at node.rows i)) ≡ Ok new
    → at_least_run (row_at node.rows i).denominator (taken_off n (row_at node.rows i)) ≡ Ok low
    → under_run (row_at node.rows i).denominator (taken_off n (row_at node.rows i)) ≡ Ok high
    → Keeps n node (binds (taken_off n (row_at node.rows i)) (row_at node.rows i).denominator
    (bound_node n node (taken_off n (row_at node.rows i)) (row_at node.rows i).denominator new low high))
cut_new_keeps n node i new low high is below run at_least under = (
  (
    record {
      tableau = tableau;
      speaks = speaks;
      placed = (omega arith, placed_more node.parameters node.bounds is.placed);
      bound = bound;
    },
    refl,
    fsize,
    (let k = at.0 in omega (arith, ints)),
  ),
  λ p x q. (forth p x q, back p x q),
)
  where
    m : ℕ
    m = node.parameters

    row : Row
    row = row_at node.rows i

    d : ℤ
    d = (row_at node.rows i).denominator

    f : Affine
    f = taken_off n (row_at node.rows i)

    within : i < length node.rows
    within = let k = is.tableau.many in omega arith

    at : (pos 0 <ℤ (row_at node.rows i).denominator) × (length (row_at node.rows i).entries ≡ n + 1 + node.parameters)
    at = sized_at (n + 1 + node.parameters) node.rows i within is.tableau.sized

    fsize : length (taken_off n (row_at node.rows i)).coefficients ≡ node.parameters
    fsize = taken_off_size n node.parameters (row_at node.rows i) at.1

    longer : IsTableau n (suc node.parameters) (map longer_row node.rows)
    longer = longer_tableau n node.parameters node.rows is.tableau

    cut_longer : cut_run n (Some (n + 1 + node.parameters)) (row_at (map longer_row node.rows) i) ≡ Ok new
    cut_longer =
        subst (λ (r : Row). cut_run n (Some (n + 1 + node.parameters)) r ≡ Ok new)
        (sym (row_at-longer node.rows i within)) run

    tableau : IsTableau n (suc node.parameters) (map longer_row node.rows ++ new ∷ [])
    tableau =
        cut_keeps_tableau n (suc node.parameters) i (Some (n + 1 + node.parameters)) (map longer_row node.rows) new
        longer
        (simp length-map within) cut_longer

    speaks : Speaks (suc node.parameters) (map longer_form node.context ++ low ∷ high ∷ [])
    speaks = subst (λ (j : ℕ). Speaks j (map longer_form node.context ++ low ∷ high ∷ [])) (add-one node.parameters)
        (speaks-append (node.parameters + 1) (map longer_form node.context) (low ∷ high ∷ [])
        (speaks-longer node.parameters node.context is.speaks)
        ((at_least-value_size low at_least), ((under-value_size high under), tt)))
      where
        at_least-value_size : (low : Affine)
            → at_least_run (row_at node.rows i).denominator (taken_off n (row_at node.rows i)) ≡ Ok low
            → length low.coefficients ≡ node.parameters + 1
        at_least-value_size low h =
            at_least-size (row_at node.rows i).denominator (taken_off n (row_at node.rows i)) low h ∙ ap
            (λ (j : ℕ). j + 1) fsize

        under-value_size : (high : Affine)
            → under_run (row_at node.rows i).denominator (taken_off n (row_at node.rows i)) ≡ Ok high
            → length high.coefficients ≡ node.parameters + 1
        under-value_size high h =
            under-size (row_at node.rows i).denominator (taken_off n (row_at node.rows i)) high h ∙ ap
            (λ (j : ℕ). j + 1) fsize

    here : (p : List ℤ) (q : ℤ) → length p ≡ node.parameters
        → IsInContext (bound_node n node f d new low high) (p ++ q ∷ []) ↔
        (IsInContext node p × IsFloor (value_of f p) d q)
    here p q size = in_bound n node f d new low high p q is.speaks size fsize at.0 at_least under
        (λ not. taken_off_not_negative n row p at.0 not)

    size_of : (p : List ℤ) (q : ℤ) → length (p ++ q ∷ []) ≡ suc node.parameters → length p ≡ node.parameters
    size_of p q h = let e : length (p ++ q ∷ []) ≡ length p + 1 = simp length-append refl in omega arith

    bound : (p : List ℤ) → IsInContext (bound_node n node f d new low high) p
        → AreBound p (record { form = f; divisor = d; place = node.parameters } ∷ node.bounds)
    bound p h =
        let apart = last_apart node.parameters p h.size in
        subst (λ (w : List ℤ). AreBound w (record { form = f; divisor = d; place = node.parameters } ∷ node.bounds))
        (sym apart.2)
        (ends_bound apart.0 apart.1 apart.3 (subst (IsInContext (bound_node n node f d new low high)) apart.2 h))
      where
        ends_bound : (p : List ℤ) (q : ℤ) → length p ≡ node.parameters
            → IsInContext (bound_node n node f d new low high) (p ++ q ∷ [])
            → AreBound (p ++ q ∷ []) (record { form = f; divisor = d; place = node.parameters } ∷ node.bounds)
        ends_bound p q size h =
            let both = (here p q size).0 h in
            let e = floor_unique (value_of f p) d q (floor (value_of f p) d) at.0 both.1
            (floor_is (value_of f p) d at.0) in
            let v = ap (λ (z : ℤ). floor (z +ℤ f.constant) d)
            (dot-past f.coefficients p (q ∷ []) (let k = fsize in omega arith)) in (
              (
                simp length-append (omega arith),
                (let k = fsize in simp length-append (omega arith)),
                subst (λ (j : ℕ). get_or (p ++ q ∷ []) j (pos 0) ≡ q) size (get_or-last p q) ∙ e ∙ sym v,
              ),
              bound-more p q node.bounds (is.bound p both.0),
            )

    tied : (p : List ℤ) (q : ℤ) → length p ≡ node.parameters → IsFloor (value_of f p) d q
        → IsTied n (Some (n + 1 + node.parameters)) (row_at (map longer_row node.rows) i) (p ++ q ∷ [])
    tied p q size fl =
        subst (λ (r : Row). IsTied n (Some (n + 1 + node.parameters)) r (p ++ q ∷ []))
        (sym (row_at-longer node.rows i within))
        (tied_new n node.parameters row p q at.0 (at.1 ∙ ap (λ (j : ℕ). n + 1 + j) (sym size)) size fl)

    sized : (p : List ℤ) → length p ≡ node.parameters → Sized (n + 1 + length p) node.rows
    sized p size = subst (λ (j : ℕ). Sized (n + 1 + j) node.rows) (sym size) is.tableau.sized

    forth : (p x : List ℤ) (q : ℤ) → IsNodeSolution n (bound_node n node f d new low high) (p ++ q ∷ []) x
        → IsNodeSolution n node p x × IsFloor (value_of f p) d q
    forth p x q h =
        let size = size_of p q h.context.size in
        let both = (here p q size).0 h.context in
        let s = cut_back n (map longer_row node.rows) (new ∷ []) (p ++ q ∷ []) x longer.many h.solution in
        (record { context = both.0; solution = longer_back n node.rows p x q (sized p size) s }, both.1)

    back : (p x : List ℤ) (q : ℤ) → IsNodeSolution n node p x × IsFloor (value_of f p) d q
        → IsNodeSolution n (bound_node n node f d new low high) (p ++ q ∷ []) x
    back p x q h =
        let size = h.0.context.size in
        let s = longer_forth n node.rows p x q (sized p size) h.0.solution in
        record {
          context = (here p q size).1 (h.0.context, h.1);
          solution =
              (cut_keeps_solutions n (suc node.parameters) i (Some (n + 1 + node.parameters))
              (map longer_row node.rows) new longer
              (simp length-map within) (omega arith) cut_longer (p ++ q ∷ []) (simp length-append (omega arith))
              (tied p q size h.1) x).0 s;
        }

pub cut_made : (n : ℕ) (node : Node) (i : ℕ) → IsNode n node → i < n → CutCases n node i (Keeps n node)
cut_made n node i is below =
    record {
      is_constant = λ none new run. cut_old_keeps n node i None new is below run tt
          (λ p here ys size. constant_floor n (row_at node.rows i) p positive none);
      is_bound = λ k found new run. cut_old_keeps n node i (Some (n + 1 + k)) new is below run
          (let w = place_within (taken_off n (row_at node.rows i)) (row_at node.rows i).denominator node.parameters
          node.bounds k is.placed found in omega arith)
          (λ p here ys size. bound_floor n (row_at node.rows i) p node.bounds k positive (is.bound p here) found ys
          size);
      is_new = λ some new low high run least under. cut_new_keeps n node i new low high is below run least under;
    }
  where
    positive : pos 0 <ℤ (row_at node.rows i).denominator
    positive = (sized_at (n + 1 + node.parameters) node.rows i (let k = is.tableau.many in omega arith)
        is.tableau.sized).0

pub cut_keeps : (n left : ℕ) (node : Node) (i : ℕ) (next : Next) (l : ℕ) → IsNode n node → i < n
    → cut n left node i ≡ Ok (next, l) → LeadsOn n node.parameters next × KeepsSolutions n node next
cut_keeps n left node i next l is below h = cut_by n left node i next l (Keeps n node) (cut_made n node i is below) h

-- a part has the node's parameters
pub part_size : (n : ℕ) (node : Node) (r : ℕ) → IsNode n node → r < length node.rows
    → length (part_of n (row_at node.rows r)).coefficients ≡ node.parameters
part_size n node r is within =
    let at = sized_at (n + 1 + node.parameters) node.rows r within is.tableau.sized in
    let l = length-drop (n + 1) (row_at node.rows r).entries in
    let e = at.1 in
    omega arith

-- a step
pub step_keeps : (n left : ℕ) (node : Node) (next : Next) (l : ℕ) → IsNode n node → step n left node ≡ Ok (next, l)
    → Keeps n node next
step_keeps n left node next l is h =
    step_by n left node next l (Keeps n node) is.tableau.many (record {
      is_empty = λ left k none. ((tt, tt), tt);
      is_split = λ r within below above g run.
          split_made n node (part_of n (row_at node.rows r)) g is (part_size n node r is within) run;
      is_pivoted = λ r within rows run. pivot_made n node r rows is within run;
      is_blocked = λ r left k within below none. ((tt, tt), tt);
      is_cut = λ i below. cut_made n node i is below;
      is_leaf = λ settled whole. (
        (
          leaf_tree-speaks n node.parameters 0 (n + 1 + node.parameters) (take n node.rows) [] tt
              (sized_take n (n + 1 + node.parameters) node.rows is.tableau.sized) (omega arith) (omega arith),
          subst (λ (j : ℕ). LeavesHave j (leaf_tree n node.parameters 0 (take n node.rows) []))
              (let e = length-take-le n node.rows is.tableau.many in omega arith)
              (leaf_tree-forms n node.parameters 0 (take n node.rows) []),
        ),
        tt,
      );
    }) h

pub step_nodes : (n left : ℕ) (node : Node) (next : Next) (l : ℕ) → IsNode n node → step n left node ≡ Ok (next, l)
    → LeadsOn n node.parameters next
step_nodes n left node next l is h = (step_keeps n left node next l is h).0

pub step_solutions : (n left : ℕ) (node : Node) (next : Next) (l : ℕ) → IsNode n node → step n left node ≡ Ok (next, l)
    → KeepsSolutions n node next
step_solutions n left node next l is h = (step_keeps n left node next l is h).1

-- the first node
pub first_is_node : (n m : ℕ) (fs context : List Affine) → Speaks (n + m) fs → Speaks m context
    → IsNode n (first_node m (problem_of n fs) context)
first_is_node n m fs context speaks about =
    record { tableau = first_tableau n m fs speaks; speaks = about; placed = tt; bound = λ p h. tt }

pub first_node_solutions : (n m : ℕ) (fs context : List Affine) → Speaks (n + m) fs → (p x : List ℤ)
    → IsNodeSolution n (first_node m (problem_of n fs) context) p x
    ↔ (IsInContext (first_node m (problem_of n fs) context) p × IsPoint (problem_of n fs) p x)
first_node_solutions n m fs context speaks p x = (
  λ h. (h.context, (first_solutions n m fs speaks p x h.context.size).1 h.solution),
  λ h. record { context = h.0; solution = (first_solutions n m fs speaks p x h.0.size).0 h.1 },
)

-- a tree speaks of m parameters, and has a form for each of the n unknowns at each leaf
abbrev Fits : ℕ → ℕ → Tree → Type 0
Fits n m t = TreeSpeaks m t × LeavesHave n t

-- a node with m parameters
abbrev pub IsOver : ℕ → ℕ → Node → Type 0
IsOver n m node = IsNode n node × (node.parameters ≡ m)

pub step_over : (n m left : ℕ) (node : Node) (next : Next) (l : ℕ) → IsOver n m node
    → step n left node ≡ Ok (next, l) → LeadsOn n m next
step_over n m left node next l is h =
    subst (λ (j : ℕ). LeadsOn n j next) is.1 (step_nodes n left node next l is.0 h)

-- so does the tree of a run, of its node's parameters
pub tree-fits : (n k left : ℕ) (node : Node) (tree : Tree) (l : ℕ) → IsNode n node
    → tree_run n k left node ≡ Ok (tree, l)
    → Fits n node.parameters tree
tree-fits n k left node tree l is h =
    tree_by ℕ (IsOver n) (Fits n) n
    (λ m left node next l is h. hands_on m next (step_over n m left node next l is h))
    k left node tree l node.parameters (is, refl) h
  where
    hands_on : (m : ℕ) (next : Next) → LeadsOn n m next → HandsOn ℕ (IsOver n) (Fits n) m next
    hands_on m (ends t) on = on
    hands_on m (goes node) on = on
    hands_on m (binds f d node) on = (
      suc m,
      (on.0, on.1),
      λ t body. ((on.2, on.3, subst (λ (j : ℕ). TreeSpeaks j t) (sym (add-one m)) body.0), body.1),
    )
    hands_on m (splits f a b) on = λ t u first second.
        let x = first (on.0, on.2) in
        let y = second (on.1, on.3) in ((on.4, x.0, y.0), (x.1, y.1))

pub lexmin-speaks : (budget n m : ℕ) (fs context : List Affine) (tree : Tree) (l : ℕ) → Speaks (n + m) fs
    → Speaks m context
    → lexmin_run budget m (problem_of n fs) context ≡ Ok (tree, l) → TreeSpeaks m tree
unfolding lexmin_run whole
lexmin-speaks budget n m fs context tree l speaks about h =
    (tree-fits n (suc budget) budget (first_node m (problem_of n fs) context) tree l
    (first_is_node n m fs context speaks about) h).0

-- each leaf of a problem's tree has a form for each unknown
pub lexmin-forms : (budget n m : ℕ) (fs context : List Affine) (tree : Tree) (l : ℕ) → Speaks (n + m) fs
    → Speaks m context
    → lexmin_run budget m (problem_of n fs) context ≡ Ok (tree, l) → LeavesHave n tree
unfolding lexmin_run whole
lexmin-forms budget n m fs context tree l speaks about h =
    (tree-fits n (suc budget) budget (first_node m (problem_of n fs) context) tree l
    (first_is_node n m fs context speaks about) h).1
