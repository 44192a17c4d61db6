-- The run of a problem with parameters (Feautrier 1988): nodes, the questions of their contexts, pivots, cuts, splits,
-- leaves, and the tree that they end in, within a budget of moves.
use Rattle.std.specs.Prelude.{ℕ, zero, suc, ◌+◌, ℤ, pos, negsuc, neg_ℤ, ◌-ℤ◌, Bool, true, false, if◌then◌else◌, List}
use Rattle.std.specs.Prelude.{[], ◌∷◌, ◌++◌, get_or, map, take, drop, Option, Some, None, Result, Ok, Err}
use Rattle.whole_numbers.specs.Affine.{Affine, form_of}
use Rattle.whole_numbers.specs.Lists.{zeros}
use Rattle.whole_numbers.specs.Floor.{floor, remainder}
use Rattle.integer_sets.specs.Wide.{Wide}
use Rattle.integer_sets.specs.Checked.{difference_of, ◌>>=◌}
use Rattle.tableau_rows.specs.Rows.{Row, row_of, entry}
use Rattle.tableau_rows.specs.Moves.{is_below, is_positive, row_at, pivot_run, cut_run, cut_entries}
use Rattle.tableau_rows.specs.Problem.{Problem, first_rows}
use Rattle.tableau_rows.specs.Run.{point, none, Stop, wide, spent, Outcome, question, some_positive}
use Rattle.quast_trees.specs.Tree.{Tree, initial, leaf, branch, bind}
use Rattle.quast_trees.specs.Source.{unnamed}

-- a form of one parameter more, which it does not speak of
abbrev pub longer_form : Affine → Affine
longer_form f = form_of (f.coefficients ++ pos 0 ∷ []) f.constant

-- a row of one parameter more, which it does not speak of
abbrev pub longer_row : Row → Row
longer_row row = row_of row.denominator (row.entries ++ pos 0 ∷ [])

-- a parameter that a cut has bound: the quotient of a form by a divisor, at its place among the parameters
pub record Bound : Type 0 where
  pub form : Affine
  pub divisor : ℤ
  pub place : ℕ

-- a tableau and a context
pub record Node : Type 0 where
  pub begins : Bool
  pub parameters : ℕ
  pub rows : List Row
  pub context : List Affine
  pub bounds : List Bound

-- what a node does next: it ends, goes on, goes on under a new parameter, or splits
pub data Next : Type 0 where
  ends : Tree → Next
  goes : Node → Next
  binds : Affine → ℤ → Node → Next
  splits : Affine → Node → Node → Next

-- what is counted: a result with what is left of the budget
abbrev pub Counted : Type 0 → Type 0
Counted A = Result (A × ℕ) Stop

-- the first result goes to the second with what is left of the budget; the first stop stays
abbrev pub chained : {A B : Type 0} → Counted A → (A → ℕ → Counted B) → Counted B
chained (Ok x) f = f x.0 x.1
chained (Err stop) f = Err stop

-- numbers are formed; where one is too wide, that stops the run
abbrev pub formed : {A B : Type 0} → ℕ → Result A Wide → (A → Counted B) → Counted B
formed left (Ok x) f = f x
formed left (Err w) f = Err (wide w left)

-- a move is paid for before its numbers are formed
abbrev pub paid : {B : Type 0} → ℕ → (ℕ → Counted B) → Counted B
paid zero f = Err spent
paid (suc left) f = f left

-- z = 0
abbrev pub is_zero : ℤ → Bool
is_zero (pos zero) = true
is_zero (pos (suc n)) = false
is_zero (negsuc n) = false

-- all are 0: so the coefficients of a form without a parameter
abbrev pub all_zero : List ℤ → Bool
all_zero [] = true
all_zero (z ∷ zs) = if is_zero z then all_zero zs else false

-- whether two lists are equal, zeros at their ends left out
abbrev pub same_list : List ℤ → List ℤ → Bool
same_list [] ys = all_zero ys
same_list (x ∷ xs) [] = all_zero (x ∷ xs)
same_list (x ∷ xs) (y ∷ ys) = if is_zero (x -ℤ y) then same_list xs ys else false

-- whether a parameter has been bound as the quotient of the form f by d
abbrev pub is_bound_as : Affine → ℤ → Bound → Bool
is_bound_as f d b =
    if same_list b.form.coefficients f.coefficients
    then (if is_zero (b.form.constant -ℤ f.constant) then is_zero (b.divisor -ℤ d) else false) else false

-- the place of the parameter that has been bound as the quotient of the form f by d, if there is one
abbrev pub place_of : Affine → ℤ → List Bound → Option ℕ
place_of f d [] = None
place_of f d (b ∷ bs) = if is_bound_as f d b then Some b.place else place_of f d bs

-- a row's part: the constant and the parameters
abbrev pub part_of : ℕ → Row → Affine
part_of n row = form_of (drop (n + 1) row.entries) (entry row n)

-- -z of each, in order
abbrev pub opposites_run : List ℤ → Result (List ℤ) Wide
opposites_run [] = Ok []
opposites_run (z ∷ zs) = difference_of (pos 0) z >>= λ y. opposites_run zs >>= λ ys. Ok (y ∷ ys)

-- -f - 1: at whole points not negative exactly where f is below 0
unfoldable pub opposite_run : Affine → Result Affine Wide
opposite_run f =
    opposites_run f.coefficients >>= λ bs.
    difference_of (pos 0) f.constant >>= λ c. difference_of c (pos 1) >>= λ z. Ok (form_of bs z)

-- f - d q - 1, over one unknown q more: f is above d q
unfoldable pub above_run : ℤ → Affine → Result Affine Wide
above_run d f =
    difference_of (pos 0) d >>= λ e. difference_of f.constant (pos 1) >>= λ z. Ok
    (form_of (f.coefficients ++ e ∷ []) z)

-- d q + d - 1 - f, over one unknown q more: f is under d (q + 1)
unfoldable pub under_run : ℤ → Affine → Result Affine Wide
under_run d f =
    opposites_run f.coefficients >>= λ bs.
    difference_of d (pos 1) >>= λ c. difference_of c f.constant >>= λ z. Ok (form_of (bs ++ d ∷ []) z)

-- f - d q, over one unknown q more: this and the form of `under_run` tie q to the quotient of f by d, rounded down
unfoldable pub at_least_run : ℤ → Affine → Result Affine Wide
at_least_run d f = difference_of (pos 0) d >>= λ e. Ok (form_of (f.coefficients ++ e ∷ []) f.constant)

-- whether the answer is that there is a point
abbrev pub answered : Outcome → Counted Bool
answered (Ok (point x, left)) = Ok (true, left)
answered (Ok (none, left)) = Ok (false, left)
answered (Err stop) = Err stop

-- whether rows over m unknowns have a whole point
abbrev pub ask : ℕ → ℕ → List Affine → Counted Bool
ask left m rows = answered (question left (record { unknowns = m; rows = rows }))

-- whether no constant is below 0: where there are no parameters, whether the rows hold
abbrev pub none_below : List Affine → Bool
none_below [] = true
none_below (f ∷ fs) = if is_below f.constant then false else none_below fs

-- whether a context over so many parameters has a point
abbrev pub context_holds : ℕ → ℕ → List Affine → Counted Bool
context_holds left zero context = Ok (none_below context, left)
context_holds left (suc m) context = ask left (suc m) context

-- whether a form is at most -1 somewhere in the context
abbrev pub below_somewhere : ℕ → Node → Affine → Counted Bool
below_somewhere left node f =
    if all_zero f.coefficients then Ok (is_below f.constant, left)
    else formed left (opposite_run f) (λ g. ask left node.parameters (node.context ++ g ∷ []))

-- whether a form is at least 0 somewhere in the context
abbrev pub above_somewhere : ℕ → Node → Affine → Counted Bool
above_somewhere left node f =
    if all_zero f.coefficients then Ok ((if is_below f.constant then false else true), left)
    else ask left node.parameters (node.context ++ f ∷ [])

-- whether a form is no multiple of d somewhere in the context
abbrev pub broken_somewhere : ℕ → Node → ℤ → Affine → Counted Bool
broken_somewhere left node d f =
    if all_zero f.coefficients then Ok (is_positive (remainder f.constant d), left)
    else formed left (above_run d f) (λ g. formed left (under_run d f) (λ h.
    ask left (node.parameters + 1) (map longer_form node.context ++ g ∷ h ∷ [])))

-- the first of the rows, counted from i on, of which the answer is yes
abbrev pub first_asked : (ℕ → Row → Counted Bool) → ℕ → ℕ → List Row → Counted (Option ℕ)
first_asked test left i [] = Ok (None, left)
first_asked test left i (row ∷ rows) =
    chained (test left row) (λ yes rest. if yes then Ok (Some i, rest) else first_asked test rest (suc i) rows)

-- whether d divides each of the numbers
abbrev pub all_divided : ℤ → List ℤ → Bool
all_divided d [] = true
all_divided d (z ∷ zs) = if is_zero (remainder z d) then all_divided d zs else false

-- a form over d, each of its numbers rounded down
abbrev pub divided : ℤ → Affine → Affine
divided d f = form_of (map (λ (z : ℤ). floor z d) f.coefficients) (floor f.constant d)

-- a form of k parameters more, which it does not speak of
abbrev pub padded : ℕ → Affine → Affine
padded k f = form_of (f.coefficients ++ zeros k) f.constant

-- a leaf: the parts over their denominators, a new parameter for each that its denominator does not divide;
-- m parameters stand, k of them bound at the leaf
abbrev pub leaf_tree : ℕ → ℕ → ℕ → List Row → List Affine → Tree
leaf_tree n m k [] forms = leaf (unnamed m forms)
leaf_tree n m k (row ∷ rows) forms =
    if all_divided row.denominator (entry row n ∷ drop (n + 1) row.entries)
    then leaf_tree n m k rows (forms ++ padded k (divided row.denominator (part_of n row)) ∷ [])
    else bind (padded k (part_of n row)) row.denominator
    (leaf_tree n (suc m) (suc k) rows (map longer_form forms ++ form_of (zeros m ++ pos 1 ∷ []) (pos 0) ∷ []))

-- the side of a split on which a form is at least 0
abbrev pub side : Node → Affine → Node
side node f = record node { begins = true; context = node.context ++ f ∷ [] }

-- a split by the sign of a form, for one move
abbrev pub split : ℕ → Node → Affine → Counted Next
split left node f =
    paid left (λ rest. formed left (opposite_run f) (λ g. Ok (splits f (side node f) (side node g), rest)))

-- the node goes on with other rows, in the same context
abbrev pub with_rows : Node → List Row → Node
with_rows node rows = record node { begins = false; rows = rows }

-- a pivot on the row r, for one move
abbrev pub pivot : ℕ → ℕ → Node → ℕ → Counted Next
pivot n left node r =
    paid left (λ rest. formed left (pivot_run n node.rows r) (λ rows. Ok (goes (with_rows node rows), rest)))

-- what a cut takes off: sum of ((-b) mod d) p + ((-c) mod d)
abbrev pub taken_off : ℕ → Row → Affine
taken_off n row =
    form_of (map neg_ℤ (drop (n + 1) (cut_entries n row.denominator row.entries)))
    (neg_ℤ (get_or (cut_entries n row.denominator row.entries) n (pos 0)))

-- the node with one parameter more, tied to the quotient of f by d
abbrev pub bound_node : ℕ → Node → Affine → ℤ → Row → Affine → Affine → Node
bound_node n node f d new low high =
    record {
      begins = false;
      parameters = suc node.parameters;
      rows = map longer_row node.rows ++ new ∷ [];
      context = map longer_form node.context ++ low ∷ high ∷ [];
      bounds = record { form = f; divisor = d; place = node.parameters } ∷ node.bounds;
    }

-- the cut on the row i, tied to the bound parameter at place k, or to a new one; `rest` is left behind the move
abbrev pub cut_bound : ℕ → ℕ → ℕ → Node → ℕ → Option ℕ → Counted Next
cut_bound n left rest node i (Some k) =
    formed left (cut_run n (Some (n + 1 + k)) (row_at node.rows i))
    (λ new. Ok (goes (with_rows node (node.rows ++ new ∷ [])), rest))
cut_bound n left rest node i None =
    formed left (cut_run n (Some (n + 1 + node.parameters)) (longer_row (row_at node.rows i))) (λ new.
    formed left (at_least_run (row_at node.rows i).denominator (taken_off n (row_at node.rows i))) (λ low.
    formed left (under_run (row_at node.rows i).denominator (taken_off n (row_at node.rows i))) (λ high.
    Ok (
      binds (taken_off n (row_at node.rows i)) (row_at node.rows i).denominator
          (bound_node n node (taken_off n (row_at node.rows i)) (row_at node.rows i).denominator new low high),
      rest,
    ))))

-- a cut on the row i, for one move: tied to a parameter where what it takes off has one, else to none
abbrev pub cut : ℕ → ℕ → Node → ℕ → Counted Next
cut n left node i =
    paid left (λ rest.
    if all_zero (taken_off n (row_at node.rows i)).coefficients
    then formed left (cut_run n None (row_at node.rows i))
    (λ new. Ok (goes (with_rows node (node.rows ++ new ∷ [])), rest))
    else cut_bound n left rest node i
    (place_of (taken_off n (row_at node.rows i)) (row_at node.rows i).denominator node.bounds))

-- the cut on an unknown that is not whole somewhere; where all are whole the leaf
abbrev pub cut_or_leaf : ℕ → ℕ → Node → Option ℕ → Counted Next
cut_or_leaf n left node None = Ok (ends (leaf_tree n node.parameters 0 (take n node.rows) []), left)
cut_or_leaf n left node (Some i) = cut n left node i

-- the pivot on a row that is below 0 everywhere, which without a positive entry shows that there is no point
abbrev pub pivot_or_empty : ℕ → ℕ → Node → ℕ → Counted Next
pivot_or_empty n left node r =
    if some_positive (row_at node.rows r) 0 n then pivot n left node r else Ok (ends initial, left)

-- a row that is below 0 somewhere: split where it is not everywhere, else pivot; no such row: cut, or end
abbrev pub treated : ℕ → ℕ → Node → Option ℕ → Counted Next
treated n left node (Some r) =
    chained (above_somewhere left node (part_of n (row_at node.rows r))) (λ yes rest.
    if yes then split rest node (part_of n (row_at node.rows r)) else pivot_or_empty n rest node r)
treated n left node None =
    chained (first_asked (λ l row. broken_somewhere l node row.denominator (part_of n row)) left 0 (take n node.rows))
    (λ i rest.
    cut_or_leaf n rest node i)

-- a step in a context that holds: by the first row that is below 0 somewhere
abbrev pub looked : ℕ → ℕ → Node → Counted Next
looked n left node =
    chained (first_asked (λ l row. below_somewhere l node (part_of n row)) left 0 node.rows)
    (λ r rest. treated n rest node r)

-- one step of a node
unfoldable pub step : ℕ → ℕ → Node → Counted Next
step n left node =
    if node.begins
    then chained (context_holds left node.parameters node.context)
    (λ yes rest. if yes then looked n rest node else Ok (ends initial, rest))
    else looked n left node

-- the tree of what follows a step
abbrev pub followed : (ℕ → Node → Counted Tree) → Next → ℕ → Counted Tree
followed go (ends tree) left = Ok (tree, left)
followed go (goes node) left = go left node
followed go (binds f d node) left = chained (go left node) (λ tree rest. Ok (bind f d tree, rest))
followed go (splits f first second) left =
    chained (go left first) (λ a rest. chained (go rest second) (λ b end. Ok (branch f a b, end)))

-- a run, in at most k steps on a path
abbrev pub tree_run : ℕ → ℕ → ℕ → Node → Counted Tree
tree_run n zero left node = Err spent
tree_run n (suc k) left node = chained (step n left node) (λ next rest. followed (tree_run n k) next rest)

-- the run with as many steps as its budget can take
unfoldable pub whole : ℕ → ℕ → Node → Counted Tree
whole n left m = tree_run n (suc left) left m

-- the node that the run of a problem with m parameters and a context begins with
abbrev pub first_node : ℕ → Problem → List Affine → Node
first_node m problem context =
    record { begins = true; parameters = m; rows = first_rows m problem; context = context; bounds = [] }

-- the run of a problem with m parameters and a context: a step on a path costs a move, so budget + 1 steps are enough
unfoldable pub lexmin_run : ℕ → ℕ → Problem → List Affine → Counted Tree
lexmin_run budget m problem context = whole problem.unknowns budget (first_node m problem context)

-- what waits while a node is run: a bind round its tree, a second side behind it, a first side in front of it
pub data Frame : Type 0 where
  binding : Affine → ℤ → Frame
  second : Affine → Node → Frame
  joining : Affine → Tree → Frame

-- what becomes of a node's run under one frame
abbrev pub framed : ℕ → Frame → Counted Tree → Counted Tree
framed n (binding f d) run = chained run (λ tree rest. Ok (bind f d tree, rest))
framed n (second f node) run = chained run (λ a rest. chained (whole n rest node) (λ b end. Ok (branch f a b, end)))
framed n (joining f a) run = chained run (λ b end. Ok (branch f a b, end))

-- what becomes of a node's run under the frames, the innermost first
abbrev pub resumed : ℕ → List Frame → Counted Tree → Counted Tree
resumed n [] run = run
resumed n (frame ∷ frames) run = resumed n frames (framed n frame run)
