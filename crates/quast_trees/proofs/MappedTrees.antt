-- Maps: the tree and the nodes that a map's run gives, and the mapped tree's leaves.
use Rattle.whole_numbers.proofs.Common.{◌≡◌, ℕ, ℤ, ◌+◌, List, [], ◌∷◌, ◌++◌, ◌<◌, ◌≤◌, length, get_or, All, Result, Ok}
use Rattle.whole_numbers.proofs.Common.{Err, refl, sym, ap, ◌∙◌, length-append, All-nil, All-cons, All-append, Affine}
use Rattle.whole_numbers.proofs.Common.{value_of, values_of, floor}
use Rattle.wide_math.specs.declared.Wide.{Wide}
use Rattle.wide_math.specs.Checked.{◌>>=◌}
use Rattle.affine_forms.specs.Parts.{variables_of}
use Rattle.affine_forms.specs.Runs.{compose_run}
use Rattle.affine_forms.specs.Gives.{Fails}
use Rattle.affine_forms.specs.declared.stop.FormStop.{FormStop}
use Rattle.affine_forms.specs.declared.stop.FormStop.TheVariants as stop
use Rattle.wide_math.proofs.Steps.{chain-ok}
use Rattle.affine_forms.proofs.Values.{compose_run-value, compose_run-variables}
use Rattle.quast_trees.specs.Source.{Forms}
use Rattle.quast_trees.specs.Tree.{Tree, initial, leaf, branch, bind, count, Speaks}
use Rattle.quast_trees.specs.Postfix.{written}
use Rattle.quast_trees.specs.Leaf.{mapped_leaf}
use Rattle.quast_trees.specs.Each.{each_run}
use Rattle.quast_trees.specs.Value.{value}
use Rattle.quast_trees.specs.Mapped.{Suits, SuitsNode, composed_run, leaf_run, map_run, node_run}
use Rattle.quast_trees.specs.declared.node.Node.{Node}
use Rattle.quast_trees.specs.declared.node.Node.TheVariants as node
use Rattle.quast_trees.proofs.SignChoices.{by_sign-mapped}
use Rattle.quast_trees.proofs.ListRuns.{EachSoFar, each_done, each_stops, after, each-append, each_run-map}
use Rattle.quast_trees.proofs.ListRuns.{each_run-all}

-- the composed forms have at a point the values that the forms have at the inner forms' values
pub composed_run-value : (forms inner : List Affine) (n : ℕ) (gs : List Affine) (point : List ℤ)
    → All (λ g. variables_of g ≡ n) inner → length point ≡ n
    → composed_run forms inner n ≡ Ok gs → values_of gs point ≡ values_of forms (values_of inner point)
composed_run-value forms inner n gs point same fits h =
    each_run-map (λ f. compose_run f inner n) (λ f. value_of f (values_of inner point)) (λ g. value_of g point)
    (λ f g run. compose_run-value f inner n g same run point fits) forms gs h

-- a mapped tree speaks of the same variables
pub map_run-speaks : (forms : List Affine) (n : ℕ) (t u : Tree) → Speaks n t → map_run forms t ≡ Ok u → Speaks n u
map_run-speaks forms n initial u s h = let e : u ≡ initial = cc in rw e tt
map_run-speaks forms n (leaf k) u s h =
    let c = chain-ok (leaf_run forms k) (λ m. Ok (leaf m)) u h in
    let d = chain-ok (composed_run forms k.forms k.variables) (λ gs. Ok (record k { forms = gs })) c.0 c.1 in
    let all = each_run-all (λ f. compose_run f k.forms k.variables) (λ f. Unit {0}) (λ g. variables_of g ≡ n)
    (λ f g _ run. compose_run-variables f k.forms k.variables g (rw s.0 s.1) run ∙ s.0) forms d.0
    (λ j f inside. tt) d.1 in
    let e : u ≡ leaf (record k { forms = d.0 }) = cc (c.2, d.2) in
    rw e (s.0, all)
map_run-speaks forms n (branch test a b) u s h =
    let c = chain-ok (map_run forms a) (λ x. map_run forms b >>= λ y. Ok (branch test x y)) u h in
    let d = chain-ok (map_run forms b) (λ y. Ok (branch test c.0 y)) u c.2 in
    let e : u ≡ branch test c.0 d.0 = cc (d.2) in
    rw e (s.0, map_run-speaks forms n a c.0 s.1 c.1, map_run-speaks forms n b d.0 s.2 d.1)
map_run-speaks forms n (bind f divisor t) u s h =
    let c = chain-ok (map_run forms t) (λ x. Ok (bind f divisor x)) u h in
    let e : u ≡ bind f divisor c.0 = cc (c.2) in
    rw e (s.0, s.1, map_run-speaks forms (n + 1) t c.0 s.2 c.1)

-- a mapped tree has at each point the image of the tree's leaf
pub map_run-value : (forms : List Affine) (t u : Tree) (point : List ℤ) → Speaks (length point) t
    → map_run forms t ≡ Ok u
    → value u point ≡ mapped_leaf forms (value t point)
map_run-value forms initial u point s h = let e : u ≡ initial = cc in rw e refl
map_run-value forms (leaf k) u point s h =
    let c = chain-ok (leaf_run forms k) (λ m. Ok (leaf m)) u h in
    let d = chain-ok (composed_run forms k.forms k.variables) (λ gs. Ok (record k { forms = gs })) c.0 c.1 in
    let v = composed_run-value forms k.forms k.variables d.0 point (rw s.0 s.1) (sym s.0) d.1 in
    let e : u ≡ leaf (record k { forms = d.0 }) = cc (c.2, d.2) in
    rw (e, v) refl
map_run-value forms (branch test a b) u point s h =
    let c = chain-ok (map_run forms a) (λ x. map_run forms b >>= λ y. Ok (branch test x y)) u h in
    let d = chain-ok (map_run forms b) (λ y. Ok (branch test c.0 y)) u c.2 in
    let e : u ≡ branch test c.0 d.0 = cc (d.2) in
    rw e (by_sign-mapped forms (value_of test point) (value a point) (value b point) (value c.0 point)
    (value d.0 point)
    (map_run-value forms a c.0 point s.1 c.1) (map_run-value forms b d.0 point s.2 d.1))
map_run-value forms (bind f divisor t) u point s h =
    let c = chain-ok (map_run forms t) (λ x. Ok (bind f divisor x)) u h in
    let e : u ≡ bind f divisor c.0 = cc (c.2) in
    let longer = point ++ floor (value_of f point) divisor ∷ [] in
    let speaks : Speaks (length longer) t = rw (length-append point (floor (value_of f point) divisor ∷ [])) s.2 in
    rw e (map_run-value forms t c.0 longer speaks c.1)

-- a mapped tree has as many nodes
pub map_run-count : (forms : List Affine) (t u : Tree) → map_run forms t ≡ Ok u → count u ≡ count t
map_run-count forms initial u h = let e : u ≡ initial = cc in rw e refl
map_run-count forms (leaf k) u h =
    let c = chain-ok (leaf_run forms k) (λ m. Ok (leaf m)) u h in
    let e : u ≡ leaf c.0 = cc (c.2) in
    rw e refl
map_run-count forms (branch test a b) u h =
    let c = chain-ok (map_run forms a) (λ x. map_run forms b >>= λ y. Ok (branch test x y)) u h in
    let d = chain-ok (map_run forms b) (λ y. Ok (branch test c.0 y)) u c.2 in
    let e : u ≡ branch test c.0 d.0 = cc (d.2) in
    rw (e, map_run-count forms a c.0 c.1, map_run-count forms b d.0 d.1) refl
map_run-count forms (bind f divisor t) u h =
    let c = chain-ok (map_run forms t) (λ x. Ok (bind f divisor x)) u h in
    let e : u ≡ bind f divisor c.0 = cc (c.2) in
    rw (e, map_run-count forms t c.0 c.1) refl

-- two sides' nodes and the branch's own are the branch's nodes
branch_nodes_run : (test : Affine) (n : ℕ) (a b : Result Tree Wide) → ((u : Tree) → b ≡ Ok u → count u ≡ n)
    → (((a >>= λ t. Ok (written t)) >>= λ us. after us (b >>= λ t. Ok (written t))) >>= λ us. after us
    (Ok (node.Branch test n ∷ [])))
    ≡ ((a >>= λ t. b >>= λ u. Ok (branch test t u)) >>= λ t. Ok (written t))
branch_nodes_run test n (Err w) b counted = refl
branch_nodes_run test n (Ok t) (Err w) counted = refl
branch_nodes_run test n (Ok t) (Ok u) counted = rw (counted u refl) refl

-- a body's nodes and the bind's own are the bind's nodes
bind_nodes_run : (f : Affine) (divisor : ℤ) (a : Result Tree Wide)
    → ((a >>= λ t. Ok (written t)) >>= λ us. after us (Ok (node.Bind f divisor ∷ []))) ≡
    ((a >>= λ t. Ok (bind f divisor t)) >>= λ t. Ok (written t))
bind_nodes_run f divisor (Err w) = refl
bind_nodes_run f divisor (Ok t) = refl

-- a leaf's node alone
leaf_nodes_run : (a : Result Forms Wide)
    → ((a >>= λ s. Ok (node.Forms s)) >>= λ x. Ok (x ∷ [])) ≡ ((a >>= λ s. Ok (leaf s)) >>= λ t. Ok (written t))
leaf_nodes_run (Err w) = refl
leaf_nodes_run (Ok s) = refl

-- mapping a tree's nodes one by one writes the mapped tree
pub nodes_run-written : (forms : List Affine) (t : Tree)
    → each_run (node_run forms) (written t) ≡ (map_run forms t >>= λ u. Ok (written u))
nodes_run-written forms initial = refl
nodes_run-written forms (leaf k) = leaf_nodes_run (leaf_run forms k)
nodes_run-written forms (branch test a b) =
    rw (
      each-append (node_run forms) (written a ++ written b) (node.Branch test (count b) ∷ []),
      each-append (node_run forms) (written a) (written b),
      nodes_run-written forms a,
      nodes_run-written forms b,
    )
    (branch_nodes_run test (count b) (map_run forms a) (map_run forms b) (λ u e. map_run-count forms b u e))
nodes_run-written forms (bind f divisor t) =
    rw (each-append (node_run forms) (written t) (node.Bind f divisor ∷ []), nodes_run-written forms t)
    (bind_nodes_run f divisor (map_run forms t))

-- a tree that suits the forms is written in nodes that suit them
pub suits_written : (forms : List Affine) (n : ℕ) (t : Tree) → Speaks n t → Suits forms t
    → All (SuitsNode forms) (written t)
suits_written forms n initial s k = All-cons (SuitsNode forms) node.Initial [] tt (All-nil (SuitsNode forms))
suits_written forms n (leaf m) s k = All-cons (SuitsNode forms) (node.Forms m) [] (rw s.0 s.1, k)
    (All-nil (SuitsNode forms))
suits_written forms n (branch test a b) s k =
    All-append (SuitsNode forms) (written a ++ written b) (node.Branch test (count b) ∷ [])
    (All-append (SuitsNode forms) (written a) (written b) (suits_written forms n a s.1 k.0)
    (suits_written forms n b s.2 k.1))
    (All-cons (SuitsNode forms) (node.Branch test (count b)) [] tt (All-nil (SuitsNode forms)))
suits_written forms n (bind f divisor t) s k =
    All-append (SuitsNode forms) (written t) (node.Bind f divisor ∷ []) (suits_written forms (n + 1) t s.2 k)
    (All-cons (SuitsNode forms) (node.Bind f divisor) [] tt (All-nil (SuitsNode forms)))

-- a tree's mapped nodes are those of the mapped tree
pub record MapsTo (forms : List Affine) (t : Tree) (nodes : List Node) : Type 0 where
  pub tree : Tree
  pub run : map_run forms t ≡ Ok tree
  pub spelled : nodes ≡ written tree

pub maps_to : (forms : List Affine) (t : Tree) (nodes mapped : List Node) (i : ℕ) → nodes ≡ written t
    → length nodes ≤ i
    → EachSoFar (node_run forms) nodes i mapped → MapsTo forms t mapped
maps_to forms t nodes mapped i spelled ended so_far =
    let whole = each_done (node_run forms) nodes i mapped ended so_far in
    let c = chain-ok (map_run forms t) (λ u. Ok (written u)) mapped
    (sym (nodes_run-written forms t) ∙ ap (each_run (node_run forms)) (sym spelled) ∙ whole) in
    let e : mapped ≡ written c.0 = cc (c.2) in
    record { tree = c.0; run = c.1; spelled = e }

-- a run whose nodes fail fails
fails_back : (run : Result Tree Wide) (w : Wide) → (run >>= λ u. Ok (written u)) ≡ Err w → run ≡ Err w
fails_back (Ok u) w h = absurd cc
fails_back (Err v) w h = cc

-- a node whose run fails ends the tree's run
pub map_stops : (forms : List Affine) (t : Tree) (nodes mapped : List Node) (i : ℕ) (d : Node)
    (cause : FormStop) → nodes ≡ written t → i < length nodes
    → EachSoFar (node_run forms) nodes i mapped → Fails cause (node_run forms (get_or nodes i d))
    → Fails cause (map_run forms t)
map_stops forms t nodes mapped i d stop.NoMemory spelled inside so_far fails = tt
map_stops forms t nodes mapped i d (stop.Wide w) spelled inside so_far fails =
    let whole = each_stops (node_run forms) nodes i mapped d w inside so_far fails in
    fails_back (map_run forms t) w (sym (nodes_run-written forms t)
    ∙ ap (each_run (node_run forms)) (sym spelled) ∙ whole)
