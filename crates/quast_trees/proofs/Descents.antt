-- Where a walk from the root down stands: at a subtree that gives at its point what the tree gives at the first.
use Rattle.whole_numbers.proofs.Common.{◌≡◌, ℕ, ◌+◌, ◌-◌, ◌≤◌, ◌<◌, ℤ, pos, negsuc, ◌≤ℤ◌, List, [], ◌∷◌, length, get_or}
use Rattle.whole_numbers.proofs.Common.{All, Result, Ok, refl, sym, ap, ◌∙◌, subst, length-append, arith, Affine}
use Rattle.whole_numbers.proofs.Common.{value_of, floor}
use Rattle.wide_math.specs.declared.Wide.{Wide}
use Rattle.wide_math.specs.Checked.{◌>>=◌}
use Rattle.affine_forms.specs.Gives.{Fails}
use Rattle.affine_forms.specs.declared.stop.FormStop.{FormStop}
use Rattle.affine_forms.specs.declared.stop.FormStop.TheVariants as stop
use Rattle.affine_forms.specs.Runs.{value_run as form_run}
use Rattle.quast_trees.specs.Source.{Forms}
use Rattle.quast_trees.specs.Tree.{Tree, initial, leaf, branch, bind, count, Speaks}
use Rattle.quast_trees.specs.Postfix.{written}
use Rattle.quast_trees.specs.Leaf.{Leaf}
use Rattle.quast_trees.specs.Leaf as answer
use Rattle.quast_trees.specs.Value.{by_sign, value_run, leaf_run, bound_run}
use Rattle.quast_trees.specs.declared.node.Node.{Node}
use Rattle.quast_trees.specs.declared.node.Node.TheVariants as node
use Rattle.quast_trees.proofs.Exact.{bound_run-exact}
use Rattle.quast_trees.specs.Place.{IsAt}
use Rattle.quast_trees.proofs.Places.{within, root, root_at, count_positive, at_end, at_body, at_first, at_second}

-- a step that ends well hands its result on
went_on : {A B : Type 0} (run : Result A Wide) (f : A → Result B Wide) (x : A) (goal : Result B Wide)
    → run ≡ Ok x → (run >>= f) ≡ goal → f x ≡ goal
went_on run f x goal e h = ap (λ r. r >>= f) (sym e) ∙ h

-- a step that fails ends the run
stopped : {A B : Type 0} (run : Result A Wide) (f : A → Result B Wide) (cause : FormStop) (goal : Result B Wide)
    → Fails cause run → (run >>= f) ≡ goal → Fails cause goal
stopped run f (stop.Wide w) goal e h = sym h ∙ ap (λ r. r >>= f) e
stopped run f stop.NoMemory goal e h = tt

-- a bind's point is longer by one
length-bound_run : (f : Affine) (divisor : ℤ) (point longer : List ℤ) → bound_run f divisor point ≡ Ok longer
    → length longer ≡ length point + 1
length-bound_run f divisor point longer h =
    ap length (bound_run-exact f divisor point longer h)
    ∙ length-append point (floor (value_of f point) divisor ∷ [])

-- the subtree whose own node is at a place gives at the point what is asked
pub record Standing (nodes : List Node) (place : ℕ) (point : List ℤ) (goal : Result Leaf Wide) : Type 0 where
  pub tree : Tree
  pub stands : IsAt nodes place tree
  pub speaks : Speaks (length point) tree
  pub same : value_run tree point ≡ goal

-- before the first step: the whole tree
pub at_root : (t : Tree) (nodes : List Node) (point : List ℤ) → nodes ≡ written t → Speaks (length point) t
    → Standing nodes (length nodes - 1) point (value_run t point)
at_root t nodes point e speaks = record { tree = t; stands = at_end t nodes e; speaks = speaks; same = refl }

-- what is known where the subtree's own node is a leaf of forms
pub record Ends (point : List ℤ) (goal : Result Leaf Wide) (s : Forms) : Type 0 where
  pub variables : All (λ f. length f.coefficients ≡ length point) s.forms
  pub gives : leaf_run s point ≡ goal

-- what is known where it is a branch
pub record Branches (nodes : List Node) (place : ℕ) (point : List ℤ) (goal : Result Leaf Wide) (f : Affine)
    (n : ℕ) : Type 0 where
  pub variables : length f.coefficients ≡ length point
  pub room : n + 1 ≤ place
  pub side : (v : ℤ) → form_run f point ≡ Ok v → Standing nodes (place - by_sign v (n + 1) 1) point goal
  pub stops : (cause : FormStop) → Fails cause (form_run f point) → Fails cause goal

-- what is known where it is a bind
pub record Binds (nodes : List Node) (place : ℕ) (point : List ℤ) (goal : Result Leaf Wide) (f : Affine)
    (divisor : ℤ) : Type 0 where
  pub variables : length f.coefficients ≡ length point
  pub positive : pos 1 ≤ℤ divisor
  pub room : 1 ≤ place
  pub body : (longer : List ℤ) → bound_run f divisor point ≡ Ok longer → Standing nodes (place - 1) longer goal
  pub stops : (cause : FormStop) → Fails cause (bound_run f divisor point) → Fails cause goal

module _ (nodes : List Node) (place : ℕ) (point : List ℤ) (goal : Result Leaf Wide) where
  initial_by : (t : Tree) → value_run t point ≡ goal → root t ≡ node.Initial → goal ≡ Ok answer.initial
  initial_by initial r e = sym r
  initial_by (leaf _) r e = absurd (cc)
  initial_by (branch _ _ _) r e = absurd (cc)
  initial_by (bind _ _ _) r e = absurd (cc)

  ends_by : (t : Tree) (s : Forms) → Speaks (length point) t → value_run t point ≡ goal → root t ≡ node.Forms s
      → Ends point goal s
  ends_by initial s speaks r e = absurd (cc)
  ends_by (leaf k) s speaks r e =
      let same : k ≡ s = cc in
      subst (λ (x : Forms). Ends point goal x) same (record { variables = speaks.1; gives = r })
  ends_by (branch _ _ _) s speaks r e = absurd (cc)
  ends_by (bind _ _ _) s speaks r e = absurd (cc)

  side_of : (test : Affine) (a b : Tree) → IsAt nodes place (branch test a b)
      → Speaks (length point) (branch test a b) → value_run (branch test a b) point ≡ goal
      → (v : ℤ) → form_run test point ≡ Ok v → Standing nodes (place - by_sign v (count b + 1) 1) point goal
  side_of test a b i speaks r (pos k) q = record {
    tree = a;
    stands = at_first nodes place test a b i;
    speaks = speaks.1;
    same = went_on (form_run test point) (λ v. by_sign v (value_run a point) (value_run b point)) (pos k) goal q r;
  }
  side_of test a b i speaks r (negsuc k) q = record {
    tree = b;
    stands = at_second nodes place test a b i;
    speaks = speaks.2;
    same = went_on (form_run test point) (λ v. by_sign v (value_run a point) (value_run b point)) (negsuc k) goal q r;
  }

  branches : (test : Affine) (a b : Tree) → IsAt nodes place (branch test a b)
      → Speaks (length point) (branch test a b)
      → value_run (branch test a b) point ≡ goal → Branches nodes place point goal test (count b)
  branches test a b i speaks r = record {
    variables = speaks.0;
    room = let ends = i.ends in let p = count_positive a in omega arith;
    side = side_of test a b i speaks r;
    stops = λ w q. stopped (form_run test point) _ w goal q r;
  }

  branches_by : (t : Tree) (f : Affine) (n : ℕ) → IsAt nodes place t → Speaks (length point) t
      → value_run t point ≡ goal
      → root t ≡ node.Branch f n → Branches nodes place point goal f n
  branches_by initial f n i speaks r e = absurd (cc)
  branches_by (leaf _) f n i speaks r e = absurd (cc)
  branches_by (branch test a b) f n i speaks r e =
      let same : test ≡ f = cc in
      let counted : count b ≡ n = cc in
      subst (λ (g : Affine). Branches nodes place point goal g n) same
      (subst (λ (m : ℕ). Branches nodes place point goal test m) counted (branches test a b i speaks r))
  branches_by (bind _ _ _) f n i speaks r e = absurd (cc)

  binds : (f : Affine) (divisor : ℤ) (body : Tree) → IsAt nodes place (bind f divisor body)
      → Speaks (length point) (bind f divisor body)
      → value_run (bind f divisor body) point ≡ goal → Binds nodes place point goal f divisor
  binds f divisor body i speaks r = record {
    variables = speaks.0;
    positive = speaks.1;
    room = let ends = i.ends in let p = count_positive body in omega arith;
    body = λ longer e. record {
      tree = body;
      stands = at_body nodes place f divisor body i;
      speaks = subst (λ (m : ℕ). Speaks m body) (sym (length-bound_run f divisor point longer e)) speaks.2;
      same = went_on (bound_run f divisor point) (λ more. value_run body more) longer goal e r;
    };
    stops = λ w e. stopped (bound_run f divisor point) _ w goal e r;
  }

  binds_by : (t : Tree) (f : Affine) (divisor : ℤ) → IsAt nodes place t → Speaks (length point) t
      → value_run t point ≡ goal
      → root t ≡ node.Bind f divisor → Binds nodes place point goal f divisor
  binds_by initial f divisor i speaks r e = absurd (cc)
  binds_by (leaf _) f divisor i speaks r e = absurd (cc)
  binds_by (branch _ _ _) f divisor i speaks r e = absurd (cc)
  binds_by (bind g k body) f divisor i speaks r e =
      let same : g ≡ f = cc in
      let by : k ≡ divisor = cc in
      subst (λ (x : Affine). Binds nodes place point goal x divisor) same
      (subst (λ (x : ℤ). Binds nodes place point goal g x) by (binds g k body i speaks r))

-- what the node at the place says of the subtree
module _ {nodes : List Node} {place : ℕ} {point : List ℤ} {goal : Result Leaf Wide} where
  -- the node that is read there is the subtree's own
  own : {r : Node} (s : Standing nodes place point goal) → r ≡ get_or nodes place r → root s.tree ≡ r
  own {r = r} s read = sym (root_at nodes place s.tree r s.stands) ∙ sym read

  pub inside : Standing nodes place point goal → place < length nodes
  inside s = within nodes place s.tree s.stands

  pub at_initial : {r : Node} → Standing nodes place point goal → r ≡ get_or nodes place r → r ≡ node.Initial
      → goal ≡ Ok answer.initial
  at_initial s read e = initial_by nodes place point goal s.tree s.same (own s read ∙ e)

  pub at_forms : {r : Node} {k : Forms} → Standing nodes place point goal → r ≡ get_or nodes place r
      → r ≡ node.Forms k → Ends point goal k
  at_forms {k = k} s read e = ends_by nodes place point goal s.tree k s.speaks s.same (own s read ∙ e)

  pub at_branch : {r : Node} {f : Affine} {n : ℕ} → Standing nodes place point goal → r ≡ get_or nodes place r
      → r ≡ node.Branch f n
      → Branches nodes place point goal f n
  at_branch {f = f} {n = n} s read e = branches_by nodes place point goal s.tree f n s.stands s.speaks s.same
      (own s read ∙ e)

  pub at_bind : {r : Node} {f : Affine} {divisor : ℤ} → Standing nodes place point goal
      → r ≡ get_or nodes place r → r ≡ node.Bind f divisor
      → Binds nodes place point goal f divisor
  at_bind {f = f} {divisor = divisor} s read e =
      binds_by nodes place point goal s.tree f divisor s.stands s.speaks s.same (own s read ∙ e)
