-- The answer of a tree at a point is that of the leaf to which the point goes.
use Rattle.whole_numbers.proofs.Common.{◌≡◌, ℕ, suc, ◌+◌, ℤ, pos, negsuc, List, [], ◌∷◌, ◌++◌, length, map, Option, ap}
use Rattle.whole_numbers.proofs.Common.{subst, sym, ◌∙◌, refl, arith, ◌≤ℤ◌, ◌<ℤ◌, All, Contains, ints, get_or-map}
use Rattle.whole_numbers.proofs.Common.{length-map, All-append, All-cons, All-map, All-nil, Affine, value_of, values_of}
use Rattle.whole_numbers.proofs.Common.{IsFloor, floor, NotNegative, floor_is, floor_unique}
use Rattle.std.proofs.lemmas.List.{append_assoc, append-nil}
use Rattle.std.proofs.lemmas.List.Elements.{Contains-append_left}
use Rattle.std.proofs.lemmas.List.Elements.{Contains-append_right}
use Rattle.quast_trees.specs.Leaf.{found}
use Rattle.quast_trees.specs.Source.{Forms, Source}
use Rattle.quast_trees.specs.Tree.{Tree, Speaks, initial, leaf, branch, bind}
use Rattle.quast_trees.specs.Value.{value, by_sign}
use Rattle.quast_trees.proofs.SignChoices.{by_sign_first, by_sign_second}
use Rattle.quast_trees.specs.Paths.{AreOver, Turn, up, down, bound, LeafPath, path_to, behind, leaf_paths, binds_in, Goes}
use Rattle.quast_trees.specs.Turns.{BindsUp}

-- what holds of each path of a list holds, with a turn before, of each behind it
each_behind : (P Q : LeafPath → Type 0) (t : Turn) (ps : List LeafPath)
    → ((p : LeafPath) → P p → Q (path_to (t ∷ p.turns) p.leaf)) → All P ps → All Q (behind t ps)
each_behind P Q t ps more h =
    All-map Q (λ (p : LeafPath). path_to (t ∷ p.turns) p.leaf) ps (λ k d lt. more _ (h k d lt))

-- of all that is put on a list's elements is what is put on one
pub contains-map : {A B : Type 0} (f : A → B) (xs : List A) (x : A) → Contains xs x → Contains (map f xs) (f x)
contains-map f xs x h =
    let size = length-map xs f in
    let lt = h.1 in
    (h.0, omega arith, get_or-map f xs h.0 x (f x) h.1 ∙ ap f h.2)

-- a leaf that is found at a point
pub record IsFound (t : Tree) (point : List ℤ) (o : Option Source) (xs : List ℤ) : Type 0 where
  pub path : LeafPath
  pub quotients : List ℤ
  pub among : Contains (leaf_paths t) path
  pub goes : Goes path.turns point quotients
  pub source : path.leaf.source ≡ o
  pub values : values_of path.leaf.forms (point ++ quotients) ≡ xs

-- on the side to which a test goes
found_side : (f : Affine) (x y : Tree) (point : List ℤ) (o : Option Source) (xs : List ℤ)
    → (value x point ≡ found o xs → IsFound x point o xs) → (value y point ≡ found o xs → IsFound y point o xs)
    → (z : ℤ) → value_of f point ≡ z → by_sign (value_of f point) (value x point) (value y point) ≡ found o xs
    → IsFound (branch f x y) point o xs
found_side f x y point o xs first second (pos k) e h =
    let r = first (sym (ap (λ z. by_sign z (value x point) (value y point)) e) ∙ h) in
    record {
      path = path_to (up f ∷ r.path.turns) r.path.leaf;
      quotients = r.quotients;
      among = Contains-append_left (behind (up f) (leaf_paths x)) (behind (down f) (leaf_paths y))
          (path_to (up f ∷ r.path.turns) r.path.leaf)
          (contains-map (λ (p : LeafPath). path_to (up f ∷ p.turns) p.leaf) (leaf_paths x) r.path r.among);
      goes = (omega (arith, ints, e), r.goes);
      source = r.source;
      values = r.values;
    }
found_side f x y point o xs first second (negsuc k) e h =
    let r = second (sym (ap (λ z. by_sign z (value x point) (value y point)) e) ∙ h) in
    record {
      path = path_to (down f ∷ r.path.turns) r.path.leaf;
      quotients = r.quotients;
      among = Contains-append_right (behind (up f) (leaf_paths x)) (behind (down f) (leaf_paths y))
          (path_to (down f ∷ r.path.turns) r.path.leaf)
          (contains-map (λ (p : LeafPath). path_to (down f ∷ p.turns) p.leaf) (leaf_paths y) r.path r.among);
      goes = (omega (arith, ints, e), r.goes);
      source = r.source;
      values = r.values;
    }

pub found_at : (t : Tree) (n : ℕ) (point : List ℤ) (o : Option Source) (xs : List ℤ) → Speaks n t
    → value t point ≡ found o xs → IsFound t point o xs
found_at initial n point o xs speaks h = absurd cc
found_at (leaf l) n point o xs speaks h =
    record {
      path = path_to [] l;
      quotients = [];
      among = (0, omega arith, refl);
      goes = refl;
      source = cc;
      values = ap (values_of l.forms) (append-nil point) ∙ cc;
    }
found_at (branch f x y) n point o xs speaks h =
    found_side f x y point o xs (found_at x n point o xs speaks.1) (found_at y n point o xs speaks.2)
    (value_of f point) refl h
found_at (bind f d x) n point o xs speaks h =
    let q = floor (value_of f point) d in
    let positive : pos 0 <ℤ d = let s = speaks.1 in omega (arith, ints) in
    let r = found_at x (n + 1) (point ++ q ∷ []) o xs speaks.2 h in
    record {
      path = path_to (bound f d ∷ r.path.turns) r.path.leaf;
      quotients = q ∷ r.quotients;
      among = contains-map (λ (p : LeafPath). path_to (bound f d ∷ p.turns) p.leaf) (leaf_paths x) r.path r.among;
      goes = (floor_is (value_of f point) d positive, r.goes);
      source = r.source;
      values = ap (values_of r.path.leaf.forms) (sym (append_assoc point (q ∷ []) r.quotients)) ∙ r.values;
    }

-- what a tree answers at a point that goes a path, where that is its leaf's
abbrev pub Answers : Tree → List ℤ → List ℤ → LeafPath → Type 0
Answers t point qs p =
    Goes p.turns point qs → value t point ≡ found p.leaf.source (values_of p.leaf.forms (point ++ qs))

-- the only quotient is the floor
floor_of : (z d q : ℤ) → pos 1 ≤ℤ d → IsFloor z d q → floor z d ≡ q
floor_of z d q one is =
    let positive : pos 0 <ℤ d = omega (arith, ints) in
    floor_unique z d (floor z d) q positive (floor_is z d positive) is

answer_leaf : (l : Forms) (point qs : List ℤ) → Answers (leaf l) point qs (path_to [] l)
answer_leaf l point qs none =
    ap (λ (zs : List ℤ). found l.source (values_of l.forms zs)) (sym (append-nil point))
    ∙ ap (λ (zs : List ℤ). found l.source (values_of l.forms (point ++ zs))) (sym none)

answer_bound : (f : Affine) (d : ℤ) (x : Tree) (point : List ℤ) (q : ℤ) (zs : List ℤ) (p : LeafPath) → pos 1 ≤ℤ d
    → Answers x (point ++ q ∷ []) zs p → Answers (bind f d x) point (q ∷ zs) (path_to (bound f d ∷ p.turns) p.leaf)
answer_bound f d x point q zs p one more goes =
    ap (λ (z : ℤ). value x (point ++ z ∷ [])) (floor_of (value_of f point) d q one goes.0)
    ∙ (more goes.1
    ∙ ap (λ (us : List ℤ). found p.leaf.source (values_of p.leaf.forms us)) (append_assoc point (q ∷ []) zs))

-- and back
pub answers_all : (t : Tree) (n : ℕ) (point qs : List ℤ) → Speaks n t → All (Answers t point qs) (leaf_paths t)
answers_all initial n point qs speaks = All-nil (Answers initial point qs)
answers_all (leaf l) n point qs speaks =
    All-cons (Answers (leaf l) point qs) (path_to [] l) [] (answer_leaf l point qs) (All-nil (Answers (leaf l) point qs))
answers_all (branch f x y) n point qs speaks =
    All-append (Answers (branch f x y) point qs) (behind (up f) (leaf_paths x)) (behind (down f) (leaf_paths y))
    (each_behind (Answers x point qs) (Answers (branch f x y) point qs) (up f) (leaf_paths x)
    (λ p h goes. by_sign_first (value_of f point) (value x point) (value y point) goes.0 ∙ h goes.1)
    (answers_all x n point qs speaks.1))
    (each_behind (Answers y point qs) (Answers (branch f x y) point qs) (down f) (leaf_paths y)
    (λ p h goes. by_sign_second (value_of f point) (value x point) (value y point) goes.0 ∙ h goes.1)
    (answers_all y n point qs speaks.2))
answers_all (bind f d x) n point [] speaks =
    All-map (Answers (bind f d x) point []) (λ (p : LeafPath). path_to (bound f d ∷ p.turns) p.leaf) (leaf_paths x)
    (λ k p lt goes. absurd goes)
answers_all (bind f d x) n point (q ∷ zs) speaks =
    each_behind (Answers x (point ++ q ∷ []) zs) (Answers (bind f d x) point (q ∷ zs)) (bound f d) (leaf_paths x)
    (λ p h. answer_bound f d x point q zs p speaks.1 h) (answers_all x (n + 1) (point ++ q ∷ []) zs speaks.2)

-- what is passed, and the leaf, speak of what stands there
abbrev pub Stands : ℕ → LeafPath → Type 0
Stands n p =
    AreOver n p.turns × (p.leaf.variables ≡ n + binds_in p.turns)
    × All (λ (f : Affine). length f.coefficients ≡ n + binds_in p.turns) p.leaf.forms

stands_leaf : (l : Forms) (n k : ℕ) → n ≡ k → l.variables ≡ n → All (λ (f : Affine). length f.coefficients ≡ n) l.forms
    → (l.variables ≡ k) × All (λ (f : Affine). length f.coefficients ≡ k) l.forms
stands_leaf l n k e size sizes =
    (size ∙ e, subst (λ (m : ℕ). All (λ (f : Affine). length f.coefficients ≡ m) l.forms) e sizes)

stands_bound : (f : Affine) (d : ℤ) (n : ℕ) (p : LeafPath) → length f.coefficients ≡ n → pos 1 ≤ℤ d
    → Stands (n + 1) p → Stands n (path_to (bound f d ∷ p.turns) p.leaf)
stands_bound f d n p size one h =
    let next : n + 1 ≡ suc n = omega arith in
    let more : (n + 1) + binds_in p.turns ≡ n + suc (binds_in p.turns) = omega arith in
    let ends = stands_leaf p.leaf ((n + 1) + binds_in p.turns) (n + suc (binds_in p.turns)) more h.1 h.2 in
    ((size, one, subst (λ (k : ℕ). AreOver k p.turns) next h.0), ends.0, ends.1)

pub over_all : (t : Tree) (n : ℕ) → Speaks n t → All (Stands n) (leaf_paths t)
over_all initial n speaks = All-nil (Stands n)
over_all (leaf l) n speaks =
    let none : n ≡ n + 0 = omega arith in
    let here = stands_leaf l n (n + 0) none speaks.0 speaks.1 in
    All-cons (Stands n) (path_to [] l) [] (tt, here.0, here.1) (All-nil (Stands n))
over_all (branch f x y) n speaks =
    All-append (Stands n) (behind (up f) (leaf_paths x)) (behind (down f) (leaf_paths y))
    (each_behind (Stands n) (Stands n) (up f) (leaf_paths x) (λ p h. ((speaks.0, h.0), h.1, h.2))
    (over_all x n speaks.1))
    (each_behind (Stands n) (Stands n) (down f) (leaf_paths y) (λ p h. ((speaks.0, h.0), h.1, h.2))
    (over_all y n speaks.2))
over_all (bind f d x) n speaks =
    each_behind (Stands (n + 1)) (Stands n) (bound f d) (leaf_paths x)
    (λ p h. stands_bound f d n p speaks.0 speaks.1 h) (over_all x (n + 1) speaks.2)

-- no quotient on the way to a leaf is negative
abbrev pub Rises : List ℤ → List ℤ → LeafPath → Type 0
Rises point qs p = Goes p.turns point qs → NotNegative qs

rises_leaf : (l : Forms) (point qs : List ℤ) → Rises point qs (path_to [] l)
rises_leaf l point qs none = subst NotNegative (sym none) tt

-- a side that the point does not go binds what it likes
pub quotients_up : (t : Tree) (n : ℕ) (point qs : List ℤ) → Speaks n t → BindsUp t point
    → All (Rises point qs) (leaf_paths t)
quotients_up initial n point qs speaks ups = All-nil (Rises point qs)
quotients_up (leaf l) n point qs speaks ups =
    All-cons (Rises point qs) (path_to [] l) [] (rises_leaf l point qs) (All-nil (Rises point qs))
quotients_up (branch f x y) n point qs speaks ups =
    All-append (Rises point qs) (behind (up f) (leaf_paths x)) (behind (down f) (leaf_paths y))
    (All-map (Rises point qs) (λ (p : LeafPath). path_to (up f ∷ p.turns) p.leaf) (leaf_paths x)
    (λ k p lt goes. quotients_up x n point qs speaks.1 (ups.0 goes.0) k p lt goes.1))
    (All-map (Rises point qs) (λ (p : LeafPath). path_to (down f ∷ p.turns) p.leaf) (leaf_paths y)
    (λ k p lt goes. quotients_up y n point qs speaks.2 (ups.1 goes.0) k p lt goes.1))
quotients_up (bind f d x) n point [] speaks ups =
    All-map (Rises point []) (λ (p : LeafPath). path_to (bound f d ∷ p.turns) p.leaf) (leaf_paths x) (λ k p lt goes. tt)
quotients_up (bind f d x) n point (q ∷ zs) speaks ups =
    All-map (Rises point (q ∷ zs)) (λ (p : LeafPath). path_to (bound f d ∷ p.turns) p.leaf) (leaf_paths x)
    (λ k p lt goes.
    let same = floor_of (value_of f point) d q speaks.1 goes.0 in (
      subst (λ (z : ℤ). pos 0 ≤ℤ z) same ups.0,
      quotients_up x (n + 1) (point ++ q ∷ []) zs speaks.2
          (subst (λ (z : ℤ). BindsUp x (point ++ z ∷ [])) same ups.1) k p lt goes.1,
    ))
