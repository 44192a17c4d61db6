-- What a scanner has to know at each node.
use Rattle.scop_syntax.proofs.Common.{◌≡◌, ℕ, zero, suc, Bool, true, false, ℤ, pos, List, [], ◌∷◌, ◌++◌, length, inl}
use Rattle.scop_syntax.proofs.Common.{inr, ap, subst, sym, refl, ◌∙◌, arith, ◌<ℤ◌, if◌then◌else◌, le_z, ints, Affine}
use Rattle.scop_syntax.proofs.Common.{value_of, both, le_z_holds, holds_le_z}
use Rattle.fm_projection.proofs.WholePoints.{one_more}
use Rattle.whole_numbers.proofs.Tests.{if_both}
use Rattle.integer_sets.specs.Points.{Satisfies}
use Rattle.loop_tree.specs.Tree.{Bounds, Test, equal, Tree, loop, guard, instance, Trees, none, more}
use Rattle.loop_tree.specs.Walk.{holds, all_hold, walk_all}
use Rattle.loop_tree.specs.Scans.{Within, Exact}
use Rattle.loop_tree.specs.steps.Scanning.{Spans, SpansAll, Covers, Scans, ScansAll, AreKeys}
use Rattle.integer_sets.specs.Scanned.{Scanned}
use Rattle.plain_scan.specs.Sets.{Keys, AllAbove}
use Rattle.plain_scan.specs.steps.Serving.{AllZero, AllAtLeast, KeysAt, Serves, HaveDimensions, sets_of, AreTested}
use Rattle.plain_scan.specs.Sets.{NumbersRise, equal_tests, row_tests, under, Leaf}
use Rattle.plain_scan.specs.Sets.{leaves}
use Rattle.loop_tree.proofs.Visits.{exact}

-- only the keys matter: sets without a point behind the outer values may be left out, or taken in
mutual
  pub scans_same : (k : ℕ) (P Q : List ℤ → Type 0) (t : Tree) (params outer : List ℤ) → ((r : List ℤ) → P r → Q r)
      → ((r : List ℤ) → Q r → P r)
      → Scans k P t params outer → Scans k Q t params outer
  scans_same zero P Q (loop flag lo up body) params outer f g s = s
  scans_same (suc k) P Q (loop flag lo up body) params outer f g s =
      λ x w. (
        (λ y r q. (s x w).0 y r (g (x ∷ y ∷ r) q)),
        scans_same_all k (λ r. P (x ∷ r)) (λ r. Q (x ∷ r)) body params (outer ++ x ∷ []) (λ r. f (x ∷ r))
            (λ r. g (x ∷ r)) (s x w).1,
      )
  scans_same k P Q (guard tests body) params outer f g s = λ e. scans_same_all k P Q body params outer f g (s e)
  scans_same zero P Q (instance n forms) params outer f g s = f (pos n ∷ []) s
  scans_same (suc k) P Q (instance n forms) params outer f g s = s

  pub scans_same_all : (k : ℕ) (P Q : List ℤ → Type 0) (ts : Trees) (params outer : List ℤ)
      → ((r : List ℤ) → P r → Q r) → ((r : List ℤ) → Q r → P r)
      → ScansAll k P ts params outer → ScansAll k Q ts params outer
  scans_same_all k P Q none params outer f g s = tt
  scans_same_all k P Q (more t ts) params outer f g s =
      (scans_same k P Q t params outer f g s.0, scans_same_all k P Q ts params outer f g s.1, s.2)

pub length_end : (xs : List ℤ) (x : ℤ) → length (xs ++ x ∷ []) ≡ suc (length xs)
length_end [] x = refl
length_end (y ∷ xs) x = ap suc (length_end xs x)

-- a loop, node by node: `inner` are the sets still active at its values, each other one has no point there
pub loop_scans : (k : ℕ) (all inner : List Scanned) (flag : Bool) (lo up : Bounds) (body : Trees)
    (params outer : List ℤ)
    → ((x : ℤ) → Within lo up (outer ++ params) x
    → Serves k inner body params (outer ++ x ∷ [])
    × ((r : List ℤ) → Keys inner params (outer ++ x ∷ r) → Keys all params (outer ++ x ∷ r))
    × ((r : List ℤ) → Keys all params (outer ++ x ∷ r) → Keys inner params (outer ++ x ∷ r)))
    → Scans (suc k) (KeysAt all params outer) (loop flag lo up body) params outer
loop_scans k all inner flag lo up body params outer h =
    λ x w.
    let s = h x w in
    let P : List ℤ → Type 0 = λ r. Keys inner params ((outer ++ x ∷ []) ++ r) in
    let Q : List ℤ → Type 0 = λ r. Keys all params (outer ++ x ∷ r) in
    let f : (r : List ℤ) → P r → Q r = λ r p. s.1 r (subst (Keys inner params) (one_more outer x r) p) in
    let g : (r : List ℤ) → Q r → P r = λ r q. subst (Keys inner params) (sym (one_more outer x r)) (s.2 r q) in
    ((λ y r q. s.0.covers y r (g (y ∷ r) q)), scans_same_all k P Q body params (outer ++ x ∷ []) f g s.0.scans)

-- a set's tests are its constraints
zero_holds : (z : ℤ) → z ≡ pos 0 → (if le_z (pos 0) z then le_z z (pos 0) else false) ≡ true
zero_holds z e = rw e refl

holds_zero : (z : ℤ) → (if le_z (pos 0) z then le_z z (pos 0) else false) ≡ true → z ≡ pos 0
holds_zero z h =
    let b = both (le_z (pos 0) z) (le_z z (pos 0)) h in
    let p = holds_le_z (pos 0) z b.0 in
    let q = holds_le_z z (pos 0) b.1 in
    omega (arith, ints)

pub rows_hold : (fs : List Affine) (point : List ℤ) → all_hold (row_tests fs) point ≡ true → AllAtLeast fs point
rows_hold [] point h = tt
rows_hold (f ∷ fs) point h =
    let b = both (le_z (pos 0) (value_of f point)) (all_hold (row_tests fs) point) h in
    (holds_le_z (pos 0) (value_of f point) b.0, rows_hold fs point b.1)

pub hold_rows : (fs : List Affine) (point : List ℤ) → AllAtLeast fs point → all_hold (row_tests fs) point ≡ true
hold_rows [] point h = refl
hold_rows (f ∷ fs) point h =
    if_both (le_z (pos 0) (value_of f point)) (all_hold (row_tests fs) point) (le_z_holds (pos 0) (value_of f point)
    h.0) (hold_rows fs point h.1)

pub tests_hold : (es rs : List Affine) (point : List ℤ) → all_hold (equal_tests es (row_tests rs)) point ≡ true
    → AllZero es point × AllAtLeast rs point
tests_hold [] rs point h = (tt, rows_hold rs point h)
tests_hold (f ∷ es) rs point h =
    let b = both (holds (equal f) point) (all_hold (equal_tests es (row_tests rs)) point) h in
    let r = tests_hold es rs point b.1 in
    ((holds_zero (value_of f point) b.0, r.0), r.1)

pub hold_tests : (es rs : List Affine) (point : List ℤ) → AllZero es point → AllAtLeast rs point
    → all_hold (equal_tests es (row_tests rs)) point ≡ true
hold_tests [] rs point e h = hold_rows rs point h
hold_tests (f ∷ es) rs point e h =
    if_both (holds (equal f) point) (all_hold (equal_tests es (row_tests rs)) point) (zero_holds (value_of f point)
    e.0) (hold_tests es rs point e.1 h)

-- the innermost sequence serves
pub end_same : (xs ys : List ℤ) (x y : ℤ) (r : List ℤ) → length xs ≡ length ys → xs ++ x ∷ r ≡ ys ++ y ∷ []
    → (xs ≡ ys) × (x ≡ y)
end_same [] [] x y r l e = (refl, cc)
end_same [] (b ∷ ys) x y r l e = absurd (omega arith)
end_same (a ∷ xs) [] x y r l e = absurd (omega arith)
end_same (a ∷ xs) (b ∷ ys) x y r l e =
    let t : xs ++ x ∷ r ≡ ys ++ y ∷ [] = cc in
    let h : a ≡ b = cc in
    let q = end_same xs ys x y r (omega arith) t in
    (cc_cons a b xs ys h q.0, q.1)
  where
    cc_cons : (a b : ℤ) (xs ys : List ℤ) → a ≡ b → xs ≡ ys → (a ∷ xs) ≡ (b ∷ ys)
    cc_cons a b xs ys h k = cc

-- what stands under tests spans where they hold
pub under_spans : (tests : List Test) (t : Tree) (params outer : List ℤ) (x : ℤ)
    → all_hold tests (outer ++ params) ≡ true → Spans t params outer x → Spans (under tests t) params outer x
under_spans [] t params outer x a h = h
under_spans (test ∷ tests) t params outer x a h = (a, inl h)

pub spans_under : (tests : List Test) (t : Tree) (params outer : List ℤ) (x : ℤ)
    → Spans (under tests t) params outer x → (all_hold tests (outer ++ params) ≡ true) × Spans t params outer x
spans_under [] t params outer x h = (refl, h)
spans_under (test ∷ tests) t params outer x h = elim h.1 [
  | inl g ↦ (h.0, g)
  | inr g ↦ absurd g
]

pub under_scans : (k : ℕ) (P : List ℤ → Type 0) (tests : List Test) (t : Tree) (params outer : List ℤ)
    → (all_hold tests (outer ++ params) ≡ true → Scans k P t params outer)
    → Scans k P (under tests t) params outer
under_scans k P [] t params outer h = h refl
under_scans zero P (test ∷ tests) t params outer h = λ e. (h e, tt, (λ x y a b. absurd b))
under_scans (suc k) P (test ∷ tests) t params outer h = λ e. (h e, tt, (λ x y a b. absurd b))

leaf_spans : (ls : List Leaf) (n : ℕ) (params outer : List ℤ) → AllAbove n (sets_of ls) → (y : ℤ)
    → SpansAll (leaves ls) params outer y → pos n <ℤ y
leaf_spans [] n params outer above y h = absurd h
leaf_spans (l ∷ ls) n params outer above y (inl h) =
    let g = spans_under l.tests (instance l.set.statement l.turns) params outer y h in
    let a = above.0 in let f : y ≡ pos l.set.statement = g.1 in omega (arith, ints)
leaf_spans (l ∷ ls) n params outer above y (inr h) = leaf_spans ls n params outer above.1 y h

leaf_covers : (ls : List Leaf) (params outer : List ℤ) → HaveDimensions (length outer) (sets_of ls)
    → AreTested ls (outer ++ params)
    → Covers (KeysAt (sets_of ls) params outer) (leaves ls) params outer
leaf_covers [] params outer sized tested x r h = absurd h
leaf_covers (l ∷ ls) params outer sized tested x r (inl h) =
    let s = h.size in let d = sized.0 in
    let e = end_same outer h.values x (pos l.set.statement) r (omega (arith, s, d)) h.is in
    let i = subst (λ xs. Satisfies l.set.system (xs ++ params)) (sym e.0) h.inside in
    inl (under_spans l.tests (instance l.set.statement l.turns) params outer x (tested.1 i) e.1)
leaf_covers (l ∷ ls) params outer sized tested x r (inr h) = inr (leaf_covers ls params outer sized.1 tested.2 x r h)

leaf_scans : (ls : List Leaf) (P : List ℤ → Type 0) (params outer : List ℤ)
    → HaveDimensions (length outer) (sets_of ls) → NumbersRise (sets_of ls) → AreTested ls (outer ++ params)
    → ((r : List ℤ) → KeysAt (sets_of ls) params outer r → P r) → ScansAll zero P (leaves ls) params outer
leaf_scans [] P params outer sized rise tested f = tt
leaf_scans (l ∷ ls) P params outer sized rise tested f = (
  under_scans zero P l.tests (instance l.set.statement l.turns) params outer
      (λ e. f (pos l.set.statement ∷ []) (inl (record {
        values = outer;
        is = refl;
        size = sym sized.0;
        inside = tested.0
            e;
      }))),
  leaf_scans ls P params outer sized.1 rise.1 tested.2 (λ r h. f r (inr h)),
  (λ x y a b.
      let g = spans_under l.tests (instance l.set.statement l.turns) params outer x a in
      let n = leaf_spans ls l.set.statement params outer rise.0 y b in
      let q : x ≡ pos l.set.statement = g.1 in omega (arith, ints)),
)

pub leaves_serve : (ls : List Leaf) (params outer : List ℤ) → HaveDimensions (length outer) (sets_of ls)
    → NumbersRise (sets_of ls) → AreTested ls (outer ++ params)
    → Serves zero (sets_of ls) (leaves ls) params outer
leaves_serve ls params outer sized rise tested = record {
  covers = leaf_covers ls params outer sized tested;
  scans = leaf_scans ls (KeysAt (sets_of ls) params outer) params outer sized rise tested (λ r h. h);
}

-- a tree that serves from the outermost loop on is exact
keys_are_keys : (n : ℕ) (sets : List Scanned) (params : List ℤ) → HaveDimensions n sets → AreKeys n (Keys sets params)
keys_are_keys n [] params sized r h = absurd h
keys_are_keys n (s ∷ sets) params sized r (inl h) =
    ap length h.is ∙ length_end h.values (pos s.statement) ∙ ap suc (h.size ∙ sized.0)
keys_are_keys n (s ∷ sets) params sized r (inr h) = keys_are_keys n sets params sized.1 r h

pub serves_exact : (n : ℕ) (sets : List Scanned) (ts : Trees) (params : List ℤ) → HaveDimensions n sets
    → Serves n sets ts params [] → Exact (Keys sets params) (walk_all ts params [])
serves_exact n sets ts params sized s = exact n (Keys sets params) ts params [] (keys_are_keys n sets params sized)
    s.covers s.scans
