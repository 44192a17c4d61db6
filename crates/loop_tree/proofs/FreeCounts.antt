-- Counts that hang on no value of the loops within: forms that do not name them have one value, so bounds, tests and
-- bodies are alike there.
use Rattle.scop_syntax.proofs.Common.{◌≡◌, ◌∙◌, ℕ, zero, suc, ◌+◌, ◌*◌, ◌<◌, ℤ, pos, Bool, false, List, [], ◌∷◌}
use Rattle.scop_syntax.proofs.Common.{◌++◌, ap, ap₂, arith, drop, get_or, length, length-append, refl, subst, sym, take}
use Rattle.scop_syntax.proofs.Common.{◌+ℤ◌, ◌-ℤ◌, ◌*ℤ◌, if◌then◌else◌, le_z, ints, length-map, Affine, value_of}
use Rattle.scop_syntax.proofs.Common.{ceiling, floor, dot, dot-split, mul_zero_left, Instance, most_turns}
use Rattle.std.proofs.lemmas.List.{append_assoc}
use Rattle.loop_tree.specs.steps.Counting.{AreWithin, BoundsAreFree, IsFree, TestsAreFree}
use Rattle.loop_tree.specs.steps.Passing.{shown_along}
use Rattle.loop_tree.specs.Fits.{AreZeros, form_in}
use Rattle.loop_tree.specs.Tree.{Bounds, only, besides, Test, at_least, equal, multiple, Trees, guard, loop}
use Rattle.loop_tree.specs.View.{nodes_of, tree_of}
use Rattle.loop_tree.specs.Walk.{Visit, all_hold, along, between, given, holds, lower, max_z, min_z, upper, walk, walk_all}
use Rattle.loop_tree.specs.declared.tree.Node.{Node}
use Rattle.loop_tree.proofs.WalkSteps.{loop_shown}
use Rattle.loop_tree.proofs.Weights.{node_here}

-- values behind zeros
behind_zeros : (k : ℕ) (ds xs rest : List ℤ) → AreZeros (take k ds) → length xs ≡ k
    → dot ds (xs ++ rest) ≡ dot (drop k ds) rest
behind_zeros zero ds [] rest z e = refl
behind_zeros zero ds (x ∷ xs) rest z e = absurd (omega arith)
behind_zeros (suc k) ds [] rest z e = absurd (omega arith)
behind_zeros (suc k) [] (x ∷ xs) rest z e = refl
behind_zeros (suc k) (d ∷ ds) (x ∷ xs) rest z e =
    let more = behind_zeros k ds xs rest z.1 (omega arith) in
    let none = subst (λ a. a *ℤ x ≡ pos 0) (sym z.0) (mul_zero_left x) in
    omega (arith, ints)

behind_inner : (cs : List ℤ) (k : ℕ) (round outer params : List ℤ) → AreZeros (take k (drop (length round) cs))
    → AreWithin k round outer
    → dot cs (outer ++ params) ≡ dot cs round +ℤ dot (drop k (drop (length round) cs)) params
behind_inner cs k round outer params free w =
    ap (λ (xs : List ℤ). dot cs (xs ++ params)) w.all
    ∙ (ap (λ (xs : List ℤ). dot cs xs) (append_assoc round w.inner params)
    ∙ (dot-split cs round (w.inner ++ params)
    ∙ ap (λ (z : ℤ). dot cs round +ℤ z)
    (behind_zeros k (drop (length round) cs) w.inner params free w.count)))

value_alike : (f : Affine) (k : ℕ) (round a b params : List ℤ) → IsFree (length round) k f → AreWithin k round a
    → AreWithin k round b → value_of f (a ++ params) ≡ value_of f (b ++ params)
value_alike f k round a b params free wa wb =
    ap (λ (z : ℤ). z +ℤ f.constant) (behind_inner f.coefficients k round a params free wa
    ∙ sym (behind_inner f.coefficients k round b params free wb))

lower_alike : (bs : Bounds) (k : ℕ) (round a b params : List ℤ) → BoundsAreFree (length round) k bs
    → AreWithin k round a → AreWithin k round b → lower bs (a ++ params) ≡ lower bs (b ++ params)
lower_alike (only x) k round a b params free wa wb =
    ap (λ (z : ℤ). ceiling z x.divisor) (value_alike x.form k round a b params free wa wb)
lower_alike (besides x bs) k round a b params free wa wb =
    ap₂ (λ (z y : ℤ). max_z (ceiling z x.divisor) y) (value_alike x.form k round a b params free.0 wa wb)
    (lower_alike bs k round a b params free.1 wa wb)

upper_alike : (bs : Bounds) (k : ℕ) (round a b params : List ℤ) → BoundsAreFree (length round) k bs
    → AreWithin k round a → AreWithin k round b → upper bs (a ++ params) ≡ upper bs (b ++ params)
upper_alike (only x) k round a b params free wa wb =
    ap (λ (z : ℤ). floor z x.divisor) (value_alike x.form k round a b params free wa wb)
upper_alike (besides x bs) k round a b params free wa wb =
    ap₂ (λ (z y : ℤ). min_z (floor z x.divisor) y) (value_alike x.form k round a b params free.0 wa wb)
    (upper_alike bs k round a b params free.1 wa wb)

test_alike : (test : Test) (k : ℕ) (round a b params : List ℤ) → IsFree (length round) k (form_in test)
    → AreWithin k round a → AreWithin k round b → holds test (a ++ params) ≡ holds test (b ++ params)
test_alike (at_least f) k round a b params free wa wb =
    ap (λ (z : ℤ). le_z (pos 0) z) (value_alike f k round a b params free wa wb)
test_alike (equal f) k round a b params free wa wb =
    ap (λ (z : ℤ). if le_z (pos 0) z then le_z z (pos 0) else false) (value_alike f k round a b params free wa wb)
test_alike (multiple f d) k round a b params free wa wb =
    ap (λ (z : ℤ). le_z z (floor z d *ℤ d)) (value_alike f k round a b params free wa wb)

tests_alike : (tests : List Test) (k : ℕ) (round a b params : List ℤ) → TestsAreFree (length round) k tests
    → AreWithin k round a → AreWithin k round b → all_hold tests (a ++ params) ≡ all_hold tests (b ++ params)
tests_alike [] k round a b params free wa wb = refl
tests_alike (test ∷ tests) k round a b params free wa wb =
    ap₂ (λ (u v : Bool). if u then v else false) (test_alike test k round a b params free.0 wa wb)
    (tests_alike tests k round a b params free.1 wa wb)

-- nodes one by one
pub nodes_step : (nodes : List Node) (i : ℕ) (node : Node) (params vs : List ℤ) (count one sum whole : ℕ)
    → node ≡ get_or nodes i node → i < length nodes → sum ≡ count + one
    → length (walk (tree_of node) params vs) ≡ one
    → count + length (walk_all (nodes_of (drop i nodes)) params vs) ≡ whole
    → sum + length (walk_all (nodes_of (drop (i + 1) nodes)) params vs) ≡ whole
nodes_step nodes i node params vs count one sum whole found inside is here all =
    let split = ap (λ (ts : Trees). length (walk_all ts params vs)) (node_here nodes i node found inside) in
    let both = length-append (walk (tree_of node) params vs) (walk_all (nodes_of (drop (i + 1) nodes)) params vs) in
    omega (arith, is, here, all, split, both)

-- what a guard shows
pub guard_counts : (tests : List Test) (body : Trees) (k : ℕ) (round outer vs params : List ℤ) (n : ℕ) (truth : Bool)
    → TestsAreFree (length round) k tests → AreWithin k round outer → AreWithin k round vs
    → all_hold tests (outer ++ params) ≡ truth → length (if truth then walk_all body params vs else []) ≡ n
    → length (walk (guard tests body) params vs) ≡ n
guard_counts tests body k round outer vs params n truth free here there is h =
    ap (λ (b : Bool). length (if b then walk_all body params vs else []))
    (tests_alike tests k round vs outer params free there here ∙ is) ∙ h

-- a loop more within
pub one_more : (k more : ℕ) (round vs : List ℤ) (x : ℤ) → more ≡ k + 1 → AreWithin k round vs
    → AreWithin more round (vs ++ x ∷ [])
one_more k more round vs x e w =
    let l = length-append w.inner (x ∷ []) in
    let c = w.count in
    record {
      inner = w.inner ++ x ∷ [];
      count = omega (arith, l, c, e);
      all = ap (λ (xs : List ℤ). xs ++ x ∷ []) w.all ∙ append_assoc round w.inner (x ∷ []);
    }

-- a body that shows n at each value
along_counts : {A : Type 0} (ws : ℤ → List A) (n : ℕ) → ((x : ℤ) → length (ws x) ≡ n) → (x : ℤ) (m : ℕ)
    → length (along ws x m) ≡ n * m
along_counts ws n each x zero = omega arith
along_counts ws n each x (suc m) =
    let here = each x in
    let behind = along_counts ws n each (x +ℤ pos 1) m in
    let both = length-append (ws x) (along ws (x +ℤ pos 1) m) in
    omega (arith, here, behind, both)

pub values_count : (body : Trees) (k more n : ℕ) (round vs params : List ℤ) (first last : ℤ) → more ≡ k + 1
    → ((os : List ℤ) → AreWithin more round os → length (walk_all body params os) ≡ n) → AreWithin k round vs
    → length (between (λ x. walk_all body params (vs ++ x ∷ [])) first last) ≡ n * most_turns (last -ℤ first)
values_count body k more n round vs params first last e each w =
    along_counts (λ x. walk_all body params (vs ++ x ∷ [])) n (λ x. each (vs ++ x ∷ []) (one_more k more round vs x e w))
    first (most_turns (last -ℤ first))

pub shown_count : (body : Trees) (n way : ℕ) (outer params : List ℤ) (first : ℤ)
    → ((os : List ℤ) → AreWithin 1 outer os → length (walk_all body params os) ≡ n)
    → length (shown_along body params outer first way) ≡ n * way
shown_count body n way outer params first each =
    let ws : ℤ → List Visit = λ x. walk_all body params (outer ++ x ∷ []) in
    length-map (along ws first way) given
    ∙ along_counts ws n (λ x. each (outer ++ x ∷ []) (record { inner = x ∷ []; count = refl; all = refl })) first way

-- what a loop shows
pub loop_counts : (flag : Bool) (lo up : Bounds) (body : Trees) (k : ℕ) (round outer vs params : List ℤ) (n : ℕ)
    → BoundsAreFree (length round) k lo × BoundsAreFree (length round) k up → AreWithin k round outer
    → AreWithin k round vs
    → length (between (λ x. walk_all body params (vs ++ x ∷ [])) (lower lo (outer ++ params)) (upper up (outer ++ params)))
    ≡ n → length (walk (loop flag lo up body) params vs) ≡ n
loop_counts flag lo up body k round outer vs params n free here there h =
    let ws : ℤ → List Visit = λ x. walk_all body params (vs ++ x ∷ []) in
    sym (length-map (walk (loop flag lo up body) params vs) given)
    ∙ (ap (λ (is : List Instance). length is) (loop_shown flag lo up body params vs)
    ∙ (length-map (between ws (lower lo (vs ++ params)) (upper up (vs ++ params))) given
    ∙ (ap₂ (λ (x y : ℤ). length (between ws x y)) (lower_alike lo k round vs outer params free.0 there here)
    (upper_alike up k round vs outer params free.1 there here) ∙ h)))
