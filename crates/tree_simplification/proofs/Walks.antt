-- What is left of trees visits what they visit: nodes behind others, a loop, a guard; loops with the same values.
use Rattle.tree_simplification.proofs.Common.{◌≡◌, ℕ, zero, suc, ◌+◌, ◌^◌, ◌≤◌, inl, inr, ℤ, pos, negsuc, List, [], ◌∷◌}
use Rattle.tree_simplification.proofs.Common.{◌++◌, map, ap, ap₂, subst, sym, ◌∙◌, refl, arith, ◌↔◌, Bool, true, false}
use Rattle.tree_simplification.proofs.Common.{if◌then◌else◌, neg_ℤ, unsigned_abs, ◌+ℤ◌, ◌-ℤ◌, ◌*ℤ◌, ◌≤ℤ◌, ◌<ℤ◌, ints}
use Rattle.tree_simplification.proofs.Common.{All-cons, All-nil, value_of, le_or_lt, mul_one_left, mul_one_right, In}
use Rattle.tree_simplification.proofs.Common.{Instance, most_turns, append-nil, variables_of, AreSmallTrees, BoundsFit}
use Rattle.tree_simplification.proofs.Common.{FitsAll, FormFits, TestsFit, form_in, AreBounds, FlatAll, AreFree, Within}
use Rattle.tree_simplification.proofs.Common.{BoundsAreOver, TreesAreOver, Bound, Bounds, only, besides, Tree, loop}
use Rattle.tree_simplification.proofs.Common.{guard, instance, Trees, none, more, Visit, all_hold, along, lower, upper}
use Rattle.tree_simplification.proofs.Common.{through, walk, walk_all, between_none, dot_zeros, StayWithin}
use Rattle.tree_simplification.proofs.Common.{ArePartsOver, Context, IsSizedContext, Meets, NaturalAbove, OnSide}
use Rattle.tree_simplification.proofs.Common.{entered, parts, sign_of, tested, joined, Among, Trims, TrimsAll, under}
use Rattle.scop_syntax.proofs.Common.{abs_high, abs_low}
use Rattle.loop_tree.specs.Fits.{HasNumber, IsNumber, IsSmallTree}
use Rattle.loop_tree.specs.Shape.{TreeIsOver}
use Rattle.loop_tree.specs.Tree.{Test}
use Rattle.loop_tree.specs.Walk.{between}
use Rattle.tree_simplification.specs.steps.Inlined.{StaysWithin}
use Rattle.tree_simplification.proofs.RowValues.{turned_is}
use Rattle.tree_simplification.proofs.Contexts.{high_to, low_to, meets_sided, meets_tested, sized_sided, sized_tested}
use Rattle.tree_simplification.proofs.JoinedTrees.{fits_joined, free_joined, walk_joined}
use Rattle.tree_simplification.proofs.Shapes.{Each, each_among, flat_body}

-- a loop's values, one by one
pub along_same : {A : Type 0} (f g : ℤ → List A) (n : ℕ) (first : ℤ)
    → ((x : ℤ) → first ≤ℤ x → x <ℤ (first +ℤ pos n) → f x ≡ g x) → along f first n ≡ along g first n
along_same f g zero first h = refl
along_same f g (suc n) first h =
    ap₂ (λ xs ys. xs ++ ys) (h first (omega (arith, ints)) (omega (arith, ints)))
    (along_same f g n (first +ℤ pos 1) (λ x a b. h x (omega (arith, ints)) (omega (arith, ints))))

pub between_same : {A : Type 0} (f g : ℤ → List A) (first last : ℤ)
    → ((x : ℤ) → first ≤ℤ x → x ≤ℤ last → f x ≡ g x) → between f first last ≡ between g first last
between_same f g first last h = turns (last -ℤ first) refl
  where
    turns : (z : ℤ) → z ≡ last -ℤ first → along f first (most_turns z) ≡ along g first (most_turns z)
    turns (pos n) e = along_same f g (suc n) first (λ x a b. h x a (omega (arith, ints, e)))
    turns (negsuc n) e = refl

-- two ranges of the same values
between_range : {A : Type 0} (f : ℤ → List A) (a b d e : ℤ)
    → ((x : ℤ) → ((a ≤ℤ x) × (x ≤ℤ b)) ↔ ((d ≤ℤ x) × (x ≤ℤ e))) → between f a b ≡ between f d e
between_range f a b d e same = elim (le_or_lt a b) [
  | inl h ↦
      let p = (same a).0 (omega (arith, ints), h) in
      let q = (same b).0 (h, omega (arith, ints)) in
      let p0 = p.0 in let p1 = p.1 in let q0 = q.0 in let q1 = q.1 in
      let r = (same d).1 (omega (arith, ints), omega (arith, ints)) in
      let s = (same e).1 (omega (arith, ints), omega (arith, ints)) in
      let r0 = r.0 in let s1 = s.1 in
      let first : a ≡ d = omega (arith, ints) in
      let last : b ≡ e = omega (arith, ints) in
      ap₂ (λ x y. between f x y) first last
  | inr h ↦
      let empty : e <ℤ d = elim (le_or_lt d e) [
        | inl k ↦
            let r = (same d).1 (omega (arith, ints), k) in
            let r0 = r.0 in
            let r1 = r.1 in absurd (omega (arith, ints))
        | inr k ↦ k
      ] in
      between_none f a b h ∙ sym (between_none f d e empty)
]

-- what new trees do at these values as the old ones do
pub record Agrees (C : Instance → Instance → Type 0) (params outer : List ℤ) (old new : Trees) : Type 0 where
  pub visits : walk_all new params outer ≡ walk_all old params outer
  pub free : AreFree C old params outer → AreFree C new params outer
  pub fits : FitsAll old params outer → FitsAll new params outer

-- one behind the other
agrees_joined : (C : Instance → Instance → Type 0) (params outer : List ℤ) (t : Tree) (ts front back : Trees)
    → Agrees C params outer (more t none) front → Agrees C params outer ts back
    → Agrees C params outer (more t ts) (joined front back)
agrees_joined C params outer t ts front back f b =
    record {
      visits = walk_joined front back params outer
          ∙ ap₂ (λ (xs ys : List Visit). xs ++ ys) (f.visits ∙ append-nil (walk t params outer)) b.visits;
      free = λ h. free_joined C front back params outer (f.free (h.0, tt)) (b.free h.1);
      fits = λ h. fits_joined front back params outer (f.fits (h.0, tt)) (b.fits h.1);
    }

-- facts of forms at a point
fit_each : (bs : Bounds) (point : List ℤ) → BoundsFit bs point → Each (λ b. FormFits b.form point) bs
fit_each (only b) point h = h
fit_each (besides b bs) point h = (h.0, fit_each bs point h.1)

each_fit : (bs : Bounds) (point : List ℤ) → Each (λ b. FormFits b.form point) bs → BoundsFit bs point
each_fit (only b) point h = h
each_fit (besides b bs) point h = (h.0, each_fit bs point h.1)

bounds_fit : (old new : Bounds) (point : List ℤ) → Among (parts new) (parts old) → BoundsFit old point
    → BoundsFit new point
bounds_fit old new point among h =
    each_fit new point (each_among (λ b. FormFits b.form point) old new among (fit_each old point h))

test_fits : (tests : List Test) (test : Test) (point : List ℤ) → TestsFit tests point → In test tests
    → FormFits (form_in test) point
test_fits [] test point h i = absurd i
test_fits (t ∷ tests) test point h (inl e) = subst (λ u. FormFits (form_in u) point) (sym e) h.0
test_fits (t ∷ tests) test point h (inr i) = test_fits tests test point h.1 i

tests_fit : (old new : List Test) (point : List ℤ) → Among new old → TestsFit old point → TestsFit new point
tests_fit old [] point among h = tt
tests_fit old (test ∷ new) point among h =
    (test_fits old test point h (among test (inl refl)), tests_fit old new point (λ t i. among t (inr i)) h)

-- a loop round a body
agrees_loop : (C : Instance → Instance → Type 0) (params outer : List ℤ) (flag : Bool) (lo up low high : Bounds)
    (body inner : Trees) → Among (parts low) (parts lo) → Among (parts high) (parts up)
    → ((x : ℤ) → Within lo up (outer ++ params) x ↔ Within low high (outer ++ params) x)
    → ((x : ℤ) → Within lo up (outer ++ params) x → Agrees C params (outer ++ x ∷ []) body inner)
    → Agrees C params outer (more (loop flag lo up body) none) (more (loop flag low high inner) none)
agrees_loop C params outer flag lo up low high body inner lows highs same within =
    let point = outer ++ params in
    let old : ℤ → List Visit = λ x. map (through flag x) (walk_all body params (outer ++ x ∷ [])) in
    let new : ℤ → List Visit = λ x. map (through flag x) (walk_all inner params (outer ++ x ∷ [])) in
    record {
      visits = ap (λ (vs : List Visit). vs ++ [])
          (sym (between_range new (lower lo point) (upper up point) (lower low point) (upper high point) same)
          ∙ between_same new old (lower lo point) (upper up point)
          (λ x a b. ap (map (through flag x)) (within x (a, b)).visits));
      free = λ h. (
        (
          (λ e x y wx wy less v w iv iw. h.0.0 e x y ((same x).1 wx) ((same y).1 wy) less v w
              (subst (λ (vs : List Visit). In v vs) (within x ((same x).1 wx)).visits iv)
              (subst (λ (vs : List Visit). In w vs) (within y ((same y).1 wy)).visits iw)),
          (λ x wx. (within x ((same x).1 wx)).free (h.0.1 x ((same x).1 wx))),
        ),
        tt,
      );
      fits = λ h. (
        (
          bounds_fit lo low point lows h.0.0,
          bounds_fit up high point highs h.0.1,
          (λ x wx. let k = h.0.2 x ((same x).1 wx) in (k.0, (within x ((same x).1 wx)).fits k.1)),
        ),
        tt,
      );
    }

-- tests round a body
same_walk : (a b : Bool) (xs ys : List Visit) → a ≡ b → (a ≡ true → ys ≡ xs)
    → (if b then ys else []) ≡ (if a then xs else [])
same_walk true true xs ys e h = h refl
same_walk false false xs ys e h = refl
same_walk true false xs ys e h = absurd cc
same_walk false true xs ys e h = absurd cc

agrees_guard : (C : Instance → Instance → Type 0) (params outer : List ℤ) (tests kept : List Test) (body inner : Trees)
    → Among kept tests → all_hold tests (outer ++ params) ≡ all_hold kept (outer ++ params)
    → (all_hold tests (outer ++ params) ≡ true → Agrees C params outer body inner)
    → Agrees C params outer (more (guard tests body) none) (under kept inner)
agrees_guard C params outer tests [] body inner among truth within =
    let a = within truth in
    let opened : walk (guard tests body) params outer ≡ walk_all body params outer =
    ap (λ (b : Bool). if b then walk_all body params outer else []) truth in
    record {
      visits = a.visits ∙ sym (append-nil (walk (guard tests body) params outer) ∙ opened);
      free = λ h. a.free (h.0 truth);
      fits = λ h. a.fits (h.0.1 truth);
    }
agrees_guard C params outer tests (test ∷ kept) body inner among truth within =
    let point = outer ++ params in
    record {
      visits = ap (λ (vs : List Visit). vs ++ [])
          (same_walk (all_hold tests point) (all_hold (test ∷ kept) point) (walk_all body params outer)
          (walk_all inner params outer) truth (λ e. (within e).visits));
      free = λ h. ((λ e. (within (truth ∙ e)).free (h.0 (truth ∙ e))), tt);
      fits = λ h. (
        (
          tests_fit tests (test ∷ kept) point among h.0.0,
          (λ e. (within (truth ∙ e)).fits (h.0.1 (truth ∙ e))),
        ),
        tt,
      );
    }

agrees_same : (C : Instance → Instance → Type 0) (params outer : List ℤ) (ts : Trees) → Agrees C params outer ts ts
agrees_same C params outer ts = record { visits = refl; free = λ h. h; fits = λ h. h }

-- parts of bounds over n variables
pub parts_over : (n : ℕ) (bs : Bounds) → BoundsAreOver n bs → AreBounds bs → ArePartsOver n (parts bs)
parts_over n (only b) over flat =
    record {
      forms = All-cons (λ b. variables_of b.form ≡ n) b [] over (All-nil (λ (b : Bound). variables_of b.form ≡ n));
      divisors = All-cons (λ b. pos 0 <ℤ b.divisor) b [] flat (All-nil (λ (b : Bound). pos 0 <ℤ b.divisor));
    }
parts_over n (besides b bs) over flat =
    let r = parts_over n bs over.1 flat.1 in
    record {
      forms = All-cons (λ b. variables_of b.form ≡ n) b (parts bs) over.0 r.forms;
      divisors = All-cons (λ b. pos 0 <ℤ b.divisor) b (parts bs) flat.0 r.divisors;
    }

-- a loop more
pub one_more : (n m : ℕ) → suc (n + m) ≡ suc n + m
one_more n m = omega arith

-- nothing, where nothing is visited
agrees_none : (C : Instance → Instance → Type 0) (params outer : List ℤ) (ts : Trees)
    → walk_all ts params outer ≡ [] → Agrees C params outer ts none
agrees_none C params outer ts e =
    record { visits = sym e; free = λ h. tt; fits = λ h. tt }

abbrev nowhere : ℤ → List Visit
nowhere x = []

between_nothing : (first last : ℤ) → between nowhere first last ≡ []
between_nothing first last = turns (most_turns (last -ℤ first)) first
  where
    turns : (n : ℕ) (x : ℤ) → along nowhere x n ≡ []
    turns zero x = refl
    turns (suc n) x = turns n (x +ℤ pos 1)

loop_nothing : (flag : Bool) (lo up : Bounds) (body : Trees) (params outer : List ℤ)
    → ((x : ℤ) → Within lo up (outer ++ params) x → walk_all body params (outer ++ x ∷ []) ≡ [])
    → walk_all (more (loop flag lo up body) none) params outer ≡ []
loop_nothing flag lo up body params outer empty =
    let point = outer ++ params in
    let old : ℤ → List Visit = λ x. map (through flag x) (walk_all body params (outer ++ x ∷ [])) in
    ap (λ (vs : List Visit). vs ++ [])
    (between_same old nowhere (lower lo point) (upper up point)
    (λ x a b. ap (map (through flag x)) (empty x (a, b)))
    ∙ between_nothing (lower lo point) (upper up point))

guard_nothing : (tests : List Test) (body : Trees) (params outer : List ℤ)
    → (all_hold tests (outer ++ params) ≡ true → walk_all body params outer ≡ [])
    → walk_all (more (guard tests body) none) params outer ≡ []
guard_nothing tests body params outer empty =
    ap (λ (vs : List Visit). vs ++ []) (pick (all_hold tests (outer ++ params)) refl)
  where
    pick : (b : Bool) → all_hold tests (outer ++ params) ≡ b
        → (if b then walk_all body params outer else []) ≡ []
    pick true e = empty e
    pick false e = refl

-- what is known within a loop of a text: how many variables there are, and that the context speaks
record InLoop (c : Context) (natural : Bool) (lo up : Bounds) (body : Trees) (params outer : List ℤ)
    : Type 0 where
  sized : IsSizedContext (entered c (parts lo) (parts up) natural)
  over : TreesAreOver (suc c.loops + c.parameters) body
  meets : (x : ℤ) → Within lo up (outer ++ params) x
      → Meets (entered c (parts lo) (parts up) natural) params (outer ++ x ∷ [])

within_loop : (c : Context) (flag natural : Bool) (lo up : Bounds) (body : Trees) (params outer : List ℤ)
    → IsSizedContext c → TreeIsOver (c.loops + c.parameters) (loop flag lo up body)
    → FlatAll (more (loop flag lo up body) none) → Meets c params outer
    → (natural ≡ true → NaturalAbove c (parts lo)) → InLoop c natural lo up body params outer
within_loop c flag natural lo up body params outer sized over flat m from =
    let n = c.loops + c.parameters in
    let low_over = parts_over n lo over.0 flat.0.0 in
    let high_over = parts_over n up over.1 flat.0.1 in
    record {
      sized = sized_sided c true natural (parts lo) (parts up) sized low_over.forms high_over.forms;
      over = subst (λ k. TreesAreOver k body) (one_more c.loops c.parameters) over.2;
      meets = λ x w.
          let low = low_to lo (outer ++ params) x flat.0.0 w.0 in
          let high = high_to up (outer ++ params) x flat.0.1 w.1 in
          meets_sided c true natural (parts lo) (parts up) params outer x low_over.forms high_over.forms m low high
          (λ e. from e params outer m x low);
    }

-- what is left of trees agrees with them wherever the context speaks
mutual
  agree_one : (C : Instance → Instance → Type 0) (c : Context) (t : Tree) (new : Trees) (params outer : List ℤ)
      → Trims c t new → IsSizedContext c → TreeIsOver (c.loops + c.parameters) t → FlatAll (more t none)
      → Meets c params outer → Agrees C params outer (more t none) new
  agree_one C c (loop flag lo up body) new params outer (inl h) sized over flat m =
      let inner = within_loop c flag h.3 lo up body params outer sized over flat m h.6 in
      subst (Agrees C params outer (more (loop flag lo up body) none)) (sym h.4)
      (agrees_loop C params outer flag lo up h.0 h.1 body h.2 h.5.lower_parts h.5.upper_parts
      (h.5.values params outer m)
      (λ x w. agree_all C (entered c (parts lo) (parts up) h.3) body h.2 params (outer ++ x ∷ []) h.7 inner.sized
      inner.over flat.0.2 (inner.meets x w)))
  agree_one C c (loop flag lo up body) new params outer (inr h) sized over flat m =
      let inner = within_loop c flag h.0 lo up body params outer sized over flat m h.2 in
      subst (Agrees C params outer (more (loop flag lo up body) none)) (sym h.1)
      (agrees_none C params outer (more (loop flag lo up body) none)
      (loop_nothing flag lo up body params outer
      (λ x w. sym (agree_all C (entered c (parts lo) (parts up) h.0) body none params (outer ++ x ∷ []) h.3 inner.sized
      inner.over flat.0.2 (inner.meets x w)).visits)))
  agree_one C c (guard tests body) new params outer (inl h) sized over flat m =
      subst (Agrees C params outer (more (guard tests body) none)) (sym h.2)
      (agrees_guard C params outer tests h.0 body h.1 h.3.parts (h.3.truth params outer m)
      (λ e. agree_all C (tested c tests) body h.1 params outer h.4 (sized_tested c tests sized over.0) over.1
      (flat_body tests body flat) (meets_tested c tests params outer m e)))
  agree_one C c (guard tests body) new params outer (inr h) sized over flat m =
      subst (Agrees C params outer (more (guard tests body) none)) (sym h.0)
      (agrees_none C params outer (more (guard tests body) none)
      (guard_nothing tests body params outer
      (λ e. sym (agree_all C (tested c tests) body none params outer h.1 (sized_tested c tests sized over.0) over.1
      (flat_body tests body flat) (meets_tested c tests params outer m e)).visits)))
  agree_one C c (instance n forms) new params outer (inl h) sized over flat m =
      subst (Agrees C params outer (more (instance n forms) none)) (sym h)
      (agrees_same C params outer (more (instance n forms) none))
  agree_one C c (instance n forms) new params outer (inr h) sized over flat m = absurd (h.1 params outer m)

  pub agree_all : (C : Instance → Instance → Type 0) (c : Context) (ts new : Trees) (params outer : List ℤ)
      → TrimsAll c ts new → IsSizedContext c → TreesAreOver (c.loops + c.parameters) ts → FlatAll ts
      → Meets c params outer → Agrees C params outer ts new
  agree_all C c none new params outer h sized over flat m =
      subst (Agrees C params outer none) (sym h) (agrees_same C params outer none)
  agree_all C c (more t ts) new params outer h sized over flat m =
      subst (Agrees C params outer (more t ts)) (sym h.2)
      (agrees_joined C params outer t ts h.0 h.1
      (agree_one C c t h.0 params outer h.3 sized over.0 (flat.0, tt) m)
      (agree_all C c ts h.1 params outer h.4 sized over.1 flat.1 m))

-- values of loops that have a number on each side
number_side : (turned : Bool) (b : Bound) (point : List ℤ) (x : ℤ) → IsNumber b
    → pos 0 ≤ℤ (sign_of turned *ℤ (value_of b.form point -ℤ (x *ℤ b.divisor)))
    → pos 0 ≤ℤ (sign_of turned *ℤ (b.form.constant -ℤ x))
number_side turned b point x h on =
    let d = dot_zeros b.form.coefficients point h.form in
    let m = ap (λ (e : ℤ). x *ℤ e) h.divisor ∙ mul_one_right x in
    let e : value_of b.form point -ℤ (x *ℤ b.divisor) ≡ b.form.constant -ℤ x = omega (arith, ints, d, m) in
    subst (λ (z : ℤ). pos 0 ≤ℤ (sign_of turned *ℤ z)) e on

number_among : (turned : Bool) (bs : Bounds) (point : List ℤ) (x : ℤ) → HasNumber bs
    → OnSide turned (parts bs) point x
    → (k : ℤ) × (unsigned_abs k ≤ 2 ^ 40) × (pos 0 ≤ℤ (sign_of turned *ℤ (k -ℤ x)))
number_among turned (only b) point x h on = (b.form.constant, h.constant, number_side turned b point x h on.0)
number_among turned (besides b bs) point x (inl h) on =
    (b.form.constant, h.constant, number_side turned b point x h on.0)
number_among turned (besides b bs) point x (inr h) on = number_among turned bs point x h on.1

low_value : (lo : Bounds) (point : List ℤ) → AreBounds lo → HasNumber lo → neg_ℤ (pos (2 ^ 40)) ≤ℤ lower lo point
low_value lo point flat h =
    let l = lower lo point in
    let a = number_among true lo point l h (low_to lo point l flat (omega (arith, ints))) in
    let t = turned_is (a.0 -ℤ l) in
    let k = abs_low a.0 in
    let small = a.1 in
    let side = a.2 in
    omega (arith, ints, t, k, small, side)

high_value : (up : Bounds) (point : List ℤ) → AreBounds up → HasNumber up → upper up point ≤ℤ pos (2 ^ 40)
high_value up point flat h =
    let u = upper up point in
    let b = number_among false up point u h (high_to up point u flat (omega (arith, ints))) in
    let o = mul_one_left (b.0 -ℤ u) in
    let k = abs_high b.0 in
    let small = b.1 in
    let side = b.2 in
    omega (arith, ints, o, k, small, side)

-- a tree of small numbers has small values
mutual
  stays_one : (d : ℕ) (t : Tree) (params outer : List ℤ) → IsSmallTree d t → FlatAll (more t none)
      → StaysWithin (2 ^ 40) t params outer
  stays_one zero (loop flag lo up body) params outer small flat = absurd small
  stays_one (suc d) (loop flag lo up body) params outer small flat = (
    low_value lo (outer ++ params) flat.0.0 small.2,
    high_value up (outer ++ params) flat.0.1 small.3,
    (λ x w. stays_all d body params (outer ++ x ∷ []) small.4 flat.0.2),
  )
  stays_one zero (guard tests body) params outer small flat =
      λ e. stays_all zero body params outer small.1 (flat_body tests body flat)
  stays_one (suc d) (guard tests body) params outer small flat =
      λ e. stays_all (suc d) body params outer small.1 (flat_body tests body flat)
  stays_one d (instance n forms) params outer small flat = tt

  pub stays_all : (d : ℕ) (ts : Trees) (params outer : List ℤ) → AreSmallTrees d ts → FlatAll ts
      → StayWithin (2 ^ 40) ts params outer
  stays_all d none params outer small flat = tt
  stays_all d (more t ts) params outer small flat =
      (stays_one d t params outer small.0 (flat.0, tt), stays_all d ts params outer small.1 flat.1)
