-- What trees are like, they stay without what is implied.
use Rattle.tree_simplification.proofs.Common.{ℕ, zero, suc, inl, inr, Bool, List, [], ◌∷◌, pos, All, subst, sym, refl}
use Rattle.tree_simplification.proofs.Common.{◌<ℤ◌, All-cons, All-head, All-nil, All-tail, In, Program, form_in}
use Rattle.tree_simplification.proofs.Common.{AreBounds, AreTests, FlatAll, IsTest, AreSerial, BoundsAreOver}
use Rattle.tree_simplification.proofs.Common.{BoundsAreUpTo, IsOver, IsOverUpTo, NestAllTo, TestIsUpTo, TreesAreOf}
use Rattle.tree_simplification.proofs.Common.{TreesAreOver, TreesAreUpTo, Bound, Bounds, only, besides, Tree, loop}
use Rattle.tree_simplification.proofs.Common.{guard, instance, Trees, none, more, Context, entered, parts, tested}
use Rattle.tree_simplification.proofs.Common.{joined, Among, Trims, TrimsAll, under}
use Rattle.loop_tree.specs.Tree.{Test}
use Rattle.tree_simplification.proofs.JoinedTrees.{flat_joined, nested_joined, of_joined, over_joined, serial_joined}
use Rattle.tree_simplification.proofs.JoinedTrees.{small_joined}
use Rattle.tree_simplification.proofs.RemainingParts.{all_among}

-- what holds of each part of bounds
abbrev pub Each : (Bound → Type 0) → Bounds → Type 0
Each P (only b) = P b
Each P (besides b bs) = P b × Each P bs

each_part : (P : Bound → Type 0) (bs : Bounds) (b : Bound) → Each P bs → In b (parts bs) → P b
each_part P (only a) b h (inl e) = subst P (sym e) h
each_part P (only a) b h (inr i) = absurd i
each_part P (besides a bs) b h (inl e) = subst P (sym e) h.0
each_part P (besides a bs) b h (inr i) = each_part P bs b h.1 i

each_from : (P : Bound → Type 0) (bs : Bounds) → ((b : Bound) → In b (parts bs) → P b) → Each P bs
each_from P (only b) f = f b (inl refl)
each_from P (besides b bs) f = (f b (inl refl), each_from P bs (λ a i. f a (inr i)))

pub each_among : (P : Bound → Type 0) (old new : Bounds) → Among (parts new) (parts old) → Each P old → Each P new
each_among P old new among h = each_from P new (λ b i. each_part P old b h (among b i))

-- facts of bounds as facts of each part
over_each : (n : ℕ) (bs : Bounds) → BoundsAreOver n bs → Each (λ b. IsOver n b.form) bs
over_each n (only b) h = h
over_each n (besides b bs) h = (h.0, over_each n bs h.1)

each_over : (n : ℕ) (bs : Bounds) → Each (λ b. IsOver n b.form) bs → BoundsAreOver n bs
each_over n (only b) h = h
each_over n (besides b bs) h = (h.0, each_over n bs h.1)

small_each : (n : ℕ) (bs : Bounds) → BoundsAreUpTo n bs → Each (λ b. IsOverUpTo n b.form b.divisor) bs
small_each n (only b) h = h
small_each n (besides b bs) h = (h.0, small_each n bs h.1)

each_small : (n : ℕ) (bs : Bounds) → Each (λ b. IsOverUpTo n b.form b.divisor) bs → BoundsAreUpTo n bs
each_small n (only b) h = h
each_small n (besides b bs) h = (h.0, each_small n bs h.1)

bounds_each : (bs : Bounds) → AreBounds bs → Each (λ b. pos 0 <ℤ b.divisor) bs
bounds_each (only b) h = h
bounds_each (besides b bs) h = (h.0, bounds_each bs h.1)

each_bounds : (bs : Bounds) → Each (λ b. pos 0 <ℤ b.divisor) bs → AreBounds bs
each_bounds (only b) h = h
each_bounds (besides b bs) h = (h.0, each_bounds bs h.1)

pub bounds_over : (n : ℕ) (old new : Bounds) → Among (parts new) (parts old) → BoundsAreOver n old → BoundsAreOver n new
bounds_over n old new among h = each_over n new (each_among (λ b. IsOver n b.form) old new among (over_each n old h))

bounds_small : (n : ℕ) (old new : Bounds) → Among (parts new) (parts old) → BoundsAreUpTo n old → BoundsAreUpTo n new
bounds_small n old new among h =
    each_small n new (each_among (λ b. IsOverUpTo n b.form b.divisor) old new among (small_each n old h))

pub bounds_flat : (old new : Bounds) → Among (parts new) (parts old) → AreBounds old → AreBounds new
bounds_flat old new among h = each_bounds new (each_among (λ b. pos 0 <ℤ b.divisor) old new among (bounds_each old h))

-- facts of tests
tests_all : (tests : List Test) → AreTests tests → All IsTest tests
tests_all [] h = All-nil IsTest
tests_all (test ∷ tests) h = All-cons IsTest test tests h.0 (tests_all tests h.1)

all_tests : (tests : List Test) → All IsTest tests → AreTests tests
all_tests [] h = tt
all_tests (test ∷ tests) h = (All-head IsTest test tests h, all_tests tests (All-tail IsTest test tests h))

flat_tests : (tests : List Test) (body : Trees) → FlatAll (more (guard tests body) none)
    → AreTests tests × FlatAll body
flat_tests [] body h = absurd h.0
flat_tests (test ∷ tests) body h = h.0

pub flat_body : (tests : List Test) (body : Trees) → FlatAll (more (guard tests body) none) → FlatAll body
flat_body tests body h = (flat_tests tests body h).1

-- what new trees are like as the old ones are
pub record Alike (old new : Trees) : Type 0 where
  pub serial : AreSerial old → AreSerial new
  pub flat : FlatAll old → FlatAll new
  pub statements : (program : Program) → TreesAreOf program old → TreesAreOf program new
  pub over : (n : ℕ) → TreesAreOver n old → TreesAreOver n new
  pub small : (n : ℕ) → TreesAreUpTo n old → TreesAreUpTo n new
  pub nested : (n : ℕ) → NestAllTo n old → NestAllTo n new

-- one behind the other
alike_joined : (t : Tree) (ts front back : Trees) → Alike (more t none) front → Alike ts back
    → Alike (more t ts) (joined front back)
alike_joined t ts front back f b =
    record {
      serial = λ h. serial_joined front back (f.serial (h.0, tt)) (b.serial h.1);
      flat = λ h. flat_joined front back (f.flat (h.0, tt)) (b.flat h.1);
      statements = λ program h. of_joined program front back (f.statements program (h.0, tt))
          (b.statements program h.1);
      over = λ n h. over_joined n front back (f.over n (h.0, tt)) (b.over n h.1);
      small = λ n h. small_joined n front back (f.small n (h.0, tt)) (b.small n h.1);
      nested = λ n h. nested_joined n front back (f.nested n (h.0, tt)) (b.nested n h.1);
    }

-- a loop round a body
nested_loop : (flag : Bool) (lo up lower upper : Bounds) (body inner : Trees)
    → ((n : ℕ) → NestAllTo n body → NestAllTo n inner) → (n : ℕ)
    → NestAllTo n (more (loop flag lo up body) none) → NestAllTo n (more (loop flag lower upper inner) none)
nested_loop flag lo up lower upper body inner f zero h = absurd h.0
nested_loop flag lo up lower upper body inner f (suc n) h = (f n h.0, tt)

alike_loop : (flag : Bool) (lo up lower upper : Bounds) (body inner : Trees) → Among (parts lower) (parts lo)
    → Among (parts upper) (parts up) → Alike body inner
    → Alike (more (loop flag lo up body) none) (more (loop flag lower upper inner) none)
alike_loop flag lo up lower upper body inner low high a =
    record {
      serial = λ h. ((h.0.0, a.serial h.0.1), tt);
      flat = λ h. ((bounds_flat lo lower low h.0.0, bounds_flat up upper high h.0.1, a.flat h.0.2), tt);
      statements = λ program h. (a.statements program h.0, tt);
      over = λ n h. ((bounds_over n lo lower low h.0.0, bounds_over n up upper high h.0.1, a.over (suc n) h.0.2), tt);
      small = λ n h. ((bounds_small n lo lower low h.0.0, bounds_small n up upper high h.0.1, a.small n h.0.2), tt);
      nested = nested_loop flag lo up lower upper body inner a.nested;
    }

-- tests round a body
nested_guard : (tests : List Test) (body : Trees) (n : ℕ) → NestAllTo n (more (guard tests body) none)
    → NestAllTo n body
nested_guard tests body zero h = h.0
nested_guard tests body (suc n) h = h.0

guard_nested : (tests : List Test) (body : Trees) (n : ℕ) → NestAllTo n body
    → NestAllTo n (more (guard tests body) none)
guard_nested tests body zero h = (h, tt)
guard_nested tests body (suc n) h = (h, tt)

alike_guard : (tests kept : List Test) (body inner : Trees) → Among kept tests → Alike body inner
    → Alike (more (guard tests body) none) (under kept inner)
alike_guard tests [] body inner among a =
    record {
      serial = λ h. a.serial h.0;
      flat = λ h. a.flat (flat_body tests body h);
      statements = λ program h. a.statements program h.0;
      over = λ n h. a.over n h.0.1;
      small = λ n h. a.small n h.0.1;
      nested = λ n h. a.nested n (nested_guard tests body n h);
    }
alike_guard tests (test ∷ kept) body inner among a =
    record {
      serial = λ h. (a.serial h.0, tt);
      flat = λ h. (
        (
          all_tests (test ∷ kept)
              (all_among IsTest (test ∷ kept) tests among (tests_all tests (flat_tests tests body h).0)),
          a.flat (flat_body tests body h),
        ),
        tt,
      );
      statements = λ program h. (a.statements program h.0, tt);
      over = λ n h. (
        (all_among (λ test. IsOver n (form_in test)) (test ∷ kept) tests among h.0.0, a.over n h.0.1),
        tt,
      );
      small = λ n h. ((all_among (TestIsUpTo n) (test ∷ kept) tests among h.0.0, a.small n h.0.1), tt);
      nested = λ n h. guard_nested (test ∷ kept) inner n (a.nested n (nested_guard tests body n h));
    }

alike_same : (ts : Trees) → Alike ts ts
alike_same ts =
    record {
      serial = λ h. h;
      flat = λ h. h;
      statements = λ program h. h;
      over = λ n h. h;
      small = λ n h. h;
      nested = λ n h. h;
    }

-- nothing
alike_none : (ts : Trees) → Alike ts none
alike_none ts =
    record {
      serial = λ h. tt;
      flat = λ h. tt;
      statements = λ program h. tt;
      over = λ n h. tt;
      small = λ n h. tt;
      nested = λ n h. tt;
    }

-- what is left of trees is like them
mutual
  alike_one : (c : Context) (t : Tree) (new : Trees) → Trims c t new → Alike (more t none) new
  alike_one c (loop flag lo up body) new (inl h) =
      let lower = h.0 in
      let upper = h.1 in
      let inner = h.2 in
      subst (Alike (more (loop flag lo up body) none)) (sym h.4)
      (alike_loop flag lo up lower upper body inner h.5.lower_parts h.5.upper_parts
      (alike_all (entered c (parts lo) (parts up) h.3) body inner h.7))
  alike_one c (loop flag lo up body) new (inr h) =
      subst (Alike (more (loop flag lo up body) none)) (sym h.1) (alike_none (more (loop flag lo up body) none))
  alike_one c (guard tests body) new (inl h) =
      subst (Alike (more (guard tests body) none)) (sym h.2)
      (alike_guard tests h.0 body h.1 h.3.parts (alike_all (tested c tests) body h.1 h.4))
  alike_one c (guard tests body) new (inr h) =
      subst (Alike (more (guard tests body) none)) (sym h.0) (alike_none (more (guard tests body) none))
  alike_one c (instance n forms) new (inl h) =
      subst (Alike (more (instance n forms) none)) (sym h) (alike_same (more (instance n forms) none))
  alike_one c (instance n forms) new (inr h) =
      subst (Alike (more (instance n forms) none)) (sym h.0) (alike_none (more (instance n forms) none))

  pub alike_all : (c : Context) (ts new : Trees) → TrimsAll c ts new → Alike ts new
  alike_all c none new h = subst (Alike none) (sym h) (alike_same none)
  alike_all c (more t ts) new h =
      subst (Alike (more t ts)) (sym h.2)
      (alike_joined t ts h.0 h.1 (alike_one c t h.0 h.3) (alike_all c ts h.1 h.4))
