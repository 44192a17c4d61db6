-- Some parts of bounds and some tests in place of all: step by step.
use Rattle.tree_simplification.proofs.Common.{◌≡◌, ℕ, ◌<◌, inl, inr, List, [], ◌∷◌, ◌++◌, ℤ, pos, length, drop, get_or}
use Rattle.tree_simplification.proofs.Common.{All, ap, subst, sym, ◌∙◌, refl, arith, length-append, Bool, true, false}
use Rattle.tree_simplification.proofs.Common.{if◌then◌else◌, ◌<ℤ◌, All-cons, All-head, All-nil, All-tail, In}
use Rattle.tree_simplification.proofs.Common.{variables_of, Bound, all_hold, holds, ArePartsOver, Context, Meets}
use Rattle.tree_simplification.proofs.Common.{OnSide, TrimsSide, tested, Among, TrimsTests}
use Rattle.scop_syntax.proofs.Common.{in_append}
use Rattle.loop_tree.specs.Tree.{Test}
use Rattle.tree_simplification.proofs.Contexts.{meets_tested}

-- what holds of each of a list holds of each of some of it
pub all_among : {A : Type 0} (P : A → Type 0) (xs ys : List A) → Among xs ys → All P ys → All P xs
all_among {A} P xs ys among all = each xs among
  where
    at : (zs : List A) (x : A) → In x zs → All P zs → P x
    at [] x i h = absurd i
    at (z ∷ zs) x (inl e) h = subst P (sym e) (All-head P z zs h)
    at (z ∷ zs) x (inr i) h = at zs x i (All-tail P z zs h)

    each : (zs : List A) → Among zs ys → All P zs
    each [] f = All-nil P
    each (z ∷ zs) f = All-cons P z zs (at ys z (f z (inl refl)) all) (each zs (λ x i. f x (inr i)))

pub parts_among : (n : ℕ) (xs ys : List Bound) → Among xs ys → ArePartsOver n ys → ArePartsOver n xs
parts_among n xs ys among over =
    record {
      forms = all_among (λ b. variables_of b.form ≡ n) xs ys among over.forms;
      divisors = all_among (λ b. pos 0 <ℤ b.divisor) xs ys among over.divisors;
    }

-- the first of a list and what is behind it
pub first_and_rest : {A : Type 0} (xs : List A) (x : A) → x ≡ get_or xs 0 x → 0 < length xs → xs ≡ x ∷ drop 1 xs
first_and_rest [] x is some = absurd (omega (arith, some))
first_and_rest (y ∷ ys) x is some = ap (λ z. z ∷ ys) (sym is)

-- one put behind the others is among the first and those
turned_among : {A : Type 0} (x : A) (xs : List A) → Among (xs ++ x ∷ []) (x ∷ xs)
turned_among x xs y i = elim (in_append y xs (x ∷ []) i) [
  | inl h ↦ inr h
  | inr h ↦ elim h [
    | inl e ↦ inl e
    | inr none ↦ absurd none
  ]
]

-- a part put behind the others says the same
on_turned : (turned : Bool) (b : Bound) (bs : List Bound) (point : List ℤ) (x : ℤ)
    → OnSide turned (bs ++ b ∷ []) point x → OnSide turned (b ∷ bs) point x
on_turned turned b [] point x h = h
on_turned turned b (a ∷ bs) point x h = let r = on_turned turned b bs point x h.1 in (r.0, (h.0, r.1))

-- parts of one side: all, some of some, one gone, one put behind the others
pub trims_none : (c : Context) (turned : Bool) (bs others : List Bound) → 0 < length bs
    → TrimsSide c turned bs others bs
trims_none c turned bs others some =
    record { some = some; among = λ b i. i; implied = λ params outer m x on there. on }

pub trims_on : (c : Context) (turned : Bool) (ps bs cs others : List Bound) → TrimsSide c turned ps others bs
    → TrimsSide c turned bs others cs → TrimsSide c turned ps others cs
trims_on c turned ps bs cs others f g =
    record {
      some = g.some;
      among = λ b i. f.among b (g.among b i);
      implied = λ params outer m x on there. f.implied params outer m x (g.implied params outer m x on there) there;
    }

pub part_kept : (c : Context) (turned : Bool) (b : Bound) (bs others : List Bound)
    → TrimsSide c turned (b ∷ bs) others (bs ++ b ∷ [])
part_kept c turned b bs others =
    record {
      some = let l = length-append bs (b ∷ []) in omega (arith, l);
      among = turned_among b bs;
      implied = λ params outer m x on there. on_turned turned b bs (outer ++ params) x on;
    }

-- so of tests
pub tests_stay : (c : Context) (tests : List Test) → TrimsTests c tests tests
tests_stay c tests = record { parts = λ t i. i; truth = λ params outer m. refl }

pub tests_on : (c : Context) (ps bs cs : List Test) → TrimsTests c ps bs → TrimsTests c bs cs → TrimsTests c ps cs
tests_on c ps bs cs f g =
    record {
      parts = λ t i. f.parts t (g.parts t i);
      truth = λ params outer m. f.truth params outer m ∙ g.truth params outer m;
    }

follows : (a b : Bool) → (b ≡ true → a ≡ true) → (if a then b else false) ≡ b
follows true b h = refl
follows false true h = h refl
follows false false h = refl

pub test_gone : (c : Context) (test : Test) (tests : List Test)
    → ((params outer : List ℤ) → Meets (tested c tests) params outer → holds test (outer ++ params) ≡ true)
    → TrimsTests c (test ∷ tests) tests
test_gone c test tests implies =
    record {
      parts = λ t i. inr i;
      truth = λ params outer m. follows (holds test (outer ++ params)) (all_hold tests (outer ++ params))
          (λ h. implies params outer (meets_tested c tests params outer m h));
    }

swapped : (a b d : Bool) → (if a then (if b then d else false) else false)
    ≡ (if b then (if a then d else false) else false)
swapped true true d = refl
swapped true false d = refl
swapped false true d = refl
swapped false false d = refl

-- a test put behind the others says the same
hold_turned : (test : Test) (tests : List Test) (point : List ℤ)
    → all_hold (test ∷ tests) point ≡ all_hold (tests ++ test ∷ []) point
hold_turned test [] point = refl
hold_turned test (t ∷ tests) point =
    swapped (holds test point) (holds t point) (all_hold tests point)
    ∙ ap (λ b. if holds t point then b else false) (hold_turned test tests point)

pub test_kept : (c : Context) (test : Test) (tests : List Test) → TrimsTests c (test ∷ tests) (tests ++ test ∷ [])
test_kept c test tests =
    record { parts = turned_among test tests; truth = λ params outer m. hold_turned test tests (outer ++ params) }
