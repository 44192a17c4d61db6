-- Of two answers that name places of the walk the join chooses that of the wanted place.
use Rattle.dataflow.proofs.Common.{◌≡◌, ℕ, suc, ◌<◌, Bool, true, false, ℤ, pos, List, [], ◌∷◌, ◌++◌, length, take}
use Rattle.dataflow.proofs.Common.{Option, Some, None, inl, inr, ◌⊎◌, ap, ap₂, subst, sym, ◌∙◌, refl, arith, slice_get}
use Rattle.dataflow.proofs.Common.{nat_eq, if◌then◌else◌, ints, LexLess, nat_cases, Visit, Before, Leaf, found, by_sign}
use Rattle.dataflow.proofs.Common.{AtMost, IsBest, better, answer, Names, IsOrdered}
use Rattle.scop_syntax.proofs.Common.{lt-ltb, le-ltb, common}
use Rattle.quast_trees.specs.Leaf.{initial}
use Rattle.scop_syntax.proofs.Order.{common-comm}
use Rattle.quast_trees.proofs.SignChoices.{by_sign_first, by_sign_second}
use Rattle.scop_syntax.specs.Order.{key}
use Rattle.quast_joins.specs.declared.way.Way.{Way}
use Rattle.quast_joins.specs.declared.way.Way.TheVariants.{Later, Earlier}
use Rattle.quast_joins.specs.Ways.{ahead, text, first_stands, chosen}

text_second : (s t : ℕ) → s < t → text Later s t ≡ false
text_second s t h = rw (lt-ltb s t h) refl

text_first : (s t : ℕ) → t < s → text Later s t ≡ true
text_first s t h = rw (le-ltb s t (omega arith)) refl

number_less : (s t : ℕ) → LexLess (pos s ∷ []) (pos t ∷ []) → s < t
number_less s t (inl l) = omega (arith, ints)
number_less s t (inr h) = absurd h.1

second_step : (same : Bool) (c : ℕ) (x y : ℤ) (xs ys : List ℤ) (s t : ℕ) (r : Bool)
    → (LexLess (take c xs ++ pos s ∷ []) (take c ys ++ pos t ∷ []) → r ≡ false)
    → LexLess (take (if same then suc c else 0) (x ∷ xs) ++ pos s ∷ [])
    (take (if same then suc c else 0) (y ∷ ys) ++ pos t ∷ [])
    → (if same then by_sign (ahead Later x y) true (by_sign (ahead Later y x) false r) else text Later s t) ≡ false
second_step false c x y xs ys s t r ih h = text_second s t (number_less s t h)
second_step true c x y xs ys s t r ih (inl l) =
    by_sign_second (ahead Later x y) true (by_sign (ahead Later y x) false r) (omega (arith, ints))
    ∙ by_sign_first (ahead Later y x) false r (omega (arith, ints))
second_step true c x y xs ys s t r ih (inr h) =
    let e = h.0 in
    by_sign_second (ahead Later x y) true (by_sign (ahead Later y x) false r) (omega (arith, ints))
    ∙ (by_sign_second (ahead Later y x) false r (omega (arith, ints)) ∙ ih h.1)

first_step : (same : Bool) (c : ℕ) (x y : ℤ) (xs ys : List ℤ) (s t : ℕ) (r : Bool)
    → (LexLess (take c ys ++ pos t ∷ []) (take c xs ++ pos s ∷ []) → r ≡ true)
    → LexLess (take (if same then suc c else 0) (y ∷ ys) ++ pos t ∷ [])
    (take (if same then suc c else 0) (x ∷ xs) ++ pos s ∷ [])
    → (if same then by_sign (ahead Later x y) true (by_sign (ahead Later y x) false r) else text Later s t) ≡ true
first_step false c x y xs ys s t r ih h = text_first s t (number_less t s h)
first_step true c x y xs ys s t r ih (inl l) = by_sign_first (ahead Later x y) true (by_sign (ahead Later y x) false r)
    (omega (arith, ints))
first_step true c x y xs ys s t r ih (inr h) =
    let e = h.0 in
    by_sign_second (ahead Later x y) true (by_sign (ahead Later y x) false r) (omega (arith, ints))
    ∙ (by_sign_second (ahead Later y x) false r (omega (arith, ints)) ∙ ih h.1)

-- where the first comes before the second in the order of the walk, the second stands
second_stands : (s t : ℕ) (ks ls : List ℕ) (xs ys : List ℤ) → length ks ≡ length xs → length ls ≡ length ys
    → LexLess (take (common ks ls) xs ++ pos s ∷ []) (take (common ks ls) ys ++ pos t ∷ [])
    → first_stands Later s t ks ls xs ys ≡ false
second_stands s t [] ls xs ys e f h = text_second s t (number_less s t h)
second_stands s t (k ∷ ks) [] xs ys e f h = text_second s t (number_less s t h)
second_stands s t (k ∷ ks) (l ∷ ls) [] ys e f h = absurd (omega arith)
second_stands s t (k ∷ ks) (l ∷ ls) (x ∷ xs) [] e f h = absurd (omega arith)
second_stands s t (k ∷ ks) (l ∷ ls) (x ∷ xs) (y ∷ ys) e f h =
    second_step (nat_eq k l) (common ks ls) x y xs ys s t (first_stands Later s t ks ls xs ys)
    (second_stands s t ks ls xs ys (omega arith) (omega arith)) h

-- and where it comes behind it, the first
first_wins : (s t : ℕ) (ks ls : List ℕ) (xs ys : List ℤ) → length ks ≡ length xs → length ls ≡ length ys
    → LexLess (take (common ks ls) ys ++ pos t ∷ []) (take (common ks ls) xs ++ pos s ∷ [])
    → first_stands Later s t ks ls xs ys ≡ true
first_wins s t [] ls xs ys e f h = text_first s t (number_less t s h)
first_wins s t (k ∷ ks) [] xs ys e f h = text_first s t (number_less t s h)
first_wins s t (k ∷ ks) (l ∷ ls) [] ys e f h = absurd (omega arith)
first_wins s t (k ∷ ks) (l ∷ ls) (x ∷ xs) [] e f h = absurd (omega arith)
first_wins s t (k ∷ ks) (l ∷ ls) (x ∷ xs) (y ∷ ys) e f h =
    first_step (nat_eq k l) (common ks ls) x y xs ys s t (first_stands Later s t ks ls xs ys)
    (first_wins s t ks ls xs ys (omega arith) (omega arith)) h

-- the other way is this way with the two exchanged
nat_eq-comm : (k l : ℕ) → nat_eq k l ≡ nat_eq l k
nat_eq-comm k l = nat_cases k l
    (λ (h : k < l). let e : nat_eq k l ≡ false = grind arith in let f : nat_eq l k ≡ false = grind arith in e ∙ sym f)
    (λ (h : k ≡ l). ap₂ nat_eq h (sym h))
    (λ (h : l < k). let e : nat_eq k l ≡ false = grind arith in let f : nat_eq l k ≡ false = grind arith in e ∙ sym f)

pub mirror : (s t : ℕ) (ks ls : List ℕ) (xs ys : List ℤ)
    → first_stands Earlier s t ks ls xs ys ≡ first_stands Later t s ls ks ys xs
mirror s t [] [] xs ys = refl
mirror s t [] (l ∷ ls) xs ys = refl
mirror s t (k ∷ ks) [] xs ys = refl
mirror s t (k ∷ ks) (l ∷ ls) [] [] = refl
mirror s t (k ∷ ks) (l ∷ ls) [] (y ∷ ys) = refl
mirror s t (k ∷ ks) (l ∷ ls) (x ∷ xs) [] = refl
mirror s t (k ∷ ks) (l ∷ ls) (x ∷ xs) (y ∷ ys) =
    ap₂ (λ (b r : Bool). if b then by_sign (ahead Later y x) true (by_sign (ahead Later x y) false r)
    else text Earlier s t) (nat_eq-comm k l) (mirror s t ks ls xs ys)

turned : (v w : Visit) → Before w v → LexLess (key (common v.loops w.loops) w) (key (common v.loops w.loops) v)
turned v w h = subst (λ c. LexLess (key c w) (key c v)) (common-comm w.loops v.loops) h

pub before_second : (v w : Visit) → length v.loops ≡ length v.turns → length w.loops ≡ length w.turns → Before v w
    → first_stands Later v.number w.number v.loops w.loops v.turns w.turns ≡ false
before_second v w e f h = second_stands v.number w.number v.loops w.loops v.turns w.turns e f h

pub behind_first : (v w : Visit) → length v.loops ≡ length v.turns → length w.loops ≡ length w.turns → Before w v
    → first_stands Later v.number w.number v.loops w.loops v.turns w.turns ≡ true
behind_first v w e f h = first_wins v.number w.number v.loops w.loops v.turns w.turns e f (turned v w h)

same_either : {A : Type 0} (b : Bool) (x y : A) → x ≡ y → (if b then x else y) ≡ x
same_either true x y e = refl
same_either false x y e = sym e

-- of two places the wanted one is chosen
chosen_two : (way : Way) (visits : List Visit) → IsOrdered visits → (i k : ℕ) (v w : Visit)
    → slice_get visits i ≡ Some v → slice_get visits k ≡ Some w
    → Names visits (chosen way (answer v) (answer w)) (better way (Some i) (Some k))
chosen_two Later visits o i k v w a b =
    let lv = o.loops i v a in
    let lw = o.loops k w b in
    nat_cases i k
    (λ less. rw (before_second v w lv lw (o.order i k v w a b less), lt-ltb i k less) (w, b, refl))
    (λ same. let e : v ≡ w = cc in
    rw (le-ltb i k (omega arith)) (
      v,
      a,
      same_either
          (first_stands Later v.number w.number v.loops w.loops v.turns w.turns) (answer v) (answer w) (ap answer e),
    ))
    (λ large. rw (behind_first v w lv lw (o.order k i w v b a large), le-ltb i k (omega arith)) (v, a, refl))
chosen_two Earlier visits o i k v w a b =
    let lv = o.loops i v a in
    let lw = o.loops k w b in
    let m = mirror v.number w.number v.loops w.loops v.turns w.turns in
    nat_cases i k
    (λ less. rw (m, behind_first w v lw lv (o.order i k v w a b less), le-ltb k i (omega arith)) (v, a, refl))
    (λ same. let e : v ≡ w = cc in
    rw (le-ltb k i (omega arith)) (
      v,
      a,
      same_either
          (first_stands Earlier v.number w.number v.loops w.loops v.turns w.turns) (answer v) (answer w) (ap answer e),
    ))
    (λ large. rw (m, before_second w v lw lv (o.order k i w v b a large), lt-ltb k i large) (w, b, refl))

chosen_none : (way : Way) (l : Leaf) → chosen way l initial ≡ l
chosen_none way initial = refl
chosen_none way (found o xs) = refl

pub chosen_names : (way : Way) (visits : List Visit) (l m : Leaf) (o u : Option ℕ) → IsOrdered visits
    → Names visits l o → Names visits m u → Names visits (chosen way l m) (better way o u)
chosen_names way visits l m None u order a b = subst (λ z. Names visits (chosen way z m) u) (sym a) b
chosen_names way visits l m (Some i) None order a b = subst (λ z. Names visits (chosen way l z) (Some i)) (sym b)
    (subst (λ z. Names visits z (Some i)) (sym (chosen_none way l)) a)
chosen_names way visits l m (Some i) (Some k) order a b =
    subst (λ z. Names visits (chosen way z m) (better way (Some i) (Some k))) (sym a.2)
    (subst (λ z. Names visits (chosen way (answer a.0) z) (better way (Some i) (Some k))) (sym b.2)
    (chosen_two way visits order i k a.0 b.0 a.1 b.1))

-- of two places the second is chosen, and the first is wanted at most as much, or the other way round
better_two : (way : Way) (i k : ℕ) → ((better way (Some i) (Some k) ≡ Some k) × AtMost way i k)
    ⊎ ((better way (Some i) (Some k) ≡ Some i) × AtMost way k i)
better_two Later i k = nat_cases i k
    (λ less. inl (rw (lt-ltb i k less) refl, omega arith))
    (λ same. inr (rw (le-ltb i k (omega arith)) refl, omega arith))
    (λ large. inr (rw (le-ltb i k (omega arith)) refl, omega arith))
better_two Earlier i k = nat_cases k i
    (λ less. inl (rw (lt-ltb k i less) refl, omega arith))
    (λ same. inr (rw (le-ltb k i (omega arith)) refl, omega arith))
    (λ large. inr (rw (le-ltb k i (omega arith)) refl, omega arith))

at_most-trans : (way : Way) (i j k : ℕ) → AtMost way i j → AtMost way j k → AtMost way i k
at_most-trans Later i j k h g = omega arith
at_most-trans Earlier i j k h g = omega arith

-- the wanted place of two kinds of places
pub best_of_two : (way : Way) (P Q : ℕ → Type 0) (o u : Option ℕ) → IsBest way P o → IsBest way Q u
    → IsBest way (λ k. P k ⊎ Q k) (better way o u)
best_of_two way P Q None None a b = λ k h. elim h [ inl p ↦ a k p | inr q ↦ b k q ]
best_of_two way P Q None (Some k) a b = (inr b.0, λ i h. elim h [ inl p ↦ absurd (a i p) | inr q ↦ b.1 i q ])
best_of_two way P Q (Some i) None a b = (inl a.0, λ k h. elim h [ inl p ↦ a.1 k p | inr q ↦ absurd (b k q) ])
best_of_two way P Q (Some i) (Some k) a b = elim (better_two way i k) [
  | inl e ↦ subst (IsBest way (λ n. P n ⊎ Q n)) (sym e.0)
      (inr b.0, λ n h. elim h [ inl p ↦ at_most-trans way n i k (a.1 n p) e.1 | inr q ↦ b.1 n q ])
  | inr e ↦ subst (IsBest way (λ n. P n ⊎ Q n)) (sym e.0)
      (inl a.0, λ n h. elim h [ inl p ↦ a.1 n p | inr q ↦ at_most-trans way n k i (b.1 n q) e.1 ])
]
