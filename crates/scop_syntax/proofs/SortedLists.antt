-- Parts of sorted lists, and lists that are sorted by another relation; the instances of the walk are distinct.
use Rattle.whole_numbers.proofs.Common.{◌≡◌, ℕ, suc, ◌<◌, List, [], ◌∷◌, ◌++◌, map, Some, inl, inr, subst, sym, refl}
use Rattle.whole_numbers.proofs.Common.{arith, ℤ, ap, slice_get, ◌≢◌}
use Rattle.scop_syntax.specs.Members.{In, Sorted}
use Rattle.scop_syntax.specs.Tree.{Program}
use Rattle.scop_syntax.specs.Walk.{Instance, instance, Visit, walk_of}
use Rattle.scop_syntax.proofs.Members.{in_front, in_back, in_map, nat_cases, place_of, sorted_places, sorted_map}
use Rattle.scop_syntax.specs.ConflictOrders.{AreDistinct, StandsBefore}

-- elements of a sorted list stand in the relation
pub sorted_stands : {A : Type 0} (R : A → A → Type 0) (xs : List A) (x y : A) → Sorted R xs → StandsBefore xs x y
    → R x y
sorted_stands R [] x y s h = absurd h
sorted_stands R (z ∷ zs) x y s (inl h) = subst (λ w. R w y) (sym h.0) (s.0 y h.1)
sorted_stands R (z ∷ zs) x y s (inr h) = sorted_stands R zs x y s.1 h

-- a list is sorted where its elements stand in the relation, place by place
pub sorted_by_places : {A : Type 0} (R : A → A → Type 0) (xs : List A)
    → ((i j : ℕ) (x y : A) → i < j → slice_get xs i ≡ Some x → slice_get xs j ≡ Some y → R x y) → Sorted R xs
sorted_by_places R [] h = tt
sorted_by_places R (z ∷ zs) h = (
  (λ y g. let p = place_of zs y g in h 0 (suc p.0) z y (omega arith) refl p.1),
  sorted_by_places R zs (λ i j x y less a b. h (suc i) (suc j) x y (omega arith) a b),
)

-- each element of a list of distinct ones stands at one place
pub distinct_places : {A : Type 0} (xs : List A) → AreDistinct xs → (i j : ℕ) (x : A) → slice_get xs i ≡ Some x
    → slice_get xs j ≡ Some x → i ≡ j
distinct_places {A} xs d i j x a b =
    nat_cases i j (λ less. absurd (sorted_places (λ (y z : A). y ≡ z → ⊥) xs d i j x x a b less refl)) (λ same. same)
    (λ more. absurd (sorted_places (λ (y z : A). y ≡ z → ⊥) xs d j i x x b a more refl))

-- the two parts of a sorted list, and an element of each
pub sorted_front : {A : Type 0} (R : A → A → Type 0) (xs ys : List A) → Sorted R (xs ++ ys) → Sorted R xs
sorted_front R [] ys s = tt
sorted_front R (x ∷ xs) ys s = ((λ y i. s.0 y (in_front y xs ys i)), sorted_front R xs ys s.1)

pub sorted_back : {A : Type 0} (R : A → A → Type 0) (xs ys : List A) → Sorted R (xs ++ ys) → Sorted R ys
sorted_back R [] ys s = s
sorted_back R (x ∷ xs) ys s = sorted_back R xs ys s.1

pub sorted_across : {A : Type 0} (R : A → A → Type 0) (xs ys : List A) → Sorted R (xs ++ ys) → (x y : A) → In x xs
    → In y ys → R x y
sorted_across R [] ys s x y i j = absurd i
sorted_across R (z ∷ zs) ys s x y (inl e) j = subst (λ w. R w y) (sym e) (s.0 y (in_back y zs ys j))
sorted_across R (z ∷ zs) ys s x y (inr i) j = sorted_across R zs ys s.1 x y i j

-- a list whose images are sorted
pub sorted_unmapped : {A B : Type 0} (S : B → B → Type 0) (f : A → B) (xs : List A) → Sorted S (map f xs)
    → Sorted (λ (x y : A). S (f x) (f y)) xs
sorted_unmapped S f [] s = tt
sorted_unmapped S f (x ∷ xs) s = ((λ y i. s.0 (f y) (in_map f y xs i)), sorted_unmapped S f xs s.1)

-- a list that is sorted by a weaker relation too
pub sorted_weaker : {A : Type 0} (R S : A → A → Type 0) (xs : List A) → ((x y : A) → R x y → S x y) → Sorted R xs
    → Sorted S xs
sorted_weaker R S [] weaker s = tt
sorted_weaker R S (x ∷ xs) weaker s = ((λ y i. weaker x y (s.0 y i)), sorted_weaker R S xs weaker s.1)

-- each instance stands at one place of the walk
abbrev pub StandOnce : Program → List ℤ → Type 0
StandOnce program params =
    (i j : ℕ) (v w : Visit) → slice_get (walk_of program params) i ≡ Some v
    → slice_get (walk_of program params) j ≡ Some w → v.number ≡ w.number → v.turns ≡ w.turns → i ≡ j

-- so the instances of the walk are distinct
pub walked_distinct : (program : Program) (params : List ℤ) → StandOnce program params
    → AreDistinct (map instance (walk_of program params))
walked_distinct program params once =
    let Differ : Visit → Visit → Type 0 = λ v w. instance v ≢ instance w in
    sorted_map Differ (λ (x y : Instance). x ≢ y) instance (walk_of program params) (λ v w d. d)
    (sorted_by_places Differ (walk_of program params) (λ i j v w less a b e.
    let same = once i j v w a b (ap (λ (x : Instance). x.number) e) (ap (λ (x : Instance). x.turns) e) in
    absurd (omega (arith, same, less))))
