-- Elements of lists and of lists in order.
use Rattle.whole_numbers.proofs.Common.{◌≡◌, ℕ, zero, suc, ◌+◌, ◌<◌, Bool, true, false, ℤ, pos, negsuc, List, [], ◌∷◌}
use Rattle.whole_numbers.proofs.Common.{◌++◌, map, Some, ◌⊎◌, inl, inr, ap, subst, sym, refl, arith, length, get_or}
use Rattle.whole_numbers.proofs.Common.{◌≤◌, ◌+ℤ◌, ◌≤ℤ◌, ◌<ℤ◌, slice_get, if◌then◌else◌, All, le_z, ints, All-head}
use Rattle.whole_numbers.proofs.Common.{All-tail}
use Rattle.scop_syntax.specs.Members.{In, Sorted}
use Rattle.scop_syntax.specs.Walk.{turns, most_turns, loop_walk, Falls}

pub in_front : {A : Type 0} (x : A) (xs ys : List A) → In x xs → In x (xs ++ ys)
in_front x [] ys h = absurd h
in_front x (y ∷ xs) ys (inl e) = inl e
in_front x (y ∷ xs) ys (inr h) = inr (in_front x xs ys h)

pub in_back : {A : Type 0} (x : A) (xs ys : List A) → In x ys → In x (xs ++ ys)
in_back x [] ys h = h
in_back x (y ∷ xs) ys h = inr (in_back x xs ys h)

pub in_append : {A : Type 0} (x : A) (xs ys : List A) → In x (xs ++ ys) → In x xs ⊎ In x ys
in_append x [] ys h = inr h
in_append x (y ∷ xs) ys (inl e) = inl (inl e)
in_append x (y ∷ xs) ys (inr h) = elim (in_append x xs ys h) [
  | inl g ↦ inl (inr g)
  | inr g ↦ inr g
]

pub in_map : {A B : Type 0} (f : A → B) (x : A) (xs : List A) → In x xs → In (f x) (map f xs)
in_map f x [] h = absurd h
in_map f x (y ∷ xs) (inl e) = inl (ap f e)
in_map f x (y ∷ xs) (inr h) = inr (in_map f x xs h)

pub in_map_from : {A B : Type 0} (f : A → B) (y : B) (xs : List A) → In y (map f xs) → (x : A) × In x xs × (y ≡ f x)
in_map_from f y [] h = absurd h
in_map_from f y (x ∷ xs) (inl e) = (x, inl refl, e)
in_map_from f y (x ∷ xs) (inr h) = let k = in_map_from f y xs h in (k.0, inr k.1, k.2)

pub in_if : {A : Type 0} (b : Bool) (x : A) (xs : List A) → b ≡ true → In x xs → In x (if b then xs else [])
in_if true x xs h g = g
in_if false x xs h g = absurd cc

pub in_if_from : {A : Type 0} (b : Bool) (x : A) (xs : List A) → In x (if b then xs else []) → b ≡ true × In x xs
in_if_from true x xs h = (refl, h)
in_if_from false x xs h = absurd h

pub both : (a b : Bool) → (if a then b else false) ≡ true → (a ≡ true) × (b ≡ true)
both true b h = (refl, h)
both false b h = absurd cc

pub le_z_holds : (a b : ℤ) → a ≤ℤ b → le_z a b ≡ true
le_z_holds a b h = grind (arith, ints)

pub holds_le_z : (a b : ℤ) → le_z a b ≡ true → a ≤ℤ b
holds_le_z a b h = grind (arith, ints)

-- an element of a loop's turns belongs to a turn at which the condition holds
pub in_turns_from : {A : Type 0} (c : ℕ → ℤ) (body : ℕ → List A) (x : A) (n k : ℕ) → In x (turns c body n k)
    → (j : ℕ) × (k ≤ j) × (pos 0 ≤ℤ c j) × In x (body j)
in_turns_from c body x zero k h = absurd h
in_turns_from c body x (suc n) k h =
    let here = in_if_from (le_z (pos 0) (c k)) x (body k ++ turns c body n (k + 1)) h in
    elim (in_append x (body k) (turns c body n (k + 1)) here.1) [
      | inl g ↦ (k, omega arith, holds_le_z (pos 0) (c k) here.0, g)
      | inr g ↦ let r = in_turns_from c body x n (k + 1) g in (r.0, omega (arith, r.1), r.2, r.3)
    ]

-- where the condition falls it has held before
pub held_before : (c : ℕ → ℤ) → Falls c → (j : ℕ) (k : ℕ) → pos 0 ≤ℤ c (j + k) → pos 0 ≤ℤ c j
held_before c falls j zero h = subst (λ i. pos 0 ≤ℤ c i) (omega arith) h
held_before c falls j (suc k) h =
    let e : j + suc k ≡ (j + k) + 1 = omega arith in
    let far = subst (λ i. pos 0 ≤ℤ c i) e h in
    let less = falls (j + k) in
    held_before c falls j k (omega (arith, ints))

pub in_turns : {A : Type 0} (c : ℕ → ℤ) (body : ℕ → List A) (x : A) → Falls c → (d n k : ℕ) → d < n
    → pos 0 ≤ℤ c (k + d) → In x (body (k + d)) → In x (turns c body n k)
in_turns c body x falls d zero k few h g = absurd (omega arith)
in_turns c body x falls zero (suc n) k few h g =
    let e : k + 0 ≡ k = omega arith in
    in_if (le_z (pos 0) (c k)) x (body k ++ turns c body n (k + 1))
    (le_z_holds (pos 0) (c k) (subst (λ i. pos 0 ≤ℤ c i) e h))
    (in_front x (body k) (turns c body n (k + 1)) (subst (λ i. In x (body i)) e g))
in_turns c body x falls (suc d) (suc n) k few h g =
    let e : k + suc d ≡ (k + 1) + d = omega arith in
    in_if (le_z (pos 0) (c k)) x (body k ++ turns c body n (k + 1))
    (le_z_holds (pos 0) (c k) (held_before c falls k (suc d) h))
    (in_back x (body k) (turns c body n (k + 1))
    (in_turns c body x falls d n (k + 1) (omega arith) (subst (λ i. pos 0 ≤ℤ c i) e h)
    (subst (λ i. In x (body i)) e g)))

-- after k turns the condition has fallen by at least k
pub fallen : (c : ℕ → ℤ) (k : ℕ) → Falls c → (c k +ℤ pos k) ≤ℤ c 0
fallen c zero falls = omega (arith, ints)
fallen c (suc k) falls =
    let e : k + 1 ≡ suc k = omega arith in
    let less = subst (λ i. c i <ℤ c k) e (falls k) in
    let before = fallen c k falls in
    omega (arith, ints)

few_turns : (z : ℤ) (k : ℕ) → pos k ≤ℤ z → k < most_turns z
few_turns (pos n) k h = omega (arith, ints)
few_turns (negsuc n) k h = absurd (omega (arith, ints))

-- so every turn at which it holds is walked
pub in_loop : {A : Type 0} (c : ℕ → ℤ) (body : ℕ → List A) (x : A) → Falls c → (k : ℕ) → pos 0 ≤ℤ c k → In x (body k)
    → In x (loop_walk c body)
in_loop c body x falls k h g =
    let far = fallen c k falls in
    let e : k ≡ 0 + k = omega arith in
    in_turns c body x falls k (most_turns (c 0)) 0 (few_turns (c 0) k (omega (arith, ints)))
    (subst (λ i. pos 0 ≤ℤ c i) e h) (subst (λ i. In x (body i)) e g)

-- lists in order
pub sorted_append : {A : Type 0} (R : A → A → Type 0) (xs ys : List A) → Sorted R xs → Sorted R ys
    → ((x y : A) → In x xs → In y ys → R x y) → Sorted R (xs ++ ys)
sorted_append R [] ys a b h = b
sorted_append R (x ∷ xs) ys a b h = (
  (λ y g. elim (in_append y xs ys g) [
    | inl k ↦ a.0 y k
    | inr k ↦ h x y (inl refl) k
  ]),
  sorted_append R xs ys a.1 b (λ u v k l. h u v (inr k) l),
)

pub sorted_map : {A B : Type 0} (R : A → A → Type 0) (S : B → B → Type 0) (f : A → B) (xs : List A)
    → ((x y : A) → R x y → S (f x) (f y)) → Sorted R xs → Sorted S (map f xs)
sorted_map R S f [] h s = tt
sorted_map R S f (x ∷ xs) h s = (
  (λ y g. let k = in_map_from f y xs g in
      subst (λ z. S (f x) z) (sym k.2) (h x k.0 (s.0 k.0 k.1))),
  sorted_map R S f xs h s.1,
)

pub sorted_if : {A : Type 0} (R : A → A → Type 0) (b : Bool) (xs : List A) → Sorted R xs
    → Sorted R (if b then xs else [])
sorted_if R true xs s = s
sorted_if R false xs s = tt

pub sorted_turns : {A : Type 0} (R : A → A → Type 0) (c : ℕ → ℤ) (body : ℕ → List A) → ((k : ℕ) → Sorted R (body k))
    → ((j k : ℕ) (x y : A) → j < k → In x (body j) → In y (body k) → R x y)
    → (n k : ℕ) → Sorted R (turns c body n k)
sorted_turns R c body each across zero k = tt
sorted_turns R c body each across (suc n) k =
    sorted_if R (le_z (pos 0) (c k)) (body k ++ turns c body n (k + 1))
    (sorted_append R (body k) (turns c body n (k + 1)) (each k) (sorted_turns R c body each across n (k + 1))
    (λ x y g h. let r = in_turns_from c body y n (k + 1) h in across k r.0 x y (omega (arith, r.1)) g r.3))

-- places of elements
pub in_from_place : {A : Type 0} (xs : List A) (i : ℕ) (x : A) → slice_get xs i ≡ Some x → In x xs
in_from_place [] i x h = absurd cc
in_from_place (y ∷ ys) zero x h = inl cc
in_from_place (y ∷ ys) (suc i) x h = inr (in_from_place ys i x h)

pub in_at : {A : Type 0} (xs : List A) (i : ℕ) (d : A) → i < length xs → In (get_or xs i d) xs
in_at [] i d less = absurd (omega (arith, less))
in_at (x ∷ xs) zero d less = inl refl
in_at (x ∷ xs) (suc i) d less = inr (in_at xs i d (omega (arith, less)))

pub there_is : {A : Type 0} (xs : List A) (i : ℕ) → i < length xs → (x : A) × (slice_get xs i ≡ Some x)
there_is [] i less = absurd (omega (arith, less))
there_is (x ∷ xs) zero less = (x, refl)
there_is (x ∷ xs) (suc i) less = there_is xs i (omega (arith, less))

pub place_of : {A : Type 0} (xs : List A) (x : A) → In x xs → (i : ℕ) × (slice_get xs i ≡ Some x)
place_of [] x h = absurd h
place_of (y ∷ ys) x (inl e) = (0, ap Some (sym e))
place_of (y ∷ ys) x (inr h) = let r = place_of ys x h in (suc r.0, r.1)

pub sorted_places : {A : Type 0} (R : A → A → Type 0) (xs : List A) → Sorted R xs → (i j : ℕ) (x y : A)
    → slice_get xs i ≡ Some x → slice_get xs j ≡ Some y → i < j → R x y
sorted_places R [] s i j x y a b h = absurd cc
sorted_places R (z ∷ zs) s i zero x y a b h = absurd (omega arith)
sorted_places R (z ∷ zs) s zero (suc j) x y a b h =
    let e : z ≡ x = cc in subst (λ u. R u y) e (s.0 y (in_from_place zs j y b))
sorted_places R (z ∷ zs) s (suc i) (suc j) x y a b h = sorted_places R zs s.1 i j x y a b (omega arith)

-- numbers compared
pub nat_cases : {A : Type 0} (i j : ℕ) → (i < j → A) → (i ≡ j → A) → (j < i → A) → A
nat_cases zero zero f g h = g refl
nat_cases zero (suc j) f g h = f (omega arith)
nat_cases (suc i) zero f g h = h (omega arith)
nat_cases (suc i) (suc j) f g h =
    nat_cases i j (λ l. f (omega (arith, l))) (λ e. g (ap suc e)) (λ l. h (omega (arith, l)))

-- elements by their places, and what holds of each
pub member_at : {A : Type 0} (xs : List A) (k : ℕ) (x : A) → x ≡ get_or xs k x → k < length xs → In x xs
member_at [] k x is inside = absurd (omega (arith, inside))
member_at (y ∷ ys) zero x is inside = inl is
member_at (y ∷ ys) (suc k) x is inside = inr (member_at ys k x is (omega (arith, inside)))

pub all_in : {A : Type 0} (P : A → Type 0) (xs : List A) (x : A) → All P xs → In x xs → P x
all_in P [] x all h = absurd h
all_in P (y ∷ ys) x all (inl e) = subst P (sym e) (All-head P y ys all)
all_in P (y ∷ ys) x all (inr h) = all_in P ys x (All-tail P y ys all) h
