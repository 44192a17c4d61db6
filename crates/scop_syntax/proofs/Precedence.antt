-- Elements of a list before and behind one another, and a list without one of its elements.
use Rattle.whole_numbers.proofs.Common.{◌≡◌, ℕ, suc, ◌<◌, List, [], ◌∷◌, ◌++◌, Some, ◌⊎◌, inl, inr, ap, sym, refl}
use Rattle.whole_numbers.proofs.Common.{arith, ◌∙◌, ◌≢◌, slice_get}
use Rattle.scop_syntax.specs.Members.{In}
use Rattle.scop_syntax.proofs.Members.{in_back, place_of}
use Rattle.scop_syntax.specs.ConflictOrders.{AreDistinct, StandsBefore}

-- what stands behind another stands in the list
pub later_in : {A : Type 0} (xs : List A) (x y : A) → StandsBefore xs x y → In y xs
later_in [] x y h = absurd h
later_in (z ∷ zs) x y (inl h) = inr h.1
later_in (z ∷ zs) x y (inr h) = inr (later_in zs x y h)

-- what stands before another does
pub earlier_in : {A : Type 0} (xs : List A) (x y : A) → StandsBefore xs x y → In x xs
earlier_in [] x y h = absurd h
earlier_in (z ∷ zs) x y (inl h) = inl h.0
earlier_in (z ∷ zs) x y (inr h) = inr (earlier_in zs x y h)

-- places of two elements in order
pub places_of : {A : Type 0} (xs : List A) (x y : A) → StandsBefore xs x y
    → (i : ℕ) × (j : ℕ) × (i < j) × (slice_get xs i ≡ Some x) × (slice_get xs j ≡ Some y)
places_of [] x y h = absurd h
places_of (z ∷ zs) x y (inl h) =
    let p = place_of zs y h.1 in (0, suc p.0, omega arith, ap Some (sym h.0), p.1)
places_of (z ∷ zs) x y (inr h) =
    let r = places_of zs x y h in (suc r.0, suc r.1, omega (arith, r.2), r.3, r.4)

-- of two elements that are not the same one stands before the other
pub one_stands_before : {A : Type 0} (xs : List A) (x y : A) → In x xs → In y xs → x ≢ y
    → StandsBefore xs x y ⊎ StandsBefore xs y x
one_stands_before [] x y i j differ = absurd i
one_stands_before (z ∷ zs) x y (inl e) (inl f) differ = absurd (differ (e ∙ sym f))
one_stands_before (z ∷ zs) x y (inl e) (inr j) differ = inl (inl (e, j))
one_stands_before (z ∷ zs) x y (inr i) (inl f) differ = inr (inl (f, i))
one_stands_before (z ∷ zs) x y (inr i) (inr j) differ = elim (one_stands_before zs x y i j differ) [
  | inl h ↦ inl (inr h)
  | inr h ↦ inr (inr h)
]

-- a list taken apart at an element
pub parted : {A : Type 0} (xs : List A) (x : A) → In x xs
    → (front : List A) × (back : List A) × (xs ≡ front ++ x ∷ back)
parted [] x h = absurd h
parted (z ∷ zs) x (inl e) = ([], zs, ap (λ w. w ∷ zs) (sym e))
parted (z ∷ zs) x (inr h) = let r = parted zs x h in (z ∷ r.0, r.1, ap (λ ws. z ∷ ws) r.2)

-- what is known of a list without that element
pub in_more : {A : Type 0} (front : List A) (x : A) (back : List A) (y : A) → In y (front ++ back)
    → In y (front ++ x ∷ back)
in_more [] x back y h = inr h
in_more (z ∷ zs) x back y (inl e) = inl e
in_more (z ∷ zs) x back y (inr h) = inr (in_more zs x back y h)

pub in_less : {A : Type 0} (front : List A) (x : A) (back : List A) (y : A) → In y (front ++ x ∷ back)
    → (y ≡ x) ⊎ In y (front ++ back)
in_less [] x back y (inl e) = inl e
in_less [] x back y (inr h) = inr h
in_less (z ∷ zs) x back y (inl e) = inr (inl e)
in_less (z ∷ zs) x back y (inr h) = elim (in_less zs x back y h) [
  | inl e ↦ inl e
  | inr g ↦ inr (inr g)
]

pub stands_more : {A : Type 0} (front : List A) (x : A) (back : List A) (y z : A) → StandsBefore (front ++ back) y z
    → StandsBefore (front ++ x ∷ back) y z
stands_more [] x back y z h = inr h
stands_more (w ∷ ws) x back y z (inl h) = inl (h.0, in_more ws x back z h.1)
stands_more (w ∷ ws) x back y z (inr h) = inr (stands_more ws x back y z h)

pub front_stands : {A : Type 0} (front : List A) (x : A) (back : List A) (y : A) → In y front
    → StandsBefore (front ++ x ∷ back) y x
front_stands [] x back y h = absurd h
front_stands (z ∷ zs) x back y (inl e) = inl (e, in_back x zs (x ∷ back) (inl refl))
front_stands (z ∷ zs) x back y (inr h) = inr (front_stands zs x back y h)

pub distinct_less : {A : Type 0} (front : List A) (x : A) (back : List A) → AreDistinct (front ++ x ∷ back)
    → AreDistinct (front ++ back)
distinct_less [] x back d = d.1
distinct_less (z ∷ zs) x back d = (λ y h. d.0 y (in_more zs x back y h), distinct_less zs x back d.1)

pub stands_once : {A : Type 0} (front : List A) (x : A) (back : List A) → AreDistinct (front ++ x ∷ back)
    → In x (front ++ back) → ⊥
stands_once [] x back d h = d.0 x h refl
stands_once (z ∷ zs) x back d (inl e) = d.0 x (in_back x zs (x ∷ back) (inl refl)) (sym e)
stands_once (z ∷ zs) x back d (inr h) = stands_once zs x back d.1 h
