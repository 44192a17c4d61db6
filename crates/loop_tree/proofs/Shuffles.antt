-- Shuffles: their elements, what a test leaves of them, and a list as one of what passes a test and what does not.
use Rattle.scop_syntax.proofs.Common.{◌≡◌, Bool, true, false, List, [], ◌∷◌, ◌++◌, ◌⊎◌, inl, inr, ap, subst, sym, refl}
use Rattle.scop_syntax.proofs.Common.{◌↔◌, ◌∙◌, In, in_append, in_front, in_back, append-nil, cond, filter, not}
use Rattle.std.proofs.lemmas.List.Elements.{filter-append}
use Rattle.loop_tree.specs.Runs.{IsShuffle, Joins}

-- the elements of a shuffle are those of its two lists
pub shuffle_from : {A : Type 0} (xs ys zs : List A) → IsShuffle xs ys zs → (v : A) → In v zs → In v xs ⊎ In v ys
shuffle_from xs ys [] h v i = absurd i
shuffle_from xs ys (z ∷ zs) (inl (rest, e, h)) v (inl f) = inl (subst (In v) (sym e) (inl f))
shuffle_from xs ys (z ∷ zs) (inl (rest, e, h)) v (inr i) = elim (shuffle_from rest ys zs h v i) [
  | inl j ↦ inl (subst (In v) (sym e) (inr j))
  | inr j ↦ inr j
]
shuffle_from xs ys (z ∷ zs) (inr (rest, e, h)) v (inl f) = inr (subst (In v) (sym e) (inl f))
shuffle_from xs ys (z ∷ zs) (inr (rest, e, h)) v (inr i) = elim (shuffle_from xs rest zs h v i) [
  | inl j ↦ inl j
  | inr j ↦ inr (subst (In v) (sym e) (inr j))
]

shuffle_left : {A : Type 0} (xs ys zs : List A) → IsShuffle xs ys zs → (v : A) → In v xs → In v zs
shuffle_left xs ys [] h v i = subst (In v) h.0 i
shuffle_left xs ys (z ∷ zs) (inl (rest, e, h)) v i = elim (subst (In v) e i) [
  | inl f ↦ inl f
  | inr j ↦ inr (shuffle_left rest ys zs h v j)
]
shuffle_left xs ys (z ∷ zs) (inr (rest, e, h)) v i = inr (shuffle_left xs rest zs h v i)

shuffle_right : {A : Type 0} (xs ys zs : List A) → IsShuffle xs ys zs → (v : A) → In v ys → In v zs
shuffle_right xs ys [] h v i = subst (In v) h.1 i
shuffle_right xs ys (z ∷ zs) (inl (rest, e, h)) v i = inr (shuffle_right rest ys zs h v i)
shuffle_right xs ys (z ∷ zs) (inr (rest, e, h)) v i = elim (subst (In v) e i) [
  | inl f ↦ inl f
  | inr j ↦ inr (shuffle_right xs rest zs h v j)
]

-- one after the other is a shuffle
pub append_is_shuffle : {A : Type 0} (xs ys : List A) → IsShuffle xs ys (xs ++ ys)
append_is_shuffle [] [] = (refl, refl)
append_is_shuffle [] (y ∷ ys) = inr (ys, refl, append_is_shuffle [] ys)
append_is_shuffle (x ∷ xs) ys = inl (xs, refl, append_is_shuffle xs ys)

-- the elements of what an iteration and all later ones make are those of the two
pub joins_members : {A : Type 0} (flag : Bool) (xs ys zs : List A) → Joins flag xs ys zs → (v : A)
    → In v zs ↔ In v (xs ++ ys)
joins_members true xs ys zs h v = (
  λ i. elim (shuffle_from xs ys zs h v i) [
    | inl j ↦ in_front v xs ys j
    | inr j ↦ in_back v xs ys j
  ],
  λ i. elim (in_append v xs ys i) [
    | inl j ↦ shuffle_left xs ys zs h v j
    | inr j ↦ shuffle_right xs ys zs h v j
  ],
)
joins_members false xs ys zs h v = (λ i. subst (In v) h i, λ i. subst (In v) (sym h) i)

-- what a test leaves of a shuffle is a shuffle of what it leaves of the two
shuffle_filter : {A : Type 0} (p : A → Bool) (xs ys zs : List A) → IsShuffle xs ys zs
    → IsShuffle (filter p xs) (filter p ys) (filter p zs)
shuffle_filter p xs ys [] h = (ap (filter p) h.0, ap (filter p) h.1)
shuffle_filter {A} p xs ys (z ∷ zs) (inl (rest, e, h)) =
    subst (λ us. IsShuffle (filter p us) (filter p ys) (filter p (z ∷ zs))) (sym e)
    (kept (p z) (filter p rest) (filter p ys) (filter p zs) (shuffle_filter p rest ys zs h))
  where
    kept : (b : Bool) (us vs ws : List A) → IsShuffle us vs ws → IsShuffle (cond b (z ∷ us) us) vs (cond b (z ∷ ws) ws)
    kept true us vs ws g = inl (us, refl, g)
    kept false us vs ws g = g
shuffle_filter {A} p xs ys (z ∷ zs) (inr (rest, e, h)) =
    subst (λ us. IsShuffle (filter p xs) (filter p us) (filter p (z ∷ zs))) (sym e)
    (kept (p z) (filter p xs) (filter p rest) (filter p zs) (shuffle_filter p xs rest zs h))
  where
    kept : (b : Bool) (us vs ws : List A) → IsShuffle us vs ws → IsShuffle us (cond b (z ∷ vs) vs) (cond b (z ∷ ws) ws)
    kept true us vs ws g = inr (vs, refl, g)
    kept false us vs ws g = g

pub joins_filter : {A : Type 0} (p : A → Bool) (flag : Bool) (xs ys zs : List A) → Joins flag xs ys zs
    → Joins flag (filter p xs) (filter p ys) (filter p zs)
joins_filter p true xs ys zs h = shuffle_filter p xs ys zs h
joins_filter p false xs ys zs h = ap (filter p) h ∙ filter-append p xs ys

-- a list joined with none is that list
right_alone : {A : Type 0} (ys zs : List A) → IsShuffle [] ys zs → zs ≡ ys
right_alone ys [] h = sym h.1
right_alone ys (z ∷ zs) (inl (rest, e, h)) = absurd cc
right_alone ys (z ∷ zs) (inr (rest, e, h)) = ap (λ us. z ∷ us) (right_alone rest zs h) ∙ sym e

left_alone : {A : Type 0} (xs zs : List A) → IsShuffle xs [] zs → zs ≡ xs
left_alone xs [] h = sym h.0
left_alone xs (z ∷ zs) (inl (rest, e, h)) = ap (λ us. z ∷ us) (left_alone rest zs h) ∙ sym e
left_alone xs (z ∷ zs) (inr (rest, e, h)) = absurd cc

pub joins_right : {A : Type 0} (flag : Bool) (xs ys zs : List A) → xs ≡ [] → Joins flag xs ys zs → zs ≡ ys
joins_right true xs ys zs e h = right_alone ys zs (subst (λ us. IsShuffle us ys zs) e h)
joins_right false xs ys zs e h = h ∙ ap (λ us. us ++ ys) e

pub joins_left : {A : Type 0} (flag : Bool) (xs ys zs : List A) → ys ≡ [] → Joins flag xs ys zs → zs ≡ xs
joins_left true xs ys zs e h = left_alone xs zs (subst (λ us. IsShuffle xs us zs) e h)
joins_left false xs ys zs e h = h ∙ (ap (λ us. xs ++ us) e ∙ append-nil xs)

-- a list is a shuffle of what passes a test and what does not
pub parts_shuffle : {A : Type 0} (p : A → Bool) (zs : List A) → IsShuffle (filter p zs) (filter (λ z. not (p z)) zs) zs
parts_shuffle p [] = (refl, refl)
parts_shuffle {A} p (z ∷ zs) =
    parted (p z) (filter p zs) (filter (λ y. not (p y)) zs) (parts_shuffle p zs)
  where
    parted : (b : Bool) (us vs : List A) → IsShuffle us vs zs
        → IsShuffle (cond b (z ∷ us) us) (cond (not b) (z ∷ vs) vs) (z ∷ zs)
    parted true us vs g = inl (us, refl, g)
    parted false us vs g = inr (vs, refl, g)
