-- Outlines of the sets that stay.
use Rattle.scop_syntax.proofs.Common.{◌≡◌, ℕ, zero, suc, ◌+◌, ◌<◌, Bool, true, false, List, [], ◌∷◌, ◌++◌, length, take}
use Rattle.scop_syntax.proofs.Common.{get_or, refl, sym, ap, subst, ◌∙◌, All, arith, false≢true}
use Rattle.std.proofs.lemmas.List.{append-nil}
use Rattle.integer_sets.specs.Scanned.{Scanned}
use Rattle.plain_scan.specs.declared.outline.Shadow.{Shadow}
use Rattle.plain_scan.specs.declared.set_outline.Outline.{Outline}
use Rattle.plain_scan.specs.Hulls.{sets_in}
use Rattle.plain_scan.specs.Outlines.{AreShadows, IsRowBefore, IsShadowOf}
use Rattle.plain_scan.proofs.CodeBounds.{take_next}
use Rattle.plain_scan.proofs.WholeScans.{sets_more}
use Rattle.split_scan.specs.steps.Copies.{AreCopies, IsCopy, one_if}
use Rattle.split_scan.specs.steps.Parts.{staying}

-- copies one by one
pub copies_more : (xs ys : List Shadow) (x y : Shadow) → AreCopies xs ys → IsCopy x y
    → AreCopies (xs ++ x ∷ []) (ys ++ y ∷ [])
copies_more [] [] x y h one = (one, tt)
copies_more [] (b ∷ ys) x y h one = absurd h
copies_more (a ∷ xs) [] x y h one = absurd h
copies_more (a ∷ xs) (b ∷ ys) x y h one = (h.0, copies_more xs ys x y h.1 one)

pub copies_next : (xs : List Shadow) (i : ℕ) (x y : Shadow) (old new : List Shadow) → x ≡ get_or xs i x
    → i < length xs → new ≡ old ++ y ∷ [] → IsCopy x y → AreCopies (take i xs) old → AreCopies (take (i + 1) xs) new
copies_next xs i x y old new is inside made one h =
    subst (λ zs. AreCopies zs new) (sym (take_next xs i x is inside))
    (subst (AreCopies (take i xs ++ x ∷ [])) (sym made) (copies_more (take i xs) old x y h one))

copies_count : (xs ys : List Shadow) → AreCopies xs ys → length ys ≡ length xs
copies_count [] [] h = refl
copies_count [] (b ∷ ys) h = absurd h
copies_count (a ∷ xs) [] h = absurd h
copies_count (a ∷ xs) (b ∷ ys) h = ap suc (copies_count xs ys h.1)

copy_at : (xs ys : List Shadow) → AreCopies xs ys → (n : ℕ) (d : Shadow) → n < length ys
    → IsCopy (get_or xs n d) (get_or ys n d)
copy_at [] [] h n d inside = absurd (omega (arith, inside))
copy_at [] (b ∷ ys) h n d inside = absurd h
copy_at (a ∷ xs) [] h n d inside = absurd h
copy_at (a ∷ xs) (b ∷ ys) h zero d inside = h.0
copy_at (a ∷ xs) (b ∷ ys) h (suc n) d inside = copy_at xs ys h.1 n d (omega (arith, inside))

copied_shadow : (n : ℕ) (s : Scanned) (a b : Shadow) → IsCopy a b → IsShadowOf n s a → IsShadowOf n s b
copied_shadow n s a b copy h = record {
  rows = subst (All (IsRowBefore n s)) (sym copy.rows) h.rows;
  between = rw (copy.low, copy.high) h.between;
  small = rw (copy.low, copy.high) h.small;
}

-- copies of a set's shadows are its shadows
pub copied_shadows : (s : Scanned) (xs ys : List Shadow) → AreCopies xs ys → AreShadows s xs → AreShadows s ys
copied_shadows s xs ys copies are = record {
  sized = are.sized;
  small = are.small;
  count = copies_count xs ys copies ∙ are.count;
  each = λ n d inside.
      let count = copies_count xs ys copies in
      copied_shadow n s (get_or xs n d) (get_or ys n d) (copy_at xs ys copies n d inside)
      (are.each n d (omega (arith, count, inside)));
}

-- the sets of outlines one by one
pub sets_count : (os : List Outline) → length (sets_in os) ≡ length os
sets_count [] = refl
sets_count (o ∷ os) = ap suc (sets_count os)

pub sets_next : (os : List Outline) (i : ℕ) (o : Outline) → o ≡ get_or os i o → i < length os
    → sets_in (take (i + 1) os) ≡ sets_in (take i os) ++ o.set.now ∷ []
sets_next os i o is inside = ap sets_in (take_next os i o is inside) ∙ sets_more (take i os) o

pub staying_none : (bs : List Bool) → staying bs [] ≡ []
staying_none [] = refl
staying_none (b ∷ bs) = refl

staying_end_true : (bs : List Bool) (sets : List Scanned) (s : Scanned) → get_or bs (length sets) true ≡ true
    → staying bs (sets ++ s ∷ []) ≡ staying bs sets ++ s ∷ []
staying_end_true [] sets s h = refl
staying_end_true (true ∷ bs) [] s h = ap (λ (ss : List Scanned). s ∷ ss) (staying_none bs)
staying_end_true (false ∷ bs) [] s h = absurd (false≢true h)
staying_end_true (true ∷ bs) (t ∷ sets) s h = ap (λ (ss : List Scanned). t ∷ ss) (staying_end_true bs sets s h)
staying_end_true (false ∷ bs) (t ∷ sets) s h = staying_end_true bs sets s h

staying_end_false : (bs : List Bool) (sets : List Scanned) (s : Scanned) → get_or bs (length sets) true ≡ false
    → staying bs (sets ++ s ∷ []) ≡ staying bs sets
staying_end_false [] sets s h = absurd (false≢true (sym h))
staying_end_false (true ∷ bs) [] s h = absurd (false≢true (sym h))
staying_end_false (false ∷ bs) [] s h = staying_none bs
staying_end_false (true ∷ bs) (t ∷ sets) s h = ap (λ (ss : List Scanned). t ∷ ss) (staying_end_false bs sets s h)
staying_end_false (false ∷ bs) (t ∷ sets) s h = staying_end_false bs sets s h

taken_count : (os : List Outline) (i : ℕ) → i < length os → length (sets_in (take i os)) ≡ i
taken_count [] i inside = absurd (omega (arith, inside))
taken_count (o ∷ os) zero inside = refl
taken_count (o ∷ os) (suc i) inside = ap suc (taken_count os i (omega (arith, inside)))

-- a set that stays or goes
pub staying_next : (bs : List Bool) (os : List Outline) (i : ℕ) (o : Outline) (b : Bool) (old new : List Scanned)
    → o ≡ get_or os i o → i < length os → get_or bs i true ≡ b → new ≡ old ++ one_if b o.set.now
    → old ≡ staying bs (sets_in (take i os)) → new ≡ staying bs (sets_in (take (i + 1) os))
staying_next bs os i o true old new is inside stays made h =
    let here = subst (λ k. get_or bs k true ≡ true) (sym (taken_count os i inside)) stays in
    made ∙ ap (λ (ss : List Scanned). ss ++ o.set.now ∷ []) h
    ∙ sym (staying_end_true bs (sets_in (take i os)) o.set.now here)
    ∙ ap (staying bs) (sym (sets_next os i o is inside))
staying_next bs os i o false old new is inside stays made h =
    let here = subst (λ k. get_or bs k true ≡ false) (sym (taken_count os i inside)) stays in
    made ∙ append-nil old ∙ h ∙ sym (staying_end_false bs (sets_in (take i os)) o.set.now here)
    ∙ ap (staying bs) (sym (sets_next os i o is inside))
