-- One marked place of so many, or none: where values part, which loops are parallel.
use Rattle.scop_syntax.proofs.Common.{◌≡◌, ℕ, zero, suc, ◌+◌, ◌<◌, ◌≤◌, Bool, true, false, ℤ, List, [], ◌∷◌, ◌++◌}
use Rattle.scop_syntax.proofs.Common.{length, inl, inr, ap, ap₂, ◌∙◌, refl, arith, eqb, ◌<ℤ◌, Option, Some, None}
use Rattle.scop_syntax.proofs.Common.{if◌then◌else◌, option_eq, eqb-true, eq-eqb, false_from_ne_true}
use Rattle.loop_tree.specs.Tree.{Tree, loop, guard, instance, Trees, none, more}
use Rattle.loop_tree.specs.Marks.{Marks, MarksAll, marked}
use Rattle.loop_tree.specs.Shape.{IsSerial, AreSerial}
use Rattle.plain_scan.specs.Scanning.{flags}
use Rattle.plan_tree.specs.steps.Parting.{PartAt}

-- no place from j on is marked
abbrev pub NoMark : Option ℕ → ℕ → Type 0
NoMark mark j = (i : ℕ) → j ≤ i → mark ≡ Some i → ⊥

-- what is marked nowhere
pub no_mark : (mark : Option ℕ) → mark ≡ None → (j : ℕ) → NoMark mark j
no_mark None e j i h f = absurd cc
no_mark (Some k) e j i h f = absurd cc

-- what is marked before
mark_before : (k j : ℕ) → k < j → NoMark (Some k) j
mark_before k j h i l e = let same : k ≡ i = cc in omega (arith, h, l, same)

no_mark_next : (mark : Option ℕ) (j : ℕ) → NoMark mark j → NoMark mark (suc j)
no_mark_next mark j h i l e = h i (omega (arith, l)) e

is_marked : (mark : Option ℕ) (i : ℕ) → option_eq eqb mark (Some i) ≡ true → mark ≡ Some i
is_marked None i e = absurd cc
is_marked (Some k) i e = ap Some (eqb-true k i e)

unmarked : (mark : Option ℕ) (j : ℕ) → NoMark mark j → option_eq eqb mark (Some j) ≡ false
unmarked mark j h = false_from_ne_true (option_eq eqb mark (Some j)) (λ e. h j (omega arith) (is_marked mark j e))

-- without a marked place no values part
pub never_part : (mark : Option ℕ) (j n : ℕ) (xs ys : List ℤ) → NoMark mark j → PartAt (flags mark j n) xs ys → ⊥
never_part mark j zero xs ys bare h = h
never_part mark j (suc n) [] ys bare h = h
never_part mark j (suc n) (x ∷ xs) [] bare h = h
never_part mark j (suc n) (x ∷ xs) (y ∷ ys) bare (inl (t, less)) = bare j (omega arith) (is_marked mark j t)
never_part mark j (suc n) (x ∷ xs) (y ∷ ys) bare (inr (e, h)) =
    never_part mark (suc j) n xs ys (no_mark_next mark j bare) h

-- values that part do so at the marked place
pub part_there : (hs bs : List ℤ) (x y : ℤ) (us vs : List ℤ) (k j n : ℕ) → k ≡ j + length hs → length hs ≡ length bs
    → PartAt (flags (Some k) j n) (hs ++ x ∷ us) (bs ++ y ∷ vs) → (hs ≡ bs) × (x <ℤ y)
part_there [] [] x y us vs k j zero at same h = absurd h
part_there [] [] x y us vs k j (suc n) at same (inl (t, less)) = (refl, less)
part_there [] [] x y us vs k j (suc n) at same (inr (e, h)) =
    absurd (never_part (Some k) (suc j) n us vs (mark_before k (suc j) (omega (arith, at))) h)
part_there [] (b ∷ bs) x y us vs k j n at same h = absurd (omega (arith, same))
part_there (a ∷ hs) [] x y us vs k j n at same h = absurd (omega (arith, same))
part_there (a ∷ hs) (b ∷ bs) x y us vs k j zero at same h = absurd h
part_there (a ∷ hs) (b ∷ bs) x y us vs k j (suc n) at same (inl (t, less)) =
    let here = eqb-true k j t in absurd (omega (arith, at, here))
part_there (a ∷ hs) (b ∷ bs) x y us vs k j (suc n) at same (inr (e, h)) =
    let r = part_there hs bs x y us vs k (suc j) n (omega (arith, at)) (omega (arith, same)) h in
    (ap₂ (λ (c : ℤ) (cs : List ℤ). c ∷ cs) e r.0, r.1)

-- without a marked place no value is one of a parallel loop
pub none_marked : (mark : Option ℕ) (j n : ℕ) (xs : List ℤ) → NoMark mark j → marked (flags mark j n) xs ≡ []
none_marked mark j zero xs bare = refl
none_marked mark j (suc n) [] bare = refl
none_marked mark j (suc n) (x ∷ xs) bare =
    ap (λ (b : Bool). if b then x ∷ marked (flags mark (suc j) n) xs else marked (flags mark (suc j) n) xs)
    (unmarked mark j bare)
    ∙ none_marked mark (suc j) n xs (no_mark_next mark j bare)

-- the value at the marked place is the only one
pub marked_there : (hs : List ℤ) (x : ℤ) (us : List ℤ) (k j n : ℕ) → k ≡ j + length hs → length hs < n
    → marked (flags (Some k) j n) (hs ++ x ∷ us) ≡ x ∷ []
marked_there hs x us k j zero at few = absurd (omega (arith, few))
marked_there [] x us k j (suc n) at few =
    let rest = marked (flags (Some k) (suc j) n) us in
    ap (λ (b : Bool). if b then x ∷ rest else rest) (eq-eqb k j (omega (arith, at)))
    ∙ ap (λ (xs : List ℤ). x ∷ xs) (none_marked (Some k) (suc j) n us (mark_before k (suc j) (omega (arith, at))))
marked_there (h ∷ hs) x us k j (suc n) at few =
    let rest = marked (flags (Some k) (suc j) n) (hs ++ x ∷ us) in
    ap (λ (b : Bool). if b then h ∷ rest else rest)
    (false_from_ne_true (eqb k j) (λ t. let here = eqb-true k j t in omega (arith, at, here)))
    ∙ marked_there hs x us k (suc j) n (omega (arith, at)) (omega (arith, few))

mutual
  serial : (mark : Option ℕ) (j n : ℕ) (t : Tree) → NoMark mark j → Marks (flags mark j n) t → IsSerial t
  serial mark j zero (loop flag lo up body) bare m = absurd m
  serial mark j (suc n) (loop flag lo up body) bare m =
      (m.0 ∙ unmarked mark j bare, none_parallel mark (suc j) n body (no_mark_next mark j bare) m.1)
  serial mark j n (guard tests body) bare m = none_parallel mark j n body bare m
  serial mark j n (instance k forms) bare m = tt

  -- without a marked place no loop is parallel
  pub none_parallel : (mark : Option ℕ) (j n : ℕ) (ts : Trees) → NoMark mark j → MarksAll (flags mark j n) ts
      → AreSerial ts
  none_parallel mark j n none bare m = tt
  none_parallel mark j n (more t ts) bare m =
      (serial mark j n t bare m.0, none_parallel mark j n ts bare m.1)
