-- Runs of a loop: their elements are those of the walk, and they are sorted as it is where no iterations mind their
-- order.
use Rattle.scop_syntax.proofs.Common.{◌≡◌, ℕ, zero, suc, Bool, true, false, ℤ, pos, List, [], ◌∷◌, ◌++◌, inl, inr}
use Rattle.scop_syntax.proofs.Common.{subst, sym, refl, arith, ◌↔◌, ◌+ℤ◌, ◌≤ℤ◌, ◌<ℤ◌, ints, In, Sorted, in_append}
use Rattle.scop_syntax.proofs.Common.{in_front, in_back, sorted_append}
use Rattle.scop_syntax.proofs.SortedLists.{sorted_front, sorted_back, sorted_across}
use Rattle.loop_tree.specs.Runs.{IsShuffle, Joins, RunsAlong}
use Rattle.loop_tree.specs.Walk.{along}
use Rattle.loop_tree.proofs.Lists.{in_along_from}
use Rattle.loop_tree.proofs.Shuffles.{append_is_shuffle, joins_members, shuffle_from}

-- a shuffle of sorted lists is sorted where elements of the two stand in the relation both ways
shuffle_sorted : {A : Type 0} (R : A → A → Type 0) (xs ys zs : List A) → IsShuffle xs ys zs → Sorted R xs → Sorted R ys
    → ((v w : A) → In v xs → In w ys → R v w × R w v) → Sorted R zs
shuffle_sorted R xs ys [] h a b across = tt
shuffle_sorted R xs ys (z ∷ zs) (inl (rest, e, h)) a b across =
    let s = subst (Sorted R) e a in (
      (λ w i. elim (shuffle_from rest ys zs h w i) [
        | inl j ↦ s.0 w j
        | inr j ↦ (across z w (subst (In z) (sym e) (inl refl)) j).0
      ]),
      shuffle_sorted R rest ys zs h s.1 b (λ v w i j. across v w (subst (In v) (sym e) (inr i)) j),
    )
shuffle_sorted R xs ys (z ∷ zs) (inr (rest, e, h)) a b across =
    let s = subst (Sorted R) e b in (
      (λ w i. elim (shuffle_from xs rest zs h w i) [
        | inl j ↦ (across w z j (subst (In z) (sym e) (inl refl))).1
        | inr j ↦ s.0 w j
      ]),
      shuffle_sorted R xs rest zs h a s.1 (λ v w i j. across v w i (subst (In w) (sym e) (inr j))),
    )

-- what an iteration and all later ones make is sorted where they are
joins_sorted : {A : Type 0} (R : A → A → Type 0) (flag : Bool) (xs ys zs : List A) → Joins flag xs ys zs → Sorted R xs
    → Sorted R ys → ((v w : A) → In v xs → In w ys → R v w)
    → (flag ≡ true → (v w : A) → In v xs → In w ys → R w v) → Sorted R zs
joins_sorted R true xs ys zs h a b up down =
    shuffle_sorted R xs ys zs h a b (λ v w i j. (up v w i j, down refl v w i j))
joins_sorted R false xs ys zs h a b up down = subst (Sorted R) (sym h) (sorted_append R xs ys a b up)

-- two parts that have the elements of two others have them together
append_members : {A : Type 0} (v : A) (xs ys us ws : List A) → (In v xs ↔ In v us) → (In v ys ↔ In v ws)
    → In v (xs ++ ys) ↔ In v (us ++ ws)
append_members v xs ys us ws a b = (
  λ i. elim (in_append v xs ys i) [
    | inl j ↦ in_front v us ws (a.0 j)
    | inr j ↦ in_back v us ws (b.0 j)
  ],
  λ i. elim (in_append v us ws i) [
    | inl j ↦ in_front v xs ys (a.1 j)
    | inr j ↦ in_back v xs ys (b.1 j)
  ],
)

pub run_members : {A : Type 0} (v : A) (xs ys us ws zs : List A) → zs ≡ xs ++ ys → (In v xs ↔ In v us)
    → (In v ys ↔ In v ws) → In v zs ↔ In v (us ++ ws)
run_members v xs ys us ws zs e a b =
    subst (λ qs. In v qs ↔ In v (us ++ ws)) (sym e) (append_members v xs ys us ws a b)

-- a loop's run has the elements of its walk
pub along_members : {A : Type 0} (flag : Bool) (Run : ℤ → List A → Type 0) (body : ℤ → List A)
    → ((x : ℤ) (xs : List A) → Run x xs → (v : A) → In v xs ↔ In v (body x))
    → (n : ℕ) (first : ℤ) (zs : List A) → RunsAlong flag Run first n zs → (v : A) → In v zs ↔ In v (along body first n)
along_members flag Run body same zero first zs h v = (λ i. subst (In v) h i, λ i. absurd i)
along_members flag Run body same (suc n) first zs (xs, ys, run, runs, joined) v =
    let j = joins_members flag xs ys zs joined v in
    let a = append_members v xs ys (body first) (along body (first +ℤ pos 1) n) (same first xs run v)
    (along_members flag Run body same n (first +ℤ pos 1) ys runs v) in
    (λ i. a.0 (j.0 i), λ i. j.1 (a.1 i))

-- a loop's run is sorted where its walk is, if iterations of a parallel loop do not mind their order
pub along_sorted : {A : Type 0} (R : A → A → Type 0) (flag : Bool) (Run : ℤ → List A → Type 0) (body : ℤ → List A)
    → ((x : ℤ) (xs : List A) → Run x xs → (v : A) → In v xs ↔ In v (body x))
    → (n : ℕ) (first : ℤ)
    → ((x : ℤ) (xs : List A) → first ≤ℤ x → x <ℤ (first +ℤ pos n) → Run x xs → Sorted R (body x) → Sorted R xs)
    → (flag ≡ true → (x y : ℤ) → first ≤ℤ x → x <ℤ y → y <ℤ (first +ℤ pos n) → (v w : A) → In v (body x)
    → In w (body y) → R v w → R w v)
    → (zs : List A) → RunsAlong flag Run first n zs → Sorted R (along body first n) → Sorted R zs
along_sorted R flag Run body same zero first each turned zs h s = subst (Sorted R) (sym h) tt
along_sorted {A} R flag Run body same (suc n) first each turned zs (xs, ys, run, runs, joined) s =
    let rest = along body (first +ℤ pos 1) n in
    let here = sorted_front R (body first) rest s in
    let behind = sorted_back R (body first) rest s in
    let up : (v w : A) → In v xs → In w ys → R v w = λ v w i j.
    sorted_across R (body first) rest s v w ((same first xs run v).0 i)
    ((along_members flag Run body same n (first +ℤ pos 1) ys runs w).0 j) in
    joins_sorted R flag xs ys zs joined (each first xs (omega (arith, ints)) (omega (arith, ints)) run here)
    (along_sorted R flag Run body same n (first +ℤ pos 1)
    (λ x us a b. each x us (omega (arith, ints)) (omega (arith, ints)))
    (λ on x y a b c. turned on x y (omega (arith, ints)) b (omega (arith, ints))) ys runs behind) up
    (λ on v w i j.
    let r = in_along_from body w n (first +ℤ pos 1)
    ((along_members flag Run body same n (first +ℤ pos 1) ys runs w).0 j) in
    let a = r.1 in
    let b = r.2 in
    turned on first r.0 (omega (arith, ints)) (omega (arith, ints)) (omega (arith, ints)) v w
    ((same first xs run v).0 i) r.3 (up v w i j))

-- the walk of a loop is one of its runs
pub along_runs : {A : Type 0} (flag : Bool) (Run : ℤ → List A → Type 0) (body : ℤ → List A)
    → ((x : ℤ) → Run x (body x)) → (n : ℕ) (first : ℤ) → RunsAlong flag Run first n (along body first n)
along_runs flag Run body each zero first = refl
along_runs flag Run body each (suc n) first = (
  body first,
  along body (first +ℤ pos 1) n,
  each first,
  along_runs flag Run body each n (first +ℤ pos 1),
  joined flag,
)
  where
    joined : (b : Bool)
        → Joins b (body first) (along body (first +ℤ pos 1) n) (body first ++ along body (first +ℤ pos 1) n)
    joined true = append_is_shuffle (body first) (along body (first +ℤ pos 1) n)
    joined false = refl
