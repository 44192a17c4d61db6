-- A loop's values, in order.
use Rattle.scop_syntax.proofs.Common.{◌≡◌, ℕ, zero, suc, ◌<◌, ℤ, pos, negsuc, List, inl, inr, subst, refl, arith, []}
use Rattle.scop_syntax.proofs.Common.{◌+ℤ◌, ◌-ℤ◌, ◌≤ℤ◌, ◌<ℤ◌, ints, In, Sorted, most_turns, in_front, in_back}
use Rattle.scop_syntax.proofs.Common.{in_append, sorted_append}
use Rattle.loop_tree.specs.Walk.{along, between}

pub in_along_from : {A : Type 0} (body : ℤ → List A) (v : A) (n : ℕ) (first : ℤ) → In v (along body first n)
    → (x : ℤ) × (first ≤ℤ x) × (x <ℤ (first +ℤ pos n)) × In v (body x)
in_along_from body v zero first h = absurd h
in_along_from body v (suc n) first h = elim (in_append v (body first) (along body (first +ℤ pos 1) n) h) [
  | inl g ↦ (first, omega (arith, ints), omega (arith, ints), g)
  | inr g ↦ let r = in_along_from body v n (first +ℤ pos 1) g in
      let a = r.1 in let b = r.2 in (r.0, omega (arith, ints), omega (arith, ints), r.3)
]

pub in_along : {A : Type 0} (body : ℤ → List A) (v : A) (n d : ℕ) (first : ℤ) → d < n
    → In v (body (first +ℤ pos d)) → In v (along body first n)
in_along body v zero d first h g = absurd (omega arith)
in_along body v (suc n) zero first h g =
    let e : first +ℤ pos 0 ≡ first = omega (arith, ints) in
    in_front v (body first) (along body (first +ℤ pos 1) n) (subst (λ x. In v (body x)) e g)
in_along body v (suc n) (suc d) first h g =
    let e : first +ℤ pos (suc d) ≡ (first +ℤ pos 1) +ℤ pos d = omega (arith, ints) in
    in_back v (body first) (along body (first +ℤ pos 1) n)
    (in_along body v n d (first +ℤ pos 1) (omega arith) (subst (λ x. In v (body x)) e g))

pub sorted_along : {A : Type 0} (R : A → A → Type 0) (body : ℤ → List A) (n : ℕ) (first : ℤ)
    → ((x : ℤ) → first ≤ℤ x → x <ℤ (first +ℤ pos n) → Sorted R (body x))
    → ((x y : ℤ) (v w : A) → x <ℤ y → In v (body x) → In w (body y) → R v w)
    → Sorted R (along body first n)
sorted_along R body zero first each across = tt
sorted_along R body (suc n) first each across =
    sorted_append R (body first) (along body (first +ℤ pos 1) n)
    (each first (omega (arith, ints)) (omega (arith, ints)))
    (sorted_along R body n (first +ℤ pos 1) (λ x a b. each x (omega (arith, ints)) (omega (arith, ints))) across)
    (λ v w g h.
    let r = in_along_from body w n (first +ℤ pos 1) h in
    let a = r.1 in
    across first r.0 v w (omega (arith, ints)) g r.3)

pub turns_reach : (z : ℤ) (x first last : ℤ) → z ≡ last -ℤ first → first ≤ℤ x → x <ℤ (first +ℤ pos (most_turns z))
    → x ≤ℤ last
turns_reach (pos n) x first last e a b = omega (arith, ints)
turns_reach (negsuc n) x first last e a b = absurd (omega (arith, ints))

pub turns_within : (z : ℤ) (x first last : ℤ) → z ≡ last -ℤ first → first ≤ℤ x → x ≤ℤ last
    → x <ℤ (first +ℤ pos (most_turns z))
turns_within (pos n) x first last e a b = omega (arith, ints)
turns_within (negsuc n) x first last e a b = absurd (omega (arith, ints))

reached : (z : ℤ) (x first last : ℤ) → z ≡ last -ℤ first → first ≤ℤ x → x ≤ℤ last
    → (d : ℕ) × (d < most_turns z) × (x ≡ first +ℤ pos d)
reached z x first last e a b = at (x -ℤ first) refl
  where
    at : (y : ℤ) → y ≡ x -ℤ first → (d : ℕ) × (d < most_turns z) × (x ≡ first +ℤ pos d)
    at (negsuc d) f = absurd (omega (arith, ints))
    at (pos d) f = let w = turns_within z x first last e a b in (d, omega (arith, ints), omega (arith, ints))

-- what stands in a loop's run stands at one of its values
pub in_between_from : {A : Type 0} (body : ℤ → List A) (v : A) (first last : ℤ) → In v (between body first last)
    → (x : ℤ) × (first ≤ℤ x) × (x ≤ℤ last) × In v (body x)
in_between_from body v first last h =
    let r = in_along_from body v (most_turns (last -ℤ first)) first h in
    (r.0, r.1, turns_reach (last -ℤ first) r.0 first last refl r.1 r.2, r.3)

-- and each of its values is reached
pub in_between : {A : Type 0} (body : ℤ → List A) (v : A) (first last x : ℤ) → first ≤ℤ x → x ≤ℤ last
    → In v (body x) → In v (between body first last)
in_between body v first last x a b h =
    let r = reached (last -ℤ first) x first last refl a b in
    in_along body v (most_turns (last -ℤ first)) r.0 first r.1 (subst (λ y. In v (body y)) r.2 h)

-- a loop's values rise
pub sorted_between : {A : Type 0} (R : A → A → Type 0) (body : ℤ → List A) (first last : ℤ)
    → ((x : ℤ) → first ≤ℤ x → x ≤ℤ last → Sorted R (body x))
    → ((x y : ℤ) (v w : A) → x <ℤ y → In v (body x) → In w (body y) → R v w)
    → Sorted R (between body first last)
sorted_between R body first last each across =
    sorted_along R body (most_turns (last -ℤ first)) first
    (λ x a b. each x a (turns_reach (last -ℤ first) x first last refl a b)) across

-- no value lies between them
pub between_none : {A : Type 0} (ws : ℤ → List A) (x last : ℤ) → last <ℤ x → between ws x last ≡ []
between_none ws x last h = by_count (last -ℤ x) (omega (arith, ints))
  where
    by_count : (z : ℤ) → z <ℤ pos 0 → along ws x (most_turns z) ≡ []
    by_count (negsuc n) low = refl
    by_count (pos n) low = absurd (omega (arith, ints))
