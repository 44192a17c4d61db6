-- The needed lines of a derivation are closed: each names rows of the goal and of needed lines alone.
use Rattle.scop_syntax.proofs.Common.{◌≡◌, ℕ, zero, suc, ◌<◌, ◌≤◌, Bool, true, false, List, [], ◌∷◌, ◌++◌, length, All}
use Rattle.scop_syntax.proofs.Common.{refl, subst, arith, Option, Some, None, Ok, if◌then◌else◌, nat_eq, nat_lt, ◌&&◌}
use Rattle.scop_syntax.proofs.Common.{◌||◌, ⊤, All-cons, All-head, All-nil, All-tail, Affine}
use Rattle.std.proofs.lemmas.List.{length-append}
use Rattle.plan_check.specs.declared.lines.Term.{Term}
use Rattle.plan_check.specs.Derivations.{Step, row_at, in_front, named, is_contradiction, sum_said, quotient_said, row_said}
use Rattle.plan_check.specs.Derivations.{derived, moved, AreClosed, is_own}
use Rattle.plan_check.proofs.SoundDerivations.{then_is}
use Rattle.plan_certificate.specs.Derivation.{takes, marked_takes, needed}

-- a term names one of the rows so far
record Inside (old : ℕ) (t : Term) : Type 0 where
  least : 1 ≤ t.row
  most : t.row ≤ old

-- so does each of the steps' terms
abbrev Names : ℕ → List Step → Type 0
Names old [] = ⊤
Names old (s ∷ steps) = All (Inside old) s.terms × Names (suc old) steps

in_front_is : (a : Option Affine) (b : Option (List Affine)) (gs : List Affine) → in_front a b ≡ Some gs
    → (g : Affine) × (hs : List Affine) × (a ≡ Some g) × (b ≡ Some hs)
in_front_is None b gs h = absurd cc
in_front_is (Some g) None gs h = absurd cc
in_front_is (Some g) (Some hs) gs h = (g, hs, refl, refl)

row_inside : (rows : List Affine) (k : ℕ) (g : Affine) → row_at rows k ≡ Some g → (1 ≤ k) × (k ≤ length rows)
row_inside rows zero g h = absurd cc
row_inside [] (suc k) g h = absurd cc
row_inside (r ∷ rows) (suc zero) g h = (omega arith, omega arith)
row_inside (r ∷ rows) (suc (suc k)) g h = let m = row_inside rows (suc k) g h in (omega arith, omega (arith, m.1))

named_inside : (rows : List Affine) (terms : List Term) (gs : List Affine) → named rows terms ≡ Some gs
    → All (Inside (length rows)) terms
named_inside rows [] gs h = All-nil (Inside (length rows))
named_inside rows (t ∷ terms) gs h =
    let p = in_front_is (row_at rows t.row) (named rows terms) gs h in
    let m = row_inside rows t.row p.0 p.2 in
    All-cons (Inside (length rows)) t terms (record { least = m.0; most = m.1 })
    (named_inside rows terms p.1 p.3)

said_names : (n : ℕ) (terms : List Term) (found : Option (List Affine)) (s : Step) (g : Affine)
    → quotient_said s.divisor (sum_said n terms found) ≡ Ok g → (gs : List Affine) × (found ≡ Some gs)
said_names n terms None s g h = absurd cc
said_names n terms (Some gs) s g h = (gs, refl)

-- what is derived names rows that are there
derived_names : (n k : ℕ) (ended : Bool) (rows : List Affine) (steps : List Step)
    → derived n k ended rows steps ≡ Ok true → Names (length rows) steps
derived_names n k ended rows [] run = tt
derived_names n k ended rows (s ∷ steps) run =
    let p = then_is (suc k) (row_said n rows s)
    (λ g. derived n (suc k) (is_contradiction g) (rows ++ g ∷ []) steps) true run in
    let g = p.0 in
    let found = said_names n s.terms (named rows s.terms) s g p.1 in
    let size : length (rows ++ g ∷ []) ≡ suc (length rows) = let l = length-append rows (g ∷ []) in omega arith in (
      named_inside rows s.terms found.0 found.1,
      subst (λ l. Names l steps) size
          (derived_names n (suc k) (is_contradiction g) (rows ++ g ∷ []) steps p.2),
    )

-- what terms take is kept
each_kept : (old : ℕ) (kept : ℕ → Bool) (terms : List Term) → All (Inside old) terms
    → ((j : ℕ) → 1 ≤ j → j ≤ old → takes j terms ≡ true → kept j ≡ true) → All (λ t. kept t.row ≡ true) terms
each_kept old kept [] all h = All-nil (λ (t : Term). kept t.row ≡ true)
each_kept old kept (t ∷ terms) all h =
    let own = All-head (Inside old) t terms all in
    All-cons (λ (t : Term). kept t.row ≡ true) t terms (h t.row own.least own.most (same t.row (takes t.row terms)))
    (each_kept old kept terms (All-tail (Inside old) t terms all) (λ j a b e. h j a b (behind (nat_eq t.row j) _ e)))
  where
    itself : (k : ℕ) → nat_eq k k ≡ true
    itself k = grind arith

    same : (k : ℕ) (b : Bool) → (nat_eq k k || b) ≡ true
    same k b = let e = itself k in rw e refl

    behind : (a b : Bool) → b ≡ true → (a || b) ≡ true
    behind true b e = refl
    behind false b e = e

-- rows that a needed step takes are kept
abbrev Covers : ℕ → (ℕ → Bool) → List Step → Type 0
Covers old kept steps = (j : ℕ) → 1 ≤ j → j ≤ old → marked_takes j (needed (suc old) steps) steps ≡ true → kept j ≡ true

or_second : (a b : Bool) → b ≡ true → (a || b) ≡ true
or_second true b e = refl
or_second false b e = e

or_first : (a b : Bool) → a ≡ true → (a || b) ≡ true
or_first a b e = rw e refl

needed_some : (k : ℕ) (t : Step) (steps : List Step) → needed k (t ∷ steps) ≡ [] → ⊥
needed_some k t [] e = absurd cc
needed_some k t (u ∷ steps) e = absurd cc

equal_is : (j k : ℕ) → nat_eq j k ≡ true → j ≡ k
equal_is j k h = grind arith

other_is : (j k : ℕ) → nat_eq j k ≡ false → j ≡ k → ⊥
other_is j k h e = grind arith

not_both : (b : Bool) → b ≡ true → b ≡ false → ⊥
not_both b t f = absurd cc

-- a number is taken by a step that is needed or not, or by a needed one behind it
abbrev Taken : ℕ → Step → List Bool → List Step → Bool → Type 0
Taken j s behind later m = ((m && takes j s.terms) || marked_takes j behind later) ≡ true

module _ (old : ℕ) (kept : ℕ → Bool) (s : Step) (behind : List Bool) (later : List Step) where
  older : (m : Bool) → ((j : ℕ) → 1 ≤ j → j ≤ old → Taken j s behind later m → kept j ≡ true) → (j : ℕ) → 1 ≤ j
      → j ≤ suc old → nat_eq j (suc old) ≡ false → marked_takes j behind later ≡ true → kept j ≡ true
  older m all j a b other e =
      let apart = other_is j (suc old) other in
      let less : j ≤ old = omega (arith, apart, a, b) in
      all j a less (or_second (m && takes j s.terms) (marked_takes j behind later) e)

  new_kept : ((j : ℕ) → 1 ≤ j → j ≤ old → Taken j s behind later true → kept j ≡ true) → (j : ℕ) → 1 ≤ j
      → j ≤ suc old → marked_takes j behind later ≡ true → (q : Bool) → nat_eq j (suc old) ≡ q
      → (if q then true else kept j) ≡ true
  new_kept all j a b e true same = refl
  new_kept all j a b e false other = older true all j a b other e

  old_kept : marked_takes (suc old) behind later ≡ false
      → ((j : ℕ) → 1 ≤ j → j ≤ old → Taken j s behind later false → kept j ≡ true) → (j : ℕ) → 1 ≤ j → j ≤ suc old
      → marked_takes j behind later ≡ true → (q : Bool) → nat_eq j (suc old) ≡ q → kept j ≡ true
  old_kept is all j a b e true same =
      let at = equal_is j (suc old) same in
      absurd (not_both (marked_takes (suc old) behind later)
      (subst (λ k. marked_takes k behind later ≡ true) at e) is)
  old_kept is all j a b e false other = older false all j a b other e

  closed_step : (m : Bool) → marked_takes (suc old) behind later ≡ m → All (Inside old) s.terms
      → (behind ≡ [] → ⊥)
      → ((next : ℕ → Bool)
      → ((j : ℕ) → 1 ≤ j → j ≤ suc old → marked_takes j behind later ≡ true → next j ≡ true)
      → AreClosed (suc old) next behind later)
      → ((j : ℕ) → 1 ≤ j → j ≤ old → Taken j s behind later m → kept j ≡ true)
      → AreClosed old kept (m ∷ behind) (s ∷ later)
  closed_step true is inside some rest all = (
    each_kept old kept s.terms inside
        (λ j a b e. all j a b (or_first (takes j s.terms) (marked_takes j behind later) e)),
    rest (moved kept (suc old) true) (λ j a b e. new_kept all j a b e (nat_eq j (suc old)) refl),
  )
  closed_step false is inside some rest all =
      (some, rest kept (λ j a b e. old_kept is all j a b e (nat_eq j (suc old)) refl))

closed_from : (old : ℕ) (kept : ℕ → Bool) (steps : List Step) → Names old steps → Covers old kept steps
    → AreClosed old kept (needed (suc old) steps) steps
closed_from old kept [] names covers = tt
closed_from old kept (s ∷ []) names covers = (
  each_kept old kept s.terms names.0 (λ j a b e. covers j a b (or_first (takes j s.terms) false e)),
  tt,
)
closed_from old kept (s ∷ t ∷ steps) names covers =
    closed_step old kept s (needed (suc (suc old)) (t ∷ steps)) (t ∷ steps)
    (marked_takes (suc old) (needed (suc (suc old)) (t ∷ steps)) (t ∷ steps)) refl names.0
    (needed_some (suc (suc old)) t steps)
    (λ next more. closed_from (suc old) next (t ∷ steps) names.1 more) covers

own_is : (n j : ℕ) → 1 ≤ j → j ≤ n → is_own n j ≡ true
own_is n zero a b = absurd (omega (arith, a))
own_is n (suc k) a b = less k n (omega (arith, b))
  where
    less : (k n : ℕ) → k < n → nat_lt k n ≡ true
    less k n h = grind arith

-- the needed lines of what is derived
pub needed_closed : (n : ℕ) (rows : List Affine) (steps : List Step) → derived n 0 false rows steps ≡ Ok true
    → AreClosed (length rows) (is_own (length rows)) (needed (suc (length rows)) steps) steps
needed_closed n rows steps run =
    closed_from (length rows) (is_own (length rows)) steps (derived_names n 0 false rows steps run)
    (λ j a b e. own_is (length rows) j a b)
