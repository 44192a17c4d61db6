-- A derivation without the lines that nothing needs.
use Rattle.scop_syntax.proofs.Common.{◌≡◌, ℕ, zero, suc, ◌<◌, Bool, true, false, ℤ, pos, List, [], ◌∷◌, ◌++◌, length}
use Rattle.scop_syntax.proofs.Common.{map, All, refl, sym, ◌∙◌, ap, ap₂, subst, arith, ◌⊎◌, inl, inr, Option, Some}
use Rattle.scop_syntax.proofs.Common.{None, Result, Ok, Err, if◌then◌else◌, nat_eq, nat_lt, All-head, All-tail, Affine}
use Rattle.scop_syntax.proofs.Common.{form_of}
use Rattle.std.proofs.lemmas.List.{length-append}
use Rattle.affine_forms.specs.Runs.{compose_run}
use Rattle.plan_check.specs.declared.lines.Term.{Term}
use Rattle.plan_check.specs.declared.lines.Fault.{Fault}
use Rattle.plan_check.specs.declared.lines.Fault.TheVariants as fault
use Rattle.plan_check.specs.Derivations.{Step, row_at, in_front, named, factors_of, held, is_contradiction, sum_said}
use Rattle.plan_check.specs.Derivations.{quotient_said, row_said, Told, then_row, derived, renumbered, moved}
use Rattle.plan_check.specs.Derivations.{pruned, AreClosed, is_own}
use Rattle.plan_check.proofs.SoundDerivations.{then_is}

-- the kept rows are the new derivation's rows of the new numbers
Agree : (ℕ → Bool) → (ℕ → ℕ) → List Affine → List Affine → Type 0
Agree kept at rows others =
    (k : ℕ) → kept k ≡ true → (g : Affine) × (row_at rows k ≡ Some g) × (row_at others (at k) ≡ Some g)

-- a row found stays found when rows are put behind
row_front : (rows more : List Affine) (k : ℕ) (g : Affine) → row_at rows k ≡ Some g → row_at (rows ++ more) k ≡ Some g
row_front rows more zero g h = absurd cc
row_front [] more (suc k) g h = absurd cc
row_front (r ∷ rows) more (suc zero) g h = h
row_front (r ∷ rows) more (suc (suc k)) g h = row_front rows more (suc k) g h

-- the row put behind has the next number
row_last : (rows : List Affine) (g : Affine) → row_at (rows ++ g ∷ []) (suc (length rows)) ≡ Some g
row_last [] g = refl
row_last (r ∷ rows) g = row_last rows g

-- terms name the same rows by the new numbers
named_same : (kept : ℕ → Bool) (at : ℕ → ℕ) (rows others : List Affine) (terms : List Term)
    → Agree kept at rows others → All (λ t. kept t.row ≡ true) terms
    → named others (map (λ t. record { row = at t.row; factor = t.factor }) terms) ≡ named rows terms
unfolding Agree
named_same kept at rows others [] agree h = refl
named_same kept at rows others (t ∷ terms) agree h =
    let a = agree t.row (All-head (λ (t : Term). kept t.row ≡ true) t terms h) in
    ap₂ in_front (a.2 ∙ sym a.1)
    (named_same kept at rows others terms agree (All-tail (λ (t : Term). kept t.row ≡ true) t terms h))

sum_with : ℕ → List ℤ → Option (List Affine) → Result Affine Fault
sum_with n zs None = Err fault.Row
sum_with n zs (Some gs) = held (compose_run (form_of zs (pos 0)) gs n)

sum_is_with : (n : ℕ) (terms : List Term) (found : Option (List Affine))
    → sum_said n terms found ≡ sum_with n (factors_of terms) found
unfolding sum_with
sum_is_with n terms None = refl
sum_is_with n terms (Some gs) = refl

factors_same : (at : ℕ → ℕ) (terms : List Term)
    → factors_of (map (λ t. record { row = at t.row; factor = t.factor }) terms) ≡ factors_of terms
factors_same at [] = refl
factors_same at (t ∷ terms) = ap (λ (zs : List ℤ). t.factor ∷ zs) (factors_same at terms)

-- so a kept line makes the same row
said_same : (n : ℕ) (kept : ℕ → Bool) (at : ℕ → ℕ) (rows others : List Affine) (s : Step)
    → Agree kept at rows others → All (λ t. kept t.row ≡ true) s.terms
    → row_said n others (renumbered at s) ≡ row_said n rows s
said_same n kept at rows others s agree h =
    ap (quotient_said s.divisor)
    (sum_is_with n (renumbered at s).terms (named others (renumbered at s).terms)
    ∙ (ap₂ (λ (zs : List ℤ) (found : Option (List Affine)). sum_with n zs found) (factors_same at s.terms)
    (named_same kept at rows others s.terms agree h)
    ∙ sym (sum_is_with n s.terms (named rows s.terms))))

-- the new numbers agree when a row is put behind both, or behind the old ones alone
bool_is : (b : Bool) → (b ≡ true) ⊎ (b ≡ false)
bool_is true = inl refl
bool_is false = inr refl

equal_is : (j k : ℕ) → nat_eq j k ≡ true → j ≡ k
equal_is j k h = grind arith

agree_more : (kept : ℕ → Bool) (at : ℕ → ℕ) (rows others : List Affine) (g : Affine) → Agree kept at rows others
    → Agree (moved kept (suc (length rows)) true) (moved at (suc (length rows)) (suc (length others)))
    (rows ++ g ∷ []) (others ++ g ∷ [])
unfolding Agree
agree_more kept at rows others g agree k h = elim (bool_is (nat_eq k (suc (length rows)))) [
  | inl e ↦
      let last = equal_is k (suc (length rows)) e in
      let new : (if nat_eq k (suc (length rows)) then suc (length others) else at k) ≡ suc (length others) = rw e in (
        g,
        subst (λ j. row_at (rows ++ g ∷ []) j ≡ Some g) (sym last) (row_last rows g),
        subst (λ j. row_at (others ++ g ∷ []) j ≡ Some g) (sym new) (row_last others g),
      )
  | inr e ↦
      let old : (if nat_eq k (suc (length rows)) then true else kept k) ≡ kept k = rw e in
      let new : (if nat_eq k (suc (length rows)) then suc (length others) else at k) ≡ at k = rw e in
      let a = agree k (sym old ∙ h) in (
        a.0,
        row_front rows (g ∷ []) k a.0 a.1,
        subst (λ j. row_at (others ++ g ∷ []) j ≡ Some a.0) (sym new) (row_front others (g ∷ []) (at k) a.0 a.2),
      )
]

agree_past : (kept : ℕ → Bool) (at : ℕ → ℕ) (rows others : List Affine) (g : Affine) → Agree kept at rows others
    → Agree kept at (rows ++ g ∷ []) others
unfolding Agree
agree_past kept at rows others g agree k h =
    let a = agree k h in (a.0, row_front rows (g ∷ []) k a.0 a.1, a.2)

-- a row that is said goes on
then_said : (k : ℕ) (r : Result Affine Fault) (g : Affine) (next : Affine → Result Bool Told) (b : Bool)
    → r ≡ Ok g → next g ≡ Ok b → then_row k r next ≡ Ok b
then_said k r g next b e h = subst (λ (z : Result Affine Fault). then_row k z next ≡ Ok b) (sym e) h

sized : (rows : List Affine) (g : Affine) → length (rows ++ g ∷ []) ≡ suc (length rows)
sized rows g = let l = length-append rows (g ∷ []) in omega arith

-- whether the steps behind end it: where none is left, what was so far
Ended : Bool → Bool → List Bool → Type 0
Ended ended other marks = marks ≡ [] → other ≡ ended

ends : (ended : Bool) (n k j : ℕ) (rows others : List Affine) (other : Bool) → other ≡ ended
    → derived n k ended rows [] ≡ Ok true → derived n j other others [] ≡ Ok true
ends true n k j rows others true e run = refl
ends true n k j rows others false e run = absurd cc
ends false n k j rows others other e run = absurd cc

pruned_derives : (n k j : ℕ) (ended other : Bool) (rows others : List Affine) (kept : ℕ → Bool) (at : ℕ → ℕ)
    (marks : List Bool) (steps : List Step) → Agree kept at rows others → Ended ended other marks
    → derived n k ended rows steps ≡ Ok true → AreClosed (length rows) kept marks steps
    → derived n j other others (pruned (length rows) (length others) at marks steps) ≡ Ok true
unfolding Ended
pruned_derives n k j ended other rows others kept at [] [] agree last run closed =
    ends ended n k j rows others other (last refl) run
pruned_derives n k j ended other rows others kept at [] (s ∷ steps) agree last run closed = absurd closed
pruned_derives n k j ended other rows others kept at (true ∷ marks) [] agree last run closed = absurd closed
pruned_derives n k j ended other rows others kept at (false ∷ marks) [] agree last run closed = absurd closed
pruned_derives n k j ended other rows others kept at (true ∷ marks) (s ∷ steps) agree last run closed =
    let p = then_is (suc k) (row_said n rows s)
    (λ g. derived n (suc k) (is_contradiction g) (rows ++ g ∷ []) steps) true run in
    let g = p.0 in
    let old = sized rows g in
    let new = sized others g in
    let next = moved at (suc (length rows)) (suc (length others)) in
    let more = pruned_derives n (suc k) (suc j) (is_contradiction g) (is_contradiction g) (rows ++ g ∷ [])
    (others ++ g ∷ []) (moved kept (suc (length rows)) true) next marks steps
    (agree_more kept at rows others g agree) (λ e. refl) p.2
    (subst (λ l. AreClosed l (moved kept (suc (length rows)) true) marks steps) (sym old) closed.1) in
    then_said (suc j) (row_said n others (renumbered at s)) g
    (λ h. derived n (suc j) (is_contradiction h) (others ++ h ∷ [])
    (pruned (suc (length rows)) (suc (length others)) next marks steps)) true
    (said_same n kept at rows others s agree closed.0 ∙ p.1)
    (subst (λ l. derived n (suc j) (is_contradiction g) (others ++ g ∷ [])
    (pruned l (suc (length others)) next marks steps) ≡ Ok true) old
    (subst (λ l. derived n (suc j) (is_contradiction g) (others ++ g ∷ [])
    (pruned (length (rows ++ g ∷ [])) l next marks steps) ≡ Ok true) new more))
pruned_derives n k j ended other rows others kept at (false ∷ marks) (s ∷ steps) agree last run closed =
    let p = then_is (suc k) (row_said n rows s)
    (λ g. derived n (suc k) (is_contradiction g) (rows ++ g ∷ []) steps) true run in
    let g = p.0 in
    let old = sized rows g in
    let more = pruned_derives n (suc k) j (is_contradiction g) other (rows ++ g ∷ []) others kept at marks steps
    (agree_past kept at rows others g agree) (λ e. absurd (closed.0 e)) p.2
    (subst (λ l. AreClosed l kept marks steps) (sym old) closed.1) in
    subst (λ l. derived n j other others (pruned l (length others) at marks steps) ≡ Ok true) old more

-- the goal's own rows keep their numbers
found_at : (rows : List Affine) (k : ℕ) → k < length rows → (g : Affine) × (row_at rows (suc k) ≡ Some g)
found_at [] k h = absurd (omega arith)
found_at (r ∷ rows) zero h = (r, refl)
found_at (r ∷ rows) (suc k) h = found_at rows k (omega arith)

less_is : (k n : ℕ) → nat_lt k n ≡ true → k < n
less_is k n h = grind arith

own_agree : (rows : List Affine) → Agree (is_own (length rows)) (λ k. k) rows rows
unfolding Agree
own_agree rows zero h = absurd cc
own_agree rows (suc k) h = let f = found_at rows k (less_is k (length rows) h) in (f.0, f.1, f.1)

pub needless_left_out : (n : ℕ) (rows : List Affine) (marks : List Bool) (steps : List Step)
    → derived n 0 false rows steps ≡ Ok true → AreClosed (length rows) (is_own (length rows)) marks steps
    → derived n 0 false rows (pruned (length rows) (length rows) (λ k. k) marks steps) ≡ Ok true
unfolding Ended
needless_left_out n rows marks steps run closed =
    pruned_derives n 0 0 false false rows rows (is_own (length rows)) (λ k. k) marks steps (own_agree rows)
    (λ e. refl) run closed
