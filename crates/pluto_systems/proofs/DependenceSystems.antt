-- Dependences and systems that stand beside them, one by one; systems put together of their forms.
use Rattle.scop_syntax.proofs.Common.{◌≡◌, ℤ, ℕ, zero, suc, ◌+◌, ◌<◌, List, [], ◌∷◌, ◌++◌, refl, sym, ◌∙◌, ap, ap₂}
use Rattle.scop_syntax.proofs.Common.{subst, ◌⊎◌, inl, inr, arith, length, drop, map, get_or, drop-cons, add-one, ◌≤◌}
use Rattle.scop_syntax.proofs.Common.{flat_map, Affine, In}
use Rattle.integer_sets.specs.Constraints.{Constraints, system_of, IsSized}
use Rattle.iteration_domains.specs.Dependence.{Dependence}
use Rattle.pluto_systems.specs.Placing.{columns_of}
use Rattle.pluto_systems.specs.Posing.{RuledDep, IsFarkasOf, HaveSizes, IsRuled, dep_of, ruled_dep}
use Rattle.pluto_systems.specs.Posing.{ruled_deps}
use Rattle.pluto_systems.specs.Posing.{equalities_for, rows_for, growth_from, posed_system}

-- what is left of them from i on
abbrev pub rest : List Dependence → List Constraints → List Constraints → ℕ → List RuledDep
rest ds ls bs i = ruled_deps (drop i ds) (drop i ls) (drop i bs)

-- one of them, and what is left behind it
rest_behind : (ds : List Dependence) (ls bs : List Constraints) (i : ℕ) (d : Dependence) (l b : Constraints)
    → i < length ds → length ls ≡ length ds → length bs ≡ length ds
    → rest ds ls bs i ≡ ruled_dep (get_or ds i d) (get_or ls i l) (get_or bs i b) ∷ rest ds ls bs (suc i)
rest_behind [] ls bs i d l b h e f = absurd (omega (arith, h))
rest_behind (x ∷ ds) [] bs i d l b h e f = absurd (omega (arith, e))
rest_behind (x ∷ ds) (y ∷ ls) [] i d l b h e f = absurd (omega (arith, f))
rest_behind (x ∷ ds) (y ∷ ls) (z ∷ bs) zero d l b h e f = refl
rest_behind (x ∷ ds) (y ∷ ls) (z ∷ bs) (suc i) d l b h e f =
    rest_behind ds ls bs i d l b (omega (arith, h)) (omega (arith, e)) (omega (arith, f))

-- given what stands there
pub rest_step : (ds : List Dependence) (ls bs : List Constraints) (i : ℕ) (c : Dependence) (k a : Constraints)
    (d : Dependence) (l b : Constraints) → d ≡ get_or ds i c → l ≡ get_or ls i k → b ≡ get_or bs i a
    → i < length ds → length ls ≡ length ds → length bs ≡ length ds
    → rest ds ls bs i ≡ ruled_dep d l b ∷ rest ds ls bs (i + 1)
rest_step ds ls bs i c k a d l b p q r h e f =
    rest_behind ds ls bs i c k a h e f
    ∙ (ap (λ (n : ℕ). ruled_dep (get_or ds i c) (get_or ls i k) (get_or bs i a) ∷ rest ds ls bs n) (sym (add-one i))
    ∙ (ap (λ (z : Dependence). ruled_dep z (get_or ls i k) (get_or bs i a) ∷ rest ds ls bs (i + 1)) (sym p)
    ∙ ap₂ (λ (y z : Constraints). ruled_dep d y z ∷ rest ds ls bs (i + 1)) (sym q) (sym r)))

-- behind all of them nothing is
pub rest_end : (ds : List Dependence) (ls bs : List Constraints) (i : ℕ) → length ds ≤ i → rest ds ls bs i ≡ []
rest_end [] ls bs zero h = refl
rest_end [] ls bs (suc i) h = refl
rest_end (x ∷ ds) ls bs zero h = absurd (omega (arith, h))
rest_end (x ∷ ds) [] bs (suc i) h = none (drop i ds) (drop (suc i) bs) where
  none : (es : List Dependence) (cs : List Constraints) → ruled_deps es [] cs ≡ []
  none [] cs = refl
  none (e ∷ es) cs = refl
rest_end (x ∷ ds) (y ∷ ls) [] (suc i) h = none (drop i ds) (drop i ls) where
  none : (es : List Dependence) (cs : List Constraints) → ruled_deps es cs [] ≡ []
  none [] cs = refl
  none (e ∷ es) [] = refl
  none (e ∷ es) (c ∷ cs) = refl
rest_end (x ∷ ds) (y ∷ ls) (z ∷ bs) (suc i) h = rest_end ds ls bs i (omega (arith, h))

-- the dependences alone
pub ruled_alone : (ds : List Dependence) (ls bs : List Constraints) → length ls ≡ length ds → length bs ≡ length ds
    → map dep_of (ruled_deps ds ls bs) ≡ ds
ruled_alone [] ls bs e f = refl
ruled_alone (d ∷ ds) [] bs e f = absurd (omega (arith, e))
ruled_alone (d ∷ ds) (l ∷ ls) [] e f = absurd (omega (arith, f))
ruled_alone (d ∷ ds) (l ∷ ls) (b ∷ bs) e f =
    ap (λ (z : List Dependence). d ∷ z) (ruled_alone ds ls bs (omega (arith, e)) (omega (arith, f)))

-- a step over the forms of dependences
pub forms_step : (f : RuledDep → List Affine) (out new : List Affine) (one : RuledDep)
    (more here whole : List RuledDep)
    → here ≡ one ∷ more → new ≡ out ++ f one → out ++ flat_map f here ≡ flat_map f whole
    → new ++ flat_map f more ≡ flat_map f whole
forms_step f out new one more here whole e n h =
    ap (λ (z : List Affine). z ++ flat_map f more) n
    ∙ (append_assoc out (f one) (flat_map f more)
    ∙ (sym (ap (λ (z : List RuledDep). out ++ flat_map f z) e) ∙ h))
  where
    append_assoc : (xs ys zs : List Affine) → (xs ++ ys) ++ zs ≡ xs ++ (ys ++ zs)
    append_assoc [] ys zs = refl
    append_assoc (x ∷ xs) ys zs = ap (λ (z : List Affine). x ∷ z) (append_assoc xs ys zs)

-- one where each stands with its rows
pub ruled_step : (f : RuledDep → List Affine) (out new : List Affine) (xs : List RuledDep) (i : ℕ) (x one : RuledDep)
    (d : Dependence) (l b : Constraints) → i < length xs → one ≡ get_or xs i x → d ≡ one.dep → l ≡ one.legal
    → b ≡ one.bounded → new ≡ out ++ f (ruled_dep d l b) → out ++ flat_map f (drop i xs) ≡ flat_map f xs
    → new ++ flat_map f (drop (i + 1) xs) ≡ flat_map f xs
ruled_step f out new xs i x one d l b h e p q r n w =
    let same : ruled_dep d l b ≡ one =
    ap (λ (z : Dependence). ruled_dep z l b) p
    ∙ ap₂ (λ (y z : Constraints). ruled_dep one.dep y z) q r in
    let step : drop i xs ≡ one ∷ drop (i + 1) xs =
    drop-cons xs i x h
    ∙ ap₂ (λ (z : RuledDep) (k : ℕ). z ∷ drop k xs) (sym e) (sym (add-one i)) in
    forms_step f out new one (drop (i + 1) xs) (drop i xs) xs step (n ∙ ap (λ (z : RuledDep). out ++ f z) same) w

-- each has its sizes, or is left
abbrev pub AreSizedTo : List RuledDep → List RuledDep → Type 0
AreSizedTo whole here = (x : RuledDep) → In x whole → HaveSizes x ⊎ In x here

pub sized_step : (whole here more : List RuledDep) (one : RuledDep) → here ≡ one ∷ more → HaveSizes one
    → AreSizedTo whole here → AreSizedTo whole more
sized_step whole here more one e s h x i = elim (h x i) [
  | inl k ↦ inl k
  | inr k ↦ elim (subst (λ (z : List RuledDep). In x z) e k) [
    | inl q ↦ inl (subst HaveSizes (sym q) s)
    | inr q ↦ inr q
  ]
]

pub sized_end : (whole here : List RuledDep) → here ≡ [] → AreSizedTo whole here → (x : RuledDep) → In x whole
    → HaveSizes x
sized_end whole here e h x i = elim (h x i) [
  | inl k ↦ k
  | inr k ↦ absurd (subst (λ (z : List RuledDep). In x z) e k)
]

-- both make the rows those of the dependence
pub is_ruled : (x : RuledDep) → IsFarkasOf x → HaveSizes x → IsRuled x
is_ruled x f s =
    record { legal = f.legal; bounded = f.bounded; legal_sized = s.legal; bounded_sized = s.bounded }

-- the parts are those of a posed system
pub record ArePosed (m : ℕ) (loops : List ℕ) (ruled : List RuledDep) (vectors : List (List (List ℤ)))
    (n : ℕ) (es rs : List Affine) : Type 0 where
  pub columns : n ≡ columns_of m loops
  pub equalities : es ≡ flat_map (equalities_for m loops) ruled
  pub rows : rs ≡ flat_map (rows_for m loops) ruled ++ growth_from m loops 0 vectors

-- made over numbers and lists that are the same
pub are_posed : (m p : ℕ) (loops k : List ℕ) (ruled : List RuledDep) (vs ws : List (List (List ℤ)))
    (es rs : List Affine) → p ≡ m → k ≡ loops → ws ≡ vs → es ≡ flat_map (equalities_for p k) ruled
    → rs ≡ flat_map (rows_for p k) ruled
    → ArePosed m loops ruled vs (columns_of p k) es (rs ++ growth_from p k 0 ws)
are_posed m p loops k ruled vs ws es rs a b d e f =
    record {
      columns = ap₂ columns_of a b;
      equalities = e ∙ ap₂ (λ (i : ℕ) (x : List ℕ). flat_map (equalities_for i x) ruled) a b;
      rows = ap₂ (λ (x y : List Affine). x ++ y) (f ∙ ap₂ (λ (i : ℕ) (x : List ℕ). flat_map (rows_for i x) ruled) a b)
          (ap₂ (λ (i : ℕ) (x : List ℕ). growth_from i x 0 ws) a b ∙ ap (growth_from m loops 0) d);
    }

-- they are sized as its forms are
pub posed_sizes : {m : ℕ} {loops : List ℕ} {ruled : List RuledDep} {vectors : List (List (List ℤ))} {n : ℕ}
    {es rs : List Affine} → ArePosed m loops ruled vectors n es rs
    → IsSized (columns_of m loops) (flat_map (equalities_for m loops) ruled)
    (flat_map (rows_for m loops) ruled ++ growth_from m loops 0 vectors)
    → IsSized n es rs
posed_sizes {m} {loops} {ruled} {vectors} {n} {es} {rs} h s =
    subst (λ (i : ℕ). IsSized i es rs) (sym h.columns)
    (subst (λ (x : List Affine). IsSized (columns_of m loops) x rs) (sym h.equalities)
    (subst (λ (x : List Affine). IsSized (columns_of m loops) (flat_map (equalities_for m loops) ruled) x)
    (sym h.rows) s))

-- and make that system
pub posed_is : {m : ℕ} {loops : List ℕ} {ruled : List RuledDep} {vectors : List (List (List ℤ))} {n : ℕ}
    {es rs : List Affine} {s : Constraints} → ArePosed m loops ruled vectors n es rs → s ≡ system_of n 0 es rs
    → s ≡ posed_system m loops ruled vectors
posed_is {m} {loops} {ruled} {vectors} {n} {es} {rs} {s} h e =
    e ∙ (ap (λ (i : ℕ). system_of i 0 es rs) h.columns
    ∙ ap₂ (λ (x y : List Affine). system_of (columns_of m loops) 0 x y) h.equalities h.rows)
