-- Where instances stand in lists that have each once.
use Rattle.scop_syntax.proofs.Common.{◌≡◌, ℕ, suc, ◌≤◌, Bool, true, false, ◌&&◌, List, [], ◌∷◌, ◌++◌, length, Some, inl}
use Rattle.scop_syntax.proofs.Common.{inr, ap, ap₂, subst, sym, refl, ◌∙◌, arith, slice_get, nat_eq, if◌then◌else◌}
use Rattle.scop_syntax.proofs.Common.{int_eq, Decides-int_eq, Decides-eqb, slice_eq-Decides, In, Instance}
use Rattle.scop_syntax.proofs.Common.{in_from_place, one_instance, AreDistinct}
use Rattle.std.specs.Cmp.Lexicographic.{pointwise}
use Rattle.std.proofs.lemmas.List.{length-append}
use Rattle.scop_syntax.proofs.SortedLists.{distinct_places}
use Rattle.scop_syntax.proofs.Precedence.{in_less, parted}
use Rattle.tile_core.specs.Ranks.{is_same, place_in}

both_true : (a b : Bool) → a && b ≡ true → (a ≡ true) × (b ≡ true)
both_true true true h = (refl, refl)
both_true true false h = absurd cc
both_true false b h = absurd cc

-- the test tells whether two instances are one
same_is : (x y : Instance) → is_same x y ≡ true → x ≡ y
same_is x y h =
    let d = Decides-eqb x.number y.number in
    let e = slice_eq-Decides Decides-int_eq x.turns y.turns (pointwise int_eq x.turns y.turns) refl in
    let p = both_true (nat_eq x.number y.number) (pointwise int_eq x.turns y.turns) h in
    one_instance x y (d.0 p.0) (e.0 p.1)

same_one : (x : Instance) → is_same x x ≡ true
same_one x =
    let d = Decides-eqb x.number x.number in
    let e = slice_eq-Decides Decides-int_eq x.turns x.turns (pointwise int_eq x.turns x.turns) refl in
    ap₂ (λ (a b : Bool). a && b) (d.1 refl) (e.1 refl)

-- an instance of the list stands at its place
pub placed : (xs : List Instance) (x : Instance) → In x xs → slice_get xs (place_in xs x) ≡ Some x
placed [] x h = absurd h
placed (y ∷ ys) x h = by_test (is_same y x) refl h (λ i. placed ys x i)
  where
    by_test : (b : Bool) → is_same y x ≡ b → In x (y ∷ ys) → (In x ys → slice_get ys (place_in ys x) ≡ Some x)
        → slice_get (y ∷ ys) (if b then 0 else suc (place_in ys x)) ≡ Some x
    by_test true e i later = ap Some (same_is y x e)
    by_test false e (inl i) later =
        let one = subst (λ z. is_same z x ≡ true) i (same_one x) in
        let differ : false ≡ true = sym e ∙ one in
        absurd cc
    by_test false e (inr i) later = later i

-- and it is the only one
pub place_is : (xs : List Instance) (i : ℕ) (x : Instance) → AreDistinct xs → slice_get xs i ≡ Some x
    → place_in xs x ≡ i
place_is xs i x distinct at =
    distinct_places xs distinct (place_in xs x) i x (placed xs x (in_from_place xs i x at)) at

-- a list of distinct elements of another is no longer
pub distinct_le : {A : Type 0} (xs ys : List A) → AreDistinct xs → ((x : A) → In x xs → In x ys) → length xs ≤ length ys
distinct_le [] ys distinct all = omega arith
distinct_le (x ∷ xs) ys distinct all =
    let p = parted ys x (all x (inl refl)) in
    let front = p.0 in
    let back = p.1 in
    let rest = distinct_le xs (front ++ back) distinct.1 (λ y i. elim
    (in_less front x back y (subst (λ zs. In y zs) p.2 (all y (inr i)))) [
      | inl e ↦ absurd (distinct.0 y i (sym e))
      | inr h ↦ h
    ]) in
    let a = length-append front back in
    let b = length-append front (x ∷ back) in
    let c = ap length p.2 in
    omega (arith, rest, a, b, c)
