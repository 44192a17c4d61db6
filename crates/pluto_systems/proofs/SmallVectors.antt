-- The kernel vectors of each statement's rows are few and small.
use Rattle.scop_syntax.proofs.Common.{◌≡◌, ℕ, zero, suc, ◌<◌, ◌^◌, ℤ, List, [], ◌∷◌, refl, sym, ap, subst, arith}
use Rattle.scop_syntax.proofs.Common.{length, All, ◌≤◌, slice_index_or, All-nil, All-get_or, All-head}
use Rattle.null_space.specs.Narrowing.{narrowed_by, narrowed_all, units_from, kernel_vectors}
use Rattle.null_space.specs.Sizes.{AreWithin, AreLong}
use Rattle.null_space.proofs.Sizes.{units_length}
use Rattle.pluto_systems.specs.Posing.{AreCoefficientRows, AreSmallVectors, vectors_for}
use Rattle.pluto_systems.proofs.LowerLaws.{SizeLaws}

-- as many lists as statements
pub for_length : (loops : List ℕ) (rows : List (List (List ℤ))) → length rows ≡ length loops
    → length (vectors_for loops rows) ≡ length loops
for_length [] rows e = refl
for_length (l ∷ loops) [] e = absurd (omega (arith, e))
for_length (l ∷ loops) (cs ∷ rows) e = ap suc (for_length loops rows (omega (arith, e)))

-- those of statement s
pub for_at : (loops : List ℕ) (rows : List (List (List ℤ))) (s : ℕ) → length rows ≡ length loops → s < length loops
    → slice_index_or (vectors_for loops rows) s [] ≡ kernel_vectors (slice_index_or loops s 0)
    (slice_index_or rows s [])
for_at [] rows s e h = absurd (omega (arith, h))
for_at (l ∷ loops) [] s e h = absurd (omega (arith, e))
for_at (l ∷ loops) (cs ∷ rows) zero e h = refl
for_at (l ∷ loops) (cs ∷ rows) (suc s) e h = for_at loops rows s (omega (arith, e)) (omega (arith, h))

-- no more than loops
narrowed_count : SizeLaws → (cs ns : List (List ℤ)) → length (narrowed_all cs ns) ≤ length ns
narrowed_count laws [] ns = omega arith
narrowed_count laws (c ∷ cs) ns =
    let a = narrowed_count laws cs (narrowed_by c ns) in
    let b = laws.most c ns in
    omega arith

kernel_count : SizeLaws → (n : ℕ) (rows : List (List ℤ)) → length (kernel_vectors n rows) ≤ n
kernel_count laws n rows =
    let a = narrowed_count laws rows (units_from n 0 n) in
    let b = units_length n 0 n in
    omega arith

pub small_vectors : SizeLaws → (loops : List ℕ) (rows : List (List (List ℤ))) → All (λ l. l ≤ 5) loops
    → AreCoefficientRows loops rows → AreSmallVectors loops (vectors_for loops rows)
small_vectors laws loops rows five h =
    record {
      size = for_length loops rows h.size;
      few = λ s l.
          let k = kernel_count laws (slice_index_or loops s 0) (slice_index_or rows s []) in
          let f = All-get_or (λ (n : ℕ). n ≤ 5) loops s 0 l five in
          subst (λ (z : List (List ℤ)). length z ≤ 5) (sym (for_at loops rows s h.size l)) (omega arith);
      long = λ s l.
          subst (λ (z : List (List ℤ)). AreLong (slice_index_or loops s 0) z) (sym (for_at loops rows s h.size l))
          (laws.long (slice_index_or loops s 0) (slice_index_or rows s []));
      small = λ s l.
          let f = All-get_or (λ (n : ℕ). n ≤ 5) loops s 0 l five in
          subst (λ (z : List (List ℤ)). All (AreWithin (2 ^ 109)) z) (sym (for_at loops rows s h.size l))
          (laws.narrow (slice_index_or loops s 0) (slice_index_or rows s []) f (h.small s l)).last;
    }

-- the vectors of one statement, as a call gives them
pub record AreSmall (vs : List (List ℤ)) : Type 0 where
  pub few : length vs ≤ 5
  pub long : AreLong (length (slice_index_or vs 0 [])) vs
  pub small : All (AreWithin (2 ^ 109)) vs

own_long : (n : ℕ) (vs : List (List ℤ)) → AreLong n vs → AreLong (length (slice_index_or vs 0 [])) vs
own_long n [] h = All-nil (λ (u : List ℤ). length u ≡ 0)
own_long n (v ∷ vs) h =
    subst (λ (k : ℕ). AreLong k (v ∷ vs)) (sym (All-head (λ (u : List ℤ). length u ≡ n) v vs h)) h

pub small_at : (loops : List ℕ) (vectors : List (List (List ℤ))) (s : ℕ) (vs : List (List ℤ))
    → AreSmallVectors loops vectors → s < length vectors → vs ≡ slice_index_or vectors s [] → AreSmall vs
small_at loops vectors s vs h l e =
    let z = h.size in
    let k : s < length loops = omega arith in
    subst AreSmall (sym e)
    (record {
      few = h.few s k;
      long = own_long (slice_index_or loops s 0) (slice_index_or vectors s []) (h.long s k);
      small = h.small s k;
    })
