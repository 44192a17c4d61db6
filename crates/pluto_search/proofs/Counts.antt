-- How large the numbers of rows are, by what they are rows over.
use Rattle.scop_syntax.proofs.Common.{◌≡◌, ℕ, zero, suc, ◌<◌, ◌^◌, ℤ, pos, List, [], ◌∷◌, refl, sym, ◌∙◌, ap, subst}
use Rattle.scop_syntax.proofs.Common.{arith, length, All, reverse, ◌≤ℤ◌, slice_index_or, flat_map, ints}
use Rattle.scop_syntax.proofs.Common.{reverse-reverse, All-nil, All-cons, All-head, All-tail, All-append, In}
use Rattle.scop_syntax.proofs.Common.{all_front, all_back}
use mathlib.Core.List.{reverse-cons}
use Rattle.fractions.specs.Farkas.{AreNotNegative}
use Rattle.iteration_domains.specs.Dependence.{Dependence, IsDependence}
use Rattle.null_space.specs.Sizes.{IsWithin as IsNear, AreCoefficients}
use Rattle.schedule_rows.specs.Items.{Row, numbers_of}
use Rattle.schedule_rows.specs.Next.{IsWithin}
use Rattle.schedule_rows.specs.Posed.{IsLeast}
use Rattle.pluto_systems.specs.Unknowns.{part_numbers}
use Rattle.pluto_systems.specs.Unknowns as unknowns
use Rattle.pluto_systems.specs.Placing.{AreShaped}
use Rattle.pluto_systems.specs.Posing.{IsBetween}
use Rattle.pluto_systems.proofs.Rows.{posed_shape}
use Rattle.pluto_search.specs.declared.state.Progress.{Progress}
use Rattle.pluto_search.specs.steps.Good.{IsSmallPart, IsGoodRow}
use Rattle.pluto_search.specs.steps.Sizes.{IsCount, AreCounts, CanTell, CanNarrowEach}
use Rattle.pluto_search.specs.steps.Steps.{state_of}

all_turned : {X : Type 0} (P : X → Type 0) (xs : List X) → All P xs → All P (reverse xs)
all_turned P [] h = h
all_turned P (x ∷ xs) h =
    subst (All P) (sym (reverse-cons x xs))
    (All-append P (reverse xs) (x ∷ []) (all_turned P xs (All-tail P x xs h))
    (All-cons P x [] (All-head P x xs h) (All-nil P)))

all_reversed : {X : Type 0} (P : X → Type 0) (xs : List X) → All P (reverse xs) → All P xs
all_reversed P xs h = subst (All P) (reverse-reverse xs) (all_turned P (reverse xs) h)

counts_of : (cs : List ℤ) → AreNotNegative cs → All (λ c. c ≤ℤ pos 4096) cs → AreCounts cs
counts_of cs h k i d l = (h i d l, k i d l)

parts_small : (ps : List unknowns.Part) → AreNotNegative (flat_map part_numbers ps)
    → All (λ p. All (λ c. c ≤ℤ pos 4096) p.coefficients × (p.shift ≤ℤ pos 4096)) ps → All IsSmallPart ps
parts_small [] h k = All-nil IsSmallPart
parts_small (p ∷ ps) h k =
    let P : ℤ → Type 0 = λ x. pos 0 ≤ℤ x in
    let Q : unknowns.Part → Type 0 = λ p. All (λ c. c ≤ℤ pos 4096) p.coefficients × (p.shift ≤ℤ pos 4096) in
    let own = all_front P (part_numbers p) (flat_map part_numbers ps) h in
    let front = all_front P (reverse p.coefficients) (p.shift ∷ []) own in
    let last = All-head P p.shift [] (all_back P (reverse p.coefficients) (p.shift ∷ []) own) in
    let q = All-head Q p ps k in
    All-cons IsSmallPart p ps (counts_of p.coefficients (all_reversed P p.coefficients front) q.0, (last, q.1))
    (parts_small ps (all_back P (part_numbers p) (flat_map part_numbers ps) h) (All-tail Q p ps k))

row_small : (r : Row) → AreNotNegative (numbers_of r) → IsWithin r → All IsSmallPart r.parts
row_small r positive within =
    let P : ℤ → Type 0 = λ x. pos 0 ≤ℤ x in
    parts_small r.parts (All-tail P r.w (flat_map part_numbers r.parts)
    (all_back P r.u (r.w ∷ flat_map part_numbers r.parts) positive)) within

shaped_length : (loops : List ℕ) (ps : List unknowns.Part) → AreShaped loops ps → length ps ≡ length loops
shaped_length [] [] h = refl
shaped_length [] (p ∷ ps) h = absurd h
shaped_length (l ∷ ls) [] h = absurd h
shaped_length (l ∷ ls) (p ∷ ps) h = ap suc (shaped_length ls ps h.1)

shaped_at : (loops : List ℕ) (ps : List unknowns.Part) (s : ℕ) → AreShaped loops ps
    → length (slice_index_or ps s (record { coefficients = []; shift = pos 0 })).coefficients ≡ slice_index_or loops s 0
shaped_at [] [] s h = refl
shaped_at [] (p ∷ ps) s h = absurd h
shaped_at (l ∷ ls) [] s h = absurd h
shaped_at (l ∷ ls) (p ∷ ps) zero h = h.0
shaped_at (l ∷ ls) (p ∷ ps) (suc s) h = shaped_at ls ps s h.1

-- the least row is a good one
pub least_good : (m : ℕ) (loops : List ℕ) (deps : List Dependence) (before : List Row) (r : Row)
    → IsLeast m loops deps before r → IsWithin r → IsGoodRow loops r
least_good m loops deps before r least within =
    let shape = posed_shape m loops deps before r least.posed in
    record {
      count = shaped_length loops r.parts shape.parts;
      sizes = λ s. shaped_at loops r.parts s shape.parts;
      small = row_small r least.posed.not_negative within;
    }

-- a good row tells of a dependence between the statements
pub can_tell : (m : ℕ) (loops : List ℕ) (r : Row) (d : Dependence) → IsGoodRow loops r
    → IsBetween m loops d × IsDependence d → CanTell m r d
can_tell m loops r d g b =
    let from = subst (λ (n : ℕ). d.source.statement < n) (sym g.count) b.0.source in
    let to = subst (λ (n : ℕ). d.target.statement < n) (sym g.count) b.0.target in
    let none : unknowns.Part = record { coefficients = []; shift = pos 0 } in
    let source = g.small d.source.statement none from in
    let target = g.small d.target.statement none to in
    record {
      source = from;
      target = to;
      source_loops = g.sizes d.source.statement ∙ sym b.0.source_loops;
      target_loops = g.sizes d.target.statement ∙ sym b.0.target_loops;
      parameters = b.0.parameters;
      turns = b.1.turns;
      source_counts = source.0;
      source_shift = source.1;
      target_shift = target.1;
    }

-- so do all of the open band
pub all_can_tell : (p : Progress) (d : Dependence) → In d (state_of p).remaining
    → All (λ r. CanTell p.search.now.parameters r.row d) (state_of p).rows
all_can_tell p d i k e l =
    let g = p.search.now in
    let r = slice_index_or (state_of p).rows k e in
    can_tell g.parameters g.loops.now r.row d (p.good.rows k e l) (p.good.between d i)

count_within : (z : ℤ) → IsCount z → IsNear (2 ^ 14) z
count_within z h = let a = h.0 in let b = h.1 in omega (arith, ints)

pub counts_within : (cs : List ℤ) → AreCounts cs → AreCoefficients cs
counts_within cs h k d l = count_within (slice_index_or cs k d) (h k d l)

pub narrow_lengths : (cs : List (List ℤ)) (vs : List (List (List ℤ))) → CanNarrowEach cs vs → length cs ≡ length vs
narrow_lengths [] [] h = refl
narrow_lengths [] (v ∷ vs) h = absurd h
narrow_lengths (c ∷ cs) [] h = absurd h
narrow_lengths (c ∷ cs) (v ∷ vs) h = ap suc (narrow_lengths cs vs h.1)
