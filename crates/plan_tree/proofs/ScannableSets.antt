-- The scan sets of a schedule have what a scan asks of them.
use Rattle.scop_syntax.proofs.Common.{◌≡◌, ℕ, ◌+◌, ◌<◌, ◌≤◌, List, [], ◌∷◌, inl, inr, refl, sym, ◌∙◌, All, arith}
use Rattle.scop_syntax.proofs.Common.{length, ◌^◌, None, All-cons, All-nil, In, Sorted}
use Rattle.integer_sets.specs.Scanned.{Scanned}
use Rattle.plain_scan.specs.Alone.{IsBounded}
use Rattle.plain_scan.specs.Scanning.{AreScanned, IsScanned, dimensions_of, parameters_of}
use Rattle.plain_scan.specs.Sets.{AllAbove, NumbersRise}

-- what holds of each set among some
all_among : (P : Scanned → Type 0) (sets : List Scanned) → ((s : Scanned) → In s sets → P s) → All P sets
all_among P [] h = All-nil P
all_among P (s ∷ sets) h = All-cons P s sets (h s (inl refl)) (all_among P sets (λ t i. h t (inr i)))

-- parameters and dimensions of a set are not too many, and its iterators stand among the dimensions
abbrev pub HasParts : ℕ → Scanned → Type 0
HasParts p s =
    (s.system.parameters ≡ p) × (s.first + s.iterators ≤ s.system.dimensions)
    × (s.system.dimensions + s.system.parameters < 2 ^ 32)

-- sets that are alike, over p parameters, not too many, and bounded
pub are_scanned : (p : ℕ) (sets : List Scanned)
    → ((s t : Scanned) → In s sets → In t sets
    → (s.system.dimensions ≡ t.system.dimensions) × (s.parallel ≡ t.parallel))
    → ((s : Scanned) → In s sets → HasParts p s) → ((s : Scanned) → In s sets → IsBounded s.system)
    → AreScanned sets
are_scanned p [] alike parts bounded = all_among (IsScanned 0 0 None) [] (λ s i. absurd i)
are_scanned p (t ∷ sets) alike parts bounded =
    all_among (IsScanned t.system.dimensions t.system.parameters t.parallel) (t ∷ sets)
    (λ s i. record {
      dimensions = (alike s t i (inl refl)).0;
      parameters = (parts s i).0 ∙ sym (parts t (inl refl)).0;
      few = (parts t (inl refl)).2;
      marks = (alike s t i (inl refl)).1;
      iterators = (parts s i).1;
      bounded = bounded s i;
    })

-- numbers that rise along a list
above_all : (n : ℕ) (sets : List Scanned) → ((s : Scanned) → In s sets → n < s.statement) → AllAbove n sets
above_all n [] h = tt
above_all n (s ∷ sets) h = (h s (inl refl), above_all n sets (λ t i. h t (inr i)))

pub numbers_rise : (sets : List Scanned) → Sorted (λ s t. s.statement < t.statement) sets → NumbersRise sets
numbers_rise [] h = tt
numbers_rise (s ∷ sets) h = (above_all s.statement sets h.0, numbers_rise sets h.1)

-- how many dimensions and parameters sets have where there is one
pub few_dimensions : (p : ℕ) (sets : List Scanned) → ((s : Scanned) → In s sets → HasParts p s)
    → dimensions_of sets < 2 ^ 32
few_dimensions p [] parts = omega arith
few_dimensions p (s ∷ sets) parts = let h = parts s (inl refl) in let few = h.2 in omega (arith, few)

pub many_parameters : (p : ℕ) (sets : List Scanned) → ((s : Scanned) → In s sets → HasParts p s) → 0 < length sets
    → parameters_of sets ≡ p
many_parameters p [] parts some = absurd (omega (arith, some))
many_parameters p (s ∷ sets) parts some = (parts s (inl refl)).0
