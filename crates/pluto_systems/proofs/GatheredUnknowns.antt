-- The numbers of a row that are gathered for a dependence are its unknowns in their order.
use Rattle.scop_syntax.proofs.Common.{◌≡◌, ℕ, zero, suc, ◌+◌, ◌<◌, Bool, true, false, ℤ, pos, List, [], ◌∷◌, ◌++◌, refl}
use Rattle.scop_syntax.proofs.Common.{sym, ◌∙◌, ap, ap₂, ◌⊎◌, inl, inr, arith, length, nat_eq, nat_lt, if◌then◌else◌}
use Rattle.scop_syntax.proofs.Common.{slice_index_or, eq-eqb, lt-ltb, le-ltb, cases_lt}
use Rattle.std.proofs.lemmas.List.{append-nil}
use Rattle.iteration_domains.specs.declared.dep.DepEnd.{DepEnd}
use Rattle.iteration_domains.specs.Dependence.{Dependence}
use Rattle.farkas.specs.Unknowns.{Part, Unknowns, part_numbers, end_numbers}
use Rattle.farkas.specs.Unknowns as unknowns
use Rattle.schedule_rows.specs.Items.{Row}
use Rattle.schedule_rows.specs.Dependences.{unknowns_of}
use Rattle.pluto_systems.specs.Placing.{is_end, gathered_parts, gathered}
use Rattle.pluto_systems.proofs.PlacedForms.{gathered_end, gathered_other}

-- the part of a statement
abbrev pub nth : List Part → ℕ → Part
nth ps s = slice_index_or ps s (record { coefficients = []; shift = pos 0 })

eq_no : (a b : ℕ) → (a < b) ⊎ (b < a) → nat_eq a b ≡ false
eq_no a b (inl h) = grind arith
eq_no a b (inr h) = grind arith

end_first : (a b s : ℕ) → s ≡ a → is_end a b s ≡ true
end_first a b s h = ap (λ (x : Bool). if x then true else nat_eq s b) (eq-eqb s a h)

end_second : (a b s : ℕ) → s ≡ b → is_end a b s ≡ true
end_second a b s h = go (nat_eq s a) where
  go : (x : Bool) → (if x then true else nat_eq s b) ≡ true
  go true = refl
  go false = eq-eqb s b h

end_none : (a b s : ℕ) → (s < a) ⊎ (a < s) → (s < b) ⊎ (b < s) → is_end a b s ≡ false
end_none a b s h k = ap (λ (x : Bool). if x then true else nat_eq s b) (eq_no s a h) ∙ eq_no s b k

-- past both
none_left : (a b s : ℕ) (ps : List Part) → a < s → b < s → gathered_parts a b s ps ≡ []
none_left a b s [] h k = refl
none_left a b s (p ∷ ps) h k = gathered_other a b s p ps (end_none a b s (inr h) (inr k))
    ∙ none_left a b (suc s) ps (omega arith) (omega arith)

-- one more to come
one_left : (a b s k : ℕ) (ps : List Part) → a < s → b ≡ s + k → k < length ps
    → gathered_parts a b s ps ≡ part_numbers (nth ps k)
one_left a b s k [] h e l = absurd (omega arith)
one_left a b s zero (p ∷ ps) h e l =
    gathered_end a b s p ps (end_second a b s (omega arith))
    ∙ (ap (λ (z : List ℤ). part_numbers p ++ z) (none_left a b (suc s) ps (omega arith) (omega arith))
    ∙ append-nil (part_numbers p))
one_left a b s (suc k) (p ∷ ps) h e l =
    gathered_other a b s p ps (end_none a b s (inr h) (inl (omega arith)))
    ∙ one_left a b (suc s) k ps (omega arith) (omega arith) (omega (arith, l))

one_left_first : (a b s k : ℕ) (ps : List Part) → b < s → a ≡ s + k → k < length ps
    → gathered_parts a b s ps ≡ part_numbers (nth ps k)
one_left_first a b s k [] h e l = absurd (omega arith)
one_left_first a b s zero (p ∷ ps) h e l =
    gathered_end a b s p ps (end_first a b s (omega arith))
    ∙ (ap (λ (z : List ℤ). part_numbers p ++ z) (none_left a b (suc s) ps (omega arith) (omega arith))
    ∙ append-nil (part_numbers p))
one_left_first a b s (suc k) (p ∷ ps) h e l =
    gathered_other a b s p ps (end_none a b s (inl (omega arith)) (inr h))
    ∙ one_left_first a b (suc s) k ps (omega arith) (omega arith) (omega (arith, l))

-- one statement
pub both_one : (a b s k : ℕ) (ps : List Part) → a ≡ s + k → b ≡ s + k → k < length ps
    → gathered_parts a b s ps ≡ part_numbers (nth ps k)
both_one a b s k [] e f l = absurd (omega arith)
both_one a b s zero (p ∷ ps) e f l =
    gathered_end a b s p ps (end_first a b s (omega arith))
    ∙ (ap (λ (z : List ℤ). part_numbers p ++ z) (none_left a b (suc s) ps (omega arith) (omega arith))
    ∙ append-nil (part_numbers p))
both_one a b s (suc k) (p ∷ ps) e f l =
    gathered_other a b s p ps (end_none a b s (inl (omega arith)) (inl (omega arith)))
    ∙ both_one a b (suc s) k ps (omega arith) (omega arith) (omega (arith, l))

-- the first before the second
both_less : (a b s j k : ℕ) (ps : List Part) → a ≡ s + j → b ≡ s + k → j < k → k < length ps
    → gathered_parts a b s ps ≡ part_numbers (nth ps j) ++ part_numbers (nth ps k)
both_less a b s j k [] e f l m = absurd (omega arith)
both_less a b s j zero (p ∷ ps) e f l m = absurd (omega arith)
both_less a b s zero (suc k) (p ∷ ps) e f l m =
    gathered_end a b s p ps (end_first a b s (omega arith))
    ∙ ap (λ (z : List ℤ). part_numbers p ++ z) (one_left a b (suc s) k ps (omega arith) (omega arith) (omega
    (arith, m)))
both_less a b s (suc j) (suc k) (p ∷ ps) e f l m =
    gathered_other a b s p ps (end_none a b s (inl (omega arith)) (inl (omega arith)))
    ∙ both_less a b (suc s) j k ps (omega arith) (omega arith) (omega (arith, l)) (omega (arith, m))

both_more : (a b s j k : ℕ) (ps : List Part) → a ≡ s + j → b ≡ s + k → k < j → j < length ps
    → gathered_parts a b s ps ≡ part_numbers (nth ps k) ++ part_numbers (nth ps j)
both_more a b s j k [] e f l m = absurd (omega arith)
both_more a b s zero k (p ∷ ps) e f l m = absurd (omega arith)
both_more a b s (suc j) zero (p ∷ ps) e f l m =
    gathered_end a b s p ps (end_second a b s (omega arith))
    ∙ ap (λ (z : List ℤ). part_numbers p ++ z) (one_left_first a b (suc s) j ps (omega arith) (omega arith) (omega
    (arith, m)))
both_more a b s (suc j) (suc k) (p ∷ ps) e f l m =
    gathered_other a b s p ps (end_none a b s (inl (omega arith)) (inl (omega arith)))
    ∙ both_more a b (suc s) j k ps (omega arith) (omega arith) (omega (arith, l)) (omega (arith, m))

-- the parts of the ends in textual order
abbrev by_tests : Bool → Bool → List ℤ → List ℤ → List ℤ
by_tests same less source target =
    if same then source else if less then source ++ target else target ++ source

ends_by : (s t : DepEnd) (x : Unknowns) (b c : Bool) → nat_eq s.statement t.statement ≡ b
    → nat_lt s.statement t.statement ≡ c
    → end_numbers s t x ≡ by_tests b c (part_numbers x.source) (part_numbers x.target)
ends_by s t x b c e f =
    ap (λ (z : Bool). by_tests z (nat_lt s.statement t.statement) (part_numbers x.source) (part_numbers x.target)) e
    ∙ ap (λ (z : Bool). by_tests b z (part_numbers x.source) (part_numbers x.target)) f

three : (a b : ℕ) → (a ≡ b) ⊎ ((a < b) ⊎ (b < a))
three a b = elim (cases_lt a b) [
  | inl h ↦ inr (inl h)
  | inr h ↦ elim (cases_lt b a) [
    | inl k ↦ inr (inr k)
    | inr k ↦ inl (omega arith)
  ]
]

ends_gathered : (s t : DepEnd) (x : Unknowns) (ps : List Part) → s.statement < length ps → t.statement < length ps
    → x.source ≡ nth ps s.statement → x.target ≡ nth ps t.statement
    → gathered_parts s.statement t.statement 0 ps ≡ end_numbers s t x
ends_gathered s t x ps ls lt es et = elim (three s.statement t.statement) [
  | inl h ↦
      both_one s.statement t.statement 0 s.statement ps (omega arith) (omega arith) ls
      ∙ (ap part_numbers (sym es)
      ∙ sym (ends_by s t x true (nat_lt s.statement t.statement) (eq-eqb s.statement t.statement h) refl))
  | inr (inl h) ↦
      both_less s.statement t.statement 0 s.statement t.statement ps (omega arith) (omega arith) h lt
      ∙ (ap₂ (λ (p q : Part). part_numbers p ++ part_numbers q) (sym es) (sym et)
      ∙ sym (ends_by s t x false true (eq_no s.statement t.statement (inl h)) (lt-ltb s.statement t.statement h)))
  | inr (inr h) ↦
      both_more s.statement t.statement 0 s.statement t.statement ps (omega arith) (omega arith) h ls
      ∙ (ap₂ (λ (p q : Part). part_numbers p ++ part_numbers q) (sym et) (sym es)
      ∙ sym (ends_by s t x false false (eq_no s.statement t.statement (inr h)) (le-ltb s.statement t.statement
      (omega arith))))
]

-- what is gathered for a dependence are its unknowns
pub gathered_unknowns : (d : Dependence) (r : Row) → d.source.statement < length r.parts
    → d.target.statement < length r.parts
    → gathered d.source.statement d.target.statement r ≡ unknowns.numbers_of d.source d.target (unknowns_of d r)
gathered_unknowns d r ls lt =
    ap (λ (z : List ℤ). r.u ++ r.w ∷ z) (ends_gathered d.source d.target (unknowns_of d r) r.parts ls lt refl refl)
