-- The parts of a row, read off its numbers one by one.
use Rattle.scop_syntax.proofs.Common.{◌≡◌, ◌∙◌, ℕ, ◌+◌, ◌<◌, ℤ, pos, List, [], ◌∷◌, ◌++◌, length, take, drop, reverse}
use Rattle.scop_syntax.proofs.Common.{get_or, add-one, drop-cons, append_assoc, map-append, refl, sym, ap, ap₂}
use Rattle.pluto_systems.specs.Unknowns.{Part}
use Rattle.pluto_systems.specs.Placing.{columns_in, parts_from}
use Rattle.schedule_rows.specs.declared.item.Part as code_part
use Rattle.pluto_search.specs.steps.StepParts.{parts_of}

abbrev plain : code_part.Part → Part
plain p = record { coefficients = p.coefficients.items; shift = p.shift }

abbrev part : List ℤ → ℕ → Part
part xs l = record { coefficients = reverse (take l xs); shift = get_or xs l (pos 0) }

module _ (loops : List ℕ) (s : ℕ) (inside : s < length loops) where
  abbrev own : ℕ
  own = get_or loops s 0

  -- so many numbers are left
  pub columns_ahead : columns_in (drop s loops) ≡ (own + 1) + columns_in (drop (s + 1) loops)
  columns_ahead = rw (add-one s, drop-cons loops s 0 inside) refl

  parts_ahead : (rest : List ℤ)
      → parts_from (drop s loops) rest ≡ part rest own ∷ parts_from (drop (s + 1) loops) (drop (own + 1) rest)
  parts_ahead rest = rw (add-one s, drop-cons loops s 0 inside) refl

  -- one part more
  pub part_more : (old new : List code_part.Part) (p : code_part.Part) (rest next : List ℤ) (all : List Part)
      → new ≡ old ++ p ∷ [] → p.coefficients.items ≡ reverse (take own rest) → p.shift ≡ get_or rest own (pos 0)
      → next ≡ drop (own + 1) rest → parts_of old ++ parts_from (drop s loops) rest ≡ all
      → parts_of new ++ parts_from (drop (s + 1) loops) next ≡ all
  part_more old new p rest next all made coefficients shift behind so_far =
      let more = parts_from (drop (s + 1) loops) next in
      let same : plain p ≡ part rest own =
      ap₂ (λ (cs : List ℤ) (k : ℤ). record { coefficients = cs; shift = k }) coefficients shift in
      ap (λ (ps : List code_part.Part). parts_of ps ++ more) made
      ∙ (ap (λ (ps : List Part). ps ++ more) (map-append plain old (p ∷ []))
      ∙ (append_assoc (parts_of old) (plain p ∷ []) more
      ∙ (ap₂ (λ (q : Part) (xs : List ℤ). parts_of old ++ q ∷ parts_from (drop (s + 1) loops) xs) same behind
      ∙ (ap (λ (ps : List Part). parts_of old ++ ps) (sym (parts_ahead rest)) ∙ so_far))))
