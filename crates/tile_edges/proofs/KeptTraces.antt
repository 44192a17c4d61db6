-- What is met and visited where room was made before.
use Rattle.scop_syntax.proofs.Common.{◌≡◌, ℕ, suc, ⊎_elim, inl, inr, Bool, true, false, List, [], ◌∷◌, ◌++◌, ap, ap₂}
use Rattle.scop_syntax.proofs.Common.{sym, refl, ◌∙◌, subst, get_or, nat_eq, if◌then◌else◌, In}
use Rattle.tile_edges.specs.steps.Touches.{KeepSame, marks_in, readers_in}
use Rattle.tile_edges.specs.steps.Traces.{HasVisited, marked, met, met_at}
use Rattle.tile_edges.specs.steps.Gains.{Gains}
use Rattle.tile_edges.specs.steps.Rows.{AreKept, rows_in}
use Rattle.tile_edges.specs.steps.Touches.{AreEven}
use Rattle.tile_edges.specs.steps.Walks.{CanTake, HasTaken}
use Rattle.tile_edges.specs.declared.pairing.Pairs.{Pairs}
use Rattle.tile_edges.specs.declared.touching.Traces.{Traces}

met_same : (a b : List ℕ) (cs : List ℕ) → ((c : ℕ) → get_or b c 0 ≡ get_or a c 0) → met b cs ≡ met a cs
met_same a b [] same = refl
met_same a b (c ∷ cs) same =
    ap₂ (λ (m : ℕ) (ts : List ℕ). marked m ++ ts) (same c) (met_same a b cs same)

pub met_at_same : (flow : Bool) (a b : Traces) (w : ℕ) (cells : List ℕ) → KeepSame a b
    → met_at flow (marks_in b) (readers_in b) w cells ≡ met_at flow (marks_in a) (readers_in a) w cells
met_at_same true a b w cells same = met_same (marks_in a) (marks_in b) cells same.mark
met_at_same false a b w cells same =
    ap₂ (λ (ts us : List ℕ). ts ++ us) (met_same (marks_in a) (marks_in b) cells same.mark)
    (ap₂ (λ (m : ℕ) (rs : List ℕ). marked m ++ rs) (same.mark w) (same.readers w))

pub visited_same : (flow : Bool) (u w : ℕ) (rs marks : List ℕ) (readers : List (List ℕ)) (a b : Traces) → KeepSame a b
    → HasVisited flow u w rs (marks_in b) (readers_in b) marks readers
    → HasVisited flow u w rs (marks_in a) (readers_in a) marks readers
visited_same flow u w rs marks readers a b same has = record {
  writer = λ c. has.writer c ∙ ap (λ (m : ℕ). if nat_eq w c then suc u else m) (same.mark c);
  found = λ off c t i.
      let f = has.found off c t i in
      (f.0, ⊎_elim (λ j. inl (subst (λ row. In t row) (same.readers c) j)) (λ j. inr j) f.1);
  kept = λ off c t ne i. has.kept off c t ne (subst (λ row. In t row) (sym (same.readers c)) i);
  entered = has.entered;
}

-- a place that touches nothing
pub none_taken : (flow : Bool) (cells : List ℕ) (u : ℕ) (kept : Traces) (found : Pairs) → cells ≡ []
    → CanTake flow cells kept found → HasTaken flow cells u kept found kept found
none_taken flow cells u kept found none can = record {
  even = can.even;
  kept_is = can.kept_is;
  visited = λ w rs e. absurd (apart w rs (sym e ∙ none));
  gains = λ w rs e. absurd (apart w rs (sym e ∙ none));
}
  where
    apart : (w : ℕ) (rs : List ℕ) → w ∷ rs ≡ [] → ⊥
    apart w rs e = cc

-- a place whose cells are these
module _ (flow : Bool) (w : ℕ) (rs cells : List ℕ) (u : ℕ) (kept kept_then : Traces) (found found_then : Pairs)
    (is : cells ≡ w ∷ rs) where
  abbrev Visits : ℕ → List ℕ → Type 0
  Visits v ss = HasVisited flow u v ss (marks_in kept) (readers_in kept) (marks_in kept_then) (readers_in kept_then)

  abbrev Grows : ℕ → List ℕ → Type 0
  Grows v ss = Gains (met_at flow (marks_in kept) (readers_in kept) v ss) u (rows_in found) (rows_in found_then)

  at_cells : (P : ℕ → List ℕ → Type 0) → P w rs → (v : ℕ) (ss : List ℕ) → cells ≡ v ∷ ss → P v ss
  at_cells P has v ss e =
      let both : w ∷ rs ≡ v ∷ ss = sym is ∙ e in
      let first : w ≡ v = cc in
      let rest : rs ≡ ss = cc in
      subst (λ c. P c ss) first (subst (P w) rest has)

  pub has_taken : AreEven kept_then → AreKept found_then → Visits w rs → Grows w rs
      → HasTaken flow cells u kept found kept_then found_then
  has_taken even kept_is visited gains = record {
    even = even;
    kept_is = kept_is;
    visited = at_cells Visits visited;
    gains = at_cells Grows gains;
  }
