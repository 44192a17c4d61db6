-- Sets left out: what is left has the keys, and keeps what holds of all.
use Rattle.scop_syntax.proofs.Common.{◌≡◌, ℕ, ◌<◌, ℤ, List, [], ◌∷◌, ◌++◌, inl, inr, sym, refl, subst, All, All-cons}
use Rattle.scop_syntax.proofs.Common.{All-head, All-nil, All-tail, In}
use Rattle.integer_sets.specs.Scanned.{Scanned}
use Rattle.scop_syntax.specs.Limits.{AreInRange}
use Rattle.plain_scan.specs.Sets.{AllAbove, IsKeyOf, Keys, NumbersRise}
use Rattle.plain_scan.specs.Outlines.{HasNoPoint}
use Rattle.plain_scan.specs.Leaving.{LeavesOut}

-- one more set, kept
pub keeps_more : (sets kept : List Scanned) (s : Scanned) → LeavesOut sets kept
    → LeavesOut (sets ++ s ∷ []) (kept ++ s ∷ [])
keeps_more [] [] s h = inl (refl, tt)
keeps_more [] (k ∷ kept) s h = absurd h
keeps_more (t ∷ sets) [] s h = inr (h.0, keeps_more sets [] s h.1)
keeps_more (t ∷ sets) (k ∷ kept) s (inl h) = inl (h.0, keeps_more sets kept s h.1)
keeps_more (t ∷ sets) (k ∷ kept) s (inr h) = inr (h.0, keeps_more sets (k ∷ kept) s h.1)

-- and left out
pub leaves_more : (sets kept : List Scanned) (s : Scanned) → HasNoPoint s.system → LeavesOut sets kept
    → LeavesOut (sets ++ s ∷ []) kept
leaves_more [] [] s none h = (none, tt)
leaves_more [] (k ∷ kept) s none h = absurd h
leaves_more (t ∷ sets) [] s none h = (h.0, leaves_more sets [] s none h.1)
leaves_more (t ∷ sets) (k ∷ kept) s none (inl h) = inl (h.0, leaves_more sets kept s none h.1)
leaves_more (t ∷ sets) (k ∷ kept) s none (inr h) = inr (h.0, leaves_more sets (k ∷ kept) s none h.1)

-- what holds of all sets holds of those kept
pub kept_all : (P : Scanned → Type 0) (sets kept : List Scanned) → LeavesOut sets kept → All P sets → All P kept
kept_all P sets [] h all = All-nil P
kept_all P [] (k ∷ kept) h all = absurd h
kept_all P (t ∷ sets) (k ∷ kept) (inl h) all =
    All-cons P k kept (subst P h.0 (All-head P t sets all)) (kept_all P sets kept h.1 (All-tail P t sets all))
kept_all P (t ∷ sets) (k ∷ kept) (inr h) all = kept_all P sets (k ∷ kept) h.1 (All-tail P t sets all)

pub kept_in : (sets kept : List Scanned) → LeavesOut sets kept → (s : Scanned) → In s kept → In s sets
kept_in sets [] h s inside = absurd inside
kept_in [] (k ∷ kept) h s inside = absurd h
kept_in (t ∷ sets) (k ∷ kept) (inl h) s (inl is) = inl (subst (λ q. s ≡ q) (sym h.0) is)
kept_in (t ∷ sets) (k ∷ kept) (inl h) s (inr inside) = inr (kept_in sets kept h.1 s inside)
kept_in (t ∷ sets) (k ∷ kept) (inr h) s inside = inr (kept_in sets (k ∷ kept) h.1 s inside)

-- numbers still rise
kept_above : (n : ℕ) (sets kept : List Scanned) → LeavesOut sets kept → AllAbove n sets → AllAbove n kept
kept_above n sets [] h above = tt
kept_above n [] (k ∷ kept) h above = absurd h
kept_above n (t ∷ sets) (k ∷ kept) (inl h) above =
    (subst (λ s. n < s.statement) h.0 above.0, kept_above n sets kept h.1 above.1)
kept_above n (t ∷ sets) (k ∷ kept) (inr h) above = kept_above n sets (k ∷ kept) h.1 above.1

pub kept_rise : (sets kept : List Scanned) → LeavesOut sets kept → NumbersRise sets → NumbersRise kept
kept_rise sets [] h rise = tt
kept_rise [] (k ∷ kept) h rise = absurd h
kept_rise (t ∷ sets) (k ∷ kept) (inl h) rise = (
  subst (λ s. AllAbove s.statement kept) h.0 (kept_above t.statement sets kept h.1 rise.0),
  kept_rise sets kept h.1 rise.1,
)
kept_rise (t ∷ sets) (k ∷ kept) (inr h) rise = kept_rise sets (k ∷ kept) h.1 rise.1

-- the keys are those of all
pub kept_keys : (sets kept : List Scanned) (params : List ℤ) → LeavesOut sets kept → (r : List ℤ) → Keys kept params r
    → Keys sets params r
kept_keys sets [] params h r k = absurd k
kept_keys [] (s ∷ kept) params h r k = absurd h
kept_keys (t ∷ sets) (s ∷ kept) params (inl h) r (inl k) = inl (subst (λ q. IsKeyOf params q r) (sym h.0) k)
kept_keys (t ∷ sets) (s ∷ kept) params (inl h) r (inr k) = inr (kept_keys sets kept params h.1 r k)
kept_keys (t ∷ sets) (s ∷ kept) params (inr h) r k = inr (kept_keys sets (s ∷ kept) params h.1 r k)

none_of : (s : Scanned) (params r : List ℤ) → HasNoPoint s.system → AreInRange params → IsKeyOf params s r → ⊥
none_of s params r none range k = none params k.values range k.size k.inside

pub all_keys : (sets kept : List Scanned) (params : List ℤ) → LeavesOut sets kept → AreInRange params → (r : List ℤ)
    → Keys sets params r → Keys kept params r
all_keys [] kept params h range r k = absurd k
all_keys (t ∷ sets) [] params h range r (inl k) = none_of t params r h.0 range k
all_keys (t ∷ sets) [] params h range r (inr k) = all_keys sets [] params h.1 range r k
all_keys (t ∷ sets) (s ∷ kept) params (inl h) range r (inl k) = inl (subst (λ q. IsKeyOf params q r) h.0 k)
all_keys (t ∷ sets) (s ∷ kept) params (inl h) range r (inr k) = inr (all_keys sets kept params h.1 range r k)
all_keys (t ∷ sets) (s ∷ kept) params (inr h) range r (inl k) = absurd (none_of t params r h.0 range k)
all_keys (t ∷ sets) (s ∷ kept) params (inr h) range r (inr k) = all_keys sets (s ∷ kept) params h.1 range r k
