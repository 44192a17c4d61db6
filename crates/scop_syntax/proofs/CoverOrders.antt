-- An order without doubles that keeps the covers of a walk keeps its conflicts.
use Rattle.whole_numbers.proofs.Common.{◌≡◌, ℕ, List, [], ◌∷◌, Some, inl, inr, sym, slice_get}
use Rattle.scop_syntax.specs.Cells.{PlacesConflict, conflict_cell}
use Rattle.scop_syntax.specs.Covers.{Chain}
use Rattle.scop_syntax.specs.Walk.{Visit}
use Rattle.scop_syntax.proofs.Covers.{along_covers, cover_by}
use Rattle.scop_syntax.specs.ConflictOrders.{AreDistinct, StandsBefore, KeepsConflicts, KeepsCovers}
use Rattle.scop_syntax.proofs.Precedence.{later_in}

-- what stands before an element of such an order stands before all that stands behind it
stands_goes : {A : Type 0} (xs : List A) (x z y : A) → AreDistinct xs → StandsBefore xs x z → StandsBefore xs z y
    → StandsBefore xs x y
stands_goes [] x z y distinct h k = absurd h
stands_goes (w ∷ ws) x z y distinct (inl h) (inl k) = absurd (distinct.0 z h.1 (sym k.0))
stands_goes (w ∷ ws) x z y distinct (inl h) (inr k) = inl (h.0, later_in ws z y k)
stands_goes (w ∷ ws) x z y distinct (inr h) (inl k) = absurd (distinct.0 z (later_in ws x z h) (sym k.0))
stands_goes (w ∷ ws) x z y distinct (inr h) (inr k) = inr (stands_goes ws x z y distinct.1 h k)

-- the visits at two places stand in order
abbrev AreOrdered : List Visit → List Visit → ℕ → ℕ → Type 0
AreOrdered visits order i j =
    (v w : Visit) → slice_get visits i ≡ Some v → slice_get visits j ≡ Some w → StandsBefore order v w

pub conflicts_are_kept : (visits order : List Visit)
    → ((i j : ℕ) (c : PlacesConflict visits i j) → Chain visits (conflict_cell c) i j) → AreDistinct order
    → KeepsCovers visits order → KeepsConflicts visits order
conflicts_are_kept visits order closure distinct keeps i j p =
    let chain = closure i j p in
    let c = conflict_cell p in
    along_covers visits c (AreOrdered visits order)
    (λ a m b z at h k v w is_v is_w. stands_goes order v z w distinct (h v z is_v at) (k z w at is_w))
    (λ a b cover v w is_v is_w. keeps a b v w is_v is_w (cover_by visits c a b cover)) i
    chain.0 j chain.1 p.earlier p.later p.is_earlier
    p.is_later
