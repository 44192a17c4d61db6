-- Joins of three values read, and the lanes of a row side by side.
use Rattle.scop_syntax.proofs.Common.{◌≡◌, ◌∙◌, ◌<◌, ◌≤◌, ap₂, arith, get_or, length, refl, subst, sym, ℕ, zero, suc, ℤ}
use Rattle.scop_syntax.proofs.Common.{List, [], ◌∷◌, Some, slice_get, Affine}
use Rattle.tile_table.specs.Lanes.{AreLanes, IsLane}
use Rattle.tile_table.specs.declared.lane.Lane.{Lane}

-- a list that is told by its elements
pub four_of : {A : Type 0} (xs : List A) (a b c d : A) → 4 ≤ length xs → length xs < 5 → a ≡ get_or xs 0 a
    → b ≡ get_or xs 1 b → c ≡ get_or xs 2 c → d ≡ get_or xs 3 d → xs ≡ a ∷ b ∷ c ∷ d ∷ []
four_of [] a b c d low high e f g h = absurd (omega (arith, low))
four_of (x ∷ []) a b c d low high e f g h = absurd (omega (arith, low))
four_of (x ∷ y ∷ []) a b c d low high e f g h = absurd (omega (arith, low))
four_of (x ∷ y ∷ z ∷ []) a b c d low high e f g h = absurd (omega (arith, low))
four_of {A} (x ∷ y ∷ z ∷ w ∷ []) a b c d low high e f g h =
    ap₂ (λ (u v : A). u ∷ v ∷ z ∷ w ∷ []) (sym e) (sym f) ∙ ap₂ (λ (u v : A). a ∷ b ∷ u ∷ v ∷ []) (sym g) (sym h)
four_of (x ∷ y ∷ z ∷ w ∷ v ∷ vs) a b c d low high e f g h = absurd (omega (arith, high))

pub no_lanes : (steps turns : List ℤ) (lanes : List Lane) → AreLanes [] steps turns lanes
no_lanes steps turns lanes = record { each = λ a form lane told at. absurd cc }

-- a lane more in front
lane_each : (form : Affine) (forms : List Affine) (steps turns : List ℤ) (lane : Lane) (lanes : List Lane)
    → IsLane form steps turns lane → AreLanes forms steps turns lanes → (a : ℕ) (f : Affine) (l : Lane)
    → slice_get (form ∷ forms) a ≡ Some f → slice_get (lane ∷ lanes) a ≡ Some l → IsLane f steps turns l
lane_each form forms steps turns lane lanes is are zero f l told at =
    let own : form ≡ f = cc in
    let here : lane ≡ l = cc in
    subst (λ (g : Affine). IsLane g steps turns l) own (subst (IsLane form steps turns) here is)
lane_each form forms steps turns lane lanes is are (suc a) f l told at = are.each a f l told at

pub lane_first : (form : Affine) (forms : List Affine) (steps turns : List ℤ) (lane : Lane) (lanes : List Lane)
    → IsLane form steps turns lane → AreLanes forms steps turns lanes → AreLanes (form ∷ forms) steps turns (lane ∷ lanes)
lane_first form forms steps turns lane lanes is are =
    record { each = lane_each form forms steps turns lane lanes is are }

-- lanes go on where the first one does and the others do
pub lanes_on : (steps turns next : List ℤ) (old new : Lane) (before after : List Lane)
    → ((form : Affine) → IsLane form steps turns old → IsLane form steps next new)
    → ((forms : List Affine) → AreLanes forms steps turns before → AreLanes forms steps next after)
    → (forms : List Affine) → AreLanes forms steps turns (old ∷ before) → AreLanes forms steps next (new ∷ after)
lanes_on steps turns next old new before after one others [] are = no_lanes steps next (new ∷ after)
lanes_on steps turns next old new before after one others (form ∷ forms) are =
    lane_first form forms steps next new after (one form (are.each 0 form old refl refl))
    (others forms (record { each = λ a f l told at. are.each (suc a) f l told at }))
