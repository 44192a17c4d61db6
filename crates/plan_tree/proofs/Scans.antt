-- Trees that scan the sets of a schedule: of no set they are none, which are over any number of parameters.
use Rattle.scop_syntax.proofs.Common.{◌≡◌, ◌<◌, ℕ, ℤ, List, [], ◌∷◌, length, refl, sym, ◌∙◌, subst, arith}
use Rattle.integer_sets.specs.Scanned.{Scanned}
use Rattle.loop_tree.specs.Fits.{FitsAll}
use Rattle.loop_tree.specs.Shape.{TreesAreOver}
use Rattle.loop_tree.specs.Tree.{Trees}
use Rattle.scop_syntax.specs.Limits.{AreInRange}
use Rattle.plain_scan.specs.Scanning.{IsScan, parameters_of}

pub own_over : (p : ℕ) (sets : List Scanned) (ts : Trees) → (0 < length sets → parameters_of sets ≡ p)
    → IsScan sets ts → TreesAreOver p ts
own_over p [] ts count h = subst (TreesAreOver p) (sym (h.empty refl)) tt
own_over p (s ∷ sets) ts count h = subst (λ q. TreesAreOver q ts) (count (omega arith)) h.over

pub own_fits : (p : ℕ) (sets : List Scanned) (ts : Trees) → (0 < length sets → parameters_of sets ≡ p)
    → IsScan sets ts → (params : List ℤ) → AreInRange params → length params ≡ p → FitsAll ts params []
own_fits p [] ts count h params range many = subst (λ us. FitsAll us params []) (sym (h.empty refl)) tt
own_fits p (s ∷ sets) ts count h params range many = h.fits params range (many ∙ sym (count (omega arith)))
