-- Along a schedule of dependences that hold the covers of a walk each conflict goes as its covers do.
use Rattle.scop_syntax.proofs.Common.{◌≡◌, ℕ, ℤ, List, length, Some, ◌∙◌, false, slice_get, PlacesConflict}
use Rattle.scop_syntax.proofs.Common.{conflict_cell, In, is_marked, Program, Visit, instance, walk_of}
use Rattle.scop_syntax.specs.Covers.{Chain}
use Rattle.scop_syntax.proofs.Covers.{along_covers}
use Rattle.iteration_domains.specs.Dependence.{Dependence}
use Rattle.iteration_domains.specs.Held.{HoldCovers}
use Rattle.schedule_rows.specs.Bands.{Along}
use Rattle.schedule_rows.specs.Items.{Block}
use Rattle.schedule_rows.specs.Next.{IsSizedDep}
use Rattle.schedule_rows.specs.Outcomes.{IsSchedule}
use Rattle.schedule_rows.proofs.Chains.{along_chain}
use Rattle.schedule_rows.proofs.RunInvariants.{schedule_along}

-- the visits at two places go along the blocks
abbrev GoesAlong : List Visit → List Block → ℕ → ℕ → Type 0
GoesAlong visits blocks i j =
    (v w : Visit) → slice_get visits i ≡ Some v → slice_get visits j ≡ Some w
    → Along blocks (instance v) (instance w) (v.number ≡ w.number)

-- each conflict is a chain of covers by its cell
abbrev pub IsClosed : List Visit → Type 0
IsClosed visits = (i j : ℕ) (c : PlacesConflict visits i j) → Chain visits (conflict_cell c) i j

pub conflict_along : (program : Program) (params : List ℤ) (marked : List ℕ) (m : ℕ) (loops : List ℕ)
    (deps : List Dependence) (blocks : List Block) → IsClosed (walk_of program params) → length params ≡ m
    → ((d : Dependence) → In d deps → IsSizedDep loops d) → IsSchedule m loops deps blocks
    → HoldCovers program params marked deps → (i j : ℕ) (c : PlacesConflict (walk_of program params) i j)
    → is_marked marked (conflict_cell c).array ≡ false
    → Along blocks (instance c.earlier) (instance c.later) (c.earlier.number ≡ c.later.number)
conflict_along program params marked m loops deps blocks closure count sized schedule holds i j c free =
    let visits = walk_of program params in
    let chain = closure i j c in
    along_covers visits (conflict_cell c) (GoesAlong visits blocks)
    (λ a k b z at h g v w is_v is_w. along_chain blocks (instance v) (instance z) (instance w) (v.number ≡ z.number)
    (z.number ≡ w.number) (v.number ≡ w.number) (λ e f. e ∙ f) (h v z is_v at) (g z w at is_w))
    (λ a b cover v w is_v is_w.
    let d = holds a b (conflict_cell c) v w is_v is_w cover free in
    schedule_along m loops deps blocks sized schedule d.0 params (instance v) (instance w) d.1 count d.2) i chain.0 j
    chain.1 c.earlier c.later c.is_earlier c.is_later
