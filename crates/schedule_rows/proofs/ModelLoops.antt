-- A statement of a model has its number of loops in the list of them.
use Rattle.scop_syntax.proofs.Common.{◌≡◌, ℕ, zero, suc, ◌<◌, List, [], ◌∷◌, ap, arith, length, map, Some, Option}
use Rattle.scop_syntax.proofs.Common.{slice_get, slice_index_or}
use Rattle.iteration_domains.specs.Model.{Modelled}

abbrev dimensions_in : Option Modelled → ℕ
dimensions_in (Some z) = z.domain.dimensions
dimensions_in o = 0

pub loops_at : (xs : List Modelled) (k : ℕ) (x : Modelled) → slice_get xs k ≡ Some x
    → (k < length (map (λ (s : Modelled). s.domain.dimensions) xs))
    × (slice_index_or (map (λ (s : Modelled). s.domain.dimensions) xs) k 0 ≡ x.domain.dimensions)
loops_at [] k x h = absurd cc
loops_at (y ∷ xs) zero x h = (omega arith, ap dimensions_in h)
loops_at (y ∷ xs) (suc k) x h = let r = loops_at xs k x h in let l = r.0 in (omega arith, r.1)
