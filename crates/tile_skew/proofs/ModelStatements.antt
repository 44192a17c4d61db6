-- A statement of a model, taken by its place.
use Rattle.scop_syntax.proofs.Common.{◌≡◌, ℕ, zero, suc, ◌<◌, ◌≤◌, List, [], ◌∷◌, sym, ap, ◌∙◌, arith, length, get_or}
use Rattle.scop_syntax.proofs.Common.{slice_get, Some, in_from_place, get_or-map}
use Rattle.iteration_domains.specs.Model.{Modelled, KernelModel}
use Rattle.tile_skew.specs.ScanSets.{most_iterators}
use Rattle.tile_skew.proofs.AlikeSets.{within_most}
use Rattle.schedule_rows.specs.Posed.{loops_of}
use Rattle.schedule_rows.specs.Schedule.{loops_in}

-- the statement at a place
pub found_there : (ss : List Modelled) (k : ℕ) (s : Modelled) → k < length ss → s ≡ get_or ss k s
    → slice_get ss k ≡ Some s
found_there [] k s h e = absurd (omega (arith, h))
found_there (t ∷ ss) zero s h e = ap Some (sym e)
found_there (t ∷ ss) (suc k) s h e = found_there ss k s (omega (arith, h)) e

-- a statement has as many loops as its domain has dimensions
pub loops_there : (m : KernelModel) (k : ℕ) (s : Modelled) → k < length m.statements → s ≡ get_or m.statements k s
    → loops_of (loops_in m) k ≡ s.domain.dimensions
loops_there m k s h e =
    get_or-map (λ (t : Modelled). t.domain.dimensions) m.statements k s 0 h
    ∙ ap (λ (t : Modelled). t.domain.dimensions) (sym e)

pub within_there : (ss : List Modelled) (k : ℕ) (s : Modelled) → k < length ss → s ≡ get_or ss k s
    → s.domain.dimensions ≤ most_iterators ss
within_there ss k s h e = within_most ss s (in_from_place ss k s (found_there ss k s h e))
