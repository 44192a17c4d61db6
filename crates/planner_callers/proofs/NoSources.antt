-- Sources that there are not: without a read, and for want of memory.
use Rattle.scop_syntax.proofs.Common.{◌≡◌, ℕ, zero, suc, List, [], ◌∷◌, Option, Some, None, slice_get, refl, subst}
use Rattle.quast_joins.specs.declared.way.Way.{Way}
use Rattle.iteration_domains.specs.Model.{KernelModel, Modelled}
use Rattle.dataflow.specs.ReadSources.{AreSources}
use Rattle.dataflow.specs.Told.{AreTold, IsToldAt}
use Rattle.dataflow.specs.declared.source.ReadSource.{ReadSource}
use Rattle.dataflow.specs.declared.source.ReadSource.TheVariants as source
use Rattle.dataflow.specs.declared.source.SourceStop.TheVariants as stop
use Rattle.pip_solver.specs.declared.stop.Stop.TheVariants as solver

-- no read has no source
pub none : (way : Way) (model : KernelModel) (budget : ℕ) (sources : List ReadSource)
    → AreSources way model budget [] sources → sources ≡ []
none way model budget [] are = refl
none way model budget (_ ∷ _) are = elim are [ ]

-- want of memory is the stop of no read
pub no_want : (model : KernelModel) (reads : List (ℕ × ℕ)) (sources : List ReadSource) (k : ℕ)
    → AreTold model reads sources
    → slice_get sources k ≡ Some (source.Unresolved (stop.Solver solver.NoMemory)) → ⊥
no_want model reads [] k told at = absurd cc
no_want model [] (s ∷ ss) k told at = absurd told
no_want model (r ∷ rs) (s ∷ ss) zero told at =
    let e : s ≡ source.Unresolved (stop.Solver solver.NoMemory) = cc in
    none_at (slice_get model.statements r.0) (subst (IsToldAt model (slice_get model.statements r.0)) e told.0)
  where
    none_at : (o : Option Modelled) → IsToldAt model o (source.Unresolved (stop.Solver solver.NoMemory)) → ⊥
    none_at None h = h
    none_at (Some m) h = h
no_want model (r ∷ rs) (s ∷ ss) (suc k) told at = no_want model rs ss k told.1 at
