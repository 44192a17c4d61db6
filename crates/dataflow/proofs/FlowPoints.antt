-- The whole points of the dependences of the reads' trees are the reads with their last writers.
use Rattle.dataflow.proofs.Common.{◌≡◌, ℕ, suc, ℤ, List, [], ◌∷◌, map, Ok, inl, inr, sym, subst, ◌∙◌, refl, arith, ◌↔◌}
use Rattle.dataflow.proofs.Common.{In, Access, Program, Instance, instance, walk_of, in_append, Tree, Dependence}
use Rattle.dataflow.proofs.Common.{Modelled, KernelModel, model_of, Relates, Side, in_flat_map_from, side_to, HavePoint}
use Rattle.dataflow.proofs.Common.{IsCoverOf, AreLastTrees, behind_first, flow_from, flow_of, read_sides, read_sides_in}
use Rattle.dataflow.proofs.Common.{leaf_deps, reads_of, writers_run}
use Rattle.quast_joins.specs.declared.way.Way.TheVariants.{Later}
use Rattle.dataflow.specs.Flow.{ReadsFrom}
use Rattle.dataflow.proofs.AccessSides.{CoverLaws}
use Rattle.dataflow.proofs.CoverPoints.{point_cover, related_point}
use Rattle.dataflow.proofs.HeldSources.{all_reads, read_of, sides_there, sources_held}

-- ---- points are reads

-- a dependence is one of the leaves of a read's tree
record IsOfRead (model : KernelModel) (budget : ℕ) (rs : List Side) (d : Dependence) : Type 0 where
  reader : Side
  there : In reader rs
  tree : Tree
  run : writers_run Later model budget reader.statement.number reader.number ≡ Ok tree
  leaf : In d (leaf_deps Later model reader tree)

of_read : (model : KernelModel) (budget : ℕ) (rs : List Side) (ts : List Tree) (d : Dependence)
    → AreLastTrees model budget (map read_of rs) ts → In d (flow_from model rs ts) → IsOfRead model budget rs d
of_read model budget [] ts d are h = absurd h
of_read model budget (r ∷ rs) [] d are h = absurd h
of_read model budget (r ∷ rs) (t ∷ ts) d are h =
    elim (in_append d (leaf_deps Later model r t) (flow_from model rs ts) h) [
      | inl own ↦ record { reader = r; there = inl refl; tree = t; run = are.0; leaf = own }
      | inr rest ↦ let k = of_read model budget rs ts d are.1 rest in
          record { reader = k.reader; there = inr k.there; tree = k.tree; run = k.run; leaf = k.leaf }
    ]

-- the reads are numbered from 1
number_from : (s : Modelled) (fs : List Access) (reader : Side) → In reader (behind_first s fs)
    → (r : ℕ) × (reader.number ≡ suc r)
number_from s [] reader h = absurd h
number_from s (f ∷ fs) reader h = let k = side_to s 1 fs reader h in (k.1.0, k.1.1 ∙ omega arith)

read_number : (model : KernelModel) (reader : Side) → In reader (read_sides_in model)
    → (r : ℕ) × (reader.number ≡ suc r)
read_number model reader h =
    let s = in_flat_map_from read_sides model.statements reader h in number_from s.0 s.0.accesses reader s.2

point_read : (program : Program) (params : List ℤ) (budget : ℕ) (trees : List Tree) (x y : Instance)
    → CoverLaws program params budget → AreLastTrees (model_of program) budget (reads_of (model_of program)) trees
    → HavePoint params (flow_of (model_of program) trees) x y → ReadsFrom (walk_of program params) x y
point_read program params budget trees x y laws are h =
    let model = model_of program in
    let k = of_read model budget (read_sides_in model) trees h.0
    (subst (λ (rs : List (ℕ × ℕ)). AreLastTrees model budget rs trees) (sym (all_reads model.statements)) are) h.1 in
    let r = read_number model k.reader k.there in (
      k.reader.statement.number,
      r.0,
      subst (λ (a : ℕ). IsCoverOf Later (walk_of program params) k.reader.statement.number a x y) r.1
          (point_cover Later program params budget k.reader k.tree x y laws (sides_there model k.reader k.there) k.run
          (h.0, k.leaf, h.2)),
    )

-- ---- reads are points

read_point : (program : Program) (params : List ℤ) (budget : ℕ) (trees : List Tree) (x y : Instance)
    → CoverLaws program params budget → AreLastTrees (model_of program) budget (reads_of (model_of program)) trees
    → ReadsFrom (walk_of program params) x y → HavePoint params (flow_of (model_of program) trees) x y
read_point program params budget trees x y laws are h =
    let c = h.2 in
    let pair = sources_held program params budget trees laws are c.first c.second c.earlier c.later h.1 c.is_earlier
    c.is_later c.cover in (
      pair.0,
      pair.1,
      related_point params pair.0 x y
          (subst (λ (z : Instance). Relates params pair.0 z y) c.source
          (subst (λ (z : Instance). Relates params pair.0 (instance c.earlier) z) c.target pair.2)),
    )

pub flow_points : (program : Program) (params : List ℤ) (budget : ℕ) (trees : List Tree) (x y : Instance)
    → CoverLaws program params budget → AreLastTrees (model_of program) budget (reads_of (model_of program)) trees
    → HavePoint params (flow_of (model_of program) trees) x y ↔ ReadsFrom (walk_of program params) x y
flow_points program params budget trees x y laws are = (
  point_read program params budget trees x y laws are,
  read_point program params budget trees x y laws are,
)
