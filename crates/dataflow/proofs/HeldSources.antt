-- Each read of a walk and its last writer are a pair of one of the dependences of the reads' trees.
use Rattle.dataflow.proofs.Common.{◌≡◌, ℕ, suc, ◌+◌, ◌-◌, ℤ, List, [], ◌∷◌, ◌++◌, length, map, All, Ok, inl, inr, sym}
use Rattle.dataflow.proofs.Common.{ap, ap₂, subst, ◌∙◌, refl, arith, flat_map, map-append, All-head, All-tail, In}
use Rattle.dataflow.proofs.Common.{Access, Program, in_append, in_back, in_front, Tree, Dependence, Modelled}
use Rattle.dataflow.proofs.Common.{KernelModel, model_of, IsKernelModel, Side, sides_from, sides_in, sides_of, stands}
use Rattle.dataflow.proofs.Common.{in_flat_map, in_flat_map_from, LiesBetween, told_deps, AreLastTrees, IsResolved}
use Rattle.dataflow.proofs.Common.{behind_first, flow_from, flow_of, read_sides, read_sides_in, tree_in, leaf_deps}
use Rattle.dataflow.proofs.Common.{AreSources, reads_from, reads_in, reads_of, writers_run}
use Rattle.quast_joins.specs.declared.way.Way.TheVariants.{Later}
use Rattle.iteration_domains.specs.Held.{HoldSources}
use Rattle.dataflow.specs.declared.source.ReadSource.{ReadSource}
use Rattle.dataflow.proofs.AccessSides.{CoverLaws}
use Rattle.dataflow.proofs.CoverEnds.{leaf_between}
use Rattle.dataflow.proofs.HeldCovers.{meets, some_pair}
use Rattle.dataflow.specs.declared.source.ReadSource.TheVariants as source

-- ---- the reads as accesses and as numbers

abbrev pub read_of : Side → ℕ × ℕ
read_of reader = (reader.statement.number, reader.number)

reads_there : (s : Modelled) (k : ℕ) (fs : List Access)
    → map read_of (sides_from s k fs) ≡ reads_from s.number k (length fs)
reads_there s k [] = refl
reads_there s k (f ∷ fs) = ap (λ (rs : List (ℕ × ℕ)). (s.number, k) ∷ rs) (reads_there s (k + 1) fs)

own_reads : (s : Modelled) (fs : List Access)
    → map read_of (behind_first s fs) ≡ reads_from s.number 1 (length fs - 1)
own_reads s [] = refl
own_reads s (f ∷ fs) =
    let same : length fs ≡ suc (length fs) - 1 = omega arith in
    reads_there s 1 fs ∙ ap (reads_from s.number 1) same

pub all_reads : (ss : List Modelled) → map read_of (flat_map read_sides ss) ≡ reads_in ss
all_reads [] = refl
all_reads (s ∷ ss) =
    map-append read_of (read_sides s) (flat_map read_sides ss)
    ∙ ap₂ (λ (rs qs : List (ℕ × ℕ)). rs ++ qs) (own_reads s s.accesses) (all_reads ss)

-- an access that is not the first is a read
in_read : (s : Modelled) (fs : List Access) (reader : Side) (r : ℕ) → In reader (sides_from s 0 fs)
    → reader.number ≡ suc r → In reader (behind_first s fs)
in_read s [] reader r h number = absurd h
in_read s (f ∷ fs) reader r (inl e) number =
    let zeroth : reader.number ≡ 0 = ap (λ (z : Side). z.number) e in absurd (omega (arith, zeroth, number))
in_read s (f ∷ fs) reader r (inr h) number = h

in_reads : (model : KernelModel) (reader : Side) (r : ℕ) → In reader (sides_in model) → reader.number ≡ suc r
    → In reader (read_sides_in model)
in_reads model reader r h number =
    let s = in_flat_map_from sides_of model.statements reader h in
    in_flat_map read_sides model.statements s.0 reader s.1 (in_read s.0 s.0.accesses reader r s.2 number)

-- ---- the tree of a read, and its leaves

-- a read's tree is the end of its run, and its leaves' dependences are among all
record HasTree (model : KernelModel) (budget : ℕ) (reader : Side) (all : List Dependence) : Type 0 where
  tree : Tree
  run : writers_run Later model budget reader.statement.number reader.number ≡ Ok tree
  among : (d : Dependence) → In d (leaf_deps Later model reader tree) → In d all

has_tree : (model : KernelModel) (budget : ℕ) (rs : List Side) (ts : List Tree) (reader : Side)
    → AreLastTrees model budget (map read_of rs) ts → In reader rs
    → HasTree model budget reader (flow_from model rs ts)
has_tree model budget [] ts reader are h = absurd h
has_tree model budget (r ∷ rs) [] reader are h = absurd are
has_tree model budget (r ∷ rs) (t ∷ ts) reader are (inl e) =
    let all = flow_from model (r ∷ rs) (t ∷ ts) in
    subst (λ (z : Side). HasTree model budget z all) (sym e) (record {
      tree = t;
      run = are.0;
      among = λ d h. in_front d (leaf_deps Later model r t) (flow_from model rs ts) h;
    })
has_tree model budget (r ∷ rs) (t ∷ ts) reader are (inr h) =
    let k = has_tree model budget rs ts reader are.1 h in
    record {
      tree = k.tree;
      run = k.run;
      among = λ d i. in_back d (leaf_deps Later model r t) (flow_from model rs ts) (k.among d i);
    }

-- each read and its last writer are a pair
pub sources_held : (program : Program) (params : List ℤ) (budget : ℕ) (trees : List Tree)
    → CoverLaws program params budget → AreLastTrees (model_of program) budget (reads_of (model_of program)) trees
    → HoldSources program params (flow_of (model_of program) trees)
sources_held program params budget trees laws are i j v w r at_i at_j last =
    let model = model_of program in
    let m = some_pair Later program params budget j i (suc r) w v laws at_i
    (meets Later program params j i (suc r) w at_j last) in
    let pair = m.4 in
    let has = has_tree model budget (read_sides_in model) trees m.0
    (subst (λ (rs : List (ℕ × ℕ)). AreLastTrees model budget rs trees) (sym (all_reads model.statements)) are)
    (in_reads model m.0 r m.1 m.2) in (
      pair.0,
      has.among pair.0
          (subst (λ (ds : List Dependence). In pair.0 ds) (ap (told_deps Later model m.0) has.run) pair.1),
      pair.2,
    )

-- ---- sources that are told

pub last_trees : (model : KernelModel) (budget : ℕ) (rs : List (ℕ × ℕ)) (ss : List ReadSource)
    → AreSources Later model budget rs ss → All IsResolved ss → AreLastTrees model budget rs (map tree_in ss)
last_trees model budget [] [] are told = tt
last_trees model budget [] (s ∷ ss) are told = absurd are
last_trees model budget (r ∷ rs) [] are told = absurd are
last_trees model budget (r ∷ rs) (source.Resolved quast ∷ ss) are told =
    (are.0, last_trees model budget rs ss are.1 (All-tail IsResolved (source.Resolved quast) ss told))
last_trees model budget (r ∷ rs) (source.Unresolved stop ∷ ss) are told =
    absurd (All-head IsResolved (source.Unresolved stop) ss told)

-- ---- the statements that they lie between

from_between : (model : KernelModel) (rs : List Side) (trees : List Tree) (d : Dependence) → IsKernelModel model
    → ((reader : Side) → In reader rs → In reader (sides_in model)) → In d (flow_from model rs trees)
    → LiesBetween model d
from_between model [] trees d is among h = absurd h
from_between model (r ∷ rs) [] d is among h = absurd h
from_between model (r ∷ rs) (t ∷ ts) d is among h =
    elim (in_append d (leaf_deps Later model r t) (flow_from model rs ts) h) [
      | inl own ↦ leaf_between Later model r t d is (stands model r is (among r (inl refl))) own
      | inr rest ↦ from_between model rs ts d is (λ reader i. among reader (inr i)) rest
    ]

read_in : (s : Modelled) (fs : List Access) (reader : Side) → In reader (behind_first s fs)
    → In reader (sides_from s 0 fs)
read_in s [] reader h = absurd h
read_in s (f ∷ fs) reader h = inr h

-- the reads are accesses
pub sides_there : (model : KernelModel) (reader : Side) → In reader (read_sides_in model) → In reader (sides_in model)
sides_there model reader h =
    let s = in_flat_map_from read_sides model.statements reader h in
    in_flat_map sides_of model.statements s.0 reader s.1 (read_in s.0 s.0.accesses reader s.2)

pub flow_between : (model : KernelModel) (trees : List Tree) (d : Dependence) → IsKernelModel model
    → In d (flow_of model trees) → LiesBetween model d
flow_between model trees d is h =
    from_between model (read_sides_in model) trees d is (sides_there model) h
