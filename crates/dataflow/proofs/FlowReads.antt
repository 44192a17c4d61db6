-- Reads and their sources gone through together, as the code gathers their dependences.
use Rattle.dataflow.proofs.Common.{◌≡◌, ℕ, zero, suc, ◌+◌, ◌-◌, ◌<◌, ◌≤◌, List, [], ◌∷◌, ◌++◌, length, map, take, drop}
use Rattle.dataflow.proofs.Common.{get_or, Ok, refl, sym, ap, ap₂, subst, ◌∙◌, arith, add-one, drop-cons, flat_map}
use Rattle.dataflow.proofs.Common.{Access, In, Tree, Modelled, KernelModel, IsKernelModel, Dependence, Side, side}
use Rattle.dataflow.proofs.Common.{sides_from, AreLastSourcesOf, behind_first, flow_from, read_sides, tree_in}
use Rattle.dataflow.proofs.Common.{CanTellAll, leaf_deps, AreSources, IsSourceOf, reads_from, reads_in}
use Rattle.dataflow.proofs.Common.{reads_of_statement, IsQuastOver, writers_run}
use Rattle.scop_syntax.proofs.Common.{append_assoc, append-nil}
use Rattle.quast_joins.specs.declared.way.Way.{Way}
use Rattle.quast_joins.specs.declared.way.Way.TheVariants.{Later}
use Rattle.dataflow.specs.declared.source.ReadSource.{ReadSource}
use Rattle.dataflow.proofs.CandidateRuns.{variables_are}
use Rattle.dataflow.proofs.LeafFacts.{all_told}
use Rattle.dataflow.proofs.QuastSigns.{resolved_tells}
use Rattle.dataflow.proofs.TellableSources.{HaveLoops, quast_over}

-- the entry at a place, and those behind it
at_place : {A : Type 0} (xs : List A) (i : ℕ) (x : A) → x ≡ get_or xs i x → i < length xs
    → drop i xs ≡ x ∷ drop (i + 1) xs
at_place xs i x found h =
    let first : drop i xs ≡ get_or xs i x ∷ drop (i + 1) xs = rw (add-one, drop-cons xs i x h) refl in
    first ∙ ap (λ y. y ∷ drop (i + 1) xs) (sym found)

-- ---- the sources of a statement's reads

-- there are as many sources as reads
sources_count : (way : Way) (model : KernelModel) (budget : ℕ) (rs : List (ℕ × ℕ)) (ss : List ReadSource)
    → AreSources way model budget rs ss → length ss ≡ length rs
sources_count way model budget [] [] h = refl
sources_count way model budget [] (s ∷ ss) h = absurd h
sources_count way model budget (r ∷ rs) [] h = absurd h
sources_count way model budget (r ∷ rs) (s ∷ ss) h = ap suc (sources_count way model budget rs ss h.1)

reads_from_count : (statement k n : ℕ) → length (reads_from statement k n) ≡ n
reads_from_count statement k zero = refl
reads_from_count statement k (suc n) = ap suc (reads_from_count statement (k + 1) n)

-- each source of a statement's reads has its access
pub access_inside : (model : KernelModel) (s : Modelled) (found : List Access) (ss : List ReadSource) (i : ℕ)
    → AreLastSourcesOf model (reads_of_statement s) ss → found ≡ s.accesses → i < length ss → i + 1 < length found
access_inside model s found ss i h same less =
    let count : length ss ≡ length s.accesses - 1 =
    sources_count Later model h.0 (reads_of_statement s) ss h.1
    ∙ reads_from_count s.number 1 (length s.accesses - 1) in
    let size : length found ≡ length s.accesses = ap (λ (fs : List Access). length fs) same in
    omega (arith, count, size, less)

-- the source at a place
source_at : (way : Way) (model : KernelModel) (budget statement k n i : ℕ) (ss : List ReadSource) (s : ReadSource)
    → AreSources way model budget (reads_from statement k n) ss → i < length ss → s ≡ get_or ss i s
    → IsSourceOf way model budget statement (k + i) s
source_at way model budget statement k n i [] s h less is = absurd (omega (arith, less))
source_at way model budget statement k zero i (u ∷ us) s h less is = absurd h
source_at way model budget statement k (suc n) zero (u ∷ us) s h less is =
    let same : k ≡ k + 0 = omega arith in
    subst (λ (a : ℕ). IsSourceOf way model budget statement a s) same
    (subst (IsSourceOf way model budget statement k) (sym is) h.0)
source_at way model budget statement k (suc n) (suc i) (u ∷ us) s h less is =
    let same : k + 1 + i ≡ k + suc i = omega arith in
    subst (λ (a : ℕ). IsSourceOf way model budget statement a s) same
    (source_at way model budget statement (k + 1) n i us s h.1 (omega (arith, less)) is)

pub own_source : (model : KernelModel) (s : Modelled) (ss : List ReadSource) (i : ℕ) (from : ReadSource)
    → AreLastSourcesOf model (reads_of_statement s) ss → i < length ss → from ≡ get_or ss i from
    → (budget : ℕ) × IsSourceOf Later model budget s.number (i + 1) from
own_source model s ss i from h less is =
    let same : 1 + i ≡ i + 1 = omega arith in (
      h.0,
      subst (λ (a : ℕ). IsSourceOf Later model h.0 s.number a from) same
          (source_at Later model h.0 s.number 1 (length s.accesses - 1) i ss from h.1 less is),
    )

-- without sources there is nothing
flow_none : (model : KernelModel) (rs : List Side) → flow_from model rs [] ≡ []
flow_none model [] = refl
flow_none model (r ∷ rs) = refl

none_left : {A : Type 0} (xs : List A) (i : ℕ) → length xs ≤ i → drop i xs ≡ []
none_left [] zero h = refl
none_left [] (suc i) h = refl
none_left (x ∷ xs) zero h = absurd (omega (arith, h))
none_left (x ∷ xs) (suc i) h = none_left xs i (omega (arith, h))

-- behind the last of them
pub reads_end : (model : KernelModel) (rs : List Side) (ss : List ReadSource) (i : ℕ) (out whole : List Dependence)
    → length ss ≤ i → out ++ flow_from model rs (map tree_in (drop i ss)) ≡ whole → out ≡ whole
reads_end model rs ss i out whole h so_far =
    let ended : flow_from model rs (map tree_in (drop i ss)) ≡ [] =
    ap (λ (us : List ReadSource). flow_from model rs (map tree_in us)) (none_left ss i h) ∙ flow_none model rs in
    sym (append-nil out) ∙ (ap (λ (ds : List Dependence). out ++ ds) (sym ended) ∙ so_far)

-- one read further
pub read_step : (model : KernelModel) (s : Modelled) (found : List Access) (ss : List ReadSource) (k : ℕ) (a : Access)
    (from : ReadSource) (out next whole : List Dependence)
    → a ≡ get_or found (k + 1) a → k + 1 < length found → from ≡ get_or ss k from → k < length ss
    → out ++ flow_from model (sides_from s (k + 1) (drop (k + 1) found)) (map tree_in (drop k ss)) ≡ whole
    → next ≡ out ++ leaf_deps Later model (side s (k + 1) a) (tree_in from)
    → next ++ flow_from model (sides_from s (k + 1 + 1) (drop (k + 1 + 1) found)) (map tree_in (drop (k + 1) ss)) ≡ whole
read_step model s found ss k a from out next whole is inside source less so_far put =
    let rest = flow_from model (sides_from s (k + 1 + 1) (drop (k + 1 + 1) found)) (map tree_in (drop (k + 1) ss)) in
    let own = leaf_deps Later model (side s (k + 1) a) (tree_in from) in
    let here = at_place found (k + 1) a is inside in
    let told = at_place ss k from source less in
    ap (λ (ds : List Dependence). ds ++ rest) put
    ∙ (append_assoc out own rest
    ∙ (ap₂ (λ (fs : List Access) (us : List ReadSource). out
    ++ flow_from model (sides_from s (k + 1) fs) (map tree_in us)) (sym here) (sym told) ∙ so_far))

-- ---- statements

sides_count : (s : Modelled) (k : ℕ) (fs : List Access) → length (sides_from s k fs) ≡ length fs
sides_count s k [] = refl
sides_count s k (f ∷ fs) = ap suc (sides_count s (k + 1) fs)

behind_count : (s : Modelled) (fs : List Access) → length (behind_first s fs) ≡ length fs - 1
behind_count s [] = refl
behind_count s (f ∷ fs) = sides_count s 1 fs ∙ omega arith

-- the reads before and those behind, with their sources
flow_split : (model : KernelModel) (rs qs : List Side) (ss : List ReadSource) → length rs ≤ length ss
    → flow_from model (rs ++ qs) (map tree_in ss)
    ≡ flow_from model rs (map tree_in (take (length rs) ss)) ++ flow_from model qs (map tree_in (drop (length rs) ss))
flow_split model [] qs ss less = refl
flow_split model (r ∷ rs) qs [] less = absurd (omega (arith, less))
flow_split model (r ∷ rs) qs (s ∷ ss) less =
    let own = leaf_deps Later model r (tree_in s) in
    let front = flow_from model rs (map tree_in (take (length rs) ss)) in
    let back = flow_from model qs (map tree_in (drop (length rs) ss)) in
    ap (λ (ds : List Dependence). own ++ ds) (flow_split model rs qs ss (omega (arith, less)))
    ∙ sym (append_assoc own front back)

sources_split : (way : Way) (model : KernelModel) (budget : ℕ) (rs qs : List (ℕ × ℕ)) (ss : List ReadSource)
    → AreSources way model budget (rs ++ qs) ss
    → (length rs ≤ length ss) × AreSources way model budget rs (take (length rs) ss)
    × AreSources way model budget qs (drop (length rs) ss)
sources_split way model budget [] qs ss h = (omega arith, tt, h)
sources_split way model budget (r ∷ rs) qs [] h = absurd h
sources_split way model budget (r ∷ rs) qs (s ∷ ss) h =
    let k = sources_split way model budget rs qs ss h.1 in
    let less = k.0 in (omega (arith, less), (h.0, k.1), k.2)

-- of the sources that are left the first are those of the next statement
pub record OwnSources (model : KernelModel) (s : Modelled) (behind : List Modelled) (n : ℕ) (ss : List ReadSource)
    : Type 0 where
  pub few : n ≤ length ss
  pub own : AreLastSourcesOf model (reads_of_statement s) (take n ss)
  pub others : AreLastSourcesOf model (reads_in behind) (drop n ss)

pub own_sources : (model : KernelModel) (statements : List Modelled) (i : ℕ) (s : Modelled) (n : ℕ)
    (ss : List ReadSource) → s ≡ get_or statements i s → i < length statements → n ≡ length s.accesses - 1
    → AreLastSourcesOf model (reads_in (drop i statements)) ss
    → OwnSources model s (drop (i + 1) statements) n ss
own_sources model statements i s n ss is h size are =
    let behind = drop (i + 1) statements in
    let here = at_place statements i s is h in
    let count : length (reads_of_statement s) ≡ n =
    reads_from_count s.number 1 (length s.accesses - 1) ∙ sym size in
    let split = sources_split Later model are.0 (reads_of_statement s) (reads_in behind) ss
    (subst (λ (ts : List Modelled). AreSources Later model are.0 (reads_in ts) ss) here are.1) in
    record {
      few = subst (λ (k : ℕ). k ≤ length ss) count split.0;
      own = (are.0, subst (λ (k : ℕ). AreSources Later model are.0 (reads_of_statement s) (take k ss)) count split.1);
      others = (are.0, subst (λ (k : ℕ). AreSources Later model are.0 (reads_in behind) (drop k ss)) count split.2);
    }

-- one statement further
pub flow_step : (model : KernelModel) (statements : List Modelled) (i : ℕ) (s : Modelled) (n : ℕ)
    (ss own others : List ReadSource) (out next whole : List Dependence)
    → s ≡ get_or statements i s → i < length statements → n ≡ length s.accesses - 1 → n ≤ length ss
    → own ≡ take n ss → others ≡ drop n ss
    → out ++ flow_from model (flat_map read_sides (drop i statements)) (map tree_in ss) ≡ whole
    → next ≡ out ++ flow_from model (read_sides s) (map tree_in own)
    → next ++ flow_from model (flat_map read_sides (drop (i + 1) statements)) (map tree_in others) ≡ whole
flow_step model statements i s n ss own others out next whole is h size few front back so_far put =
    let behind = flat_map read_sides (drop (i + 1) statements) in
    let here = at_place statements i s is h in
    let count : length (read_sides s) ≡ n = behind_count s s.accesses ∙ sym size in
    let first = flow_from model (read_sides s) (map tree_in own) in
    let rest = flow_from model behind (map tree_in others) in
    let split : flow_from model (read_sides s ++ behind) (map tree_in ss) ≡ first ++ rest =
    flow_split model (read_sides s) behind ss (subst (λ (k : ℕ). k ≤ length ss) (sym count) few)
    ∙ ap₂ (λ (us vs : List ReadSource). flow_from model (read_sides s) (map tree_in us)
    ++ flow_from model behind (map tree_in vs))
    (ap (λ (k : ℕ). take k ss) count ∙ sym front) (ap (λ (k : ℕ). drop k ss) count ∙ sym back) in
    ap (λ (ds : List Dependence). ds ++ rest) put
    ∙ (append_assoc out first rest
    ∙ (ap (λ (ds : List Dependence). out ++ ds) (sym split)
    ∙ (ap (λ (ts : List Modelled). out ++ flow_from model (flat_map read_sides ts) (map tree_in ss)) (sym here)
    ∙ so_far)))

-- ---- the leaves of a read's source

-- they can be told
pub source_tells : (model : KernelModel) (budget : ℕ) (reader : Side) (tree : Tree) → IsKernelModel model
    → HaveLoops model → In reader.statement model.statements
    → writers_run Later model budget reader.statement.number reader.number ≡ Ok tree
    → CanTellAll model reader tree
source_tells model budget reader tree one loops among run =
    let tells = resolved_tells Later model budget reader.statement.number reader.number tree run in
    let r = quast_over Later model budget reader.statement.number reader.number tree loops run in
    all_told model reader tree one among
    (subst (λ (n : ℕ). IsQuastOver model n tree) (variables_are model reader.statement one.places among) (record {
      speaks = r.0.0;
      leaves = r.0.1;
      forms = r.0.2;
      few = r.1;
    })) tells.1 tells.0
