-- From the sources of a model's reads to the text that is printed, and to what it tells of each walked read.
use Rattle.scop_syntax.proofs.Common.{◌≡◌, ◌∙◌, sym, ap, subst, refl, inl, inr, ℕ, zero, suc, ◌+◌, ◌-◌, ◌<◌, ℤ, List}
use Rattle.scop_syntax.proofs.Common.{[], ◌∷◌, ◌++◌, length, map, Some, Result, Ok, Err, IfOk, arith, Vec, slice_get}
use Rattle.scop_syntax.proofs.Common.{length-map, Cell, accesses, cell_of, HasParameters, In, Program, Visit, walk_of}
use Rattle.scop_syntax.proofs.Common.{last_writer, in_front, in_back, in_from_place, place_of}
use Rattle.std.specs.Global.{Global}
use Rattle.iteration_domains.specs.Instances.{IsInstanceOf}
use Rattle.iteration_domains.specs.Model.{Modelled, KernelModel, model_of}
use Rattle.plan_search.specs.Pairs.{TouchesAt}
use Rattle.plan_search.specs.Way.TheVariants.{Later}
use Rattle.plan_search.specs.ReadSources.{reads_from, reads_of_statement, reads_in, reads_of, AreSources, NameLastWriters}
use Rattle.plan_search.specs.Told.{AreTold}
use Rattle.plan_search.specs.ReadSource.{ReadSource}
use Rattle.plan_search.specs.ReadSource.TheVariants as source
use Rattle.plan_search.specs.DepsText.{deps_text}
use Rattle.polypar.specs.Sources.{IsSourcesText, IsSourceAt, NamesIfResolved, TellsLastWrites}

-- the text that a call gives, where it is that of the sources of the model's reads
pub sources_told : {E : Type 0} (budget : ℕ) (program : Program) (model : KernelModel) (sources : List ReadSource)
    (result : Result (Vec ℕ Global) E) → model ≡ model_of program
    → AreSources Later model budget (reads_of model) sources → NameLastWriters model sources
    → AreTold model (reads_of model) sources
    → IfOk result (λ text. text.items ≡ deps_text program sources)
    → IfOk result (λ text. IsSourcesText budget program text.items)
sources_told budget program model sources (Ok text) own run last made told = record {
  sources = sources;
  run = subst (λ m. AreSources Later m budget (reads_of m) sources) own run;
  last = subst (λ m. NameLastWriters m sources) own last;
  made = subst (λ m. AreTold m (reads_of m) sources) own made;
  told = told;
}
sources_told budget program model sources (Err e) own run last made told = tt

-- ---- what the text tells of each walked read

-- a read of a statement stands among its reads
read_in : (number k n i : ℕ) → i < n → In (number, k + i) (reads_from number k n)
read_in number k zero i within = absurd (omega arith)
read_in number k (suc n) zero within = let same : k + 0 ≡ k = omega arith in inl (ap (λ j. (number, j)) same)
read_in number k (suc n) (suc i) within =
    let later : k + suc i ≡ (k + 1) + i = omega arith in
    inr (subst (λ j. In (number, j) (reads_from number (k + 1) n)) (sym later) (read_in number (k + 1) n i (omega arith)))

-- and among those of all statements
read_among : (s : Modelled) (ss : List Modelled) (read : ℕ) → In s ss → suc read < length s.accesses
    → In (s.number, suc read) (reads_in ss)
read_among s [] read member within = absurd member
read_among s (t ∷ ss) read (inl is) within =
    let one : 1 + read ≡ suc read = omega arith in
    let first : In (s.number, suc read) (reads_of_statement s) =
    subst (λ j. In (s.number, j) (reads_of_statement s)) one
    (read_in s.number 1 (length s.accesses - 1) read (omega (arith, within))) in
    in_front (s.number, suc read) (reads_of_statement t) (reads_in ss)
    (subst (λ u. In (s.number, suc read) (reads_of_statement u)) is first)
read_among s (t ∷ ss) read (inr behind) within =
    in_back (s.number, suc read) (reads_of_statement t) (reads_in ss) (read_among s ss read behind within)

-- each read has its source
source_at : (model : KernelModel) (budget : ℕ) (reads : List (ℕ × ℕ)) (sources : List ReadSource) (k : ℕ) (r : ℕ × ℕ)
    → AreSources Later model budget reads sources → slice_get reads k ≡ Some r
    → (from : ReadSource) × (slice_get sources k ≡ Some from)
source_at model budget [] sources k r are at = absurd cc
source_at model budget (r ∷ rs) [] k q are at = absurd are
source_at model budget (r ∷ rs) (s ∷ ss) zero q are at = (s, refl)
source_at model budget (r ∷ rs) (s ∷ ss) (suc k) q are at = source_at model budget rs ss k q are.1 at

-- what stands at a place stands inside
inside : {A : Type 0} (xs : List A) (k : ℕ) (x : A) → slice_get xs k ≡ Some x → k < length xs
inside [] k x at = absurd cc
inside (y ∷ xs) zero x at = omega arith
inside (y ∷ xs) (suc k) x at = let r = inside xs k x at in omega (arith, r)

-- the laws of domains on which this stands
pub record Laws : Type 0 where
  pub statement : (program : Program) (params : List ℤ) (v : Visit) → In v (walk_of program params)
      → (s : Modelled) × IsInstanceOf program params s v
  pub cells : (program : Program) (params : List ℤ) (s : Modelled) (v : Visit)
      → length params ≡ length program.parameters → IsInstanceOf program params s v
      → map (λ a. cell_of a (v.turns ++ params)) s.accesses ≡ map (λ a. cell_of a v.point) (accesses v.body)

-- a resolved source names what the last writers' clause says
names_last : (program : Program) (sources : List ReadSource) (params : List ℤ) (j : ℕ) (w : Visit) (access : ℕ)
    (c : Cell) (k : ℕ) (from : ReadSource) → NameLastWriters (model_of program) sources
    → HasParameters program params → TouchesAt program params j w access c
    → slice_get (reads_of (model_of program)) k ≡ Some (w.number, access) → slice_get sources k ≡ Some from
    → NamesIfResolved from (walk_of program params) (params ++ w.turns) (last_writer (walk_of program params) j c)
names_last program sources params j w access c k (source.Resolved quast) last has touches read at =
    last program params j w access c k quast refl has touches read at
names_last program sources params j w access c k (source.Unresolved told) last has touches read at = tt

-- each walked read has its source, which names the last write where it is resolved
each_read : Laws → (budget : ℕ) (program : Program) (sources : List ReadSource)
    → AreSources Later (model_of program) budget (reads_of (model_of program)) sources
    → NameLastWriters (model_of program) sources
    → (params : List ℤ) (j : ℕ) (w : Visit) (read : ℕ) (c : Cell) → HasParameters program params
    → TouchesAt program params j w (suc read) c
    → (from : ReadSource) × IsSourceAt program sources w.number (suc read) from
    × NamesIfResolved from (walk_of program params) (params ++ w.turns) (last_writer (walk_of program params) j c)
each_read laws budget program sources are last params j w read c has touches =
    let model = model_of program in
    let s = laws.statement program params w (in_from_place (walk_of program params) j w touches.place) in
    let same : length s.0.accesses ≡ length (accesses w.body) =
    sym (length-map s.0.accesses (λ a. cell_of a (w.turns ++ params)))
    ∙ (ap length (laws.cells program params s.0 w has.count s.1)
    ∙ length-map (accesses w.body) (λ a. cell_of a w.point)) in
    let within : suc read < length s.0.accesses =
    omega (arith, same, inside (accesses w.body) (suc read) touches.access touches.is_access) in
    let among : In (w.number, suc read) (reads_of model) =
    subst (λ n. In (n, suc read) (reads_of model)) (sym s.1.number)
    (read_among s.0 model.statements read s.1.statement within) in
    let k = place_of (reads_of model) (w.number, suc read) among in
    let from = source_at model budget (reads_of model) sources k.0 (w.number, suc read) are k.1 in (
      from.0,
      (k.0, k.1, from.1),
      names_last program sources params j w (suc read) c k.0 from.0 last has touches k.1 from.1,
    )

-- the text of sources tells last writes
pub tells_last : Laws → (budget : ℕ) (program : Program) (text : List ℕ) → IsSourcesText budget program text
    → TellsLastWrites program text
tells_last laws budget program text is = record {
  sources = is.sources;
  told = is.told;
  last = each_read laws budget program is.sources is.run is.last;
}
