-- From one state to the next: what holds between steps.
use Rattle.scop_syntax.proofs.Common.{◌≡◌, ℕ, zero, suc, ◌<◌, ◌^◌, ℤ, List, [], ◌∷◌, ◌++◌, refl, sym, ◌∙◌, ap, subst}
use Rattle.scop_syntax.proofs.Common.{arith, length, map, All, Vec, Global, ◌≤◌, slice_index_or, Ok, length-map}
use Rattle.scop_syntax.proofs.Common.{get_or-map, All-nil, All-head, All-tail, All-map, In, all_in, in_map, in_front}
use Rattle.std.proofs.lemmas.List.{append-nil}
use Rattle.iteration_domains.specs.Dependence.{Dependence}
use Rattle.integer_sets.specs.Constraints.{Constraints}
use Rattle.null_space.specs.Narrowing.{kernel_vectors, narrowed_all, narrowed_by, units_from}
use Rattle.null_space.specs.Sizes.{AreWithin, AreLong, AreCoefficients}
use Rattle.null_space.proofs.ListLoops.{kernel_long, narrowed_length}
use Rattle.null_space.proofs.KernelSizes.{kernel_narrow}
use Rattle.null_space.proofs.Sizes.{units_length}
use Rattle.schedule_rows.specs.Next.{rows_of}
use Rattle.schedule_rows.specs.Outcomes.{state}
use Rattle.schedule_rows.specs.Posed.{IsFull, coefficients_in}
use Rattle.pluto_systems.specs.Posing.{RuledDep, IsRuled, dep_of, IsBetween, AreVectorsOf, AreSmallVectors}
use Rattle.pluto_systems.specs.Posing.{posed_system, ruled_run}
use Rattle.pluto_search.specs.declared.state.Progress.{Progress}
use Rattle.pluto_search.specs.Questions.{AreRuledBy, IsRuledBy, IsPosedAt}
use Rattle.pluto_search.specs.Searching.{AreBetween}
use Rattle.pluto_search.specs.steps.Good.{IsGood}
use Rattle.pluto_search.specs.steps.Steps.{state_of, vectors_in, AreRules, HasMore}

abbrev pub Vectors : Type 0
Vectors = Vec (Vec ℤ Global) Global

abbrev pub shown : Vectors → List (List ℤ)
shown vs = map (λ (v : Vec ℤ Global). v.items) vs.items

-- nothing is done yet
pub good_first : (m : ℕ) (loops : List ℕ) (bare : List Dependence) (kernels : List (List (List ℤ)))
    → kernels ≡ map (λ l. kernel_vectors l []) loops → AreBetween m loops bare
    → IsGood m loops (state [] [] bare) kernels
good_first m loops bare kernels v b =
    let f : ℕ → List (List ℤ) = λ l. kernel_vectors l [] in
    record {
      vectors = record {
        size = ap length v ∙ length-map loops f;
        each = λ s l. ap (λ (z : List (List (List ℤ))). slice_index_or z s []) v ∙ get_or-map f loops s 0 [] l;
      };
      small = λ k l. All-nil AreCoefficients;
      rows = All-nil _;
      between = b;
    }

empty_at : (vs : List Vectors) (s : ℕ) → All (λ v. v.items ≡ []) vs → slice_index_or (map shown vs) s [] ≡ []
empty_at [] s h = refl
empty_at (v ∷ vs) zero h = ap (λ z. map (λ (u : Vec ℤ Global). u.items) z) (All-head (λ u. u.items ≡ []) v vs h)
empty_at (v ∷ vs) (suc s) h = empty_at vs s (All-tail (λ u. u.items ≡ []) v vs h)

pub full_is : (p : Progress) → All (λ v. v.items ≡ []) p.vectors.items
    → IsFull p.search.now.loops.now (rows_of (state_of p))
full_is p h s l = sym (p.good.vectors.each s l) ∙ empty_at p.vectors.items s h

no_items : (vs : List (Vec ℤ Global)) → map (λ (u : Vec ℤ Global). u.items) vs ≡ [] → vs ≡ []
no_items [] h = refl
no_items (v ∷ vs) h = absurd (let e = ap length h in omega arith)

all_empty : (vs : List Vectors) → ((s : ℕ) → s < length vs → slice_index_or (map shown vs) s [] ≡ [])
    → All (λ v. v.items ≡ []) vs
all_empty vs h k d l = no_items (slice_index_or vs k d).items (sym (get_or-map shown vs k d [] l) ∙ h k l)

pub not_full_is : (p : Progress) → (All (λ v. v.items ≡ []) p.vectors.items → ⊥) → HasMore p.search.now (state_of p)
not_full_is p h full =
    h (all_empty p.vectors.items (λ s l.
    let e = p.good.vectors.size in
    let k = length-map p.vectors.items shown in
    p.good.vectors.each s (omega arith) ∙ full s (omega arith)))

-- there are no more kernel vectors than loops
narrowed_all_length : (cs ns : List (List ℤ)) → length (narrowed_all cs ns) ≤ length ns
narrowed_all_length [] ns = omega arith
narrowed_all_length (c ∷ cs) ns =
    let a = narrowed_all_length cs (narrowed_by c ns) in let b = narrowed_length c ns in omega arith

kernel_count : (n : ℕ) (rows : List (List ℤ)) → length (kernel_vectors n rows) ≤ n
kernel_count n rows =
    let a = narrowed_all_length rows (units_from n 0 n) in let b = units_length n 0 n in omega arith

pub small_vectors : (p : Progress) → AreSmallVectors p.search.now.loops.now (vectors_in p)
small_vectors p =
    let loops = p.search.now.loops.now in
    let rows = rows_of (state_of p) in
    let g = p.good in
    record {
      size = g.vectors.size;
      few = λ s l.
          let k = kernel_count (slice_index_or loops s 0) (coefficients_in rows s) in
          let f = p.search.now.small s 0 l in
          subst (λ (z : List (List ℤ)). length z ≤ 5) (sym (g.vectors.each s l)) (omega arith);
      long = λ s l. subst (λ (z : List (List ℤ)). AreLong (slice_index_or loops s 0) z) (sym (g.vectors.each s l))
          (kernel_long (slice_index_or loops s 0) (coefficients_in rows s));
      small = λ s l. subst (λ (z : List (List ℤ)). All (AreWithin (2 ^ 109)) z) (sym (g.vectors.each s l))
          (kernel_narrow (slice_index_or loops s 0) (coefficients_in rows s) (p.search.now.small s 0 l)
          (g.small s l)).last;
    }

-- all dependences have their rows now
pub all_remain : (p : Progress) (ruled : List RuledDep) (bare : List Dependence) → bare ≡ []
    → map dep_of ruled ≡ (state_of p).remaining → map dep_of ruled ++ bare ≡ (state_of p).remaining
all_remain p ruled bare c d =
    ap (λ (z : List Dependence). map dep_of ruled ++ z) c ∙ (append-nil (map dep_of ruled) ∙ d)

-- dependences with their rows remain
pub ruled_remains : (p : Progress) (d : Dependence) → In d (map dep_of p.ruled.items) → In d (state_of p).remaining
ruled_remains p d i = in_front d (map dep_of p.ruled.items) p.bare.items i

pub are_between : (p : Progress) (x : RuledDep) → AreRules p.search.now.budget p.ruled.items → In x p.ruled.items
    → IsRuled x × IsBetween p.search.now.parameters p.search.now.loops.now x.dep
are_between p x rules i = (
  (all_in (λ y. IsRuled y × (ruled_run p.search.now.budget y.dep ≡ Ok y)) p.ruled.items x rules i).0,
  (p.good.between x.dep (ruled_remains p x.dep (in_map dep_of x p.ruled.items i))).0,
)

-- all remaining ones, where no others do
pub remains : (p : Progress) (ruled : List RuledDep) → ruled ≡ p.ruled.items → p.bare.items ≡ []
    → map dep_of ruled ≡ (state_of p).remaining
remains p ruled e b =
    ap (λ (z : List RuledDep). map dep_of z) e ∙ (sym (append-nil (map dep_of p.ruled.items))
    ∙ ap (λ (z : List Dependence). map dep_of p.ruled.items ++ z) (sym b))

-- their rows are those of the run
pub ruled_by : (budget : ℕ) (xs : List RuledDep) → AreRules budget xs → AreRuledBy budget xs
ruled_by budget xs rules k d l = (rules k d l).1

pub all_ruled : (budget : ℕ) (xs : List RuledDep) → AreRuledBy budget xs → All (IsRuledBy budget) (map dep_of xs)
all_ruled budget xs h = All-map (IsRuledBy budget) dep_of xs (λ k x l. (slice_index_or xs k x, h k x l))

-- the posed system of the state
pub posed_at : (p : Progress) (ruled : List RuledDep) (vs : List Vectors) (posed : Constraints) → ruled ≡ p.ruled.items
    → vs ≡ p.vectors.items → p.bare.items ≡ [] → AreRules p.search.now.budget p.ruled.items
    → posed ≡ posed_system p.search.now.parameters p.search.now.loops.now ruled (map shown vs)
    → IsPosedAt p.search.now.parameters p.search.now.loops.now p.search.now.budget (state_of p) posed
posed_at p ruled vs posed e f b rules is =
    record {
      ruled = ruled;
      vectors = map shown vs;
      deps = remains p ruled e b;
      by_run = subst (AreRuledBy p.search.now.budget) (sym e) (ruled_by p.search.now.budget p.ruled.items rules);
      vectors_are = subst (λ (z : List Vectors). AreVectorsOf p.search.now.loops.now (rows_of (state_of p)) (map shown z))
          (sym f) p.good.vectors;
      system = is;
    }
