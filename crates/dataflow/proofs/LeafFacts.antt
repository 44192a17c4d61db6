-- The leaves of an access's quast and the writers that they name can be told.
use Rattle.dataflow.proofs.Common.{◌≡◌, ℕ, suc, ◌+◌, ◌≤◌, Bool, true, false, ℤ, pos, negsuc, List, [], ◌∷◌, ◌++◌}
use Rattle.dataflow.proofs.Common.{length, Option, Some, None, Result, ap, subst, sym, ◌∙◌, refl, arith, get_or, drop}
use Rattle.dataflow.proofs.Common.{add-one, drop-cons, ◌<◌, if◌then◌else◌, All, ◌*ℤ◌, neg_ℤ, ◌≤ℤ◌, ints, All-nil}
use Rattle.dataflow.proofs.Common.{All-cons, All-head, All-tail, All-append, Affine, fits, In, in_from_place, Source}
use Rattle.dataflow.proofs.Common.{Tree, leaf, branch, bind, count, Speaks, Turn, up, down, bound, LeafPath, leaf_paths}
use Rattle.dataflow.proofs.Common.{binds_in, AreOver, CanTell, HasForms, leaf_limit, IsWithin, AreWithin, IsFormWithin}
use Rattle.dataflow.proofs.Common.{AreFormsWithin, LeavesWithin, Modelled, KernelModel, IsKernelModel, Side, loops_of}
use Rattle.dataflow.proofs.Common.{conflicts_at, told_deps, Halt, Stopped, chosen_deps, Dependence, written_side}
use Rattle.dataflow.proofs.Common.{written_of, writer_of, HoldsRows, HoldsOpposite, HoldOpposites, CanTellWriter}
use Rattle.dataflow.proofs.Common.{CanTellAll, IsInstance, NamesInstances, IsQuastOver}
use Rattle.scop_syntax.proofs.Common.{not, append_assoc, All-filter, all_in}
use Rattle.whole_numbers.proofs.Fits.{fits_range}
use Rattle.quast_trees.specs.Tree.{initial}
use Rattle.quast_trees.specs.Paths.{path_to, behind, has_no_point}
use Rattle.iteration_domains.specs.Sizes.{HaveOneCount}
use Rattle.dataflow.specs.ReadSources.{Unresolves}
use Rattle.dataflow.specs.declared.source.SourceStop.{SourceStop}
use Rattle.quast_joins.specs.declared.way.Way.{Way}
use Rattle.dataflow.proofs.CoverEnds.{written_is}
use Rattle.dataflow.proofs.LeafForms.{opposed_of}
use Rattle.quast_joins.specs.Ways as ways
use Rattle.dataflow.specs.declared.source.SourceStop.TheVariants as stop

-- all that a tree says of a leaf by its place: n variables stand at the root
pub record IsLeafOf (model : KernelModel) (n most : ℕ) (p : LeafPath) : Type 0 where
  pub over : AreOver n p.turns
  pub short : length p.turns + 1 ≤ most
  pub turns : All HoldsRows p.turns
  pub forms : All (λ f. length f.coefficients ≡ n + binds_in p.turns) p.leaf.forms
  pub named : IsInstance model p.leaf.source
  pub count : length p.leaf.forms ≡ length (ways.loops_of p.leaf.source)
  pub held : All HoldsOpposite p.leaf.forms

-- numbers within 2^125 have opposites
opposite_fits : (z : ℤ) → IsWithin leaf_limit z → fits (negsuc 0 *ℤ z) ≡ true
opposite_fits z within =
    let low = within.0 in
    let high = within.1 in
    (fits_range (negsuc 0 *ℤ z)).1 (omega (arith, ints, low, high), omega (arith, ints, low, high))

opposites_fit : (zs : List ℤ) → AreWithin leaf_limit zs → HoldOpposites zs
opposites_fit [] h = All-nil (λ c. fits (negsuc 0 *ℤ c) ≡ true)
opposites_fit (z ∷ zs) h =
    All-cons (λ c. fits (negsuc 0 *ℤ c) ≡ true) z zs (opposite_fits z h.0) (opposites_fit zs h.1)

opposite_held : (f : Affine) → IsFormWithin leaf_limit f → HoldsOpposite f
opposite_held f h =
    let same : negsuc 0 *ℤ f.constant ≡ neg_ℤ f.constant = omega (arith, ints) in
    record {
      coefficients = opposites_fit f.coefficients h.0;
      constant = ap fits (sym same) ∙ opposite_fits f.constant h.1;
    }

forms_held : (fs : List Affine) → AreFormsWithin leaf_limit fs → All HoldsOpposite fs
forms_held [] h = All-nil HoldsOpposite
forms_held (f ∷ fs) h = All-cons HoldsOpposite f fs (opposite_held f h.0) (forms_held fs h.1)

-- one turn before paths that a subtree has
under : (model : KernelModel) (n most : ℕ) (k : ℕ) (t : Turn) (ps : List LeafPath)
    → ((p : LeafPath) → IsLeafOf model (n + k) most p → IsLeafOf model n (most + 1) (path_to (t ∷ p.turns) p.leaf))
    → All (IsLeafOf model (n + k) most) ps → All (IsLeafOf model n (most + 1)) (behind t ps)
under model n most k t [] lift h = All-nil (IsLeafOf model n (most + 1))
under model n most k t (p ∷ ps) lift h =
    All-cons (IsLeafOf model n (most + 1)) (path_to (t ∷ p.turns) p.leaf) (behind t ps)
    (lift p (All-head (IsLeafOf model (n + k) most) p ps h))
    (under model n most k t ps lift (All-tail (IsLeafOf model (n + k) most) p ps h))

weaker : (model : KernelModel) (n a b : ℕ) (ps : List LeafPath) → a ≤ b → All (IsLeafOf model n a) ps
    → All (IsLeafOf model n b) ps
weaker model n a b [] less h = All-nil (IsLeafOf model n b)
weaker model n a b (p ∷ ps) less h =
    let q = All-head (IsLeafOf model n a) p ps h in
    let short = q.short in
    All-cons (IsLeafOf model n b) p ps
    (record {
      over = q.over;
      short = omega arith;
      turns = q.turns;
      forms = q.forms;
      named = q.named;
      count = q.count;
      held = q.held;
    }) (weaker model n a b ps less (All-tail (IsLeafOf model n a) p ps h))

test_lifts : (model : KernelModel) (n most : ℕ) (t : Turn) → HoldsRows t → binds_in (t ∷ []) ≡ 0
    → ((ts : List Turn) → AreOver n ts → AreOver n (t ∷ ts)) → ((ts : List Turn) → binds_in (t ∷ ts) ≡ binds_in ts)
    → (p : LeafPath) → IsLeafOf model (n + 0) most p → IsLeafOf model n (most + 1) (path_to (t ∷ p.turns) p.leaf)
test_lifts model n most t own none over same p q =
    let plain : n + 0 ≡ n = omega arith in
    let short = q.short in
    let wide : n + 0 + binds_in p.turns ≡ n + binds_in (t ∷ p.turns) =
    let s = same p.turns in omega arith in
    record {
      over = over p.turns (subst (λ i. AreOver i p.turns) plain q.over);
      short = omega arith;
      turns = All-cons HoldsRows t p.turns own q.turns;
      forms = subst (λ i. All (λ f. length f.coefficients ≡ i) p.leaf.forms) wide q.forms;
      named = q.named;
      count = q.count;
      held = q.held;
    }

bind_lifts : (model : KernelModel) (n most : ℕ) (f : Affine) (d : ℤ) → HoldsRows (bound f d)
    → length f.coefficients ≡ n → pos 1 ≤ℤ d
    → (p : LeafPath) → IsLeafOf model (n + 1) most p
    → IsLeafOf model n (most + 1) (path_to (bound f d ∷ p.turns) p.leaf)
bind_lifts model n most f d own size positive p q =
    let up_one : n + 1 ≡ suc n = omega arith in
    let short = q.short in
    let wide : n + 1 + binds_in p.turns ≡ n + suc (binds_in p.turns) = omega arith in
    record {
      over = (size, positive, subst (λ i. AreOver i p.turns) up_one q.over);
      short = omega arith;
      turns = All-cons HoldsRows (bound f d) p.turns own q.turns;
      forms = subst (λ i. All (λ g. length g.coefficients ≡ i) p.leaf.forms) wide q.forms;
      named = q.named;
      count = q.count;
      held = q.held;
    }

-- the leaves of a tree
pub leaves_are : (model : KernelModel) (n : ℕ) (t : Tree) → Speaks n t → NamesInstances model t → HasForms t
    → CanTell t → LeavesWithin leaf_limit t → All (IsLeafOf model n (count t)) (leaf_paths t)
leaves_are model n initial speaks named forms told within = All-nil (IsLeafOf model n 1)
leaves_are model n (leaf l) speaks named forms told within =
    let same : n ≡ n + 0 = omega arith in
    All-cons (IsLeafOf model n 1) (path_to [] l) []
    (record {
      over = tt;
      short = omega arith;
      turns = All-nil HoldsRows;
      forms = subst (λ i. All (λ f. length f.coefficients ≡ i) l.forms) same speaks.1;
      named = named;
      count = forms;
      held = forms_held l.forms within;
    }) (All-nil (IsLeafOf model n 1))
leaves_are model n (branch f x y) speaks named forms told within =
    let plain : n + 0 ≡ n = omega arith in
    let first = leaves_are model n x speaks.1 named.0 forms.0 told.1 within.0 in
    let second = leaves_are model n y speaks.2 named.1 forms.1 told.2 within.1 in
    let whole = count x + count y + 1 in
    let ups = under model n (count x) 0 (up f) (leaf_paths x)
    (test_lifts model n (count x) (up f) tt refl (λ ts h. (speaks.0, h)) (λ ts. refl))
    (subst (λ i. All (IsLeafOf model i (count x)) (leaf_paths x)) (sym plain) first) in
    let downs = under model n (count y) 0 (down f) (leaf_paths y)
    (test_lifts model n (count y) (down f) (opposed_of f.coefficients told.0.coefficients) refl
    (λ ts h. (speaks.0, h)) (λ ts. refl))
    (subst (λ i. All (IsLeafOf model i (count y)) (leaf_paths y)) (sym plain) second) in
    All-append (IsLeafOf model n whole) (behind (up f) (leaf_paths x)) (behind (down f) (leaf_paths y))
    (weaker model n (count x + 1) whole (behind (up f) (leaf_paths x)) (omega arith) ups)
    (weaker model n (count y + 1) whole (behind (down f) (leaf_paths y)) (omega arith) downs)
leaves_are model n (bind f d x) speaks named forms told within =
    under model n (count x) 1 (bound f d) (leaf_paths x)
    (bind_lifts model n (count x) f d (told.0, told.1) speaks.0 speaks.1)
    (leaves_are model (n + 1) x speaks.2 named forms told.2 within)

-- a writer that is named has the loops that the leaf names
named_loops : (model : KernelModel) (o : Option Source) (w : Side) → IsInstance model o → writer_of model o ≡ Some w
    → In w.statement model.statements × (length (ways.loops_of o) ≡ length w.statement.loops)
named_loops model None w h e = absurd h
named_loops model (Some s) w h e =
    let there : written_side h.0 h.0.accesses ≡ Some w =
    sym (ap written_of h.1) ∙ e in
    let same = written_is h.0 h.0.accesses w there in (
      subst (λ (t : Modelled). In t model.statements) (sym same) (in_from_place model.statements s.statement h.0 h.1),
      ap (λ (ls : List ℕ). length ls) h.2 ∙ ap (λ (t : Modelled). length t.loops) (sym same),
    )

pub all_told : (model : KernelModel) (reader : Side) (t : Tree) → IsKernelModel model → In reader.statement model.statements
    → IsQuastOver model (model.parameters + loops_of reader) t → CanTell t → LeavesWithin leaf_limit t
    → CanTellAll model reader t
all_told model reader t one there quast told within =
    let n = model.parameters + loops_of reader in
    let few = quast.few in
    let ps = leaf_paths t in
    let leaves = leaves_are model n t quast.speaks quast.leaves quast.forms told within in
    All-filter (λ p. not (has_no_point p)) (CanTellWriter model reader) ps (each ps leaves)
  where
    each : (ps : List LeafPath) → All (IsLeafOf model (model.parameters + loops_of reader) (count t)) ps
        → All (CanTellWriter model reader) ps
    each [] h = All-nil (CanTellWriter model reader)
    each (p ∷ ps) h =
        let n = model.parameters + loops_of reader in
        let q = All-head (IsLeafOf model n (count t)) p ps h in
        let few = quast.few in
        let short = q.short in
        All-cons (CanTellWriter model reader) p ps
        (λ w named.
        let writer = named_loops model p.leaf.source w q.named named in
        record {
          one = all_in (HaveOneCount reader.statement) model.statements w.statement
              (all_in (λ s. All (HaveOneCount s) model.statements) model.statements reader.statement one.numbers there)
              writer.0;
          few = one.few_parameters;
          over = q.over;
          short = omega arith;
          turns = q.turns;
          forms = q.forms;
          count = q.count ∙ writer.1;
          held = q.held;
        })
        (each ps (All-tail (IsLeafOf model n (count t)) p ps h))

-- where an access's run stops, all conflicts with it in its role stand
pub unresolved_told : (way : Way) (model : KernelModel) (budget : ℕ) (reader : Side) (told : SourceStop)
    (r : Result Tree (Halt Stopped)) → Unresolves way model budget told r
    → told_deps way model reader r ≡ conflicts_at way model reader.statement.number reader.number
unresolved_told way model budget reader (stop.Solver told) r h = ap (told_deps way model reader) h.1
unresolved_told way model budget reader (stop.Join nodes) r h = ap (told_deps way model reader) h.1

-- a list gone through from its front, each of whose entries gives some dependences
pub given_more : {A : Type 0} (all : List A → List Dependence) (one : A → List Dependence)
    → ((a : A) (rest : List A) → all (a ∷ rest) ≡ one a ++ all rest)
    → (xs : List A) (i : ℕ) (a : A) (out next whole : List Dependence) → a ≡ get_or xs i a → i < length xs
    → out ++ all (drop i xs) ≡ whole → next ≡ out ++ one a → next ++ all (drop (i + 1) xs) ≡ whole
given_more all one split xs i a out next whole is h so_far put =
    let left = drop (i + 1) xs in
    let first : drop i xs ≡ get_or xs i a ∷ left = rw (add-one, drop-cons xs i a h) refl in
    let here : drop i xs ≡ a ∷ left = first ∙ ap (λ y. y ∷ left) (sym is) in
    ap (λ (ds : List Dependence). ds ++ all left) put
    ∙ (append_assoc out (one a) (all left)
    ∙ (ap (λ (ds : List Dependence). out ++ ds) (sym (ap all here ∙ split a left)) ∙ so_far))

-- a dependence is chosen, or not, and then those behind it
pub chosen_next : (test : Dependence → Bool) (d : Dependence) (ds : List Dependence)
    → chosen_deps test (d ∷ ds) ≡ chosen_deps test (d ∷ []) ++ chosen_deps test ds
chosen_next test d ds = by (test d)
  where
    by : (b : Bool) → (if b then d ∷ chosen_deps test ds else chosen_deps test ds)
        ≡ (if b then d ∷ [] else []) ++ chosen_deps test ds
    by true = refl
    by false = refl
