-- A candidate of a kernel's model can be posed: nothing on the way is too wide.
use Rattle.dataflow.proofs.Common.{◌≡◌, ℕ, zero, suc, ◌+◌, ◌-◌, ◌^◌, ◌≤◌, ℤ, negsuc, List, [], ◌∷◌, ◌++◌, length, map}
use Rattle.dataflow.proofs.Common.{Some, take, drop, get_or, ap, ap₂, subst, sym, ◌∙◌, refl, arith, length-append, All}
use Rattle.dataflow.proofs.Common.{slice_get, length-map, All-nil, All-cons, All-head, All-tail, All-append, Affine}
use Rattle.dataflow.proofs.Common.{composed, IsKernel, IsPlaced, ranks_of, In, Placed, statements_of, Program}
use Rattle.dataflow.proofs.Common.{in_from_place, Constraints, variables_in, variable, variables, equalities_in}
use Rattle.dataflow.proofs.Common.{rows_in, Modelled, KernelModel, modelled, model_of, Dependence, size, form_size}
use Rattle.dataflow.proofs.Common.{CanCompose, IsKernelModel, IsNarrow, model_is_one, length-variables, sized-variables}
use Rattle.dataflow.proofs.Common.{loops_of, pair_size, conflicts_of, source_form, target_form, cell_rows, HasParts}
use Rattle.dataflow.proofs.Common.{CanPose, top, below, all_below, moved_pair, moved_variables, flat, own}
use Rattle.dataflow.proofs.Common.{own_equalities_of, reader_begins, turned, writer_end, reader_end, writer_side}
use Rattle.dataflow.proofs.Common.{reader_side}
use Rattle.scop_syntax.proofs.Common.{◌*◌, AreAtMost, All-weaker}
use Rattle.affine_forms.specs.Parts.{variables_of}
use Rattle.quast_joins.specs.declared.way.Way.{Way}
use Rattle.quast_joins.specs.declared.way.Way.TheVariants.{Later, Earlier}
use Rattle.iteration_domains.specs.Sizes.{forms_size}
use Rattle.iteration_domains.proofs.NarrowStatements.{statement_narrow}
use Rattle.iteration_domains.proofs.Sizes.{size-multiple, size-variable, size-variables}
use Rattle.conflict_deps.proofs.Shapes.{Fits}
use Rattle.conflict_deps.proofs.Systems.{conflict_fits}
use Rattle.dataflow.specs.Posed.{IsSmall}
use Rattle.dataflow.proofs.CandidateSolutions.{writer_slot, reader_slot}
use Rattle.dataflow.proofs.Lists.{equalities_put}
use Rattle.dataflow.proofs.ResolvedWriters.{length-all_below, size-pair}

-- narrow forms are small
narrow_small : (n : ℕ) (fs : List Affine) → All (IsNarrow n) fs → All IsSmall fs
narrow_small n fs all =
    All-weaker (IsNarrow n) IsSmall (λ f is. let s = is.numbers in omega arith) fs all

fits_small : (n : ℕ) (fs : List Affine) → All (Fits n) fs → All IsSmall fs
fits_small n fs all = All-weaker (Fits n) IsSmall (λ f fits. fits.numbers) fs all

-- a conflict can be posed, its source as the writer
pose_behind : (program : Program) (dep : Dependence) (p : HasParts (model_of program) dep) → IsKernel program
    → ((q : Placed) → In q (statements_of program) → IsPlaced (ranks_of program) (length program.parameters) q)
    → In dep (conflicts_of (model_of program))
    → CanPose (length program.parameters) p.from.statement p.to.statement dep
pose_behind program dep p is placed h =
    let model = model_of program in
    let m = length program.parameters in
    let s = p.from in
    let t = p.to in
    let ds = s.statement.domain in
    let dt = t.statement.domain in
    let fit = conflict_fits program dep is placed h in
    let n = variables_in dep.system in
    let own = statement_narrow program s.statement is placed
    (in_from_place model.statements dep.source.statement s.statement p.source) in
    let other = statement_narrow program t.statement is placed
    (in_from_place model.statements dep.target.statement t.statement p.target) in
    let e1 = map (source_form (loops_of s) (loops_of t)) ds.equalities in
    let e2 = map (target_form (loops_of s)) dt.equalities in
    let e3 = equalities_in (cell_rows s t) ++ equalities_in p.order.rows in
    let r1 = map (source_form (loops_of s) (loops_of t)) ds.rows in
    let r2 = map (target_form (loops_of s)) dt.rows in
    let r3 = rows_in p.order.rows in
    let v = variables (pair_size m s t) (loops_of s + loops_of t) m in
    let le = ap length p.equalities in
    let le1 = length-append e1 (e2 ++ e3) in
    let le2 = length-append e2 e3 in
    let la = length-map ds.equalities (source_form (loops_of s) (loops_of t)) in
    let lb = length-map dt.equalities (target_form (loops_of s)) in
    let lr = ap length p.rows in
    let lr1 = length-append r1 (r2 ++ (r3 ++ v)) in
    let lr2 = length-append r2 (r3 ++ v) in
    let lr3 = length-append r3 v in
    let lc = length-map ds.rows (source_form (loops_of s) (loops_of t)) in
    let ld = length-map dt.rows (target_form (loops_of s)) in
    let lv = length-variables (pair_size m s t) (loops_of s + loops_of t) m in
    record {
      few = is.few_parameters;
      few_turns = own.few;
      few_reader_turns = other.few;
      parameters = other.parameters;
      variables = ap (λ (d : Dependence). variables_in d.system) p.is;
      equalities = omega arith;
      rows = omega arith;
      small_equalities = fits_small n dep.system.equalities fit.equalities;
      small_rows = fits_small n dep.system.rows fit.rows;
      small_reader_equalities = narrow_small (loops_of t + m) dt.equalities other.equalities;
      small_reader_rows = narrow_small (loops_of t + m) dt.rows other.rows;
    }

-- and either way
can_pose : (way : Way) (program : Program) (dep : Dependence) (p : HasParts (model_of program) dep) → IsKernel program
    → ((q : Placed) → In q (statements_of program) → IsPlaced (ranks_of program) (length program.parameters) q)
    → In dep (conflicts_of (model_of program))
    → CanPose (length program.parameters) (writer_side way p.from p.to).statement
    (reader_side way p.from p.to).statement dep
can_pose Later program dep p is placed h = pose_behind program dep p is placed h
can_pose Earlier program dep p is placed h =
    let can = pose_behind program dep p is placed h in
    let source = p.from.statement in
    let k = loops_of p.from + length program.parameters in
    let own = statement_narrow program source is placed
    (in_from_place (model_of program).statements dep.source.statement source p.source) in
    let variables = can.variables in
    let equalities = can.equalities in
    let rows = can.rows in
    record {
      few = can.few;
      few_turns = can.few_reader_turns;
      few_reader_turns = can.few_turns;
      parameters = own.parameters;
      variables = omega arith;
      equalities = omega arith;
      rows = omega arith;
      small_equalities = can.small_equalities;
      small_rows = can.small_rows;
      small_reader_equalities = narrow_small k source.domain.equalities own.equalities;
      small_reader_rows = narrow_small k source.domain.rows own.rows;
    }

-- the sizes of what is put in
size-one_below : (n j : ℕ) → form_size (below top n j) ≤ 2 ^ 46 + 1
size-one_below n j =
    let m = size-multiple (negsuc 0) (variable n j) in
    let v = size-variable n j in
    omega arith

sizes-below : (n j m : ℕ) → forms_size (all_below top n j m) ≤ m * (2 ^ 46 + 1)
sizes-below n j zero = omega arith
sizes-below n j (suc m) = let b = size-one_below n j in let r = sizes-below n (j + 1) m in omega arith

sizes-append : (fs gs : List Affine) → forms_size (fs ++ gs) ≡ forms_size fs + forms_size gs
sizes-append [] gs = omega arith
sizes-append (f ∷ fs) gs = let r = sizes-append fs gs in omega arith

entries_at_most : (k : ℕ) (zs : List ℤ) → size zs ≤ k → AreAtMost k zs
entries_at_most k [] h = tt
entries_at_most k (z ∷ zs) h = (omega arith, entries_at_most k zs (omega arith))

-- small forms can be composed with small ones
can_compose : (n k : ℕ) (inner fs : List Affine) → length inner ≡ k → All (λ g. variables_of g ≡ n) inner
    → forms_size inner ≤ 2 ^ 50 → All (λ f. variables_of f ≡ k) fs → All IsSmall fs → All (CanCompose n inner) fs
can_compose n k inner [] count sized few over small = All-nil (CanCompose n inner)
can_compose n k inner (f ∷ fs) count sized few over small =
    let own = All-head (λ f. variables_of f ≡ k) f fs over in
    let s = All-head IsSmall f fs small in
    All-cons (CanCompose n inner) f fs
    (record {
      count = count ∙ sym own;
      sized = sized;
      greatest = 2 ^ 48;
      entries = entries_at_most (2 ^ 48) f.coefficients (omega arith);
      small = omega arith;
    })
    (can_compose n k inner fs count sized few (All-tail (λ f. variables_of f ≡ k) f fs over)
    (All-tail IsSmall f fs small))

-- three lists of such, one behind another
three_can : (n k : ℕ) (a b c fs : List Affine) → length a + (length b + length c) ≡ k
    → All (λ g. variables_of g ≡ n) (a ++ (b ++ c)) → forms_size a + (forms_size b + forms_size c) ≤ 2 ^ 50
    → All (λ f. variables_of f ≡ k) fs → All IsSmall fs → All (CanCompose n (a ++ (b ++ c))) fs
three_can n k a b c fs count sized few over small =
    let l = length-append a (b ++ c) in
    let l2 = length-append b c in
    let s = sizes-append a (b ++ c) in
    let s2 = sizes-append b c in
    can_compose n k (a ++ (b ++ c)) fs (omega arith) sized (omega arith) over small

-- those of a conflict's system, of d turns of the writer and e of the reader, and m parameters
turned_can : (way : Way) (d m e : ℕ) (fs : List Affine) → d ≤ 5 → m ≤ 4 → e ≤ 5
    → All (λ f. variables_of f ≡ d + e + m) fs → All IsSmall fs
    → All (CanCompose (d + (m + e)) (moved_pair way d m e)) fs
turned_can Later d m e fs hd hm he over small =
    let n = d + (m + e) in
    let la = length-all_below top n 0 d in
    let lb = length-variables n (d + m) e in
    let lc = length-variables n d m in
    let sa = sizes-below n 0 d in
    let sb = size-variables n (d + m) e in
    let sc = size-variables n d m in
    three_can n (d + e + m) (all_below top n 0 d) (variables n (d + m) e) (variables n d m) fs (omega arith)
    (size-pair Later d m e) (omega arith) over small
turned_can Earlier d m e fs hd hm he over small =
    let n = d + (m + e) in
    let la = length-variables n (d + m) e in
    let lb = length-variables n 0 d in
    let lc = length-variables n d m in
    let sa = size-variables n (d + m) e in
    let sb = size-variables n 0 d in
    let sc = size-variables n d m in
    three_can n (d + e + m) (variables n (d + m) e) (variables n 0 d) (variables n d m) fs (omega arith)
    (size-pair Earlier d m e) (omega arith) over small

-- those of the reader's domain
pub moved_can : (m e : ℕ) (fs : List Affine) → m ≤ 4 → e ≤ 5 → All (λ f. variables_of f ≡ e + m) fs → All IsSmall fs
    → All (CanCompose (m + e) (moved_variables m e)) fs
moved_can m e fs hm he over small =
    let n = m + e in
    let P : Affine → Type 0 = λ g. variables_of g ≡ n in
    let b = variables n m e in
    let c = variables n 0 m in
    let lb = length-variables n m e in
    let lc = length-variables n 0 m in
    let l = length-append b c in
    let s = sizes-append b c in
    let sb = size-variables n m e in
    let sc = size-variables n 0 m in
    can_compose n (e + m) (moved_variables m e) fs (omega arith)
    (All-append P b c (sized-variables n m e) (sized-variables n 0 m)) (omega arith) over small

-- a list of a conflict's system, by what the calls lend
pub own_can : (way : Way) (m : ℕ) (s t : Modelled) (dep : Dependence) (system : Constraints) (inner : List Affine)
    (a b : ℕ) (fs whole : List Affine) → CanPose m s t dep → system ≡ dep.system
    → inner ≡ moved_pair way s.domain.dimensions m t.domain.dimensions → a ≡ s.domain.dimensions
    → b ≡ t.domain.dimensions → All (λ f. variables_of f ≡ variables_in system) fs → fs ≡ whole → All IsSmall whole
    → All (CanCompose (a + (m + b)) inner) fs
own_can way m s t dep system inner a b fs whole can same is la lb over whole_is small =
    let d = s.domain.dimensions in
    let e = t.domain.dimensions in
    subst (λ (gs : List Affine). All (CanCompose (a + (m + b)) gs) fs) (sym is)
    (subst (λ (k : ℕ). All (CanCompose k (moved_pair way d m e)) fs)
    (sym (ap₂ (λ (i k : ℕ). i + (m + k)) la lb))
    (turned_can way d m e fs can.few_turns can.few can.few_reader_turns
    (subst (λ (k : ℕ). All (λ f. variables_of f ≡ k) fs) (ap variables_in same ∙ can.variables) over)
    (subst (λ (gs : List Affine). All IsSmall gs) (sym whole_is) small)))

-- its equalities, put together
pub own_put : (way : Way) (m : ℕ) (s t : Modelled) (dep : Dependence) (inner : List Affine) (a b k j : ℕ)
    (fs start first second : List Affine) → inner ≡ moved_pair way s.domain.dimensions m t.domain.dimensions
    → a ≡ s.domain.dimensions → b ≡ t.domain.dimensions → k ≡ reader_begins way (length s.domain.equalities)
    → j ≡ length t.domain.equalities → fs ≡ dep.system.equalities
    → first ≡ start ++ flat (map (λ f. composed f inner (a + (m + b))) (take k fs))
    → second ≡ first ++ flat (map (λ f. composed f inner (a + (m + b))) (take (length fs - (k + j)) (drop (k + j) fs)))
    → second ≡ start
    ++ flat (map (turned way s.domain.dimensions m t.domain.dimensions) (own_equalities_of way s t dep))
own_put way m s t dep inner a b k j fs start first second is la lb lk lj whole_is one two =
    let d = s.domain.dimensions in
    let e = t.domain.dimensions in
    let h = turned way d m e in
    equalities_put (λ f. composed f inner (a + (m + b))) fs k j start first second one two
    ∙ (ap₂ (λ (gs : List Affine) (i : ℕ). start ++ flat (map (λ f. composed f gs i) (own k j fs))) is
    (ap₂ (λ (i k : ℕ). i + (m + k)) la lb)
    ∙ (ap₂ (λ (x y : ℕ). start ++ flat (map h (own x y fs))) lk lj
    ∙ ap (λ (gs : List Affine). start ++ flat (map h
    (own (reader_begins way (length s.domain.equalities)) (length t.domain.equalities) gs))) whole_is))

-- a list of the reader's domain
pub reader_can : (m e : ℕ) (t : Modelled) (system : Constraints) (inner fs whole : List Affine) → m ≤ 4 → e ≤ 5
    → system ≡ t.domain → t.domain.parameters ≡ m → e ≡ t.domain.dimensions → inner ≡ moved_variables m e
    → All (λ f. variables_of f ≡ variables_in system) fs → fs ≡ whole → All IsSmall whole
    → All (CanCompose (m + e) inner) fs
reader_can m e t system inner fs whole hm he same count long is over whole_is small =
    let n : variables_in system ≡ e + m =
    ap variables_in same ∙ ap₂ (λ (i k : ℕ). i + k) (sym long) count in
    subst (λ (gs : List Affine). All (CanCompose (m + e) gs) fs) (sym is)
    (moved_can m e fs hm he (subst (λ (k : ℕ). All (λ f. variables_of f ≡ k) fs) n over)
    (subst (λ (gs : List Affine). All IsSmall gs) (sym whole_is) small))

-- a candidate's statements, between which it can be posed
pub record IsReady (way : Way) (model : KernelModel) (dep : Dependence) : Type 0 where
  pub writer : Modelled
  pub reader : Modelled
  pub writes : slice_get model.statements (writer_end way dep).statement ≡ Some writer
  pub reads : slice_get model.statements (reader_end way dep).statement ≡ Some reader
  pub can : CanPose model.parameters writer reader dep

pub ready : (way : Way) (program : Program) (model : KernelModel) (dep : Dependence) → IsKernel program
    → model ≡ model_of program
    → ((p q : Placed) → In p (statements_of program) → In q (statements_of program) → p.number ≡ q.number → p ≡ q)
    → ((k : ℕ) (p : Placed) → slice_get (statements_of program) k ≡ Some p → p.number ≡ k)
    → ((q : Placed) → In q (statements_of program) → IsPlaced (ranks_of program) (length program.parameters) q)
    → ((m : KernelModel) (d : Dependence) → IsKernelModel m → In d (conflicts_of m) → HasParts m d)
    → In dep (conflicts_of model) → IsReady way model dep
ready way program model dep is e same number placed parts =
    subst (λ (m : KernelModel). In dep (conflicts_of m) → IsReady way m dep) (sym e) (λ h.
    let m = length program.parameters in
    let one = model_is_one program m (map (modelled m) (statements_of program)) is same number refl in
    let p = parts (model_of program) dep one h in
    record {
      writer = (writer_side way p.from p.to).statement;
      reader = (reader_side way p.from p.to).statement;
      writes = writer_slot way program dep p;
      reads = reader_slot way program dep p;
      can = can_pose way program dep p is placed h;
    })

-- what stands at a place
pub got_or : {A : Type 0} (xs : List A) (k : ℕ) (x d : A) → slice_get xs k ≡ Some x → get_or xs k d ≡ x
got_or [] k x d h = absurd cc
got_or (y ∷ xs) zero x d h = cc
got_or (y ∷ xs) (suc k) x d h = got_or xs k x d h

-- the statement at an index
pub item_is : (ss whole : List Modelled) (k j : ℕ) (item x : Modelled) → ss ≡ whole → k ≡ j → item ≡ get_or ss k item
    → slice_get whole j ≡ Some x → item ≡ x
item_is ss whole k j item x same at found h =
    found ∙ (ap₂ (λ (us : List Modelled) (i : ℕ). get_or us i item) same at ∙ got_or whole j x item h)
