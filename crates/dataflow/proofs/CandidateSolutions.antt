-- A solved candidate: the least point of the posed problem, turned back, is the wanted writer's turns.
use Rattle.dataflow.proofs.Common.{◌≡◌, ℕ, ◌+◌, ◌^◌, ℤ, pos, ◌≤ℤ◌, ◌<ℤ◌, List, [], ◌∷◌, ◌++◌, length, map, Some, All}
use Rattle.dataflow.proofs.Common.{refl, sym, ap, ap₂, subst, ◌∙◌, arith, length-append, slice_get, ints, length-map}
use Rattle.dataflow.proofs.Common.{All-head, All-tail, Affine, value_of, NotNegative, not_negative-append, Program, In}
use Rattle.dataflow.proofs.Common.{in_from_place, Cell, Visit, walk_of, problem_of, row_values, IsAnswer, Tree, value}
use Rattle.dataflow.proofs.Common.{Leaf, found, Satisfies, variables, equalities_in, rows_in, Modelled, model_of}
use Rattle.dataflow.proofs.Common.{Dependence, goes_on, goes_on_last, values-variables, length-variables, Side, After}
use Rattle.dataflow.proofs.Common.{loops_of, source_form, target_form, cell_rows, pair_size, conflicts_of, TouchesAt}
use Rattle.dataflow.proofs.Common.{HasParts, value_of-source, value_of-target, flipped, IsWanted, writer_end}
use Rattle.dataflow.proofs.Common.{reader_end, writer_side, reader_side, IsCandidate, IsWritePoint, top, turned, moved}
use Rattle.dataflow.proofs.Common.{flat, own, own_equalities_of, own_rows_of, all_below, posed_rows, posed_context}
use Rattle.dataflow.proofs.Common.{turned_leaf, writer_turns, AreInRange, most_parameter, params_not_negative}
use Rattle.scop_syntax.proofs.Common.{append_assoc}
use Rattle.tableau_rows.specs.Problem.{Problem, IsPoint as IsProblemPoint}
use Rattle.quast_trees.specs.Leaf.{initial}
use Rattle.quast_joins.specs.declared.way.Way.{Way}
use Rattle.quast_joins.specs.declared.way.Way.TheVariants.{Later, Earlier}
use Rattle.iteration_domains.proofs.RowLaws.{GoesOn}
use Rattle.dataflow.specs.Problems.{own_rows}
use Rattle.dataflow.proofs.Maxima.{length-turns, turns_twice, wanted_from_min}
use Rattle.dataflow.proofs.AccessWriters.{Laws, point_is_writer}
use Rattle.dataflow.proofs.ProblemPoints.{Zero, Up, zero_of_all, all_of_zero, up_of_all, all_of_up, zero-append}
use Rattle.dataflow.proofs.ProblemPoints.{zero_parts, up-append, up_parts, zero_mapped, zero_unmapped, up_mapped}
use Rattle.dataflow.proofs.ProblemPoints.{up_unmapped, flat_up, up_flat, up_rows, rows_up, pair_point, turned-value}
use Rattle.dataflow.proofs.ProblemPoints.{moved-value, below_up, own_is, own_rows_is}

-- forms of a pair's sides over the variables of the pair
abbrev writer_form : Way → Side → Side → Affine → Affine
writer_form Later s t = source_form (loops_of s) (loops_of t)
writer_form Earlier s t = target_form (loops_of s)

abbrev reader_form : Way → Side → Side → Affine → Affine
reader_form Later s t = target_form (loops_of s)
reader_form Earlier s t = source_form (loops_of s) (loops_of t)

-- the parts of a conflict's system: what the writer's domain gives, the reader's, and what belongs to the pair
abbrev WE : Way → Side → Side → List Affine
WE way s t = map (writer_form way s t) (writer_side way s t).statement.domain.equalities

abbrev RE : Way → Side → Side → List Affine
RE way s t = map (reader_form way s t) (reader_side way s t).statement.domain.equalities

abbrev PE : Side → Side → After → List Affine
PE s t a = equalities_in (cell_rows s t) ++ equalities_in a.rows

abbrev WR : Way → Side → Side → List Affine
WR way s t = map (writer_form way s t) (writer_side way s t).statement.domain.rows

abbrev RR : Way → Side → Side → List Affine
RR way s t = map (reader_form way s t) (reader_side way s t).statement.domain.rows

abbrev V : ℕ → Side → Side → List Affine
V m s t = variables (pair_size m s t) (loops_of s + loops_of t) m

-- these hold at a point
record Holds (way : Way) (m : ℕ) (s t : Side) (a : After) (x : List ℤ) : Type 0 where
  pub writer_equalities : Zero (WE way s t) x
  pub reader_equalities : Zero (RE way s t) x
  pub pair_equalities : Zero (PE s t a) x
  pub writer_rows : Up (WR way s t) x
  pub reader_rows : Up (RR way s t) x
  pub order : Up (rows_in a.rows) x
  pub parameters : Up (V m s t) x

-- where they do, the other way round they do
turned_round : (m : ℕ) (s t : Side) (a : After) (x : List ℤ) → Holds Later m s t a x → Holds Earlier m s t a x
turned_round m s t a x h =
    record {
      writer_equalities = h.reader_equalities;
      reader_equalities = h.writer_equalities;
      pair_equalities = h.pair_equalities;
      writer_rows = h.reader_rows;
      reader_rows = h.writer_rows;
      order = h.order;
      parameters = h.parameters;
    }

turned_again : (m : ℕ) (s t : Side) (a : After) (x : List ℤ) → Holds Earlier m s t a x → Holds Later m s t a x
turned_again m s t a x h =
    record {
      writer_equalities = h.reader_equalities;
      reader_equalities = h.writer_equalities;
      pair_equalities = h.pair_equalities;
      writer_rows = h.reader_rows;
      reader_rows = h.writer_rows;
      order = h.order;
      parameters = h.parameters;
    }

-- a point of the system is one at which they hold
parts_behind : (program : Program) (dep : Dependence) (p : HasParts (model_of program) dep) (x : List ℤ)
    → Satisfies dep.system x → Holds Later (length program.parameters) p.from p.to p.order x
parts_behind program dep p x holds =
    let s = p.from in
    let t = p.to in
    let M = length program.parameters in
    let order = rows_in p.order.rows in
    let eqs = zero_parts (WE Later s t) (RE Later s t ++ PE s t p.order) x
    (subst (λ (fs : List Affine). Zero fs x) p.equalities (zero_of_all dep.system.equalities x holds.0)) in
    let rest = zero_parts (RE Later s t) (PE s t p.order) x eqs.1 in
    let ups = up_parts (WR Later s t) (RR Later s t ++ (order ++ V M s t)) x
    (subst (λ (fs : List Affine). Up fs x) p.rows (up_of_all dep.system.rows x holds.1)) in
    let behind = up_parts (RR Later s t) (order ++ V M s t) x ups.1 in
    let last = up_parts order (V M s t) x behind.1 in
    record {
      writer_equalities = eqs.0;
      reader_equalities = rest.0;
      pair_equalities = rest.1;
      writer_rows = ups.0;
      reader_rows = behind.0;
      order = last.0;
      parameters = last.1;
    }

parts_hold : (way : Way) (program : Program) (dep : Dependence) (p : HasParts (model_of program) dep) (x : List ℤ)
    → Satisfies dep.system x → Holds way (length program.parameters) p.from p.to p.order x
parts_hold Later program dep p x holds = parts_behind program dep p x holds
parts_hold Earlier program dep p x holds =
    turned_round (length program.parameters) p.from p.to p.order x (parts_behind program dep p x holds)

-- and back
behind_holds : (program : Program) (dep : Dependence) (p : HasParts (model_of program) dep) (x : List ℤ)
    → Holds Later (length program.parameters) p.from p.to p.order x → Satisfies dep.system x
behind_holds program dep p x h =
    let s = p.from in
    let t = p.to in
    let M = length program.parameters in
    let order = rows_in p.order.rows in (
      all_of_zero dep.system.equalities x
          (subst (λ (fs : List Affine). Zero fs x) (sym p.equalities)
          (zero-append (WE Later s t) (RE Later s t ++ PE s t p.order) x h.writer_equalities
          (zero-append (RE Later s t) (PE s t p.order) x h.reader_equalities h.pair_equalities))),
      all_of_up dep.system.rows x
          (subst (λ (fs : List Affine). Up fs x) (sym p.rows)
          (up-append (WR Later s t) (RR Later s t ++ (order ++ V M s t)) x h.writer_rows
          (up-append (RR Later s t) (order ++ V M s t) x h.reader_rows
          (up-append order (V M s t) x h.order h.parameters)))),
    )

hold_parts : (way : Way) (program : Program) (dep : Dependence) (p : HasParts (model_of program) dep) (x : List ℤ)
    → Holds way (length program.parameters) p.from p.to p.order x → Satisfies dep.system x
hold_parts Later program dep p x h = behind_holds program dep p x h
hold_parts Earlier program dep p x h =
    behind_holds program dep p x (turned_again (length program.parameters) p.from p.to p.order x h)

-- a system's forms but those of the reader's domain
own_equalities : (way : Way) (program : Program) (dep : Dependence) (p : HasParts (model_of program) dep)
    → own_equalities_of way (writer_side way p.from p.to).statement (reader_side way p.from p.to).statement dep
    ≡ WE way p.from p.to ++ PE p.from p.to p.order
own_equalities Later program dep p =
    let s = p.from in
    let t = p.to in
    let a = length-map s.statement.domain.equalities (writer_form Later s t) in
    let b = length-map t.statement.domain.equalities (reader_form Later s t) in
    ap₂ (λ (i k : ℕ). own i k dep.system.equalities) (sym a) (sym b)
    ∙ (ap (own (length (WE Later s t)) (length (RE Later s t))) p.equalities
    ∙ own_is (WE Later s t) (RE Later s t) (PE s t p.order))
own_equalities Earlier program dep p =
    let s = p.from in
    let t = p.to in
    let b = length-map s.statement.domain.equalities (reader_form Earlier s t) in
    ap (λ (k : ℕ). own 0 k dep.system.equalities) (sym b)
    ∙ (ap (own 0 (length (RE Earlier s t))) p.equalities
    ∙ own_is [] (RE Earlier s t) (WE Earlier s t ++ PE s t p.order))

own_rows_are : (way : Way) (program : Program) (dep : Dependence) (p : HasParts (model_of program) dep) (m : ℕ)
    → m ≡ length program.parameters
    → own_rows_of way (writer_side way p.from p.to).statement (reader_side way p.from p.to).statement m dep
    ≡ WR way p.from p.to ++ rows_in p.order.rows
own_rows_are Later program dep p m count =
    let s = p.from in
    let t = p.to in
    let M = length program.parameters in
    let c = length-map s.statement.domain.rows (writer_form Later s t) in
    let d = length-map t.statement.domain.rows (reader_form Later s t) in
    ap₂ (λ (i k : ℕ). own_rows i k m dep.system.rows) (sym c) (sym d)
    ∙ (ap (λ (i : ℕ). own_rows (length (WR Later s t)) (length (RR Later s t)) i dep.system.rows)
    (count ∙ sym (length-variables (pair_size M s t) (loops_of s + loops_of t) M))
    ∙ (ap (own_rows (length (WR Later s t)) (length (RR Later s t)) (length (V M s t))) p.rows
    ∙ own_rows_is (WR Later s t) (RR Later s t) (rows_in p.order.rows) (V M s t)))
own_rows_are Earlier program dep p m count =
    let s = p.from in
    let t = p.to in
    let M = length program.parameters in
    let order = rows_in p.order.rows in
    let d = length-map s.statement.domain.rows (reader_form Earlier s t) in
    ap (λ (k : ℕ). own_rows 0 k m dep.system.rows) (sym d)
    ∙ (ap (λ (i : ℕ). own_rows 0 (length (RR Earlier s t)) i dep.system.rows)
    (count ∙ sym (length-variables (pair_size M s t) (loops_of s + loops_of t) M))
    ∙ (ap (own_rows 0 (length (RR Earlier s t)) (length (V M s t)))
    (p.rows ∙ ap (λ (fs : List Affine). RR Earlier s t ++ fs) (sym (append_assoc (WR Earlier s t) order (V M s t))))
    ∙ own_rows_is [] (RR Earlier s t) (WR Earlier s t ++ order) (V M s t)))

-- the rows of the problem by the parts
posed_is : (way : Way) (program : Program) (dep : Dependence) (p : HasParts (model_of program) dep) (m : ℕ)
    → m ≡ length program.parameters
    → posed_rows way (writer_side way p.from p.to).statement (reader_side way p.from p.to).statement m dep
    ≡ flat (map (turned way (loops_of (writer_side way p.from p.to)) m (loops_of (reader_side way p.from p.to)))
    (WE way p.from p.to ++ PE p.from p.to p.order))
    ++ map (turned way (loops_of (writer_side way p.from p.to)) m (loops_of (reader_side way p.from p.to)))
    (WR way p.from p.to ++ rows_in p.order.rows)
posed_is way program dep p m count =
    let h = turned way (loops_of (writer_side way p.from p.to)) m (loops_of (reader_side way p.from p.to)) in
    ap₂ (λ (xs ys : List Affine). flat (map h xs) ++ map h ys) (own_equalities way program dep p)
    (own_rows_are way program dep p m count)

-- the reader's instance: in its domain, over parameters that are not negative
pub record Reads (params ys : List ℤ) (t : Modelled) : Type 0 where
  pub size : length ys ≡ t.domain.dimensions
  pub holds : Satisfies t.domain (ys ++ params)
  pub up : NotNegative params

-- what a form of the reader's domain is worth at a point of the pair, and where the parameters stand there
reader_value : (way : Way) (s t : Side) (xs ys params : List ℤ) (f : Affine) → length xs ≡ loops_of (writer_side way s t)
    → length ys ≡ loops_of (reader_side way s t)
    → value_of (reader_form way s t f) (pair_point way xs ys params) ≡ value_of f (ys ++ params)
reader_value Later s t xs ys params f h k = value_of-target (loops_of s) f xs (ys ++ params) h
reader_value Earlier s t xs ys params f h k = value_of-source (loops_of s) (loops_of t) f ys xs params k h

parameters_at : (us vs params : List ℤ) (k : ℕ) → length us + length vs ≡ k
    → GoesOn (us ++ (vs ++ params)) k params × (k + length params ≡ length (us ++ (vs ++ params)))
parameters_at us vs params k e =
    let a = length-append us vs in
    let b = length-append us (vs ++ params) in
    let c = length-append vs params in (
      subst (λ (i : ℕ). GoesOn (us ++ (vs ++ params)) i params) (a ∙ e)
          (subst (λ (z : List ℤ). GoesOn z (length (us ++ vs)) params) (append_assoc us vs params)
          (goes_on_last (us ++ vs) params)),
      omega arith,
    )

parameters_in : (way : Way) (s t : Side) (xs ys params : List ℤ) → length xs ≡ loops_of (writer_side way s t)
    → length ys ≡ loops_of (reader_side way s t)
    → GoesOn (pair_point way xs ys params) (loops_of s + loops_of t) params
    × (loops_of s + loops_of t + length params ≡ length (pair_point way xs ys params))
parameters_in Later s t xs ys params h k =
    parameters_at xs ys params (loops_of s + loops_of t) (ap₂ (λ (i j : ℕ). i + j) h k)
parameters_in Earlier s t xs ys params h k =
    parameters_at ys xs params (loops_of s + loops_of t) (ap₂ (λ (i j : ℕ). i + j) k h)

-- a point of the problem, turned back, is one of the system
pub turned_back : (way : Way) (program : Program) (params ys : List ℤ) (dep : Dependence)
    (p : HasParts (model_of program) dep)
    → length params ≡ length program.parameters → Reads params ys (reader_side way p.from p.to).statement
    → (xs : List ℤ) → IsProblemPoint (problem_of (loops_of (writer_side way p.from p.to))
    (posed_rows way (writer_side way p.from p.to).statement (reader_side way p.from p.to).statement (length params) dep))
    (params ++ ys) xs
    → Satisfies dep.system (pair_point way (writer_turns way xs) ys params)
turned_back way program params ys dep p count reads xs point =
    let s = p.from in
    let t = p.to in
    let m = length params in
    let M = length program.parameters in
    let writer = writer_side way s t in
    let reader = reader_side way s t in
    let h = turned way (loops_of writer) m (loops_of reader) in
    let zs = writer_turns way xs in
    let x = pair_point way zs ys params in
    let y = xs ++ (params ++ ys) in
    let same : (f : Affine) → value_of (h f) y ≡ value_of f x =
    λ f. turned-value way (loops_of writer) m (loops_of reader) xs params ys f point.size refl reads.size in
    let long : length zs ≡ loops_of writer = length-turns way xs ∙ point.size in
    let own : (f : Affine) → value_of (reader_form way s t f) x ≡ value_of f (ys ++ params) =
    λ f. reader_value way s t zs ys params f long reads.size in
    let rows : Up (flat (map h (WE way s t ++ PE s t p.order)) ++ map h (WR way s t ++ rows_in p.order.rows)) y =
    subst (λ (fs : List Affine). Up fs y) (posed_is way program dep p m count)
    (rows_up (posed_rows way writer.statement reader.statement m dep) y point.rows) in
    let both = up_parts (flat (map h (WE way s t ++ PE s t p.order))) (map h (WR way s t ++ rows_in p.order.rows)) y
    rows in
    let eqs = zero_parts (WE way s t) (PE s t p.order) x (zero_unmapped h (WE way s t ++ PE s t p.order) x y same
    (up_flat (map h (WE way s t ++ PE s t p.order)) y both.0)) in
    let ups = up_parts (WR way s t) (rows_in p.order.rows) x
    (up_unmapped h (WR way s t ++ rows_in p.order.rows) x y same both.1) in
    let at = parameters_in way s t zs ys params long reads.size in
    let size : pair_size M s t ≡ length x = ap (λ (i : ℕ). loops_of s + loops_of t + i) (sym count) ∙ at.1 in
    hold_parts way program dep p x
    (record {
      writer_equalities = eqs.0;
      reader_equalities = zero_mapped (reader_form way s t) reader.statement.domain.equalities (ys ++ params) x own
          (zero_of_all reader.statement.domain.equalities (ys ++ params) reads.holds.0);
      pair_equalities = eqs.1;
      writer_rows = ups.0;
      reader_rows = up_mapped (reader_form way s t) reader.statement.domain.rows (ys ++ params) x own
          (up_of_all reader.statement.domain.rows (ys ++ params) reads.holds.1);
      order = ups.1;
      parameters = rows_up (V M s t) x (subst NotNegative
          (sym (values-variables (pair_size M s t) (loops_of s + loops_of t) M x params size count at.0)) reads.up);
    })

-- and a point of the system, turned, is one of the problem
pub turned_to : (way : Way) (program : Program) (params ys : List ℤ) (dep : Dependence)
    (p : HasParts (model_of program) dep)
    → length params ≡ length program.parameters → length ys ≡ loops_of (reader_side way p.from p.to)
    → (xs : List ℤ) → length xs ≡ loops_of (writer_side way p.from p.to) → NotNegative (writer_turns way xs)
    → Satisfies dep.system (pair_point way xs ys params)
    → IsProblemPoint (problem_of (loops_of (writer_side way p.from p.to))
    (posed_rows way (writer_side way p.from p.to).statement (reader_side way p.from p.to).statement (length params) dep))
    (params ++ ys) (writer_turns way xs)
turned_to way program params ys dep p count wide xs size up holds =
    let s = p.from in
    let t = p.to in
    let m = length params in
    let writer = writer_side way s t in
    let reader = reader_side way s t in
    let h = turned way (loops_of writer) m (loops_of reader) in
    let x = pair_point way xs ys params in
    let zs = writer_turns way xs in
    let y = zs ++ (params ++ ys) in
    let long : length zs ≡ loops_of writer = length-turns way xs ∙ size in
    let same : (f : Affine) → value_of (h f) y ≡ value_of f x =
    λ f. turned-value way (loops_of writer) m (loops_of reader) zs params ys f long refl wide
    ∙ ap (λ (us : List ℤ). value_of f (pair_point way us ys params)) (turns_twice way xs) in
    let parts = parts_hold way program dep p x holds in
    let eqs : Zero (map h (WE way s t ++ PE s t p.order)) y = zero_mapped h (WE way s t ++ PE s t p.order) x y same
    (zero-append (WE way s t) (PE s t p.order) x parts.writer_equalities parts.pair_equalities) in
    let ups : Up (map h (WR way s t ++ rows_in p.order.rows)) y =
    up_mapped h (WR way s t ++ rows_in p.order.rows) x y same
    (up-append (WR way s t) (rows_in p.order.rows) x parts.writer_rows parts.order) in
    let all : Up (posed_rows way writer.statement reader.statement m dep) y =
    subst (λ (fs : List Affine). Up fs y) (sym (posed_is way program dep p m count))
    (up-append (flat (map h (WE way s t ++ PE s t p.order))) (map h (WR way s t ++ rows_in p.order.rows)) y
    (flat_up (map h (WE way s t ++ PE s t p.order)) y eqs) ups) in
    record {
      size = long;
      not_negative = up;
      rows = up_rows (posed_rows way writer.statement reader.statement m dep) y all;
    }

not_above : (xs : List ℤ) → All (λ x. (pos 0 ≤ℤ x) × (x <ℤ pos (2 ^ 46))) xs → NotNegative (flipped top xs)
not_above [] all = tt
not_above (x ∷ xs) all =
    let h = All-head (λ (z : ℤ). (pos 0 ≤ℤ z) × (z <ℤ pos (2 ^ 46))) x xs all in
    let h1 = h.1 in
    (omega (arith, ints), not_above xs (All-tail (λ (z : ℤ). (pos 0 ≤ℤ z) × (z <ℤ pos (2 ^ 46))) x xs all))

up_turns : (xs : List ℤ) → All (λ x. (pos 0 ≤ℤ x) × (x <ℤ pos (2 ^ 46))) xs → NotNegative xs
up_turns [] all = tt
up_turns (x ∷ xs) all = (
  (All-head (λ (z : ℤ). (pos 0 ≤ℤ z) × (z <ℤ pos (2 ^ 46))) x xs all).0,
  up_turns xs
      (All-tail (λ (z : ℤ). (pos 0 ≤ℤ z) × (z <ℤ pos (2 ^ 46))) x xs all),
)

unknowns_up : (way : Way) (xs : List ℤ) → All (λ x. (pos 0 ≤ℤ x) × (x <ℤ pos (2 ^ 46))) xs
    → NotNegative (writer_turns way xs)
unknowns_up Later xs all = not_above xs all
unknowns_up Earlier xs all = up_turns xs all

-- a point of a candidate, either way
point_holds : (way : Way) (program : Program) (params : List ℤ) (dep : Dependence) (p : HasParts (model_of program) dep)
    (xs ys : List ℤ) → IsWritePoint way program params dep xs ys
    → (length xs ≡ loops_of (writer_side way p.from p.to)) × Satisfies dep.system (pair_point way xs ys params)
point_holds Later program params dep p xs ys q =
    (q.source ∙ ap (λ (d : Dependence). d.source.loops) p.is, q.holds)
point_holds Earlier program params dep p xs ys q =
    (q.target ∙ ap (λ (d : Dependence). d.target.loops) p.is, q.holds)

is_point : (way : Way) (program : Program) (params : List ℤ) (dep : Dependence) (p : HasParts (model_of program) dep)
    (xs ys : List ℤ) → In dep (conflicts_of (model_of program)) → length xs ≡ loops_of (writer_side way p.from p.to)
    → length ys ≡ loops_of (reader_side way p.from p.to) → Satisfies dep.system (pair_point way xs ys params)
    → IsWritePoint way program params dep xs ys
is_point Later program params dep p xs ys among h k holds =
    record {
      among = among;
      source = h ∙ sym (ap (λ (d : Dependence). d.source.loops) p.is);
      target = k ∙ sym (ap (λ (d : Dependence). d.target.loops) p.is);
      holds = holds;
    }
is_point Earlier program params dep p xs ys among h k holds =
    record {
      among = among;
      source = k ∙ sym (ap (λ (d : Dependence). d.source.loops) p.is);
      target = h ∙ sym (ap (λ (d : Dependence). d.target.loops) p.is);
      holds = holds;
    }

-- what the minimum says of the problem, the turned leaf says of the writers
answer_wanted : (way : Way) (program : Program) (params : List ℤ) (j : ℕ) (w : Visit) (b : ℕ) (c : Cell)
    (dep : Dependence) (p : HasParts (model_of program) dep) (number : ℕ) (loops : List ℕ) (l : Leaf)
    → Laws program params → length params ≡ length program.parameters
    → ((k : ℕ) (u : Visit) → slice_get (walk_of program params) k ≡ Some u
    → All (λ x. (pos 0 ≤ℤ x) × (x <ℤ pos (2 ^ 46))) u.turns)
    → TouchesAt program params j w b c → IsCandidate way program w b dep
    → Reads params w.turns (reader_side way p.from p.to).statement
    → IsAnswer (problem_of (loops_of (writer_side way p.from p.to))
    (posed_rows way (writer_side way p.from p.to).statement (reader_side way p.from p.to).statement (length params) dep))
    (params ++ w.turns) l
    → IsWanted way number loops (λ xs. IsWritePoint way program params dep xs w.turns) (turned_leaf way number loops l)
answer_wanted way program params j w b c dep p number loops l laws count small touches cand reads answer =
    by_leaf l answer
  where
    problem : Problem
    problem = problem_of (loops_of (writer_side way p.from p.to))
        (posed_rows way (writer_side way p.from p.to).statement (reader_side way p.from p.to).statement (length params) dep)

    Point : List ℤ → Type 0
    Point xs = IsWritePoint way program params dep xs w.turns

    to : (xs : List ℤ) → Point xs → IsProblemPoint problem (params ++ w.turns) (writer_turns way xs)
    to xs q =
        let r = point_is_writer way program params j w b c dep xs laws count touches q cand.writes cand.access in
        let up = unknowns_up way xs (subst (λ (us : List ℤ). All (λ x. (pos 0 ≤ℤ x) × (x <ℤ pos (2 ^ 46))) us) r.5
        (small r.0 r.1 r.2)) in
        let h = point_holds way program params dep p xs w.turns q in
        turned_to way program params w.turns dep p count reads.size xs h.0 up h.1

    of : (xs : List ℤ) → IsProblemPoint problem (params ++ w.turns) xs → Point (writer_turns way xs)
    of xs q =
        is_point way program params dep p (writer_turns way xs) w.turns cand.among (length-turns way xs ∙ q.size)
        reads.size (turned_back way program params w.turns dep p count reads xs q)

    by_leaf : (l : Leaf) → IsAnswer problem (params ++ w.turns) l
        → IsWanted way number loops Point (turned_leaf way number loops l)
    by_leaf initial none = λ xs q. none (writer_turns way xs) (to xs q)
    by_leaf (found o x) least =
        let m = wanted_from_min way (loops_of (writer_side way p.from p.to)) Point
        (λ xs. IsProblemPoint problem (params ++ w.turns) xs) x to of (λ ys q. q.size) least.inside
        (λ ys q less. least.least ys q.size q less) in
        (refl, m.0, m.1)

-- the context holds at the kernel's parameters and an instance's turns
pub context_up : (params ys : List ℤ) (t : Modelled) → Reads params ys t → AreInRange params
    → NotNegative (row_values (posed_context t (length params)) (params ++ ys))
context_up params ys t reads bounds =
    let m = length params in
    let e = t.domain.dimensions in
    let x = params ++ ys in
    let h = moved m e in
    let same : (f : Affine) → value_of (h f) x ≡ value_of f (ys ++ params) =
    λ f. moved-value m e params ys f refl reads.size in
    let size : m + e ≡ length x = (let a = length-append params ys in let c = reads.size in omega arith) in
    let eqs = flat_up (map h t.domain.equalities) x (zero_mapped h t.domain.equalities (ys ++ params) x same
    (zero_of_all t.domain.equalities (ys ++ params) reads.holds.0)) in
    let rows = up_mapped h t.domain.rows (ys ++ params) x same (up_of_all t.domain.rows (ys ++ params) reads.holds.1) in
    let below = all_below (pos most_parameter) (m + e) 0 m in
    let most = below_up (pos most_parameter) (m + e) 0 m x params size refl (goes_on [] params ys) bounds in
    up_rows (posed_context t m) x
    (up-append (flat (map h t.domain.equalities)) (map h t.domain.rows ++ below) x eqs
    (up-append (map h t.domain.rows) below x rows most))

-- the minimum of a candidate's problem, turned back, is the wanted writer
pub minimum_wanted : (way : Way) (program : Program) (params : List ℤ) (j : ℕ) (w : Visit) (b : ℕ) (c : Cell)
    (dep : Dependence) (p : HasParts (model_of program) dep) (number : ℕ) (loops : List ℕ) (t : Tree)
    → Laws program params → length params ≡ length program.parameters
    → AreInRange params
    → ((k : ℕ) (u : Visit) → slice_get (walk_of program params) k ≡ Some u
    → All (λ x. (pos 0 ≤ℤ x) × (x <ℤ pos (2 ^ 46))) u.turns)
    → TouchesAt program params j w b c → IsCandidate way program w b dep
    → (length w.turns ≡ loops_of (reader_side way p.from p.to))
    × Satisfies (reader_side way p.from p.to).statement.domain (w.turns ++ params)
    → ((q : List ℤ) → length q ≡ length params + loops_of (reader_side way p.from p.to) → NotNegative q
    → NotNegative (row_values (posed_context (reader_side way p.from p.to).statement (length params)) q)
    → IsAnswer (problem_of (loops_of (writer_side way p.from p.to)) (posed_rows way (writer_side way p.from p.to).statement
    (reader_side way p.from p.to).statement (length params) dep)) q (value t q))
    → IsWanted way number loops (λ xs. IsWritePoint way program params dep xs w.turns)
    (turned_leaf way number loops (value t (params ++ w.turns)))
minimum_wanted way program params j w b c dep p number loops t laws count bounds small touches cand inside least =
    let reader = (reader_side way p.from p.to).statement in
    let up = params_not_negative params bounds in
    let reads : Reads params w.turns reader = record { size = inside.0; holds = inside.1; up = up } in
    let long : length (params ++ w.turns) ≡ length params + loops_of (reader_side way p.from p.to) =
    (let a = length-append params w.turns in let e = inside.0 in omega arith) in
    answer_wanted way program params j w b c dep p number loops
    (value t (params ++ w.turns)) laws count small touches cand reads
    (least (params ++ w.turns) long (not_negative-append params w.turns up (up_turns w.turns (small j w touches.place)))
    (context_up params w.turns reader reads bounds))

-- both sides are statements of the model
pub writer_slot : (way : Way) (program : Program) (dep : Dependence) (p : HasParts (model_of program) dep)
    → slice_get (model_of program).statements (writer_end way dep).statement
    ≡ Some (writer_side way p.from p.to).statement
writer_slot Later program dep p = p.source
writer_slot Earlier program dep p = p.target

pub reader_slot : (way : Way) (program : Program) (dep : Dependence) (p : HasParts (model_of program) dep)
    → slice_get (model_of program).statements (reader_end way dep).statement
    ≡ Some (reader_side way p.from p.to).statement
reader_slot Later program dep p = p.target
reader_slot Earlier program dep p = p.source

pub in_statements : (way : Way) (program : Program) (dep : Dependence) (p : HasParts (model_of program) dep)
    → In (reader_side way p.from p.to).statement (model_of program).statements
in_statements way program dep p =
    in_from_place (model_of program).statements (reader_end way dep).statement (reader_side way p.from p.to).statement
    (reader_slot way program dep p)
