-- The points of a posed system are the posed rows.
use Rattle.scop_syntax.proofs.Common.{◌≡◌, ℕ, zero, suc, ◌+◌, ◌<◌, ℤ, pos, negsuc, List, [], ◌∷◌, ◌++◌, refl, sym, ◌∙◌}
use Rattle.scop_syntax.proofs.Common.{ap, ap₂, subst, inl, inr, arith, length, reverse, map, All, ◌≤◌, ◌+ℤ◌, ◌≤ℤ◌}
use Rattle.scop_syntax.proofs.Common.{slice_index_or, ◌↔◌, flat_map, ints, length-reverse, reverse-append, All-nil}
use Rattle.scop_syntax.proofs.Common.{All-cons, All-head, All-tail, All-append, cases_Bool, Affine, value_of, dot}
use Rattle.scop_syntax.proofs.Common.{zeros, sums, dot-append, dot-zeros, dot-sums, length-zeros, length-sums}
use Rattle.scop_syntax.proofs.Common.{mul_zero_left, all_front, all_back, In}
use Rattle.std.proofs.lemmas.List.{length-append}
use Rattle.affine_forms.specs.Parts.{variables_of}
use Rattle.fractions.specs.Farkas.{AreNotNegative, HasFarkas}
use Rattle.integer_sets.specs.Constraints.{Constraints, IsSized, variables_in}
use Rattle.integer_sets.specs.Points.{Satisfies}
use Rattle.iteration_domains.specs.Dependence.{Dependence}
use Rattle.farkas.specs.Meaning.{rows_of}
use Rattle.farkas.specs.declared.claim.Claim.TheVariants.{Legality, Bounding}
use Rattle.null_space.specs.Narrowing.{kernel_vectors, sum_of_products}
use Rattle.null_space.specs.Sizes.{AreLong}
use Rattle.farkas.specs.Unknowns.{Part, AreOf, part_numbers}
use Rattle.farkas.specs.Unknowns as unknowns
use Rattle.iteration_domains.specs.Dependence.{binds_in}
use Rattle.farkas.specs.Claims.{distance}
use Rattle.schedule_rows.specs.Items.{Row, part_of, numbers_of}
use Rattle.schedule_rows.specs.Dependences.{unknowns_of}
use Rattle.schedule_rows.specs.Posed.{IsLegal, IsBounded, loops_of, coefficients_in}
use Rattle.pluto_systems.specs.Placing.{is_end, placed, gathered_parts, gathered, AreShaped, IsShaped}
use Rattle.pluto_systems.specs.Posing.{RuledDep, IsRuled, dep_of, equalities_for, rows_for, own_form, own_row, added}
use Rattle.pluto_systems.specs.Posing.{growth_rows, growth_from, posed_system, IsBetween, AreVectorsOf, HasPosed}
use Rattle.pluto_systems.specs.Posing.{Continues, GrowsRank, HasPosedBehind, vectors_for}
use Rattle.pluto_systems.proofs.PlacedForms.{length-part, placed_value, apart_front, gathered_end, gathered_other}
use Rattle.pluto_systems.proofs.GatheredUnknowns.{nth, both_one, gathered_unknowns}
use Rattle.pluto_systems.proofs.LowerLaws.{RowLaws, VectorsAreLong}
use Rattle.pluto_systems.proofs.SmallVectors.{for_at, for_length}

-- shapes
pub shaped_length : (ls : List ℕ) (ps : List Part) → AreShaped ls ps → length ps ≡ length ls
shaped_length [] [] h = refl
shaped_length [] (p ∷ ps) h = absurd h
shaped_length (l ∷ ls) [] h = absurd h
shaped_length (l ∷ ls) (p ∷ ps) h = ap suc (shaped_length ls ps h.1)

pub shaped_at : (ls : List ℕ) (ps : List Part) (s : ℕ) → AreShaped ls ps
    → length (nth ps s).coefficients ≡ slice_index_or ls s 0
shaped_at [] [] s h = refl
shaped_at [] (p ∷ ps) s h = absurd h
shaped_at (l ∷ ls) [] s h = absurd h
shaped_at (l ∷ ls) (p ∷ ps) zero h = h.0
shaped_at (l ∷ ls) (p ∷ ps) (suc s) h = shaped_at ls ps s h.1

-- members that are not negative
gathered_not_negative : (a b s : ℕ) (ps : List Part) → AreNotNegative (flat_map part_numbers ps)
    → AreNotNegative (gathered_parts a b s ps)
gathered_not_negative a b s [] h = h
gathered_not_negative a b s (p ∷ ps) h =
    let P : ℤ → Type 0 = λ x. pos 0 ≤ℤ x in
    let front = all_front P (part_numbers p) (flat_map part_numbers ps) h in
    let rest = gathered_not_negative a b (suc s) ps (all_back P (part_numbers p) (flat_map part_numbers ps) h) in
    elim (cases_Bool (is_end a b s)) [
      | inl t ↦ subst (λ (z : List ℤ). All P z) (sym (gathered_end a b s p ps t)) (All-append P (part_numbers p)
          (gathered_parts a b (suc s) ps) front rest)
      | inr t ↦ subst (λ (z : List ℤ). All P z) (sym (gathered_other a b s p ps t)) rest
    ]

not_negative : (a b : ℕ) (r : Row) → AreNotNegative (numbers_of r) → AreNotNegative (gathered a b r)
not_negative a b r h =
    let P : ℤ → Type 0 = λ x. pos 0 ≤ℤ x in
    let front = all_front P r.u (r.w ∷ flat_map part_numbers r.parts) h in
    let back = all_back P r.u (r.w ∷ flat_map part_numbers r.parts) h in
    All-append P r.u (r.w ∷ gathered_parts a b 0 r.parts) front
    (All-cons P r.w (gathered_parts a b 0 r.parts) (All-head P r.w (flat_map part_numbers r.parts) back)
    (gathered_not_negative a b 0 r.parts (All-tail P r.w (flat_map part_numbers r.parts) back)))

-- forms that are moved
moved_to : (Z : ℤ → Type 0) (n : ℕ) (h : Affine → Affine) (xs g : List ℤ) (fs : List Affine)
    → ((f : Affine) → variables_of f ≡ n → value_of (h f) xs ≡ value_of f g) → All (λ f. variables_of f ≡ n) fs
    → All (λ f. Z (value_of f xs)) (map h fs) → All (λ f. Z (value_of f g)) fs
moved_to Z n h xs g [] e s all = All-nil (λ f. Z (value_of f g))
moved_to Z n h xs g (f ∷ fs) e s all =
    All-cons (λ f. Z (value_of f g)) f fs
    (subst Z (e f (All-head (λ f. variables_of f ≡ n) f fs s)) (All-head (λ f. Z (value_of f xs)) (h f)
    (map h fs) all))
    (moved_to Z n h xs g fs e (All-tail (λ f. variables_of f ≡ n) f fs s) (All-tail (λ f. Z (value_of f xs)) (h f)
    (map h fs) all))

moved_from : (Z : ℤ → Type 0) (n : ℕ) (h : Affine → Affine) (xs g : List ℤ) (fs : List Affine)
    → ((f : Affine) → variables_of f ≡ n → value_of (h f) xs ≡ value_of f g) → All (λ f. variables_of f ≡ n) fs
    → All (λ f. Z (value_of f g)) fs → All (λ f. Z (value_of f xs)) (map h fs)
moved_from Z n h xs g [] e s all = All-nil (λ f. Z (value_of f xs))
moved_from Z n h xs g (f ∷ fs) e s all =
    All-cons (λ f. Z (value_of f xs)) (h f) (map h fs)
    (subst Z (sym (e f (All-head (λ f. variables_of f ≡ n) f fs s))) (All-head (λ f. Z (value_of f g)) f fs all))
    (moved_from Z n h xs g fs e (All-tail (λ f. variables_of f
    ≡ n) f fs s) (All-tail (λ f. Z (value_of f g)) f fs all))

abbrev Zero : ℤ → Type 0
Zero z = z ≡ pos 0

abbrev Least : ℤ → Type 0
Least z = pos 0 ≤ℤ z

abbrev AreZero : List ℤ → List Affine → Type 0
AreZero xs fs = All (λ f. Zero (value_of f xs)) fs

abbrev AreLeast : List ℤ → List Affine → Type 0
AreLeast xs fs = All (λ f. Least (value_of f xs)) fs

-- one system of a dependence
one_to : (t : Constraints) (h : Affine → Affine) (xs g : List ℤ)
    → ((f : Affine) → variables_of f ≡ variables_in t → value_of (h f) xs ≡ value_of f g)
    → IsSized (variables_in t) t.equalities t.rows
    → AreZero xs (map h t.equalities) → AreLeast xs (map h t.rows) → Satisfies t g
one_to t h xs g e s a b = (
  moved_to Zero (variables_in t) h xs g t.equalities e s.equalities_sized a,
  moved_to Least
      (variables_in t) h xs g t.rows e s.rows_sized b,
)

one_from : (t : Constraints) (h : Affine → Affine) (xs g : List ℤ)
    → ((f : Affine) → variables_of f ≡ variables_in t → value_of (h f) xs ≡ value_of f g)
    → IsSized (variables_in t) t.equalities t.rows
    → Satisfies t g → AreZero xs (map h t.equalities) × AreLeast xs (map h t.rows)
one_from t h xs g e s k = (
  moved_from Zero (variables_in t) h xs g t.equalities e s.equalities_sized k.0,
  moved_from Least
      (variables_in t) h xs g t.rows e s.rows_sized k.1,
)

-- what holds of one dependence
pub record Facts (m : ℕ) (x : RuledDep) (r : Row) : Type 0 where
  pub legal : Satisfies x.legal (gathered x.dep.source.statement x.dep.target.statement r) ↔ IsLegal m r x.dep
  pub bounded : Satisfies x.bounded (gathered x.dep.source.statement x.dep.target.statement r) ↔ IsBounded r x.dep
  pub legal_size : length (gathered x.dep.source.statement x.dep.target.statement r) ≡ variables_in x.legal
  pub bounded_size : length (gathered x.dep.source.statement x.dep.target.statement r) ≡ variables_in x.bounded

pub facts : RowLaws → (m : ℕ) (loops : List ℕ) (x : RuledDep) (r : Row) → IsRuled x → IsBetween m loops x.dep
    → IsShaped m loops r → AreNotNegative (numbers_of r) → Facts m x r
facts laws m loops x r h b s n =
    let d = x.dep in
    let k = shaped_length loops r.parts s.parts in
    let ls = b.source in
    let lt = b.target in
    let y = unknowns_of d r in
    let all = unknowns.numbers_of d.source d.target y in
    let same = gathered_unknowns d r (omega arith) (omega arith) in
    let are : AreOf d.system.parameters d.source d.target y = record {
      bounds = s.bounds ∙ sym b.parameters;
      source_loops = shaped_at loops r.parts d.source.statement s.parts ∙ sym b.source_loops;
      target_loops = shaped_at loops r.parts d.target.statement s.parts ∙ sym b.target_loops;
      one = λ e. ap (λ (i : ℕ). part_of r i) e;
    } in
    let up = subst AreNotNegative same (not_negative d.source.statement d.target.statement r n) in
    let legal = subst (λ (i : ℕ). Satisfies x.legal all ↔ HasFarkas (rows_of d.system) (distance (binds_in d) i y))
    b.parameters
    (laws.legality d.source d.target d.system x.legal y h.legal are up) in
    let bounded = laws.bounding d.source d.target d.system x.bounded y h.bounded are up in
    let legal_columns = laws.columns Legality d.source d.target d.system x.legal y h.legal are in
    let bounded_columns = laws.columns Bounding d.source d.target d.system x.bounded y h.bounded are in
    let size = ap length same in
    let pl = h.legal.parameters in
    let pb = h.bounded.parameters in
    record {
      legal = subst (λ (z : List ℤ). Satisfies x.legal z ↔ IsLegal m r d) (sym same) legal;
      bounded = subst (λ (z : List ℤ). Satisfies x.bounded z ↔ IsBounded r d) (sym same) bounded;
      legal_size = omega arith;
      bounded_size = omega arith;
    }

dep_to : (m : ℕ) (loops : List ℕ) (x : RuledDep) (r : Row) → IsRuled x → IsShaped m loops r → Facts m x r
    → AreZero (numbers_of r) (equalities_for m loops x) → AreLeast (numbers_of r) (rows_for m loops x)
    → IsLegal m r x.dep × IsBounded r x.dep
dep_to m loops x r h s f a b =
    let source = x.dep.source.statement in
    let target = x.dep.target.statement in
    let g = gathered source target r in
    let xs = numbers_of r in
    let move = placed m source target loops in
    let value : (n : ℕ) → length g ≡ n → (q : Affine) → variables_of q ≡ n → value_of (move q) xs ≡ value_of q g =
    λ n e q v. placed_value m source target loops q r s (v ∙ sym e) in (
      f.legal.0 (one_to x.legal move xs g (value (variables_in x.legal) f.legal_size) h.legal_sized
          (all_front (λ q. Zero (value_of q xs)) (map move x.legal.equalities) (map move x.bounded.equalities) a)
          (all_front (λ q. Least (value_of q xs)) (map move x.legal.rows) (map move x.bounded.rows) b)),
      f.bounded.0 (one_to x.bounded move xs g (value (variables_in x.bounded) f.bounded_size) h.bounded_sized
          (all_back (λ q. Zero (value_of q xs)) (map move x.legal.equalities) (map move x.bounded.equalities) a)
          (all_back (λ q. Least (value_of q xs)) (map move x.legal.rows) (map move x.bounded.rows) b)),
    )

dep_from : (m : ℕ) (loops : List ℕ) (x : RuledDep) (r : Row) → IsRuled x → IsShaped m loops r → Facts m x r
    → IsLegal m r x.dep → IsBounded r x.dep → AreZero (numbers_of r) (equalities_for m loops x) × AreLeast
    (numbers_of r) (rows_for m loops x)
dep_from m loops x r h s f l b =
    let source = x.dep.source.statement in
    let target = x.dep.target.statement in
    let g = gathered source target r in
    let xs = numbers_of r in
    let move = placed m source target loops in
    let value : (n : ℕ) → length g ≡ n → (q : Affine) → variables_of q ≡ n → value_of (move q) xs ≡ value_of q g =
    λ n e q v. placed_value m source target loops q r s (v ∙ sym e) in
    let p = one_from x.legal move xs g (value (variables_in x.legal) f.legal_size) h.legal_sized (f.legal.1 l) in
    let k = one_from x.bounded move xs g (value (variables_in x.bounded) f.bounded_size) h.bounded_sized
    (f.bounded.1 b) in (
      All-append (λ q. Zero (value_of q xs)) (map move x.legal.equalities) (map move x.bounded.equalities) p.0 k.0,
      All-append (λ q. Least (value_of q xs)) (map move x.legal.rows) (map move x.bounded.rows) p.1 k.1,
    )

abbrev pub AreRuled : ℕ → List ℕ → List RuledDep → Type 0
AreRuled m loops ruled = (x : RuledDep) → In x ruled → IsRuled x × IsBetween m loops x.dep

deps_to : RowLaws → (m : ℕ) (loops : List ℕ) (ruled : List RuledDep) (r : Row) → AreRuled m loops ruled
    → IsShaped m loops r → AreNotNegative (numbers_of r)
    → AreZero (numbers_of r) (flat_map (equalities_for m loops) ruled)
    → AreLeast (numbers_of r) (flat_map (rows_for m loops) ruled)
    → (d : Dependence) → In d (map dep_of ruled) → IsLegal m r d × IsBounded r d
deps_to laws m loops [] r h s n a b d i = absurd i
deps_to laws m loops (x ∷ ruled) r h s n a b d (inl e) =
    let xs = numbers_of r in
    let k = h x (inl refl) in
    subst (λ (z : Dependence). IsLegal m r z × IsBounded r z) (sym e)
    (dep_to m loops x r k.0 s (facts laws m loops x r k.0 k.1 s n)
    (all_front (λ q. Zero (value_of q xs)) (equalities_for m loops x) (flat_map (equalities_for m loops) ruled) a)
    (all_front (λ q. Least (value_of q xs)) (rows_for m loops x) (flat_map (rows_for m loops) ruled) b))
deps_to laws m loops (x ∷ ruled) r h s n a b d (inr i) =
    let xs = numbers_of r in
    deps_to laws m loops ruled r (λ y j. h y (inr j)) s n
    (all_back (λ q. Zero (value_of q xs)) (equalities_for m loops x) (flat_map (equalities_for m loops) ruled) a)
    (all_back (λ q. Least (value_of q xs)) (rows_for m loops x) (flat_map (rows_for m loops) ruled) b) d i

deps_from : RowLaws → (m : ℕ) (loops : List ℕ) (ruled : List RuledDep) (r : Row) → AreRuled m loops ruled
    → IsShaped m loops r → AreNotNegative (numbers_of r)
    → ((d : Dependence) → In d (map dep_of ruled) → IsLegal m r d × IsBounded r d)
    → AreZero (numbers_of r) (flat_map (equalities_for m loops) ruled) × AreLeast (numbers_of r) (flat_map
    (rows_for m loops) ruled)
deps_from laws m loops [] r h s n all = (
  All-nil (λ q. Zero (value_of q (numbers_of r))),
  All-nil (λ q. Least
      (value_of q (numbers_of r))),
)
deps_from laws m loops (x ∷ ruled) r h s n all =
    let xs = numbers_of r in
    let k = h x (inl refl) in
    let own = all x.dep (inl refl) in
    let one = dep_from m loops x r k.0 s (facts laws m loops x r k.0 k.1 s n) own.0 own.1 in
    let more = deps_from laws m loops ruled r (λ y j. h y (inr j)) s n (λ d i. all d (inr i)) in (
      All-append (λ q. Zero (value_of q xs)) (equalities_for m loops x) (flat_map
          (equalities_for m loops) ruled) one.0 more.0,
      All-append (λ q. Least (value_of q xs)) (rows_for m loops x) (flat_map (rows_for m loops) ruled) one.1 more.1,
    )

-- the rows of kernel vectors
dot-reverse : (xs ys : List ℤ) → length xs ≡ length ys → dot (reverse xs) (reverse ys) ≡ dot xs ys
dot-reverse [] [] h = refl
dot-reverse [] (y ∷ ys) h = absurd (omega (arith, h))
dot-reverse (x ∷ xs) [] h = absurd (omega (arith, h))
dot-reverse (x ∷ xs) (y ∷ ys) h =
    let a = length-reverse xs in
    let b = length-reverse ys in
    let e = ap₂ (λ (v : List ℤ) (w : List ℤ). dot v w) (reverse-append (x ∷ []) xs) (reverse-append (y ∷ []) ys) in
    let f = dot-append (reverse xs) (x ∷ []) (reverse ys) (y ∷ []) (omega (arith, h)) in
    let r = dot-reverse xs ys (omega (arith, h)) in
    e ∙ (f ∙ omega (arith, ints))

own_value : (m : ℕ) (loops : List ℕ) (s : ℕ) (k : ℤ) (v : List ℤ) (r : Row) → IsShaped m loops r → s < length loops
    → length v ≡ length (part_of r s).coefficients
    → value_of (own_row m loops s k v) (numbers_of r) ≡ dot v (part_of r s).coefficients +ℤ k
own_value m loops s k v r h l e =
    let p = part_of r s in
    let front = r.u ++ r.w ∷ [] in
    let count = shaped_length loops r.parts h.parts in
    let g = both_one s s 0 s r.parts (omega arith) (omega arith) (omega arith) in
    let whole : gathered s s r ≡ front ++ part_numbers p = ap (λ (z : List ℤ). r.u ++ r.w ∷ z) g
    ∙ apart_front r.u (part_numbers p) r.w in
    let f = length-append r.u (r.w ∷ []) in
    let b = h.bounds in
    let one : length front ≡ m + 1 = omega arith in
    let back = reverse v ++ pos 0 ∷ [] in
    let rv = length-reverse v in
    let rc = length-reverse p.coefficients in
    let lb = length-append (reverse v) (pos 0 ∷ []) in
    let lo = length-append (zeros (m + 1)) back in
    let lz = length-zeros (m + 1) in
    let lp = length-part p in
    let lw = ap length whole ∙ length-append front (part_numbers p) in
    let placed_is = placed_value m s s loops (own_form m v k) r h (omega arith) in
    let a = dot-append (zeros (m + 1)) back front (part_numbers p) (lz ∙ sym one) in
    let z = dot-zeros (m + 1) front in
    let c = dot-append (reverse v) (pos 0 ∷ []) (reverse p.coefficients) (p.shift ∷ []) (omega arith) in
    let d = dot-reverse v p.coefficients e in
    let y = mul_zero_left p.shift in
    placed_is ∙ (ap (λ (zs : List ℤ). value_of (own_form m v k) zs) whole ∙ omega (arith, ints))

added_value : (sum : List ℤ) (vs : List (List ℤ)) (c : List ℤ)
    → dot (added sum vs) c ≡ dot sum c +ℤ sum_of_products c vs
added_value sum [] c = omega (arith, ints)
added_value sum (v ∷ vs) c = let r = added_value (sums sum v) vs c in let d = dot-sums sum v c in omega (arith, ints)

pub added_length : (n : ℕ) (sum : List ℤ) (vs : List (List ℤ)) → length sum ≡ n → AreLong n vs
    → length (added sum vs) ≡ n
added_length n sum [] h all = h
added_length n sum (v ∷ vs) h all =
    let P : List ℤ → Type 0 = λ u. length u ≡ n in
    added_length n (sums sum v) vs (length-sums sum v (h ∙ sym (All-head P v vs all)) ∙ h) (All-tail P v vs all)

vectors_to : (m : ℕ) (loops : List ℕ) (s : ℕ) (vs : List (List ℤ)) (r : Row) → IsShaped m loops r → s < length loops
    → AreLong (length (part_of r s).coefficients) vs → AreLeast (numbers_of r) (map (own_row m loops s (pos 0)) vs)
    → All (λ n. pos 0 ≤ℤ dot n (part_of r s).coefficients) vs
vectors_to m loops s [] r h l long all = All-nil (λ n. pos 0 ≤ℤ dot n (part_of r s).coefficients)
vectors_to m loops s (v ∷ vs) r h l long all =
    let P : List ℤ → Type 0 = λ u. length u ≡ length (part_of r s).coefficients in
    let e = own_value m loops s (pos 0) v r h l (All-head P v vs long) in
    let one = All-head (λ q. Least (value_of q (numbers_of r))) (own_row m loops s (pos 0) v) (map
    (own_row m loops s (pos 0)) vs) all in
    All-cons (λ n. pos 0 ≤ℤ dot n (part_of r s).coefficients) v vs (omega (arith, ints))
    (vectors_to m loops s vs r h l (All-tail P v vs long)
    (All-tail (λ q. Least (value_of q (numbers_of r))) (own_row m loops s (pos 0) v) (map (own_row m loops s
    (pos 0)) vs) all))

vectors_from : (m : ℕ) (loops : List ℕ) (s : ℕ) (vs : List (List ℤ)) (r : Row) → IsShaped m loops r → s < length loops
    → AreLong (length (part_of r s).coefficients) vs → All (λ n. pos 0 ≤ℤ dot n (part_of r s).coefficients) vs
    → AreLeast (numbers_of r) (map (own_row m loops s (pos 0)) vs)
vectors_from m loops s [] r h l long all = All-nil (λ q. Least (value_of q (numbers_of r)))
vectors_from m loops s (v ∷ vs) r h l long all =
    let P : List ℤ → Type 0 = λ u. length u ≡ length (part_of r s).coefficients in
    let e = own_value m loops s (pos 0) v r h l (All-head P v vs long) in
    let one = All-head (λ n. pos 0 ≤ℤ dot n (part_of r s).coefficients) v vs all in
    All-cons (λ q. Least (value_of q (numbers_of r))) (own_row m loops s (pos 0) v) (map (own_row m loops s
    (pos 0)) vs) (omega (arith, ints))
    (vectors_from m loops s vs r h l (All-tail P v vs long) (All-tail (λ n. pos 0 ≤ℤ dot n
    (part_of r s).coefficients) v vs all))

growth_to : (m : ℕ) (loops : List ℕ) (s : ℕ) (vs : List (List ℤ)) (r : Row) → IsShaped m loops r → s < length loops
    → AreLong (length (part_of r s).coefficients) vs → AreLeast (numbers_of r) (growth_rows m loops s vs)
    → GrowsRank (part_of r s).coefficients vs
growth_to m loops s [] r h l long all = inl refl
growth_to m loops s (v ∷ vs) r h l long all =
    let P : List ℤ → Type 0 = λ u. length u ≡ length (part_of r s).coefficients in
    let c = (part_of r s).coefficients in
    let Q : Affine → Type 0 = λ q. Least (value_of q (numbers_of r)) in
    let front = map (own_row m loops s (pos 0)) (v ∷ vs) in
    let last = own_row m loops s (negsuc 0) (added v vs) in
    let long_sum = added_length (length c) v vs (All-head P v vs long) (All-tail P v vs long) in
    let e = own_value m loops s (negsuc 0) (added v vs) r h l long_sum in
    let f = added_value v vs c in
    let one = All-head Q last [] (all_back Q front (last ∷ []) all) in
    inr (vectors_to m loops s (v ∷ vs) r h l long (all_front Q front (last ∷ []) all), omega (arith, ints))

growth_back : (m : ℕ) (loops : List ℕ) (s : ℕ) (vs : List (List ℤ)) (r : Row) → IsShaped m loops r → s < length loops
    → AreLong (length (part_of r s).coefficients) vs → GrowsRank (part_of r s).coefficients vs
    → AreLeast (numbers_of r) (growth_rows m loops s vs)
growth_back m loops s [] r h l long g = All-nil (λ q. Least (value_of q (numbers_of r)))
growth_back m loops s (v ∷ vs) r h l long (inl e) = absurd cc
growth_back m loops s (v ∷ vs) r h l long (inr g) =
    let P : List ℤ → Type 0 = λ u. length u ≡ length (part_of r s).coefficients in
    let c = (part_of r s).coefficients in
    let Q : Affine → Type 0 = λ q. Least (value_of q (numbers_of r)) in
    let last = own_row m loops s (negsuc 0) (added v vs) in
    let long_sum = added_length (length c) v vs (All-head P v vs long) (All-tail P v vs long) in
    let e = own_value m loops s (negsuc 0) (added v vs) r h l long_sum in
    let f = added_value v vs c in
    let k = g.1 in
    All-append Q (map (own_row m loops s (pos 0)) (v ∷ vs)) (last ∷ []) (vectors_from m loops s
    (v ∷ vs) r h l long g.0)
    (All-cons Q last [] (omega (arith, ints)) (All-nil Q))

abbrev AllGrow : ℕ → List (List (List ℤ)) → Row → Type 0
AllGrow s vectors r = (k : ℕ) → k < length vectors
    → GrowsRank (part_of r (s + k)).coefficients (slice_index_or vectors k [])

abbrev AllLong : ℕ → List (List (List ℤ)) → Row → Type 0
AllLong s vectors r = (k : ℕ) → k < length vectors → AreLong (length (part_of r (s + k)).coefficients)
    (slice_index_or vectors k [])

from_to : (m : ℕ) (loops : List ℕ) (s : ℕ) (vectors : List (List (List ℤ))) (r : Row) → IsShaped m loops r
    → s + length vectors ≤ length loops
    → AllLong s vectors r → AreLeast (numbers_of r) (growth_from m loops s vectors) → AllGrow s vectors r
from_to m loops s [] r h l long all k lk = absurd (omega arith)
from_to m loops s (vs ∷ more) r h l long all zero lk =
    let e : s + 0 ≡ s = omega arith in
    let Q : Affine → Type 0 = λ q. Least (value_of q (numbers_of r)) in
    let first = subst (λ (z : ℕ). AreLong (length (part_of r z).coefficients) vs) e (long zero lk) in
    subst (λ (z : ℕ). GrowsRank (part_of r z).coefficients vs) (sym e)
    (growth_to m loops s vs r h (omega (arith, l)) first (all_front Q (growth_rows m loops s vs)
    (growth_from m loops (suc s) more) all))
from_to m loops s (vs ∷ more) r h l long all (suc k) lk =
    let e : suc s + k ≡ s + suc k = omega arith in
    let Q : Affine → Type 0 = λ q. Least (value_of q (numbers_of r)) in
    let next : AllLong (suc s) more r = λ j lj.
    let f : s + suc j ≡ suc s + j = omega arith in
    subst (λ (z : ℕ). AreLong (length (part_of r z).coefficients) (slice_index_or more j [])) f (long (suc j) (omega
    (arith, lj))) in
    subst (λ (z : ℕ). GrowsRank (part_of r z).coefficients (slice_index_or more k [])) e
    (from_to m loops (suc s) more r h (omega (arith, l)) next (all_back Q (growth_rows m loops s vs)
    (growth_from m loops (suc s) more) all) k (omega (arith, lk)))

from_back : (m : ℕ) (loops : List ℕ) (s : ℕ) (vectors : List (List (List ℤ))) (r : Row) → IsShaped m loops r
    → s + length vectors ≤ length loops
    → AllLong s vectors r → AllGrow s vectors r → AreLeast (numbers_of r) (growth_from m loops s vectors)
from_back m loops s [] r h l long all = All-nil (λ q. Least (value_of q (numbers_of r)))
from_back m loops s (vs ∷ more) r h l long all =
    let e : s + 0 ≡ s = omega arith in
    let Q : Affine → Type 0 = λ q. Least (value_of q (numbers_of r)) in
    let pos_k : zero < length (vs ∷ more) = omega arith in
    let first = subst (λ (z : ℕ). AreLong (length (part_of r z).coefficients) vs) e (long zero pos_k) in
    let own = subst (λ (z : ℕ). GrowsRank (part_of r z).coefficients vs) e (all zero pos_k) in
    let next : AllLong (suc s) more r = λ j lj.
    let f : s + suc j ≡ suc s + j = omega arith in
    subst (λ (z : ℕ). AreLong (length (part_of r z).coefficients) (slice_index_or more j [])) f (long (suc j) (omega
    (arith, lj))) in
    let rest : AllGrow (suc s) more r = λ j lj.
    let f : s + suc j ≡ suc s + j = omega arith in
    subst (λ (z : ℕ). GrowsRank (part_of r z).coefficients (slice_index_or more j [])) f (all (suc j) (omega
    (arith, lj))) in
    All-append Q (growth_rows m loops s vs) (growth_from m loops (suc s) more)
    (growth_back m loops s vs r h (omega (arith, l)) first own) (from_back m loops (suc s) more r h (omega
    (arith, l)) next rest)

-- rows of each statement, and their kernel vectors
module _ (loops : List ℕ) (rows : ℕ → List (List ℤ)) (vectors : List (List (List ℤ)))
    (size : length vectors ≡ length loops)
    (each : (s : ℕ) → s < length loops → slice_index_or vectors s [] ≡ kernel_vectors (loops_of loops s) (rows s)) where
  all_long : VectorsAreLong → (r : Row) → AreShaped loops r.parts → AllLong 0 vectors r
  all_long lengths r h k lk =
      let e : 0 + k ≡ k = omega arith in
      let n = loops_of loops k in
      subst (λ (i : ℕ). AreLong (length (part_of r i).coefficients) (slice_index_or vectors k [])) (sym e)
      (subst (λ (i : ℕ). AreLong i (slice_index_or vectors k [])) (sym (shaped_at loops r.parts k h))
      (subst (AreLong n) (sym (each k (omega (arith, size, lk)))) (lengths n (rows k))))

  grow_to : (r : Row) → AllGrow 0 vectors r → (s : ℕ) → s < length loops
      → GrowsRank (part_of r s).coefficients (kernel_vectors (loops_of loops s) (rows s))
  grow_to r all s l =
      let e : 0 + s ≡ s = omega arith in
      subst (GrowsRank (part_of r s).coefficients) (each s l)
      (subst (λ (i : ℕ). GrowsRank (part_of r i).coefficients (slice_index_or vectors s [])) e
      (all s (omega (arith, size, l))))

  grow_from : (r : Row) → ((s : ℕ) → s < length loops
      → GrowsRank (part_of r s).coefficients (kernel_vectors (loops_of loops s) (rows s))) → AllGrow 0 vectors r
  grow_from r all s l =
      let e : 0 + s ≡ s = omega arith in
      let ls : s < length loops = omega (arith, size, l) in
      subst (λ (i : ℕ). GrowsRank (part_of r i).coefficients (slice_index_or vectors s [])) (sym e)
      (subst (GrowsRank (part_of r s).coefficients) (sym (each s ls)) (all s ls))

  -- the whole
  continues : RowLaws → VectorsAreLong → (m : ℕ) (ruled : List RuledDep) → AreRuled m loops ruled → (r : Row)
      → IsShaped m loops r → AreNotNegative (numbers_of r)
      → Satisfies (posed_system m loops ruled vectors) (numbers_of r) ↔ Continues m loops (map dep_of ruled) rows r
  continues laws lengths m ruled h r shaped nn =
      let Q : Affine → Type 0 = λ q. Least (value_of q (numbers_of r)) in
      let own = flat_map (rows_for m loops) ruled in
      let more = growth_from m loops 0 vectors in
      let long = all_long lengths r shaped.parts in
      let few : 0 + length vectors ≤ length loops = omega (arith, size) in (
        λ s.
            record {
              keeps = deps_to laws m loops ruled r h shaped nn s.0 (all_front Q own more s.1);
              grows = grow_to r (from_to m loops 0 vectors r shaped few long (all_back Q own more s.1));
            },
        λ p.
            let d = deps_from laws m loops ruled r h shaped nn p.keeps in (
              d.0,
              All-append Q own more d.1 (from_back m loops 0 vectors r shaped few long (grow_from r p.grows)),
            ),
      )

-- behind rows of all statements
pub has_posed : RowLaws → VectorsAreLong → (m : ℕ) (loops : List ℕ) (ruled : List RuledDep) (before : List Row)
    (vectors : List (List (List ℤ)))
    → AreRuled m loops ruled → AreVectorsOf loops before vectors
    → HasPosed m loops (map dep_of ruled) before (posed_system m loops ruled vectors)
has_posed laws lengths m loops ruled before vectors h v r shaped nn =
    let own = continues loops (coefficients_in before) vectors v.size v.each laws lengths m ruled h r shaped nn in (
      λ s.
          let d = own.0 s in
          record {
            bounds = shaped.bounds;
            statements = shaped_length loops r.parts shaped.parts;
            sized = λ k. shaped_at loops r.parts k shaped.parts;
            not_negative = nn;
            legal = λ e i. (d.keeps e i).0;
            bounded = λ e i. (d.keeps e i).1;
            grows = d.grows;
          },
      λ p. own.1 (record { keeps = λ e i. (p.legal e i, p.bounded e i); grows = p.grows }),
    )

-- behind rows of each
pub has_behind : RowLaws → VectorsAreLong → (m : ℕ) (loops : List ℕ) (ruled : List RuledDep)
    (rows : List (List (List ℤ))) → AreRuled m loops ruled → length rows ≡ length loops
    → HasPosedBehind m loops (map dep_of ruled) rows (posed_system m loops ruled (vectors_for loops rows))
has_behind laws lengths m loops ruled rows h e =
    continues loops (λ k. slice_index_or rows k []) (vectors_for loops rows) (for_length loops rows e)
    (λ k l. for_at loops rows k e l) laws lengths m ruled h
