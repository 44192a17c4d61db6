-- Which unknown stands where in the list of a dependence's unknowns, and what the claimed forms are there.
use Rattle.whole_numbers.proofs.Common.{◌≡◌, ℕ, zero, suc, ◌+◌, Bool, true, false, ℤ, pos, negsuc, List, [], ◌∷◌, ◌++◌}
use Rattle.whole_numbers.proofs.Common.{◌+ℤ◌, ◌-ℤ◌, ◌*ℤ◌, length, reverse, get_or, refl, sym, ◌∙◌, ap, ap₂, subst}
use Rattle.whole_numbers.proofs.Common.{arith, append_assoc, nat_eq, nat_lt, if◌then◌else◌, ◌<◌, ◌↔◌}
use Rattle.whole_numbers.proofs.Common.{get_or-append_seam, eqb-true, eq-eqb, lt-ltb, le-ltb, ints, length-reverse}
use Rattle.whole_numbers.proofs.Common.{reverse-append, Affine, form_of, multiples, zeros, mul_one_left, mul_zero_left}
use Rattle.whole_numbers.proofs.Common.{mul_neg_left, nat_eq_below, multiples-one}
use Rattle.std.proofs.lemmas.List.{append-nil, length-append}
use Rattle.whole_numbers.proofs.Tests.{nat_eq_above}
use Rattle.fractions.specs.Farkas.{AreNotNegative, HasFarkas}
use Rattle.integer_sets.specs.Constraints.{Constraints}
use Rattle.integer_sets.specs.Points.{Satisfies}
use Rattle.iteration_domains.specs.declared.dep.DepEnd.{DepEnd}
use Rattle.farkas.specs.declared.claim.Claim.{Claim}
use Rattle.farkas.specs.declared.claim.Claim.TheVariants.{Legality, Bounding}
use Rattle.farkas.specs.declared.layout.Layout.{Layout}
use Rattle.iteration_domains.specs.Dependence.{binds_between}
use Rattle.farkas.specs.Unknowns.{behind, places, layout_of, coefficients_of, shift_of, bounds_of, Part, Unknowns}
use Rattle.farkas.specs.Unknowns.{AreOf, part_numbers, numbers_of, Stands, Shows}
use Rattle.farkas.specs.Claims.{claimed, distance, slack}
use Rattle.farkas.specs.Meaning.{IsFarkas, rows_of}

-- a number behind others
number_at : (front : List ℤ) (x : ℤ) (back : List ℤ) (i : ℕ) → i ≡ length front → get_or (front ++ x ∷ back) i (pos 0)
    ≡ x
number_at front x back i e =
    subst (λ (j : ℕ). get_or (front ++ x ∷ back) j (pos 0) ≡ x) (sym e) (get_or-append_seam front x back (pos 0))

-- coefficients that stand innermost first
coefficients_at : (front cs back : List ℤ) (first loops : ℕ) → first ≡ length front → length cs ≡ loops
    → coefficients_of (front ++ (reverse cs ++ back)) first loops ≡ cs
coefficients_at front [] back first zero e f = refl
coefficients_at front [] back first (suc loops) e f = absurd (omega (arith, f))
coefficients_at front (c ∷ cs) back first zero e f = absurd (omega (arith, f))
coefficients_at front (c ∷ cs) back first (suc loops) e f =
    let turned = ap (λ (z : List ℤ). front ++ z)
    (ap (λ (z : List ℤ). z ++ back) (reverse-append (c ∷ []) cs) ∙ append_assoc (reverse cs) (c ∷ []) back) in
    let seam = turned ∙ sym (append_assoc front (reverse cs) (c ∷ back)) in
    let a = length-append front (reverse cs) in
    let b = length-reverse cs in
    ap₂ (λ (v : ℤ) (vs : List ℤ). v ∷ vs)
    (ap (λ (z : List ℤ). get_or z (first + loops) (pos 0)) seam
    ∙ number_at (front ++ reverse cs) c back (first + loops) (omega (arith, f)))
    (ap (λ (z : List ℤ). coefficients_of z first loops) turned
    ∙ coefficients_at front cs (c ∷ back) first loops e (omega (arith, f)))

-- a part between others
part_at : (front back : List ℤ) (part : Part) (first loops : ℕ) → first ≡ length front
    → length part.coefficients ≡ loops → Stands (front ++ (part_numbers part ++ back)) first loops part
part_at front back part first loops e f =
    let cs = part.coefficients in
    let own = ap (λ (z : List ℤ). front ++ z) (append_assoc (reverse cs) (part.shift ∷ []) back) in
    let seam = own ∙ sym (append_assoc front (reverse cs) (part.shift ∷ back)) in
    let a = length-append front (reverse cs) in
    let b = length-reverse cs in
    record {
      coefficients = ap (λ (z : List ℤ). coefficients_of z first loops) own
          ∙ coefficients_at front cs (part.shift ∷ back) first loops e f;
      shift = ap (λ (z : List ℤ). get_or z (first + loops) (pos 0)) seam
          ∙ number_at (front ++ reverse cs) part.shift back (first + loops) (omega arith);
    }

-- u between others
bounds_at : (front us back : List ℤ) (i n : ℕ) → i ≡ length front → length us ≡ n
    → bounds_of (front ++ (us ++ back)) i n ≡ us
bounds_at front [] back i zero e f = refl
bounds_at front [] back i (suc n) e f = absurd (omega (arith, f))
bounds_at front (u ∷ us) back i zero e f = absurd (omega (arith, f))
bounds_at front (u ∷ us) back i (suc n) e f =
    let seam = sym (append_assoc front (u ∷ []) (us ++ back)) in
    let k = length-append front (u ∷ []) in
    ap₂ (λ (v : ℤ) (vs : List ℤ). v ∷ vs) (number_at front u (us ++ back) i e)
    (ap (λ (z : List ℤ). bounds_of z (suc i) n) seam
    ∙ bounds_at (front ++ u ∷ []) us back (suc i) n (omega arith) (omega (arith, f)))

-- how many numbers a part has
part_length : (part : Part) → length (part_numbers part) ≡ length part.coefficients + 1
part_length part =
    let a = length-append (reverse part.coefficients) (part.shift ∷ []) in
    let b = length-reverse part.coefficients in
    omega arith

-- u and w in front, given how the parts stand
shows_parts : (p : ℕ) (source target : DepEnd) (l : Layout) (x : Unknowns) (ends : List ℤ) → length x.u ≡ p
    → length ends + p + 1 ≡ l.unknowns
    → Stands ((x.u ++ x.w ∷ []) ++ ends) l.source source.loops x.source
    → Stands ((x.u ++ x.w ∷ []) ++ ends) l.target target.loops x.target
    → Shows p source target l (x.u ++ x.w ∷ ends) x
shows_parts p source target l x ends e size a b =
    let flat = append_assoc x.u (x.w ∷ []) ends in
    let long = length-append x.u (x.w ∷ ends) in
    record {
      size = omega arith;
      bounds = bounds_at [] x.u (x.w ∷ ends) 0 p refl e;
      bound = number_at x.u x.w ends p (sym e);
      source_part = subst (λ (z : List ℤ). Stands z l.source source.loops x.source) flat a;
      target_part = subst (λ (z : List ℤ). Stands z l.target target.loops x.target) flat b;
    }

-- one part behind u and w
one_part : (p : ℕ) (source target : DepEnd) (x : Unknowns) → AreOf p source target x → x.source ≡ x.target
    → Shows p source target (places (behind (p + 1) source) (p + 1) (p + 1)) (x.u ++ x.w ∷ part_numbers x.source) x
one_part p source target x are same =
    let front = x.u ++ x.w ∷ [] in
    let own = part_numbers x.source in
    let a = length-append x.u (x.w ∷ []) in
    let b = part_length x.source in
    let u = are.bounds in
    let n = are.source_loops in
    let none = ap (λ (z : List ℤ). front ++ z) (append-nil own) in
    let long = ap (λ (y : Part). length y.coefficients) same ∙ are.target_loops in
    let one = part_at front [] x.source (p + 1) source.loops (omega arith) n in
    let two = part_at front [] x.source (p + 1) target.loops (omega arith) long in
    shows_parts p source target (places (behind (p + 1) source) (p + 1) (p + 1)) x own u (omega arith)
    (subst (λ (z : List ℤ). Stands z (p + 1) source.loops x.source) none one)
    (subst (λ (z : List ℤ). Stands z (p + 1) target.loops x.target) none
    (subst (λ (y : Part). Stands (front ++ (own ++ [])) (p + 1) target.loops y) same two))

-- how two parts stand, one behind the other
pub record Both (front : List ℤ) (first : ℕ) (before after : DepEnd) (a b : Part) : Type 0 where
  pub first_part : Stands (front ++ (part_numbers a ++ part_numbers b)) first before.loops a
  pub second_part : Stands (front ++ (part_numbers a ++ part_numbers b)) (behind first before) after.loops b
  pub size : length (part_numbers a ++ part_numbers b) ≡ before.loops + after.loops + 2

both_parts : (front : List ℤ) (first : ℕ) (before after : DepEnd) (a b : Part) → first ≡ length front
    → length a.coefficients ≡ before.loops → length b.coefficients ≡ after.loops → Both front first before after a b
both_parts front first before after a b e m n =
    let j = part_length a in
    let k = part_length b in
    let long = length-append (part_numbers a) (part_numbers b) in
    let own = length-append front (part_numbers a) in
    let none = ap (λ (z : List ℤ). (front ++ part_numbers a) ++ z) (append-nil (part_numbers b))
    ∙ append_assoc front (part_numbers a) (part_numbers b) in
    record {
      first_part = part_at front (part_numbers b) a first before.loops e m;
      second_part = subst (λ (z : List ℤ). Stands z (behind first before) after.loops b) none
          (part_at (front ++ part_numbers a) [] b (behind first before) after.loops (omega arith) n);
      size = omega arith;
    }

shows_by : (p : ℕ) (source target : DepEnd) (x : Unknowns) (b c : Bool) → AreOf p source target x
    → nat_eq source.statement target.statement ≡ b
    → Shows p source target (if b then places (behind (p + 1) source) (p + 1) (p + 1)
    else if c then places (behind (behind (p + 1) source) target) (p + 1) (behind (p + 1) source)
    else places (behind (behind (p + 1) target) source) (behind (p + 1) target) (p + 1))
    (x.u ++ x.w ∷ (if b then part_numbers x.source
    else if c then part_numbers x.source ++ part_numbers x.target
    else part_numbers x.target ++ part_numbers x.source)) x
shows_by p source target x true c are h =
    one_part p source target x are (are.one (eqb-true source.statement target.statement h))
shows_by p source target x false true are h =
    let u = are.bounds in
    let a = length-append x.u (x.w ∷ []) in
    let both = both_parts (x.u ++ x.w ∷ []) (p + 1) source target x.source x.target (omega arith) are.source_loops
    are.target_loops in
    let n = both.size in
    shows_parts p source target (places (behind (behind (p + 1) source) target) (p + 1) (behind (p + 1) source)) x
    (part_numbers x.source ++ part_numbers x.target) u (omega arith) both.first_part both.second_part
shows_by p source target x false false are h =
    let u = are.bounds in
    let a = length-append x.u (x.w ∷ []) in
    let both = both_parts (x.u ++ x.w ∷ []) (p + 1) target source x.target x.source (omega arith) are.target_loops
    are.source_loops in
    let n = both.size in
    shows_parts p source target (places (behind (behind (p + 1) target) source) (behind (p + 1) target) (p + 1)) x
    (part_numbers x.target ++ part_numbers x.source) u (omega arith) both.second_part both.first_part

-- by the layout stand the unknowns
pub shows : (p : ℕ) (source target : DepEnd) (x : Unknowns) → AreOf p source target x
    → Shows p source target (layout_of p source target) (numbers_of source target x) x
unfolding layout_of
shows p source target x are =
    shows_by p source target x (nat_eq source.statement target.statement) (nat_lt source.statement target.statement) are
    refl

-- the layouts, by which statement is the first
layout_by : (p : ℕ) (source target : DepEnd) (b c : Bool) → nat_eq source.statement target.statement ≡ b
    → nat_lt source.statement target.statement ≡ c
    → layout_of p source target ≡ (if b then places (behind (p + 1) source) (p + 1) (p + 1)
    else if c then places (behind (behind (p + 1) source) target) (p + 1) (behind (p + 1) source)
    else places (behind (behind (p + 1) target) source) (behind (p + 1) target) (p + 1))
unfolding layout_of
layout_by p source target b c h k =
    ap₂ (λ (y z : Bool). if y then places (behind (p + 1) source) (p + 1) (p + 1)
    else if z then places (behind (behind (p + 1) source) target) (p + 1) (behind (p + 1) source)
    else places (behind (behind (p + 1) target) source) (behind (p + 1) target) (p + 1)) h k

pub layout_one : (p : ℕ) (source target : DepEnd) → source.statement ≡ target.statement
    → layout_of p source target ≡ places (behind (p + 1) source) (p + 1) (p + 1)
layout_one p source target h =
    layout_by p source target true (nat_lt source.statement target.statement)
    (eq-eqb source.statement target.statement h) refl

pub layout_before : (p : ℕ) (source target : DepEnd) → source.statement < target.statement
    → layout_of p source target ≡ places (behind (behind (p + 1) source) target) (p + 1) (behind (p + 1) source)
layout_before p source target h =
    layout_by p source target false true (nat_eq_below source.statement target.statement h)
    (lt-ltb source.statement target.statement h)

pub layout_behind : (p : ℕ) (source target : DepEnd) → target.statement < source.statement
    → layout_of p source target ≡ places (behind (behind (p + 1) target) source) (behind (p + 1) target) (p + 1)
layout_behind p source target h =
    layout_by p source target false false (nat_eq_above source.statement target.statement h)
    (le-ltb source.statement target.statement (omega arith))

-- multiples by 0
nones : (xs : List ℤ) (n : ℕ) → length xs ≡ n → multiples (pos 0) xs ≡ zeros n
nones [] zero e = refl
nones [] (suc n) e = absurd (omega (arith, e))
nones (x ∷ xs) zero e = absurd (omega (arith, e))
nones (x ∷ xs) (suc n) e = ap₂ (λ (v : ℤ) (vs : List ℤ). v ∷ vs) (mul_zero_left x) (nones xs n (omega (arith, e)))

minus : (x : ℤ) → negsuc 0 *ℤ x ≡ pos 0 -ℤ x
minus x = let a = mul_neg_left (pos 1) x in let b = mul_one_left x in omega (arith, ints)

-- the claimed forms there
distance_is : (b p : ℕ) (source target : DepEnd) (x : Unknowns) (numbers : List ℤ) → AreOf p source target x
    → Shows p source target (layout_of p source target) numbers x
    → claimed Legality source target b p numbers ≡ distance b p x
unfolding claimed
distance_is q p source target x numbers are h =
    let k = x.source.shift in
    let l = x.target.shift in
    let w = get_or numbers p (pos 0) in
    let a = mul_zero_left w in
    let b = minus k in
    let c = mul_one_left l in
    let constant : (pos 0 *ℤ w) +ℤ ((negsuc 0 *ℤ k) +ℤ (pos 1 *ℤ l)) ≡ l -ℤ k = omega (arith, ints) in
    ap₂ (λ (cs : List ℤ) (z : ℤ). form_of cs z)
    (ap₂ (λ (v vs : List ℤ). v ++ vs) (ap (multiples (negsuc 0)) h.source_part.coefficients)
    (ap₂ (λ (v vs : List ℤ). v ++ vs)
    (ap (multiples (pos 1)) h.target_part.coefficients ∙ multiples-one x.target.coefficients)
    (ap (λ (vs : List ℤ). zeros q ++ vs) (ap (multiples (pos 0)) h.bounds ∙ nones x.u p are.bounds))))
    (ap₂ (λ (y z : ℤ). (pos 0 *ℤ w) +ℤ ((negsuc 0 *ℤ y) +ℤ (pos 1 *ℤ z))) h.source_part.shift h.target_part.shift
    ∙ constant)

slack_is : (b p : ℕ) (source target : DepEnd) (x : Unknowns) (numbers : List ℤ)
    → Shows p source target (layout_of p source target) numbers x
    → claimed Bounding source target b p numbers ≡ slack b x
unfolding claimed
slack_is q p source target x numbers h =
    let k = x.source.shift in
    let l = x.target.shift in
    let a = mul_one_left x.w in
    let b = mul_one_left k in
    let c = minus l in
    let constant : (pos 1 *ℤ x.w) +ℤ ((pos 1 *ℤ k) +ℤ (negsuc 0 *ℤ l)) ≡ x.w +ℤ (k -ℤ l) = omega (arith, ints) in
    ap₂ (λ (cs : List ℤ) (z : ℤ). form_of cs z)
    (ap₂ (λ (v vs : List ℤ). v ++ vs)
    (ap (multiples (pos 1)) h.source_part.coefficients ∙ multiples-one x.source.coefficients)
    (ap₂ (λ (v vs : List ℤ). v ++ vs) (ap (multiples (negsuc 0)) h.target_part.coefficients)
    (ap (λ (vs : List ℤ). zeros q ++ vs) (ap (multiples (pos 1)) h.bounds ∙ multiples-one x.u))))
    (ap (λ (z : ℤ). (pos 1 *ℤ z) +ℤ ((pos 1 *ℤ shift_of numbers (layout_of p source target).source source.loops)
    +ℤ (negsuc 0 *ℤ shift_of numbers (layout_of p source target).target target.loops))) h.bound
    ∙ ap₂ (λ (y z : ℤ). (pos 1 *ℤ x.w) +ℤ ((pos 1 *ℤ y) +ℤ (negsuc 0 *ℤ z))) h.source_part.shift h.target_part.shift
    ∙ constant)

-- as many as the rows' numbers
pub row_length : (claim : Claim) (source target : DepEnd) (s t : Constraints) (x : Unknowns)
    → IsFarkas claim source target s t → AreOf s.parameters source target x
    → length (numbers_of source target x) ≡ t.dimensions
row_length claim source target s t x h are = (shows s.parameters source target x are).size ∙ sym h.dimensions

-- what the rows say of the unknowns
pub legal_says : (source target : DepEnd) (s t : Constraints) (x : Unknowns) → IsFarkas Legality source target s t
    → AreOf s.parameters source target x → AreNotNegative (numbers_of source target x)
    → Satisfies t (numbers_of source target x) ↔ HasFarkas (rows_of s)
    (distance (binds_between source target s) s.parameters x)
legal_says source target s t x h are up =
    let numbers = numbers_of source target x in
    subst (λ (f : Affine). Satisfies t numbers ↔ HasFarkas (rows_of s) f)
    (distance_is (binds_between source target s) s.parameters source target x numbers are
    (shows s.parameters source target x are))
    (h.exact numbers (row_length Legality source target s t x h are) up)

pub bounded_says : (source target : DepEnd) (s t : Constraints) (x : Unknowns) → IsFarkas Bounding source target s t
    → AreOf s.parameters source target x → AreNotNegative (numbers_of source target x)
    → Satisfies t (numbers_of source target x) ↔ HasFarkas (rows_of s) (slack (binds_between source target s) x)
bounded_says source target s t x h are up =
    let numbers = numbers_of source target x in
    subst (λ (f : Affine). Satisfies t numbers ↔ HasFarkas (rows_of s) f)
    (slack_is (binds_between source target s) s.parameters source target x numbers
    (shows s.parameters source target x are))
    (h.exact numbers (row_length Bounding source target s t x h are) up)
