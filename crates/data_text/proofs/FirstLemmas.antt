-- The extent that is told is the first that is not positive; the list that is told stands on the first line of those
-- that are not as long as their arrays.
use Rattle.scop_syntax.proofs.Common.{◌≡◌, ◌∙◌, sym, ap, subst, refl, inl, inr, ◌⊎◌, ℕ, zero, suc, ◌+◌, ◌<◌, ◌≤◌, Bool}
use Rattle.scop_syntax.proofs.Common.{true, false, ltb, if◌then◌else◌, ◌==◌, List, [], ◌∷◌, length, get_or, arith}
use Rattle.scop_syntax.proofs.Common.{eqb-false, ints, All, ℤ, pos, negsuc, ◌≤ℤ◌, int_le, Option, Some, None, slice_get}
use Rattle.scop_syntax.proofs.Common.{Affine, value_of, Declaration, values, cell_count}
use Rattle.std.proofs.Common.{leb-true, ltb-true}
use Rattle.std.proofs.Common.{ltb-false, ne_eqb}
use Rattle.data_lines.specs.declared.refusal.DataRefusal.{DataRefusal}
use Rattle.data_lines.specs.declared.refusal.DataRefusal.TheVariants.{Extent}
use Rattle.data_lines.specs.Sheets.{Given, nothing, listed, seeded}
use Rattle.data_text.specs.declared.counts.Miscount.{Miscount}
use Rattle.data_text.specs.Cases.{bad_dimension, bad_extent, earlier, first_miscount, miscount_of, or_else}
use Rattle.data_text.specs.Described.{IsFirstLow}
use Rattle.data_text.proofs.ContentLemmas.{none_before}
use Rattle.data_text.proofs.LayoutLemmas.{extents_positive}

-- the first extent that is not positive
int_low : (z : ℤ) → int_le z (pos 0) ≡ true → z ≤ℤ pos 0
int_low (pos zero) low = omega (arith, ints)
int_low (pos (suc n)) low = absurd (omega (arith, leb-true (suc n) 0 low))
int_low (negsuc n) low = omega (arith, ints)

int_high : (z : ℤ) → int_le z (pos 0) ≡ false → pos 1 ≤ℤ z
int_high (pos zero) high = absurd cc
int_high (pos (suc n)) high = omega (arith, ints)
int_high (negsuc n) high = absurd cc

one_of : (low : Bool) (refusal told : DataRefusal) (rest : Option DataRefusal)
    → (if low then Some refusal else rest) ≡ Some told
    → ((low ≡ true) × (told ≡ refusal)) ⊎ ((low ≡ false) × (rest ≡ Some told))
one_of true refusal told rest is = let same : refusal ≡ told = cc in inl (refl, sym same)
one_of false refusal told rest is = inr (refl, is)

-- the extents in front of this one are positive
abbrev AreHigh : List ℤ → List Affine → ℕ → Type 0
AreHigh params forms i = (k : ℕ) (form : Affine) → k < i → slice_get forms k ≡ Some form → pos 1 ≤ℤ value_of form params

high_next : (params : List ℤ) (form : Affine) (forms : List Affine) (i : ℕ) → pos 1 ≤ℤ value_of form params
    → AreHigh params forms i → AreHigh params (form ∷ forms) (suc i)
high_next params form forms i high rest zero other within is =
    let same : form ≡ other = cc in subst (λ f. pos 1 ≤ℤ value_of f params) same high
high_next params form forms i high rest (suc k) other within is = rest k other (omega (arith, within)) is

abbrev IsLowIn : List ℤ → List Affine → ℕ → ℕ → DataRefusal → Type 0
IsLowIn params forms j k told = (i : ℕ) × (form : Affine) × (slice_get forms i ≡ Some form)
    × (told ≡ Extent j (k + i) (value_of form params)) × (value_of form params ≤ℤ pos 0) × AreHigh params forms i

low_dimension : (params : List ℤ) (j k : ℕ) (forms : List Affine) (told : DataRefusal)
    → bad_dimension j k (values forms params) ≡ Some told → IsLowIn params forms j k told
low_dimension params j k [] told is = cc
low_dimension params j k (form ∷ forms) told is =
    let z = value_of form params in
    elim (one_of (int_le z (pos 0)) (Extent j k z) told (bad_dimension j (k + 1) (values forms params)) is) [
      | inl here ↦ let same : k ≡ k + 0 = omega arith in (
        0,
        form,
        refl,
        here.1 ∙ ap (λ n. Extent j n z) same,
        int_low z here.0,
        λ m other within. absurd (omega (arith, within)),
      )
      | inr there ↦ let rest = low_dimension params j (k + 1) forms told there.1 in
          let same : (k + 1) + rest.0 ≡ k + suc rest.0 = omega arith in (
            suc rest.0,
            rest.1,
            rest.2,
            rest.3 ∙ ap (λ n. Extent j n (value_of rest.1 params)) same,
            rest.4,
            high_next params form forms rest.0 (int_high z there.0) rest.5,
          )
    ]

either_rule : (rule other : Option DataRefusal) (told : DataRefusal) → or_else rule other ≡ Some told
    → (rule ≡ Some told) ⊎ ((rule ≡ None) × (other ≡ Some told))
either_rule (Some refusal) other told is = inl is
either_rule None other told is = inr (refl, is)

-- the arrays in front of this one have positive extents
abbrev HaveExtents : List ℤ → List Declaration → ℕ → Type 0
HaveExtents params ds m = (i : ℕ) (d : Declaration) → i < m → slice_get ds i ≡ Some d
    → All (λ form. pos 1 ≤ℤ value_of form params) d.extents

extents_next : (params : List ℤ) (d : Declaration) (ds : List Declaration) (m : ℕ)
    → All (λ form. pos 1 ≤ℤ value_of form params) d.extents → HaveExtents params ds m
    → HaveExtents params (d ∷ ds) (suc m)
extents_next params d ds m first rest zero other within is =
    let same : d ≡ other = cc in
    subst (λ (e : Declaration). All (λ form. pos 1 ≤ℤ value_of form params) e.extents) same first
extents_next params d ds m first rest (suc i) other within is = rest i other (omega (arith, within)) is

abbrev IsLowAmong : List ℤ → List Declaration → ℕ → DataRefusal → Type 0
IsLowAmong params ds j told = (m : ℕ) × (k : ℕ) × (v : ℤ) × (told ≡ Extent (j + m) k v) × IsFirstLow params ds m k v

low_here : (params : List ℤ) (j : ℕ) (d : Declaration) (ds : List Declaration) (told : DataRefusal)
    → IsLowIn params d.extents j 1 told → IsLowAmong params (d ∷ ds) j told
low_here params j d ds told low =
    let same : j ≡ j + 0 = omega arith in (
      0,
      1 + low.0,
      value_of low.1 params,
      low.3 ∙ ap (λ n. Extent n (1 + low.0) (value_of low.1 params)) same,
      record {
        is_low = record {
          array = d;
          form = low.1;
          before = low.0;
          is_array = refl;
          is_extent = low.2;
          number = omega arith;
          value_is = refl;
          low = low.4;
        };
        earlier = λ i other within. absurd (omega (arith, within));
        lesser = λ k form within. low.5 k form (omega (arith, within));
      },
    )

low_behind : (params : List ℤ) (d : Declaration) (ds : List Declaration) (m k : ℕ) (v : ℤ)
    → All (λ form. pos 1 ≤ℤ value_of form params) d.extents → IsFirstLow params ds m k v
    → IsFirstLow params (d ∷ ds) (suc m) k v
low_behind params d ds m k v first rest = record {
  is_low = record {
    array = rest.is_low.array;
    form = rest.is_low.form;
    before = rest.is_low.before;
    is_array = rest.is_low.is_array;
    is_extent = rest.is_low.is_extent;
    number = rest.is_low.number;
    value_is = rest.is_low.value_is;
    low = rest.is_low.low;
  };
  earlier = extents_next params d ds m first rest.earlier;
  lesser = rest.lesser;
}

pub low_array : (params : List ℤ) (j : ℕ) (ds : List Declaration) (told : DataRefusal)
    → bad_extent params j ds ≡ Some told → IsLowAmong params ds j told
low_array params j [] told is = cc
low_array params j (d ∷ ds) told is =
    elim (either_rule (bad_dimension j 1 (values d.extents params)) (bad_extent params (j + 1) ds) told is) [
      | inl here ↦ low_here params j d ds told (low_dimension params j 1 d.extents told here)
      | inr there ↦ let rest = low_array params (j + 1) ds told there.1 in
          let same : (j + 1) + rest.0 ≡ j + suc rest.0 = omega arith in (
            suc rest.0,
            rest.1,
            rest.2,
            rest.3 ∙ ap (λ n. Extent n rest.1 rest.2) same,
            low_behind params d ds rest.0 rest.1 rest.2 (extents_positive params j 1 d.extents there.0) rest.4,
          )
    ]

-- lists that are as long as their arrays, and one that is not
one_earlier : (best other : Option Miscount) (m : Miscount) → earlier best other ≡ Some m
    → (best ≡ Some m) ⊎ (other ≡ Some m)
one_earlier None other m is = inr is
one_earlier (Some best) None m is = inl is
one_earlier (Some best) (Some other) m is = by (ltb other.line best.line) is
  where
    by : (before : Bool) → (if before then Some other else Some best) ≡ Some m
        → (Some best ≡ Some m) ⊎ (Some other ≡ Some m)
    by true is = inr is
    by false is = inl is

abbrev pub row_count_of : List (List ℕ) → List Given → ℕ → Option Miscount
row_count_of layouts rows j = miscount_of (cell_count (get_or layouts j [])) (get_or rows j nothing)

abbrev IsFound : List (List ℕ) → List Given → Miscount → Type 0
IsFound layouts rows m = (j : ℕ) × (j < length layouts) × (row_count_of layouts rows j ≡ Some m)

pub miscount_found : (best : Option Miscount) (layouts : List (List ℕ)) (rows : List Given) (m : Miscount)
    → first_miscount best layouts rows ≡ Some m → (best ≡ Some m) ⊎ IsFound layouts rows m
miscount_found best [] rows m is = inl is
miscount_found best (extents ∷ layouts) [] m is = inl is
miscount_found best (extents ∷ layouts) (given ∷ rows) m is =
    elim (miscount_found (earlier best (miscount_of (cell_count extents) given)) layouts rows m is) [
      | inl now ↦ elim (one_earlier best (miscount_of (cell_count extents) given) m now) [
        | inl old ↦ inl old
        | inr here ↦ inr (0, omega arith, here)
      ]
      | inr later ↦ inr (suc later.0, omega (arith, later.1), later.2)
    ]

pub none_found : (layouts : List (List ℕ)) (rows : List Given) (j : ℕ) → first_miscount None layouts rows ≡ None
    → length rows ≡ length layouts → j < length layouts → row_count_of layouts rows j ≡ None
none_found [] rows j none count within = absurd (omega (arith, within))
none_found (extents ∷ layouts) [] j none count within = absurd (omega (arith, count))
none_found (extents ∷ layouts) (given ∷ rows) zero none count within =
    none_before (miscount_of (cell_count extents) given) layouts rows none
none_found (extents ∷ layouts) (given ∷ rows) (suc j) none count within =
    let here = none_before (miscount_of (cell_count extents) given) layouts rows none in
    none_found layouts rows j (ap (λ m. first_miscount m layouts rows) (sym here) ∙ none)
    (omega (arith, count)) (omega (arith, within))

abbrev IsMiscount : ℕ → Given → Miscount → Type 0
IsMiscount n given m = (cells : List ℕ) × (given ≡ listed m.line cells) × (n ≡ m.expected) × (length cells ≡ m.found)
    × (length cells ≡ n → ⊥)

miscount_by : (n line : ℕ) (cells : List ℕ) (m : Miscount) (same : Bool) → (length cells == n) ≡ same
    → (let r : Miscount = record { line = line; expected = n; found = length cells } in
    (if same then None else Some r) ≡ Some m) → IsMiscount n (listed line cells) m
miscount_by n line cells m true is told = cc
miscount_by n line cells m false is told =
    let r : Miscount = record { line = line; expected = n; found = length cells } in
    let same : r ≡ m = cc in (
      cells,
      ap (λ (c : Miscount). listed c.line cells) same,
      ap (λ (c : Miscount). c.expected) same,
      ap (λ (c : Miscount). c.found) same,
      eqb-false (length cells) n is,
    )

pub miscount_is : (n : ℕ) (given : Given) (m : Miscount) → miscount_of n given ≡ Some m → IsMiscount n given m
miscount_is n nothing m told = cc
miscount_is n (listed line cells) m told = miscount_by n line cells m (length cells == n) refl told
miscount_is n (seeded seed) m told = cc

-- what is found stands on the least line of those that are found
both_least : (k : ℕ) (best other : Option Miscount) → ((m : Miscount) → earlier best other ≡ Some m → k ≤ m.line)
    → ((m : Miscount) → best ≡ Some m → k ≤ m.line) × ((m : Miscount) → other ≡ Some m → k ≤ m.line)
both_least k None other least = (λ m is. cc, least)
both_least k (Some best) None least = (least, λ m is. cc)
both_least k (Some best) (Some other) least = by (ltb other.line best.line) refl least
  where
    at_one : (one m : Miscount) → k ≤ one.line → Some one ≡ Some m → k ≤ m.line
    at_one one m low is = let same : one ≡ m = cc in subst (λ (x : Miscount). k ≤ x.line) same low

    by : (before : Bool) → ltb other.line best.line ≡ before
        → ((m : Miscount) → (if before then Some other else Some best) ≡ Some m → k ≤ m.line)
        → ((m : Miscount) → Some best ≡ Some m → k ≤ m.line) × ((m : Miscount) → Some other ≡ Some m → k ≤ m.line)
    by true is low =
        let here : k ≤ other.line = low other refl in
        let there = ltb-true other.line best.line is in
        (λ m. at_one best m (omega (arith, here, there)), λ m. at_one other m here)
    by false is low =
        let here : k ≤ best.line = low best refl in
        let there = ltb-false other.line best.line is in
        (λ m. at_one best m here, λ m. at_one other m (omega (arith, here, there)))

least_of : (best : Option Miscount) (layouts : List (List ℕ)) (rows : List Given) (m : Miscount)
    → length rows ≡ length layouts → first_miscount best layouts rows ≡ Some m
    → ((o : Miscount) → best ≡ Some o → m.line ≤ o.line)
    × ((j : ℕ) (o : Miscount) → j < length layouts → row_count_of layouts rows j ≡ Some o → m.line ≤ o.line)
least_of best [] rows m count is = (
  λ o here. let same : m ≡ o = cc in subst (λ (x : Miscount). m.line ≤ x.line) same (omega arith),
  λ j o within. absurd (omega (arith, within)),
)
least_of best (extents ∷ layouts) [] m count is = absurd (omega (arith, count))
least_of best (extents ∷ layouts) (given ∷ rows) m count is =
    let now = miscount_of (cell_count extents) given in
    let rest = least_of (earlier best now) layouts rows m (omega (arith, count)) is in
    let both = both_least m.line best now rest.0 in
    (both.0, row_least both.1 rest.1)
  where
    row_least : ((o : Miscount) → miscount_of (cell_count extents) given ≡ Some o → m.line ≤ o.line)
        → ((j : ℕ) (o : Miscount) → j < length layouts → row_count_of layouts rows j ≡ Some o → m.line ≤ o.line)
        → (j : ℕ) (o : Miscount) → j < suc (length layouts)
        → row_count_of (extents ∷ layouts) (given ∷ rows) j ≡ Some o → m.line ≤ o.line
    row_least first rest zero o within found = first o found
    row_least first rest (suc j) o within found = rest j o (omega (arith, within)) found

pub least_line : (layouts : List (List ℕ)) (rows : List Given) (m : Miscount) (j : ℕ) (o : Miscount)
    → length rows ≡ length layouts → first_miscount None layouts rows ≡ Some m → j < length layouts
    → row_count_of layouts rows j ≡ Some o → m.line ≤ o.line
least_line layouts rows m j o count is within found = (least_of None layouts rows m count is).1 j o within found

pub miscount_told_of : (n line : ℕ) (cells : List ℕ) → (length cells ≡ n → ⊥) → miscount_of n (listed line cells)
    ≡ Some (record { line = line; expected = n; found = length cells })
miscount_told_of n line cells differ = rw (ne_eqb (length cells) n differ) refl
