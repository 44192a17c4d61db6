-- What holds of the constraints of a system holds of the sources of an elimination and of what that leaves.
use Rattle.whole_numbers.proofs.Common.{◌≡◌, ℕ, suc, ◌+◌, ◌<◌, Bool, true, false, pos, ◌≤ℤ◌, List, [], ◌∷◌, ◌++◌}
use Rattle.whole_numbers.proofs.Common.{All, ◌∙◌, ◌-◌, ◌≤◌, ap, subst, get_or, refl, set, arith, ◌-ℤ◌, if◌then◌else◌}
use Rattle.whole_numbers.proofs.Common.{map, nat_le, Option, Some, None, IfSome, Ok, count_ones, All-append, All-cons}
use Rattle.whole_numbers.proofs.Common.{All-filter, All-head, All-map, All-nil, All-set, All-tail, Affine, value_of}
use Rattle.affine_forms.specs.Parts.{variables_of}
use Rattle.fractions.specs.Elimination.{coefficient_of, is_negative, is_zero}
use Rattle.integer_sets.specs.Constraints.{Constraints, IsSized}
use Rattle.fm_projection.specs.Projecting.{Follow, elimination_of, gone, without_column}
use Rattle.fm_projection.proofs.Exact.{eliminated_sized}
use Rattle.fm_projection.proofs.RemovedEntries.{narrowed_sized}
use Rattle.fm_projection.proofs.TightestRows.{kept}
use Rattle.fm_projection.proofs.WholePoints.{follow}
use Rattle.traced_projections.specs.declared.rows.Sign.{Sign}
use Rattle.traced_projections.specs.declared.rows.Sign.TheVariants.{Zero, NotZero, Positive, Negative}
use Rattle.traced_projections.specs.Tracing.{Row, Tracing, constraints_of, digit, forms_of, has_sign, numbered}
use Rattle.traced_projections.specs.Tracing.{place_of}
use Rattle.traced_projections.specs.Tracing.{IsTraced, placed, row_of, signed, tracing, with_row}
use Rattle.traced_projections.specs.Eliminating.{Source, first_equality, frame_of, pair, pairs, pairs_with, single}
use Rattle.traced_projections.specs.Eliminating.{Adds, pairings_by, sources, sources_by, sources_with, traced_gone}
use Rattle.traced_projections.specs.Eliminating.{with_left, with_sources}

-- P holds of the forms
abbrev pub AllForms : (Affine → Type 0) → List Row → Type 0
AllForms P rows = All (λ (r : Row). P r.form) rows

pub numbered_all : (P : Affine → Type 0) (k : ℕ) (fs : List Affine) → All P fs → AllForms P (numbered k fs)
numbered_all P k [] all = All-nil (λ (r : Row). P r.form)
numbered_all P k (f ∷ fs) all =
    All-cons (λ (r : Row). P r.form) (row_of f (digit k)) (numbered (suc k) fs) (All-head P f fs all)
    (numbered_all P (suc k) fs (All-tail P f fs all))

pub signed_all : (P : Affine → Type 0) (sign : Sign) (i : ℕ) (rows : List Row) → AllForms P rows
    → AllForms P (signed sign i rows)
signed_all P sign i rows all =
    All-filter (λ (r : Row). has_sign sign (coefficient_of i r.form)) (λ (r : Row). P r.form) rows all

pub forms_all : (P : Affine → Type 0) (rows : List Row) → All P (forms_of rows) → AllForms P rows
forms_all P [] all = All-nil (λ (r : Row). P r.form)
forms_all P (r ∷ rows) all =
    All-cons (λ (q : Row). P q.form) r rows (All-head P r.form (forms_of rows) all)
    (forms_all P rows (All-tail P r.form (forms_of rows) all))

pub first_all : (P : Affine → Type 0) (i : ℕ) (es : List Affine) → All P es → IfSome (first_equality i es) P
first_all P i [] all = tt
first_all P i (e ∷ es) all = by (is_zero (coefficient_of i e)) (first_all P i es (All-tail P e es all))
  where
    by : (b : Bool) → IfSome (first_equality i es) P → IfSome (if b then first_equality i es else Some e) P
    by true rest = rest
    by false rest = All-head P e es all

-- of the rows that are put together
row_all : (P : Affine → Type 0) (rows : List Row) (r : Row) → AllForms P rows → P r.form → AllForms P (with_row rows r)
row_all P rows r all own = by (place_of rows r.form)
  where
    Q : Row → Type 0
    Q q = P q.form

    tighter : (b : Bool) (at : ℕ) → AllForms P (if b then set rows at r else rows)
    tighter true at = All-set Q rows at r own all
    tighter false at = all

    by : (at : Option ℕ) → AllForms P (placed at rows r)
    by None = All-append Q rows (r ∷ []) all (All-cons Q r [] own (All-nil Q))
    by (Some at) = tighter (is_negative (r.form.constant -ℤ (get_or rows at r).form.constant)) at

left_all : (P : Affine → Type 0) (rows : List Row) (fs : List Affine) (h : ℕ) → AllForms P rows → All P fs
    → AllForms P (with_left rows fs h)
left_all P rows [] h all own = all
left_all P rows (f ∷ fs) h all own = row_all P rows (row_of f h) all (All-head P f fs own)

pub made_all : (P : Affine → Type 0) (i : ℕ) (rows : List Row) (ss : List Source) → AllForms P rows
    → All (λ (s : Source). All P (gone i s.system).rows) ss → AllForms P (with_sources i rows ss)
made_all P i rows [] all left = all
made_all P i rows (s ∷ ss) all left =
    let Q : Source → Type 0 = λ s. All P (gone i s.system).rows in
    made_all P i (with_left rows (gone i s.system).rows s.history) ss
    (left_all P rows (gone i s.system).rows s.history all (All-head Q s ss left)) (All-tail Q s ss left)

-- of the sources
module _ (E R : Affine → Type 0) (i : ℕ) (t : Tracing) where
  abbrev pub Keeps : Source → Type 0
  Keeps s = All E s.system.equalities × All R s.system.rows

  singles_keep : (es : List Affine) (rows : List Row) → All E es → AllForms R rows
      → All Keeps (map (single t es) rows)
  singles_keep es rows own all =
      All-map Keeps (single t es) rows
      (λ k d inside. (own, All-cons R (get_or rows k d).form [] (all k d inside) (All-nil R)))

  pairs_keep_with : (most : ℕ) (p : Row) (ns : List Row) → R p.form → AllForms R ns
      → All Keeps (pairs_with t most p ns)
  pairs_keep_with most p [] own all = All-nil Keeps
  pairs_keep_with most p (n ∷ ns) own all =
      let Q : Row → Type 0 = λ r. R r.form in
      by (nat_le (count_ones (pair t p n).history) most) (All-head Q n ns all)
      (pairs_keep_with most p ns own (All-tail Q n ns all))
    where
      by : (b : Bool) → R n.form → All Keeps (pairs_with t most p ns)
          → All Keeps (if b then pair t p n ∷ pairs_with t most p ns else pairs_with t most p ns)
      by true other rest =
          All-cons Keeps (pair t p n) (pairs_with t most p ns)
          (All-nil E, All-cons R p.form (n.form ∷ []) own (All-cons R n.form [] other (All-nil R))) rest
      by false other rest = rest

  pairs_keep : (most : ℕ) (ps ns : List Row) → AllForms R ps → AllForms R ns → All Keeps (pairs t most ps ns)
  pairs_keep most [] ns own all = All-nil Keeps
  pairs_keep most (p ∷ ps) ns own all =
      let Q : Row → Type 0 = λ r. R r.form in
      All-append Keeps (pairs_with t most p ns) (pairs t most ps ns)
      (pairs_keep_with most p ns (All-head Q p ps own) all) (pairs_keep most ps ns (All-tail Q p ps own) all)

  pub sources_keep : All E t.equalities → AllForms R t.rows → All Keeps (sources i t)
  sources_keep es rows =
      All-append Keeps (map (single t []) (signed Zero i t.rows)) (sources_by (first_equality i t.equalities) i t)
      (singles_keep [] (signed Zero i t.rows) (All-nil E) (signed_all R Zero i t.rows rows))
      (by (first_equality i t.equalities) (first_all E i t.equalities es))
    where
      by : (e : Option Affine) → IfSome e E → All Keeps (sources_by e i t)
      by None h =
          pairs_keep (t.pairings + 2) (signed Positive i t.rows) (signed Negative i t.rows)
          (signed_all R Positive i t.rows rows) (signed_all R Negative i t.rows rows)
      by (Some e) h =
          singles_keep (e ∷ []) (signed NotZero i t.rows) (All-cons E e [] h (All-nil E))
          (signed_all R NotZero i t.rows rows)

-- a whole point without its entry is one of what is left
pub follow_traced : (i : ℕ) (t : Tracing) → Follow i (constraints_of t) (constraints_of (traced_gone i t))
follow_traced i t outer x rest size h =
    let E : Affine → Type 0 = λ f. value_of f (outer ++ x ∷ rest) ≡ pos 0 in
    let R : Affine → Type 0 = λ f. pos 0 ≤ℤ value_of f (outer ++ x ∷ rest) in
    let P : Affine → Type 0 = λ f. pos 0 ≤ℤ value_of f (outer ++ rest) in
    let all = sources_keep E R i t h.0 (forms_all R t.rows h.1) in
    let left : All (λ (s : Source). All P (gone i s.system).rows) (sources i t) =
    λ k d inside. (follow i (get_or (sources i t) k d).system outer x rest size (all k d inside)).1 in (
      (follow i (frame_of t) outer x rest size (h.0, All-nil R)).0,
      All-map P (λ (r : Row). r.form) (with_sources i [] (sources i t))
          (made_all P i [] (sources i t) (All-nil (λ (r : Row). P r.form)) left),
    )

-- what is left speaks of the other variables
gone_over : (i n : ℕ) (s : Constraints) → i < suc n → IsSized (suc n) s.equalities s.rows
    → All (λ f. variables_of f ≡ n) (gone i s).equalities × All (λ f. variables_of f ≡ n) (gone i s).rows
gone_over i n s inside sized =
    let wide = eliminated_sized (suc n) i s.equalities s.rows sized.equalities_sized sized.rows_sized in (
      narrowed_sized i n (elimination_of i s).equalities (gone i s).equalities wide.0 inside refl,
      kept (λ f. variables_of f ≡ n) (without_column i (elimination_of i s)).rows
          (narrowed_sized i n (elimination_of i s).rows (without_column i (elimination_of i s)).rows wide.1 inside refl),
    )

pub traced_over : (i n : ℕ) (t : Tracing) → i < suc n → All (λ f. variables_of f ≡ suc n) t.equalities
    → AllForms (λ f. variables_of f ≡ suc n) t.rows
    → All (λ f. variables_of f ≡ n) (traced_gone i t).equalities
    × AllForms (λ f. variables_of f ≡ n) (traced_gone i t).rows
traced_over i n t inside es rows =
    let P : ℕ → Affine → Type 0 = λ k f. variables_of f ≡ k in
    let all = sources_keep (P (suc n)) (P (suc n)) i t es rows in
    let left : All (λ (s : Source). All (P n) (gone i s.system).rows) (sources i t) =
    λ k d here. (gone_over i n (get_or (sources i t) k d).system inside
    (record { equalities_sized = (all k d here).0; rows_sized = (all k d here).1 })).1 in (
      (gone_over i n (frame_of t) inside (record { equalities_sized = es; rows_sized = All-nil (P (suc n)) })).0,
      made_all (P n) i [] (sources i t) (All-nil (λ (r : Row). P n r.form)) left,
    )

-- what is made of the equalities and the rows that are left is the system without the dimension
pub record IsRest (i : ℕ) (t : Tracing) (es : List Affine) (rows : List Row) (k : ℕ) : Type 0 where
  pub traced : IsTraced (traced_gone i t)
  pub is : tracing (t.dimensions - 1) t.parameters es rows k ≡ traced_gone i t

pub rest_is : (i : ℕ) (t : Tracing) (e : Option Affine) (es : List Affine) (old rows : List Row) (k : ℕ)
    → i < t.dimensions → IsTraced t → e ≡ first_equality i t.equalities → es ≡ (gone i (frame_of t)).equalities
    → old ≡ [] → Adds i (sources_with e i t) old rows (Ok tt) → k ≡ pairings_by e t.pairings → IsRest i t es rows k
rest_is i t e es old rows k inside own first left none added count =
    let n = t.dimensions - 1 + t.parameters in
    let one : t.dimensions + t.parameters ≡ suc n = omega (arith, inside) in
    let P : ℕ → Affine → Type 0 = λ m f. variables_of f ≡ m in
    let over = traced_over i n t (omega (arith, inside, one))
    (subst (λ m. All (P m) t.equalities) one own.over.equalities_over)
    (subst (λ m. AllForms (P m) t.rows) one own.over.rows_over) in
    let made : rows ≡ with_sources i [] (sources i t) =
    added.1 ∙ ap (λ (rs : List Row). with_sources i rs (sources_with e i t)) none
    ∙ ap (λ (o : Option Affine). with_sources i [] (sources_with o i t)) first in
    let few = own.few in
    let less = no_more (first_equality i t.equalities) in
    record {
      traced = record {
        over = record { equalities_over = over.0; rows_over = over.1 };
        few = omega (arith, few, less, inside);
      };
      is = ap (λ (fs : List Affine). tracing (t.dimensions - 1) t.parameters fs rows k) left
          ∙ ap (λ (rs : List Row). tracing (t.dimensions - 1) t.parameters (gone i (frame_of t)).equalities rs k) made
          ∙ ap (λ (j : ℕ). tracing (t.dimensions - 1) t.parameters (gone i (frame_of t)).equalities
          (with_sources i [] (sources i t)) j)
          (count ∙ ap (λ (o : Option Affine). pairings_by o t.pairings) first);
    }
  where
    no_more : (o : Option Affine) → pairings_by o t.pairings ≤ t.pairings + 1
    no_more None = omega arith
    no_more (Some f) = omega arith
