-- What holds of each form that an elimination makes, from what holds of the forms that it makes them of
-- (`eliminated_all`).
use Rattle.whole_numbers.proofs.Common.{◌≡◌, ℕ, ℤ, pos, ◌*ℤ◌, neg_ℤ, unsigned_abs, Bool, List, get_or, refl, All, map}
use Rattle.whole_numbers.proofs.Common.{Option, Some, None, All-append, All-map, Affine, sum_of_forms, multiple_of_form}
use Rattle.whole_numbers.specs.Content.{lowest_of_form}
use Rattle.fractions.specs.Elimination.{coefficient_of, is_zero, is_not_zero, is_positive, is_negative, chosen}
use Rattle.fractions.specs.Elimination.{combined, pairs, projected_rows, sign, reduced, reduced_all, first_with}
use Rattle.fractions.specs.Elimination.{eliminated_by, eliminated}
use Rattle.fractions.proofs.ChosenRows.{is_zero_iff, chosen_from, pairs_from}
use Rattle.fractions.proofs.SystemElimination.{absent, taken_out}

-- P of the forms makes Q of a form without the variable, of a pair, of a reduced form, and lowest terms keep Q
pub record Carries (i : ℕ) (P Q : Affine → Type 0) : Type 0 where
  pub kept : (f : Affine) → coefficient_of i f ≡ pos 0 → P f → Q f
  pub pair : (p n : Affine) → P p → P n → Q (combined i p n)
  pub reduce : (e r : Affine) → P e → P r → Q (reduced i e r)
  pub lowest : (f : Affine) → Q f → Q (lowest_of_form f)

-- what sums of multiples and lowest terms keep
pub sums_carry : (P : Affine → Type 0)
    → ((a b : ℤ) (f g : Affine) → P f → P g → P (sum_of_forms (multiple_of_form a f) (multiple_of_form b g)))
    → ((f : Affine) → P f → P (lowest_of_form f)) → (i : ℕ) → Carries i P P
sums_carry P sum low i = record {
  kept = λ f e h. h;
  pair = λ p n hp hn. sum (neg_ℤ (coefficient_of i n)) (coefficient_of i p) p n hp hn;
  reduce = λ e r he hr. sum (pos (unsigned_abs (coefficient_of i e)))
      (neg_ℤ (sign (coefficient_of i e) *ℤ coefficient_of i r)) r e hr he;
  lowest = low;
}

all_lowest : (i : ℕ) (P Q : Affine → Type 0) (fs : List Affine) → Carries i P Q → All Q fs
    → All Q (map lowest_of_form fs)
all_lowest i P Q fs h all = All-map Q lowest_of_form fs (λ k d inside. h.lowest (get_or fs k d) (all k d inside))

all_kept : (i : ℕ) (P Q : Affine → Type 0) (fs : List Affine) → Carries i P Q → All P fs
    → All Q (chosen is_zero i fs)
all_kept i P Q fs h all = chosen_from Q is_zero i fs (λ k d inside. λ e.
    h.kept (get_or fs k d) ((is_zero_iff (coefficient_of i (get_or fs k d))).0 e) (all k d inside))

all_chosen : (P : Affine → Type 0) (test : ℤ → Bool) (i : ℕ) (fs : List Affine) → All P fs
    → All P (chosen test i fs)
all_chosen P test i fs all = chosen_from P test i fs (λ k d inside. λ _. all k d inside)

all_projected : (i : ℕ) (P Q : Affine → Type 0) (rows : List Affine) → Carries i P Q → All P rows
    → All Q (projected_rows i rows)
all_projected i P Q rows h all =
    let ps = chosen is_positive i rows in
    let ns = chosen is_negative i rows in
    let hp = all_chosen P is_positive i rows all in
    let hn = all_chosen P is_negative i rows all in
    All-append Q (chosen is_zero i rows) (pairs i ps ns) (all_kept i P Q rows h all)
    (pairs_from Q i ps ns (λ k d inside. λ l e within.
    h.pair (get_or ps k d) (get_or ns l e) (hp k d inside) (hn l e within)))

all_reduced : (i : ℕ) (P Q : Affine → Type 0) (e : Affine) (fs : List Affine) → Carries i P Q → P e → All P fs
    → All Q (reduced_all i e fs)
all_reduced i P Q e fs h he all =
    let others = chosen is_not_zero i fs in
    let ho = all_chosen P is_not_zero i fs all in
    All-append Q (chosen is_zero i fs) (map (reduced i e) others) (all_kept i P Q fs h all)
    (All-map Q (reduced i e) others (λ k d inside. h.reduce e (get_or others k d) he (ho k d inside)))

all_by : (i : ℕ) (P Q : Affine → Type 0) (o : Option (Affine × List Affine)) (es rs : List Affine)
    → first_with i es ≡ o → Carries i P Q → All P es → All P rs
    → All Q (eliminated_by i o es rs).0 × All Q (eliminated_by i o es rs).1
all_by i P Q None es rs first h he hr =
    let free = absent i es first in (
      all_lowest i P Q es h (λ k d inside. h.kept (get_or es k d) (free k d inside) (he k d inside)),
      all_lowest i P Q (projected_rows i rs) h (all_projected i P Q rs h hr),
    )
all_by i P Q (Some g) es rs first h he hr =
    let t = (taken_out i P es g first).1.0 he in (
      all_lowest i P Q (reduced_all i g.0 g.1) h (all_reduced i P Q g.0 g.1 h t.0 t.1),
      all_lowest i P Q (reduced_all i g.0 rs) h (all_reduced i P Q g.0 rs h t.0 hr),
    )

pub eliminated_all : (i : ℕ) (P Q : Affine → Type 0) (es rs : List Affine) → Carries i P Q → All P es → All P rs
    → All Q (eliminated i es rs).0 × All Q (eliminated i es rs).1
unfolding eliminated
eliminated_all i P Q es rs h he hr = all_by i P Q (first_with i es) es rs refl h he hr
