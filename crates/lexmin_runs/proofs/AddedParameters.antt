-- A tableau with one parameter more, and the parts of rows as forms over parameters.
use Rattle.whole_numbers.proofs.Common.{◌≡◌, ℕ, zero, suc, ◌+◌, ◌<◌, ◌≤◌, ℤ, pos, negsuc, ◌+ℤ◌, ◌-ℤ◌, ◌*ℤ◌, Bool, true}
use Rattle.whole_numbers.proofs.Common.{false, List, [], ◌∷◌, ◌++◌, length, get_or, map, drop, take, refl, subst, ap}
use Rattle.whole_numbers.proofs.Common.{ap₂, sym, ◌∙◌, arith, length-append, append_assoc, add-one, All, if◌then◌else◌}
use Rattle.whole_numbers.proofs.Common.{ints, drop-map, take-map, length-map, All-cons, All-nil, LexNotNegative, dot}
use Rattle.whole_numbers.proofs.Common.{zeros, NotNegative, Affine, value_of, mul_zero_left, mul_zero_right}
use Rattle.whole_numbers.proofs.Common.{mul_one_right, dot-padded, dot-append, dot-past}
use Rattle.tableau_rows.specs.Rows.{Row, Means, Sized}
use Rattle.tableau_rows.specs.Solutions.{IsSolution, IsColumn, HasColumn, IsTableau}
use Rattle.tableau_rows.specs.Moves.{row_at}
use Rattle.tableau_rows.specs.Problem.{row_values, Speaks}
use Rattle.tableau_rows.specs.Run.{Verdict, point, none}
use Rattle.tableau_rows.proofs.Invariant.{column, values, part, IsInside, Stands}
use Rattle.tableau_rows.proofs.Verdicts.{Holds}
use Rattle.lexmin_runs.specs.Nodes.{longer_form, longer_row, part_of, is_zero, all_zero, same_list}

-- lists of one more number each
pub dot-more : (xs ys : List ℤ) (x y : ℤ) → length xs ≡ length ys
    → dot (xs ++ x ∷ []) (ys ++ y ∷ []) ≡ dot xs ys +ℤ (x *ℤ y)
dot-more xs ys x y h = let a = dot-append xs (x ∷ []) ys (y ∷ []) h in omega (arith, ints)

-- a longer row gives the same values
pub dot-longer : (row : Row) (v : List ℤ) → dot (longer_row row).entries v ≡ dot row.entries v
dot-longer row v = dot-padded row.entries 1 v

pub longer_means : (rows : List Row) (v xs : List ℤ) → Means rows v xs → Means (map longer_row rows) v xs
longer_means rows v [] h = tt
longer_means [] v (x ∷ xs) h = absurd h
longer_means (row ∷ rows) v (x ∷ xs) h = (h.0 ∙ sym (dot-longer row v), longer_means rows v xs h.1)

pub shorter_means : (rows : List Row) (v xs : List ℤ) → Means (map longer_row rows) v xs → Means rows v xs
shorter_means rows v [] h = tt
shorter_means [] v (x ∷ xs) h = absurd h
shorter_means (row ∷ rows) v (x ∷ xs) h = (h.0 ∙ dot-longer row v, shorter_means rows v xs h.1)

pub further_means : (m : ℕ) (rows : List Row) (v xs : List ℤ) (q : ℤ) → Sized m rows → length v ≡ m → Means rows v xs
    → Means rows (v ++ q ∷ []) xs
further_means m rows v [] q sized size h = tt
further_means m [] v (x ∷ xs) q sized size h = absurd h
further_means m (row ∷ rows) v (x ∷ xs) q sized size h = (
  h.0 ∙ sym (dot-past row.entries v (q ∷ []) (let e = sized.1 in omega arith)),
  further_means m rows v xs q sized.2 size h.1,
)

pub longer_sized : (m : ℕ) (rows : List Row) → Sized m rows → Sized (m + 1) (map longer_row rows)
longer_sized m [] h = tt
longer_sized m (row ∷ rows) h = (h.0, (let e = h.1 in simp length-append (omega arith)), longer_sized m rows h.2)

pub longer-entry : (es : List ℤ) (j : ℕ) → get_or (es ++ pos 0 ∷ []) j (pos 0) ≡ get_or es j (pos 0)
longer-entry [] zero = refl
longer-entry [] (suc j) = refl
longer-entry (e ∷ es) zero = refl
longer-entry (e ∷ es) (suc j) = longer-entry es j

pub longer-column : (j : ℕ) (rows : List Row) → column j (map longer_row rows) ≡ column j rows
longer-column j [] = refl
longer-column j (row ∷ rows) =
    ap₂ (λ (z : ℤ) (zs : List ℤ). z ∷ zs) (longer-entry row.entries j) (longer-column j rows)

-- each given row is at most this long
abbrev pub AtMost : ℕ → List (List ℤ) → Type 0
AtMost m [] = Unit {0}
AtMost m (g ∷ gs) = (length g ≤ m) × AtMost m gs

pub values-further : (givens : List (List ℤ)) (v : List ℤ) (q : ℤ) → AtMost (length v) givens
    → values givens (v ++ q ∷ []) ≡ values givens v
values-further [] v q h = refl
values-further (g ∷ gs) v q h =
    ap₂ (λ (z : ℤ) (zs : List ℤ). z ∷ zs) (dot-past g v (q ∷ []) h.0) (values-further gs v q h.1)

pub at_most-more : (m k : ℕ) (givens : List (List ℤ)) → m ≤ k → AtMost m givens → AtMost k givens
at_most-more m k [] l h = tt
at_most-more m k (g ∷ gs) l h = (let a = h.0 in omega arith, at_most-more m k gs l h.1)

-- being inside does not ask the new parameter
pub values-inside : (n : ℕ) (givens : List (List ℤ)) (p xs : List ℤ) (q : ℤ) → AtMost (n + 1 + length p) givens
    → length xs ≡ n
    → values givens (xs ++ pos 1 ∷ (p ++ q ∷ [])) ≡ values givens (xs ++ pos 1 ∷ p)
values-inside n givens p xs q most size =
    let e : (xs ++ pos 1 ∷ p) ++ q ∷ [] ≡ xs ++ pos 1 ∷ (p ++ q ∷ []) = append_assoc xs (pos 1 ∷ p) (q ∷ []) in
    let l : n + 1 + length p ≤ length (xs ++ pos 1 ∷ p) = simp length-append (omega arith) in
    subst (λ (w : List ℤ). values givens w ≡ values givens (xs ++ pos 1 ∷ p)) e
    (values-further givens (xs ++ pos 1 ∷ p) q
    (at_most-more (n + 1 + length p) (length (xs ++ pos 1 ∷ p)) givens l most))

pub inside_less : (n : ℕ) (givens : List (List ℤ)) (p xs : List ℤ) (q : ℤ) → AtMost (n + 1 + length p) givens
    → IsInside n givens (p ++ q ∷ []) xs → IsInside n givens p xs
inside_less n givens p xs q most h =
    record {
      size = h.size;
      not_negative = h.not_negative;
      rows = subst NotNegative
          (values-inside n givens p xs q most h.size) h.rows;
    }

pub inside_more : (n : ℕ) (givens : List (List ℤ)) (p xs : List ℤ) (q : ℤ) → AtMost (n + 1 + length p) givens
    → IsInside n givens p xs → IsInside n givens (p ++ q ∷ []) xs
inside_more n givens p xs q most h =
    record {
      size = h.size;
      not_negative = h.not_negative;
      rows = subst NotNegative
          (sym (values-inside n givens p xs q most h.size)) h.rows;
    }

pub holds_less : (n : ℕ) (givens : List (List ℤ)) (p : List ℤ) (q : ℤ) (v : Verdict)
    → AtMost (n + 1 + length p) givens → Holds n givens (p ++ q ∷ []) v → Holds n givens p v
holds_less n givens p q (point xs) most h =
    (inside_less n givens p xs q most h.0, λ zs inside. h.1 zs (inside_more n givens p zs q most inside))
holds_less n givens p q none most h = λ xs inside. h xs (inside_more n givens p xs q most inside)

-- a parameter more keeps the solutions
pub longer_forth : (n : ℕ) (rows : List Row) (p xs : List ℤ) (q : ℤ) → Sized (n + 1 + length p) rows
    → IsSolution n rows p xs
    → IsSolution n (map longer_row rows) (p ++ q ∷ []) xs
longer_forth n rows p xs q sized old =
    let v = old.columns ++ pos 1 ∷ p in
    let size : length v ≡ n + 1 + length p = let k = old.columns_size in simp length-append (omega arith) in
    let a = longer_means rows (v ++ q ∷ []) (xs ++ old.more)
    (further_means (n + 1 + length p) rows v (xs ++ old.more) q sized size old.means) in
    record {
      columns = old.columns;
      more = old.more;
      size = old.size;
      columns_size = old.columns_size;
      not_negative = old.not_negative;
      number = simp length-map old.number;
      rows_not_negative = old.rows_not_negative;
      means =
          subst (λ (w : List ℤ). Means (map longer_row rows) w (xs ++ old.more))
          (append_assoc old.columns (pos 1 ∷ p) (q ∷ [])) a;
    }

pub nearer_means : (m : ℕ) (rows : List Row) (v xs : List ℤ) (q : ℤ) → Sized m rows → length v ≡ m
    → Means rows (v ++ q ∷ []) xs → Means rows v xs
nearer_means m rows v [] q sized size h = tt
nearer_means m [] v (x ∷ xs) q sized size h = absurd h
nearer_means m (row ∷ rows) v (x ∷ xs) q sized size h = (
  h.0 ∙ dot-past row.entries v (q ∷ []) (let e = sized.1 in omega arith),
  nearer_means m rows v xs q sized.2 size h.1,
)

pub longer_back : (n : ℕ) (rows : List Row) (p xs : List ℤ) (q : ℤ) → Sized (n + 1 + length p) rows
    → IsSolution n (map longer_row rows) (p ++ q ∷ []) xs → IsSolution n rows p xs
longer_back n rows p xs q sized new =
    let v = new.columns ++ pos 1 ∷ p in
    let size : length v ≡ n + 1 + length p = let k = new.columns_size in simp length-append (omega arith) in
    let e = append_assoc new.columns (pos 1 ∷ p) (q ∷ []) in
    let a = subst (λ (w : List ℤ). Means (map longer_row rows) w (xs ++ new.more)) (sym e) new.means in
    let l : length (map longer_row rows) ≡ length rows = simp length-map refl in
    record {
      columns = new.columns;
      more = new.more;
      size = new.size;
      columns_size = new.columns_size;
      not_negative = new.not_negative;
      number = new.number ∙ l;
      rows_not_negative = new.rows_not_negative;
      means =
          nearer_means (n + 1 + length p) rows v (xs ++ new.more) q sized size
          (shorter_means rows (v ++ q ∷ []) (xs ++ new.more) a);
    }

-- and the tableau
pub row_at-longer : (rows : List Row) (i : ℕ) → i < length rows
    → row_at (map longer_row rows) i ≡ longer_row (row_at rows i)
row_at-longer [] i h = absurd (omega arith)
row_at-longer (row ∷ rows) zero h = refl
row_at-longer (row ∷ rows) (suc i) h = row_at-longer rows i (omega arith)

pub longer_tableau : (n m : ℕ) (rows : List Row) → IsTableau n m rows → IsTableau n (suc m) (map longer_row rows)
longer_tableau n m rows is =
    record {
      sized =
          subst (λ (k : ℕ). Sized k (map longer_row rows)) (let e : n + 1 + m + 1 ≡ n + 1 + suc m = omega arith in e)
          (longer_sized (n + 1 + m) rows is.sized);
      many = simp length-map is.many;
      columns = λ j low. longer (is.columns j low);
    }
  where
    longer : {j : ℕ} → HasColumn j rows → HasColumn j (map longer_row rows)
    longer {j} has =
        let row = row_at rows has.place in
        record {
          place = has.place;
          within = simp length-map has.within;
          is = subst (IsColumn j) (sym (row_at-longer rows has.place has.within))
              (record {
                own = longer-entry row.entries j ∙ has.is.own;
                others = λ i ne. longer-entry row.entries i ∙ has.is.others i ne;
              });
        }

-- a parameter more keeps what stands
pub stands_longer : (n : ℕ) (givens : List (List ℤ)) (rows : List Row) (p : List ℤ) (q : ℤ)
    → AtMost (n + 1 + length p) givens → Stands n givens rows p
    → Stands n givens (map longer_row rows) (p ++ q ∷ [])
stands_longer n givens rows p q most stands =
    record {
      sized =
          subst (λ (m : ℕ). Sized m (map longer_row rows)) (simp length-append (omega arith))
          (longer_sized (n + 1 + length p) rows stands.sized);
      many = simp length-map stands.many;
      up = λ j below.
          subst (λ (rs : List Row). LexNotNegative (column j rs)) (sym (take-map longer_row n rows))
          (subst LexNotNegative (sym (longer-column j (take n rows))) (stands.up j below));
      faithful = λ v xs long size means.
          subst (λ (rs : List Row). Means rs v (values givens (xs ++ drop n v))) (sym (drop-map longer_row n rows))
          (longer_means (drop n rows) v (values givens (xs ++ drop n v))
          (stands.faithful v xs long size (shorter_means rows v xs means)));
      reached =
          λ xs inside. longer_forth n rows p xs q stands.sized
          (stands.reached xs (inside_less n givens p xs q most inside));
    }

-- a row's part as a form
pub dot-behind : (n : ℕ) (es p : List ℤ)
    → dot es (zeros n ++ pos 1 ∷ p) ≡ get_or es n (pos 0) +ℤ dot (drop (suc n) es) p
dot-behind n [] p = omega (arith, ints)
dot-behind zero (e ∷ es) p = let a = mul_one_right e in omega (arith, ints)
dot-behind (suc n) (e ∷ es) p = let a = mul_zero_right e in let b = dot-behind n es p in omega (arith, ints)

pub part-value : (n : ℕ) (row : Row) (p : List ℤ) → part n row p ≡ value_of (part_of n row) p
part-value n row p =
    let a = dot-behind n row.entries p in
    let b = ap (λ (k : ℕ). dot (drop k row.entries) p) (add-one n) in
    omega (arith, ints)

-- a form without parameters is its constant
pub zero_true : (z : ℤ) → is_zero z ≡ true → z ≡ pos 0
zero_true (pos zero) h = refl
zero_true (pos (suc n)) h = cc
zero_true (negsuc n) h = cc

pub dot-all_zero : (zs p : List ℤ) → all_zero zs ≡ true → dot zs p ≡ pos 0
dot-all_zero [] p h = refl
dot-all_zero (z ∷ zs) [] h = refl
dot-all_zero (z ∷ zs) (x ∷ p) h = by_zero (is_zero z) refl h (λ g. dot-all_zero zs p g)
  where
    by_zero : (b : Bool) → is_zero z ≡ b → (if b then all_zero zs else false) ≡ true
        → (all_zero zs ≡ true → dot zs p ≡ pos 0) → (z *ℤ x) +ℤ dot zs p ≡ pos 0
    by_zero true e h more =
        let a = ap (λ (k : ℤ). k *ℤ x) (zero_true z e) in let b = mul_zero_left x in let c = more h in omega
        (arith, ints)
    by_zero false e h more = cc

pub dot-same : (xs ys p : List ℤ) → same_list xs ys ≡ true → dot xs p ≡ dot ys p
dot-same [] ys p h = sym (dot-all_zero ys p h)
dot-same (x ∷ xs) [] p h = dot-all_zero (x ∷ xs) p h
dot-same (x ∷ xs) (y ∷ ys) [] h = refl
dot-same (x ∷ xs) (y ∷ ys) (z ∷ p) h = by_zero (is_zero (x -ℤ y)) refl h (λ g. dot-same xs ys p g)
  where
    by_zero : (b : Bool) → is_zero (x -ℤ y) ≡ b → (if b then same_list xs ys else false) ≡ true
        → (same_list xs ys ≡ true → dot xs p ≡ dot ys p)
        → (x *ℤ z) +ℤ dot xs p ≡ (y *ℤ z) +ℤ dot ys p
    by_zero true e h more =
        let a = zero_true (x -ℤ y) e in
        let f : x ≡ y = omega (arith, ints) in
        let b = ap (λ (k : ℤ). k *ℤ z) f in let c = more h in omega (arith, ints)
    by_zero false e h more = cc

pub value-constant : (f : Affine) (p : List ℤ) → all_zero f.coefficients ≡ true → value_of f p ≡ f.constant
value-constant f p h = let a = dot-all_zero f.coefficients p h in omega (arith, ints)

-- a longer form, and forms behind it
pub value-longer : (f : Affine) (p : List ℤ) (q : ℤ) → length f.coefficients ≡ length p
    → value_of (longer_form f) (p ++ q ∷ []) ≡ value_of f p
value-longer f p q size =
    let a = dot-more f.coefficients p (pos 0) q size in let b = mul_zero_left q in omega (arith, ints)

pub values-longer : (fs : List Affine) (p : List ℤ) (q : ℤ) → Speaks (length p) fs
    → row_values (map longer_form fs) (p ++ q ∷ []) ≡ row_values fs p
values-longer [] p q h = refl
values-longer (f ∷ fs) p q h =
    ap₂ (λ (z : ℤ) (zs : List ℤ). z ∷ zs) (value-longer f p q h.0) (values-longer fs p q h.1)

pub speaks-longer : (m : ℕ) (fs : List Affine) → Speaks m fs → Speaks (m + 1) (map longer_form fs)
speaks-longer m [] h = tt
speaks-longer m (f ∷ fs) h = (let e = h.0 in simp length-append (omega arith), speaks-longer m fs h.1)

pub speaks-append : (m : ℕ) (fs gs : List Affine) → Speaks m fs → Speaks m gs → Speaks m (fs ++ gs)
speaks-append m [] gs h k = k
speaks-append m (f ∷ fs) gs h k = (h.0, speaks-append m fs gs h.1 k)

pub all_speak : (m : ℕ) (fs : List Affine) → Speaks m fs → All (λ f. length f.coefficients ≡ m) fs
all_speak m [] h = All-nil (λ (f : Affine). length f.coefficients ≡ m)
all_speak m (f ∷ fs) h = All-cons (λ (f : Affine). length f.coefficients ≡ m) f fs h.0 (all_speak m fs h.1)

pub row_values-append : (fs gs : List Affine) (p : List ℤ)
    → row_values (fs ++ gs) p ≡ row_values fs p ++ row_values gs p
row_values-append [] gs p = refl
row_values-append (f ∷ fs) gs p = ap (λ (zs : List ℤ). value_of f p ∷ zs) (row_values-append fs gs p)
