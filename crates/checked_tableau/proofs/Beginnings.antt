-- The first rows, line by line.
use Rattle.whole_numbers.proofs.Common.{◌≡◌, ℕ, zero, suc, ◌+◌, ◌*◌, ◌<◌, ◌≤◌, map, ℤ, pos, List, [], ◌∷◌, ◌++◌, length}
use Rattle.whole_numbers.proofs.Common.{set, refl, subst, ap, sym, ◌∙◌, arith, add-one, append_assoc, Option, None}
use Rattle.whole_numbers.proofs.Common.{Result, Ok, Err, OnOk, All, if◌then◌else◌, is_ok, ◌-◌, take, drop, length-drop}
use Rattle.whole_numbers.proofs.Common.{map-append, take_all, suc-mul, Affine, zeros, length-zeros}
use Rattle.std.proofs.lemmas.List.{length-append}
use Rattle.wide_math.specs.declared.Wide.{Wide}
use Rattle.lexmin_runs.specs.Nodes.{longer_row}
use Rattle.lexmin_runs.proofs.AddedParameters.{longer_tableau, speaks-append}
use Rattle.checked_tableau.proofs.RowScans.{rows_more}
use Rattle.std.proofs.Math.ListN.{length-set}
use Rattle.tableau_rows.specs.Rows.{Row, row_of}
use Rattle.tableau_rows.specs.Problem.{entries_of, unit_rows, given_rows, first_rows, problem_of, Speaks}
use Rattle.tableau_rows.specs.Moves.{line_row, rows_in, unit_row, unit_line}
use Rattle.tableau_rows.specs.Solutions.{IsTableau}
use Rattle.tableau_rows.proofs.FirstTableau.{length-entries_of, first_tableau}
use Rattle.checked_tableau.specs.Lines.{Holds}
use Rattle.checked_tableau.specs.Table.{IsSound, stride_of}
use Rattle.checked_tableau.proofs.Tables.{rows_in_more}

-- a form's line, written part by part
pub form_written : {U E : Type 0} (n : ℕ) (f : Affine) (cs cells a b k new : List ℤ) (result : Result U E)
    → cs ≡ f.coefficients
    → a ≡ cells ++ pos 1 ∷ [] → b ≡ a ++ take n cs → k ≡ b ++ f.constant ∷ []
    → new ≡ (if is_ok result then k ++ take (length cs - n) (drop n cs) else k)
    → OnOk result (new ≡ cells ++ (pos 1 ∷ entries_of n f))
form_written n f cs cells a b k new (Err e) same first second third last = tt
form_written n f cs cells a b k new (Ok u) same first second third last =
    let rest : take (length cs - n) (drop n cs) ≡ drop n cs =
    take_all (length cs - n) (drop n cs) (omega (arith, length-drop n cs)) in
    last ∙ rw (third, second, first, rest, ← same)
    (append_assoc ((cells ++ pos 1 ∷ []) ++ take n cs) (f.constant ∷ []) (drop n cs)
    ∙ append_assoc (cells ++ pos 1 ∷ []) (take n cs) (f.constant ∷ drop n cs)
    ∙ append_assoc cells (pos 1 ∷ []) (take n cs ++ (f.constant ∷ drop n cs)))

-- a line more
pub held_more : (stride count next : ℕ) (cells line : List ℤ) (rows : List Row) (row : Row)
    → Holds stride count cells rows → next ≡ suc count → length line ≡ stride → line_row line ≡ row
    → Holds stride next (cells ++ line) (rows ++ row ∷ [])
held_more stride count next cells line rows row held following long is =
    let m = suc-mul count stride in
    let e : next * stride ≡ suc count * stride = ap (λ (k : ℕ). k * stride) following in
    let s = held.size in
    let more = rows_in_more stride count cells line held.size long in
    record {
      size = length-append cells line ∙ omega arith;
      lines = ap (λ (k : ℕ). rows_in stride k (cells ++ line)) following ∙ more
          ∙ ap (λ (rs : List Row). rs ++ line_row line ∷ []) held.lines ∙ ap (λ (r : Row). rows ++ r ∷ []) is;
    }

unit_rows_more : (m i k : ℕ) → unit_rows m i (suc k) ≡ unit_rows m i k ++ unit_row m (i + k) ∷ []
unit_rows_more m i zero = let e : i ≡ i + zero = omega arith in ap (λ (j : ℕ). unit_row m j ∷ []) e
unit_rows_more m i (suc k) =
    let e : suc i + k ≡ i + suc k = omega arith in
    ap (λ (rows : List Row). unit_row m i ∷ rows)
    (unit_rows_more m (suc i) k ∙ ap (λ (j : ℕ). unit_rows m (suc i) k ++ unit_row m j ∷ []) e)

unit_of_line : (m s : ℕ) → line_row (unit_line (suc m) s) ≡ unit_row m s
unit_of_line m s = ap (λ (k : ℕ). line_row (set (pos 1 ∷ zeros m) k (pos 1))) (add-one s)

pub held_unit : (m k : ℕ) (cells line : List ℤ) → Holds (suc m) k cells (unit_rows m 0 k) → line ≡ unit_line (suc m) k
    → Holds (suc m) (k + 1) (cells ++ line) (unit_rows m 0 (k + 1))
held_unit m k cells line held is =
    let size : length line ≡ suc m = ap (λ (zs : List ℤ). length zs) is ∙ simp length-set (length-zeros (suc m)) in
    let row = ap (λ (zs : List ℤ). line_row zs) is ∙ unit_of_line m k in
    let more = held_more (suc m) k (k + 1) cells line (unit_rows m 0 k) (unit_row m k) held (add-one k) size row in
    subst (λ (rows : List Row). Holds (suc m) (k + 1) (cells ++ line) rows)
    (sym (unit_rows_more m 0 k ∙ ap (λ (j : ℕ). unit_rows m 0 k ++ unit_row m j ∷ [])
    (let e : zero + k ≡ k = omega arith in e)) ∙ ap (λ (j : ℕ). unit_rows m 0 j) (sym (add-one k))) more

given_rows_more : (n : ℕ) (fs : List Affine) (f : Affine)
    → given_rows n (fs ++ f ∷ []) ≡ given_rows n fs ++ row_of (pos 1) (entries_of n f) ∷ []
given_rows_more n [] f = refl
given_rows_more n (g ∷ fs) f = ap (λ (rows : List Row). row_of (pos 1) (entries_of n g) ∷ rows) (given_rows_more n fs f)

pub held_form : (n stride count k : ℕ) (cells now : List ℤ) (rows : List Row) (fs more : List Affine) (f : Affine)
    → n + 2 ≤ stride → length f.coefficients + 2 ≡ stride
    → Holds stride (count + k) cells (rows ++ given_rows n fs) → now ≡ cells ++ (pos 1 ∷ entries_of n f)
    → more ≡ fs ++ f ∷ []
    → Holds stride (count + (k + 1)) now (rows ++ given_rows n more)
held_form n stride count k cells now rows fs more f room size held is parts =
    let l = length-entries_of n f (omega arith) in
    let next = held_more stride (count + k) (count + (k + 1)) cells (pos 1 ∷ entries_of n f) (rows ++ given_rows n fs)
    (row_of (pos 1) (entries_of n f)) held (omega arith) (omega arith) refl in
    let a : (rows ++ given_rows n fs) ++ row_of (pos 1) (entries_of n f) ∷ [] ≡ rows ++ given_rows n more =
    append_assoc rows (given_rows n fs) (row_of (pos 1) (entries_of n f) ∷ [])
    ∙ ap (λ (rs : List Row). rows ++ rs) (sym (given_rows_more n fs f)
    ∙ ap (λ (gs : List Affine). given_rows n gs) (sym parts)) in
    subst (λ (zs : List ℤ). Holds stride (count + (k + 1)) zs (rows ++ given_rows n more)) (sym is)
    (subst (λ (rs : List Row). Holds stride (count + (k + 1)) (cells ++ (pos 1 ∷ entries_of n f)) rs) a next)

pub speaks_all : (n : ℕ) (fs : List Affine) → All (λ f. length f.coefficients ≡ n) fs → Speaks n fs
speaks_all n [] all = tt
speaks_all n (f ∷ fs) all = (all 0 f (omega arith), speaks_all n fs (λ k d below. all (suc k) d (omega arith)))

-- the first rows in a buffer
pub sound_first : (n m count stride : ℕ) (cells line : List ℤ) (fs : List Affine) → stride ≡ stride_of n m
    → length line ≡ stride → Speaks (n + m) fs → count ≡ n + length fs
    → Holds stride (n + length fs) cells (unit_rows (n + 1 + m) 0 n ++ given_rows n fs)
    → IsSound n m count cells line None × (rows_in (stride_of n m) count cells ≡ first_rows m (problem_of n fs))
sound_first n m count stride cells line fs is room speaks number held =
    let lines : rows_in (stride_of n m) count cells ≡ first_rows m (problem_of n fs) =
    ap (λ (k : ℕ). rows_in (stride_of n m) k cells) number ∙ ap (λ (k : ℕ). rows_in k (n + length fs) cells) (sym is)
    ∙ held.lines in (
      record {
        room = room ∙ is;
        size = held.size ∙ ap (λ (k : ℕ). k * stride) (sym number) ∙ ap (λ (k : ℕ). count * k) is;
        many = omega arith;
        tableau = λ e. subst (IsTableau n m) (sym lines) (first_tableau n m fs speaks);
      },
      lines,
    )

-- forms in two parts
given_rows-append : (n : ℕ) (fs gs : List Affine) → given_rows n (fs ++ gs) ≡ given_rows n fs ++ given_rows n gs
given_rows-append n [] gs = refl
given_rows-append n (f ∷ fs) gs = ap (λ (rows : List Row). row_of (pos 1) (entries_of n f) ∷ rows)
    (given_rows-append n fs gs)

pub sound_parts : (n m count stride : ℕ) (cells line : List ℤ) (fs gs : List Affine) → stride ≡ stride_of n m
    → length line ≡ stride → Speaks (n + m) fs → Speaks (n + m) gs
    → count ≡ (n + length fs) + length gs
    → Holds stride ((n + length fs) + length gs) cells
    ((unit_rows (n + 1 + m) 0 n ++ given_rows n fs) ++ given_rows n gs)
    → IsSound n m count cells line None × (rows_in (stride_of n m) count cells ≡ first_rows m (problem_of n (fs ++ gs)))
sound_parts n m count stride cells line fs gs is room first second number held =
    let units_are = unit_rows (n + 1 + m) 0 n in
    let l : (n + length fs) + length gs ≡ n + length (fs ++ gs) = let a = length-append fs gs in omega arith in
    let e : (units_are ++ given_rows n fs) ++ given_rows n gs ≡ units_are ++ given_rows n (fs ++ gs) =
    append_assoc units_are (given_rows n fs) (given_rows n gs)
    ∙ ap (λ (rows : List Row). units_are ++ rows) (sym (given_rows-append n fs gs)) in
    sound_first n m count stride cells line (fs ++ gs) is room (speaks-append (n + m) fs gs first second)
    (number ∙ l)
    (subst (λ (k : ℕ). Holds stride k cells (units_are ++ given_rows n (fs ++ gs))) l
    (subst (λ (rows : List Row). Holds stride ((n + length fs) + length gs) cells rows) e held))

-- a longer line
pub longer_more : (stride left k count next : ℕ) (cells now rest row others : List ℤ) (done all : List Row)
    → k ≡ suc left → rest ≡ row ++ others → length row ≡ stride
    → 0 < stride → next ≡ suc count → now ≡ cells ++ (row ++ pos 0 ∷ [])
    → Holds (stride + 1) count cells (map longer_row done) → done ++ rows_in stride k rest ≡ all
    → (more : List Row) × Holds (stride + 1) next now (map longer_row more) × (more ++ rows_in stride left others ≡ all)
longer_more stride left k count next cells now rest row others done all more parts size some following is held kept =
    let long : length (row ++ pos 0 ∷ []) ≡ stride + 1 = let a = length-append row (pos 0 ∷ []) in omega arith in
    let one = held_more (stride + 1) count next cells (row ++ pos 0 ∷ []) (map longer_row done)
    (longer_row (line_row row)) held following long (longer_line row (omega arith)) in
    let e : map longer_row done ++ longer_row (line_row row) ∷ [] ≡ map longer_row (done ++ line_row row ∷ []) =
    sym (map-append longer_row done (line_row row ∷ [])) in (
      done ++ line_row row ∷ [],
      subst (λ (zs : List ℤ). Holds (stride + 1) next zs (map longer_row (done ++ line_row row ∷ []))) (sym is)
          (subst (λ (rows : List Row). Holds (stride + 1) next (cells ++ (row ++ pos 0 ∷ [])) rows) e one),
      append_assoc done (line_row row ∷ []) (rows_in stride left others)
          ∙ ap (λ (rows : List Row). done ++ rows) (sym (rows_more stride left k rest row others more parts size))
          ∙ kept,
    )
  where
    longer_line : (row : List ℤ) → 0 < length row → line_row (row ++ pos 0 ∷ []) ≡ longer_row (line_row row)
    longer_line [] h = absurd (omega arith)
    longer_line (x ∷ row) h = refl

-- rows that are longer are sound
pub sound_longer : (n m count : ℕ) (cells line new room : List ℤ) (stopped : Option Wide)
    → IsSound n m count cells line stopped → stopped ≡ None
    → length room ≡ stride_of n (m + 1) → Holds (stride_of n m + 1) count new
    (map longer_row (rows_in (stride_of n m) count cells))
    → IsSound n (m + 1) count new room None ×
    (rows_in (stride_of n (m + 1)) count new ≡ map longer_row (rows_in (stride_of n m) count cells))
sound_longer n m count cells line new room stopped sound going long held =
    let e : stride_of n m + 1 ≡ stride_of n (m + 1) = omega arith in
    let h = subst (λ (k : ℕ). Holds k count new (map longer_row (rows_in (stride_of n m) count cells))) e held in
    let t = longer_tableau n m (rows_in (stride_of n m) count cells) (sound.tableau going) in (
      record {
        room = long;
        size = h.size;
        many = sound.many;
        tableau = λ none. subst (IsTableau n (m + 1)) (sym h.lines)
            (subst (λ (k : ℕ). IsTableau n k (map longer_row (rows_in (stride_of n m) count cells))) (sym (add-one m))
            t);
      },
      h.lines,
    )
