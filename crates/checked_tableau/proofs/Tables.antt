-- A buffer of lines as rows: the line at a place, the first lines, a line more, a slice written over a whole one.
use Rattle.whole_numbers.proofs.Common.{◌-◌, ◌≡◌, ℕ, zero, suc, ◌+◌, ◌*◌, ◌<◌, ◌≤◌, ℤ, pos, ◌<ℤ◌, List, [], ◌∷◌, ◌++◌}
use Rattle.whole_numbers.proofs.Common.{length, get_or, drop, take, refl, subst, ap, ap₂, sym, ◌∙◌, arith, add-one}
use Rattle.whole_numbers.proofs.Common.{Result, Ok, Err, Option, Some, None, length-take-le, length-drop, get_or-take}
use Rattle.whole_numbers.proofs.Common.{take_all, take-append-le, suc-mul, take-append_seam}
use Rattle.std.proofs.Common.{drop-drop}
use Rattle.std.proofs.lemmas.List.{length-append, drop-take}
use Rattle.std.proofs.lemmas.List.{append-nil, drop-append-le}
use Rattle.std.proofs.lemmas.Nat.{mul-le}
use Rattle.std.proofs.Math.ListN.{drop_of_length-le}
use Rattle.std.proofs.Math.Seq.{take-add}
use Rattle.wide_math.specs.declared.Wide.{Wide}
use Rattle.wide_math.specs.Checked.{◌>>=◌}
use Rattle.wide_math.specs.Gives.{Becomes}
use Rattle.tableau_rows.specs.Rows.{Row, entry, Sized}
use Rattle.tableau_rows.specs.Moves.{line_row, rows_in, row_at, rows_run, cut_run, buffer_run, HeadsPositive}
use Rattle.checked_tableau.specs.Table.{Table, table_of, IsSound, StopsAt, resumed, stride_of}
use Rattle.tableau_rows.proofs.Points.{sized_at}
use Rattle.tableau_rows.proofs.KeptSolutions.{pivot_keeps_tableau, cut_keeps_tableau}
use Rattle.tableau_rows.specs.Solutions.{IsTableau, IsPlaced}
use Rattle.checked_tableau.specs.Lines.{behind_columns}
use Rattle.tableau_rows.proofs.Views.{buffer-view}

pub length-rows_in : (stride count : ℕ) (cells : List ℤ) → length (rows_in stride count cells) ≡ count
length-rows_in stride zero cells = refl
length-rows_in stride (suc count) cells = ap suc (length-rows_in stride count (drop stride cells))

-- the line at a place
pub line_in : (stride count row : ℕ) (cells : List ℤ) → row < count
    → line_row (take stride (drop (row * stride) cells)) ≡ row_at (rows_in stride count cells) row
line_in stride zero row cells h = absurd (omega arith)
line_in stride (suc count) zero cells h =
    let z : zero * stride ≡ zero = omega arith in
    ap (λ (k : ℕ). line_row (take stride (drop k cells))) z
line_in stride (suc count) (suc row) cells h =
    let m = suc-mul row stride in
    let e : suc row * stride ≡ stride + row * stride = omega arith in
    let d : drop (suc row * stride) cells ≡ drop (row * stride) (drop stride cells) =
    ap (λ (k : ℕ). drop k cells) e ∙ sym (drop-drop (row * stride) stride cells) in
    ap (λ (zs : List ℤ). line_row (take stride zs)) d ∙ line_in stride count row (drop stride cells) (omega arith)

-- a buffer with lines left has the next one
pub line_within : (start left stride n : ℕ) → 0 < left → start + left * stride ≡ n → start + stride ≤ n
line_within start zero stride n some size = absurd (omega arith)
line_within start (suc left) stride n some size = let m = suc-mul left stride in omega arith

-- the first lines lie within a buffer
pub lines_within : (n count stride m : ℕ) → n ≤ count → m ≡ count * stride → n * stride ≤ m
lines_within n count stride m few size = let l = mul-le n stride count stride few (omega arith) in omega arith

-- the line at a place, as the code takes it: its length, its head
pub line_length : (start stride : ℕ) (cells : List ℤ) → start + stride ≤ length cells
    → length (take ((start + stride) - start) (drop start cells)) ≡ stride
line_length start stride cells within =
    length-take-le ((start + stride) - start) (drop start cells) (omega (arith, length-drop start cells)) ∙ omega arith

pub line_head : (start stride left : ℕ) (cells : List ℤ) → 0 < left → 0 < stride
    → HeadsPositive stride left (drop start cells)
    → pos 0 <ℤ get_or (take ((start + stride) - start) (drop start cells)) 0 (pos 0)
line_head start stride zero cells some long heads = absurd (omega arith)
line_head start stride (suc left) cells some long heads =
    subst (λ (z : ℤ). pos 0 <ℤ z)
    (sym (get_or-take ((start + stride) - start) (drop start cells) 0 (pos 0) (omega arith))) heads.0

-- the heads of sound rows
pub heads_sized : (stride m count : ℕ) (cells : List ℤ) → 0 < stride → Sized m (rows_in stride count cells)
    → HeadsPositive stride count cells
heads_sized stride m zero cells some sized = tt
heads_sized stride m (suc count) cells some sized = (
  subst (λ (z : ℤ). pos 0 <ℤ z) (get_or-take stride cells 0 (pos 0) some) sized.0,
  heads_sized stride m count (drop stride cells) some sized.2,
)

pub head_sized : (stride m count row : ℕ) (cells line : List ℤ) → row < count → Sized m (rows_in stride count cells)
    → line_row line ≡ row_at (rows_in stride count cells) row
    → pos 0 <ℤ get_or line 0 (pos 0)
head_sized stride m count row cells line within sized is =
    let at = sized_at m (rows_in stride count cells) row (let l = length-rows_in stride count cells in omega arith)
    sized in
    subst (λ (r : Row). pos 0 <ℤ r.denominator) (sym is) at.0

-- the first rows of a buffer
pub take_rows_in : (stride n count : ℕ) (cells : List ℤ) → n ≤ count → length cells ≡ count * stride
    → take n (rows_in stride count cells) ≡ rows_in stride n (take (n * stride) cells)
take_rows_in stride zero count cells h size = refl
take_rows_in stride (suc n) zero cells h size = absurd (omega arith)
take_rows_in stride (suc n) (suc count) cells h size =
    let m = suc-mul count stride in
    let k = suc-mul n stride in
    let e : suc n * stride ≡ stride + n * stride = omega arith in
    let l = length-take-le stride cells (omega arith) in
    let apart : take (suc n * stride) cells ≡ take stride cells ++ take (n * stride) (drop stride cells) =
    ap (λ (i : ℕ). take i cells) e ∙ take-add stride (n * stride) cells in
    let front : take stride (take (suc n * stride) cells) ≡ take stride cells =
    ap (λ (zs : List ℤ). take stride zs) apart
    ∙ subst (λ (i : ℕ). take i (take stride cells ++ take (n * stride) (drop stride cells)) ≡ take stride cells) l
    (take-append_seam (take stride cells) (take (n * stride) (drop stride cells))) in
    let back : drop stride (take (suc n * stride) cells) ≡ take (n * stride) (drop stride cells) =
    ap (λ (i : ℕ). drop stride (take i cells)) e ∙ drop-take stride (n * stride) cells in
    ap₂ (λ (line : List ℤ) (rows : List Row). line_row line ∷ rows) (sym front)
    (take_rows_in stride n count (drop stride cells) (omega arith) (omega (arith, length-drop stride cells))
    ∙ ap (λ (zs : List ℤ). rows_in stride n zs) (sym back))

-- a line more
pub rows_in_more : (stride count : ℕ) (cells line : List ℤ) → length cells ≡ count * stride → length line ≡ stride
    → rows_in stride (suc count) (cells ++ line) ≡ rows_in stride count cells ++ line_row line ∷ []
rows_in_more stride zero [] line size long =
    ap (λ (zs : List ℤ). line_row zs ∷ []) (whole stride line long)
  where
    whole : (stride : ℕ) (line : List ℤ) → length line ≡ stride → take stride line ≡ line
    whole zero [] h = refl
    whole zero (x ∷ line) h = absurd (omega arith)
    whole (suc stride) [] h = absurd (omega arith)
    whole (suc stride) (x ∷ line) h = ap (λ (zs : List ℤ). x ∷ zs) (whole stride line (omega arith))
rows_in_more stride zero (x ∷ cells) line size long = absurd (omega arith)
rows_in_more stride (suc count) cells line size long =
    let m = suc-mul count stride in
    let l = length-take-le stride cells (omega arith) in
    let a = take-append-le stride cells line (omega arith) in
    let d = drop-append-le stride cells line (omega arith) in
    let more = rows_in_more stride count (drop stride cells) line (omega (arith, length-drop stride cells)) long in
    ap₂ (λ (zs : List ℤ) (rows : List Row). line_row zs ∷ rows) a
    (ap (λ (zs : List ℤ). rows_in stride (suc count) zs) d ∙ more)

-- a pivot over a buffer
pub pivot_in_buffer : {U : Type 0} (stride count r s : ℕ) (cells line new : List ℤ) (u : Result U Wide) → r < count
    → 0 < stride → length line ≡ stride → length cells ≡ count * stride
    → line_row line ≡ row_at (rows_in stride count cells) r
    → Becomes new u (buffer_run r s line 0 count cells)
    → Becomes (rows_in stride count new) u (rows_run r s (row_at (rows_in stride count cells) r) 0
    (rows_in stride count cells))
pivot_in_buffer {U = U} stride count r s cells line new u within some long size is made =
    let e : rows_run r s (line_row line) 0 (rows_in (length line) count cells)
    ≡ (buffer_run r s line 0 count cells >>= λ zs. Ok (rows_in (length line) count zs))
    = buffer-view r s 0 count line cells (omega arith) (subst (λ (k : ℕ). length cells ≡ count * k) (sym long) size) in
    let f = subst (λ (k : ℕ). rows_run r s (line_row line) 0 (rows_in k count cells)
    ≡ (buffer_run r s line 0 count cells >>= λ zs. Ok (rows_in k count zs))) long e in
    let g = subst (λ (row : Row). rows_run r s row 0 (rows_in stride count cells)
    ≡ (buffer_run r s line 0 count cells >>= λ zs. Ok (rows_in stride count zs))) is f in
    by_cases u made g
  where
    by_cases : (u : Result U Wide) → Becomes new u (buffer_run r s line 0 count cells)
        → rows_run r s (row_at (rows_in stride count cells) r) 0 (rows_in stride count cells)
        ≡ (buffer_run r s line 0 count cells >>= λ zs. Ok (rows_in stride count zs))
        → Becomes (rows_in stride count new) u
        (rows_run r s (row_at (rows_in stride count cells) r) 0 (rows_in stride count cells))
    by_cases (Ok x) made g = g ∙ ap (λ (q : Result (List ℤ) Wide). q >>= λ zs. Ok (rows_in stride count zs)) made
    by_cases (Err w) made g = g ∙ ap (λ (q : Result (List ℤ) Wide). q >>= λ zs. Ok (rows_in stride count zs)) made

-- a list written over a whole one
pub written_whole : (n : ℕ) (old new : List ℤ) → length old ≡ n → length new ≡ length old
    → take n (new ++ drop (length new) old) ≡ new
written_whole n old new size same =
    let none : drop (length new) old ≡ [] = drop_of_length-le old (omega arith) in
    rw (none, append-nil new) (take_all n new (omega arith))

-- what a pivot leaves is sound
pub sound_pivot : (unknowns parameters count r s : ℕ) (cells line now room : List ℤ) (stopped : Option Wide) → r < count
    → s < unknowns
    → IsSound unknowns parameters count cells line stopped → stopped ≡ None
    → pos 0 <ℤ entry (row_at (rows_in (stride_of unknowns parameters) count cells) r) s
    → rows_run r s (row_at (rows_in (stride_of unknowns parameters) count cells) r) 0
    (rows_in (stride_of unknowns parameters) count cells)
    ≡ Ok (rows_in (stride_of unknowns parameters) count now)
    → length now ≡ length cells → length room ≡ length line → IsSound unknowns parameters count now room stopped
sound_pivot unknowns parameters count r s cells line now room stopped within below sound going here run size same =
    let rows = rows_in (stride_of unknowns parameters) count cells in
    let l = length-rows_in (stride_of unknowns parameters) count cells in
    record {
      room = same ∙ sound.room;
      size = size ∙ sound.size;
      many = sound.many;
      tableau = λ e. pivot_keeps_tableau unknowns parameters r s rows
          (rows_in (stride_of unknowns parameters) count now) (sound.tableau going) (omega arith) below here run;
    }

-- what a cut leaves is sound
pub sound_cut : (unknowns parameters count row : ℕ) (place : Option ℕ) (cells line now new room : List ℤ)
    (stopped : Option Wide) → row < count
    → IsSound unknowns parameters count cells line stopped → stopped ≡ None
    → length new ≡ stride_of unknowns parameters → now ≡ cells ++ new
    → cut_run unknowns place (row_at (rows_in (stride_of unknowns parameters) count cells) row) ≡ Ok (line_row new)
    → length room ≡ length line
    → IsSound unknowns parameters (count + 1) now room stopped
    × (rows_in (stride_of unknowns parameters) (count + 1) now
    ≡ rows_in (stride_of unknowns parameters) count cells ++ line_row new ∷ [])
sound_cut unknowns parameters count row place cells line now new room stopped within sound going long is run same =
    let stride = stride_of unknowns parameters in
    let rows = rows_in stride count cells in
    let l = length-rows_in stride count cells in
    let lines : rows_in stride (count + 1) now ≡ rows ++ line_row new ∷ [] =
    ap (λ (k : ℕ). rows_in stride k now) (add-one count) ∙ ap (λ (zs : List ℤ). rows_in stride (suc count) zs) is
    ∙ rows_in_more stride count cells new sound.size long in
    let n = suc-mul count stride in
    let e : (count + 1) * stride ≡ suc count * stride = ap (λ (k : ℕ). k * stride) (add-one count) in
    let g = sound.size in (
      record {
        room = same ∙ sound.room;
        size = ap (λ (zs : List ℤ). length zs) is ∙ length-append cells new ∙ omega arith;
        many = let k = sound.many in omega arith;
        tableau = λ e. subst (IsTableau unknowns parameters) (sym lines)
            (cut_keeps_tableau unknowns parameters row place rows (line_row new) (sound.tableau going) (omega arith)
            run);
      },
      lines,
    )

-- rows that stopped may hold anything
pub sound_stopped : (unknowns parameters count : ℕ) (cells line now room : List ℤ) (stopped : Option Wide) (w : Wide)
    → IsSound unknowns parameters count cells line stopped
    → length now ≡ length cells → length room ≡ length line → IsSound unknowns parameters count now room (Some w)
sound_stopped unknowns parameters count cells line now room stopped w sound size same =
    record { room = same ∙ sound.room; size = size ∙ sound.size; many = sound.many; tableau = λ e. cc }

-- what was written into the room for a line
pub sound_room : (unknowns parameters count : ℕ) (cells line room : List ℤ) (stopped : Option Wide)
    → IsSound unknowns parameters count cells line stopped
    → length room ≡ length line → IsSound unknowns parameters count cells room stopped
sound_room unknowns parameters count cells line room stopped sound same =
    record { room = same ∙ sound.room; size = sound.size; many = sound.many; tableau = sound.tableau }

-- a move on a table that had stopped
pub stays_stopped : {A : Type 0} (t old : Table) (run : Result A Wide) (w : Wide) → t ≡ old → t.stopped ≡ Some w
    → (resumed old.stopped run ≡ Err w) × StopsAt w old old
stays_stopped t old run w same is =
    subst (λ (s : Table). (resumed s.stopped run ≡ Err w) × StopsAt w s s) same (
      subst (λ (o : Option Wide). resumed o run ≡ Err w) (sym is) refl,
      (ap (λ (o : Option Wide). table_of t.unknowns t.parameters t.rows o) is, refl),
    )

-- a move at which a table stops
pub stops_by : {A : Type 0} (t old : Table) (news : List Row) (run : Table → Result A Wide) (w : Wide) → t ≡ old
    → t.stopped ≡ None → run t ≡ Err w → length news ≡ length t.rows
    → (resumed old.stopped (run old) ≡ Err w) × StopsAt w old (table_of t.unknowns t.parameters news (Some w))
stops_by t old news run w same going is size =
    subst (λ (s : Table). (resumed s.stopped (run s) ≡ Err w)
    × StopsAt w s (table_of t.unknowns t.parameters news (Some w))) same
    (subst (λ (o : Option Wide). resumed o (run t) ≡ Err w) (sym going) is, (refl, size))

-- a move that a table makes
pub goes_by : (t old : Table) (news : List Row) (run : Table → Result (List Row) Wide) → t ≡ old → t.stopped ≡ None
    → run t ≡ Ok news
    → (resumed old.stopped (run old) ≡ Ok news)
    × (table_of t.unknowns t.parameters news t.stopped ≡ table_of old.unknowns old.parameters news None)
goes_by t old news run same going is =
    subst (λ (s : Table). (resumed s.stopped (run s) ≡ Ok news)
    × (table_of t.unknowns t.parameters news t.stopped ≡ table_of s.unknowns s.parameters news None)) same (
      subst (λ (o : Option Wide). resumed o (run t) ≡ Ok news) (sym going) is,
      ap (λ (o : Option Wide). table_of t.unknowns t.parameters news o) going,
    )

-- the place of a parameter's tie
pub placed-behind : (n m : ℕ) (parameter : Option ℕ) → ((k : ℕ) → parameter ≡ Some k → k < m)
    → IsPlaced n m (behind_columns n parameter)
placed-behind n m None within = tt
placed-behind n m (Some k) within = let w = within k refl in omega arith

pub ruleset tables = (length-rows_in)
