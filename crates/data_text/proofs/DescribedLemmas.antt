-- What a sheet makes of its values and rows is the case that the lines describe; each rule that it breaks, they break.
use Rattle.scop_syntax.proofs.Common.{◌≡◌, ◌∙◌, sym, ap, subst, refl, inl, inr, ℕ, zero, suc, ◌+◌, ◌^◌, ◌<◌, ◌≤◌, Bool}
use Rattle.scop_syntax.proofs.Common.{true, false, ltb, if◌then◌else◌, List, [], ◌∷◌, map, length, drop, get_or, arith}
use Rattle.scop_syntax.proofs.Common.{get_or-drop, get_or-map, get_or-replicate, length-map, length-replicate, ℤ, pos}
use Rattle.scop_syntax.proofs.Common.{Option, Some, None, Result, Ok, Err, Declaration, Program, values, cell_count}
use Rattle.scop_syntax.proofs.Common.{layout, size_of, total_cells, narrow_arrays}
use Rattle.std.proofs.Common.{ltb-true, ltb-false}
use Rattle.std.proofs.lemmas.List.FromFn.{get_or-map-range_with_len, length-map-range_with_len}
use Rattle.scop_lexer.specs.Bytes.{Text}
use Rattle.data_lines.specs.declared.refusal.DataRefusal.{DataRefusal}
use Rattle.data_lines.specs.declared.refusal.DataRefusal.TheVariants.{Missing, Extent, Cells, Count}
use Rattle.data_lines.specs.declared.refusal.DataRefusal.TheVariants.{Line, UnknownName, Repeated, Number}
use Rattle.data_lines.specs.declared.refusal.DataRefusal.TheVariants.{ParameterRange}
use Rattle.data_lines.specs.Sheets.{Given, nothing, listed, seeded, Sheet, is_narrow}
use Rattle.data_lines.specs.Naming.{AreInOrder, AreLines, AreSound, Breaks, Holds, HoldsRow, HoldsValue, SaysCells}
use Rattle.data_lines.specs.Naming.{SaysSeed, SaysValue, line_of}
use Rattle.data_lines.specs.Naming.{IsFirstBroken as IsFirstBrokenLine}
use Rattle.data_lines.specs.Entries.{sheet_said}
use Rattle.data_text.specs.declared.counts.Miscount.{Miscount}
use Rattle.data_text.specs.Cases.{Said, bad_extent, case_of_lines, cells_said, contents_said}
use Rattle.data_text.specs.Cases.{filled, first_miscount, laid_out, miscount_of, miscounted, missing, or_else}
use Rattle.data_text.specs.Cases.{data_said, param_of, params_of, seeded_cell, told_or, too_many}
use Rattle.data_text.specs.Described.{AreComplete, AreContents, AreExtents, AreGiven, AreHeld, Describes}
use Rattle.data_text.specs.Described.{IsFirstBroken, IsFirstMissing, IsMiscounted, cells_in}
use Rattle.data_text.proofs.ContentLemmas.{cells_long}
use Rattle.data_text.proofs.FirstLemmas.{least_line, low_array, miscount_found, miscount_is, miscount_told_of}
use Rattle.data_text.proofs.FirstLemmas.{none_found}
use Rattle.data_text.proofs.LayoutLemmas.{arrays_positive}

-- what is known of lines by themselves
pub record LineLaws : Type 0 where
  pub value : (program : Program) (lines : ℕ → Text) (i v w : ℕ) → AreLines program lines
      → SaysValue program i v lines → SaysValue program i w lines → v ≡ w
  pub cells : (program : Program) (lines : ℕ → Text) (j : ℕ) (cells others : List ℕ) → AreLines program lines
      → SaysCells program j cells lines → SaysCells program j others lines → cells ≡ others
  pub seed : (program : Program) (lines : ℕ → Text) (j v w : ℕ) → AreLines program lines
      → SaysSeed program j v lines → SaysSeed program j w lines → v ≡ w
  pub either : (program : Program) (lines : ℕ → Text) (j : ℕ) (cells : List ℕ) (seed : ℕ)
      → AreLines program lines → SaysCells program j cells lines → SaysSeed program j seed lines → ⊥
  pub sound : (program : Program) (lines : ℕ → Text) (refusal : DataRefusal) → AreSound program lines
      → Breaks program lines refusal → ⊥

-- what an answer tells of the lines
abbrev pub Tells : Program → (ℕ → Text) → Result Said DataRefusal → Type 0
Tells program lines (Ok said) = Describes program lines said.params said.contents
Tells program lines (Err refusal) = IsFirstBroken program lines refusal

-- a value for each parameter, or the first without
abbrev IsThere : List (Option ℕ) → ℕ → Type 0
IsThere values i = (value : ℕ) × (get_or values i None ≡ Some value)

all_there : (k : ℕ) (values : List (Option ℕ)) → missing k values ≡ None → (i : ℕ) → i < length values
    → IsThere values i
all_there k [] none i within = absurd (omega (arith, within))
all_there k (None ∷ values) none i within = cc
all_there k (Some value ∷ values) none zero within = (value, refl)
all_there k (Some value ∷ values) none (suc i) within =
    all_there (k + 1) values none i (omega (arith, within))

abbrev IsAway : List (Option ℕ) → ℕ → Type 0
IsAway values i = (i < length values) × (get_or values i None ≡ None) × ((k : ℕ) → k < i → IsThere values k)

there_before : (value : ℕ) (values : List (Option ℕ)) (i : ℕ) → ((k : ℕ) → k < i → IsThere values k) → (k : ℕ)
    → k < suc i → IsThere (Some value ∷ values) k
there_before value values i before zero within = (value, refl)
there_before value values i before (suc k) within = before k (omega (arith, within))

away_at : (k : ℕ) (values : List (Option ℕ)) (refusal : DataRefusal) → missing k values ≡ Some refusal
    → (i : ℕ) × (refusal ≡ Missing (k + i)) × IsAway values i
away_at k [] refusal told = cc
away_at k (None ∷ values) refusal told = let same : k ≡ k + 0 = omega arith in
    let is : Missing k ≡ refusal = cc in
    (0, sym is ∙ ap (λ n. Missing n) same, (omega arith, refl, λ m before. absurd (omega (arith, before))))
away_at k (Some value ∷ values) refusal told =
    let rest = away_at (k + 1) values refusal told in
    let same : (k + 1) + rest.0 ≡ k + suc rest.0 = omega arith in (
      suc rest.0,
      rest.1 ∙ ap (λ n. Missing n) same,
      (omega (arith, rest.2.0), rest.2.1, there_before value values rest.0 rest.2.2),
    )

value_said_at : (program : Program) (lines : ℕ → Text) (sheet : Sheet) → Holds program lines sheet → (i : ℕ)
    → (there : IsThere sheet.values i) → HoldsValue program i lines (Some there.0)
value_said_at program lines sheet holds i there = subst (HoldsValue program i lines) there.1 (holds.value i)

first_missing : (program : Program) (lines : ℕ → Text) (sheet : Sheet) (i : ℕ) → Holds program lines sheet
    → IsAway sheet.values i → IsFirstMissing program lines i
first_missing program lines sheet i holds away = record {
  within = omega (arith, away.0, holds.value_count);
  missing = subst (HoldsValue program i lines) away.1 (holds.value i);
  before = λ k within. ((away.2 k within).0, value_said_at program lines sheet holds k (away.2 k within));
}

missing_told : (program : Program) (lines : ℕ → Text) (sheet : Sheet) (refusal : DataRefusal)
    → Holds program lines sheet → AreInOrder program lines → missing 0 sheet.values ≡ Some refusal
    → IsFirstBroken program lines refusal
missing_told program lines sheet refusal holds order told =
    let away = away_at 0 sheet.values refusal told in
    let same : 0 + away.0 ≡ away.0 = omega arith in
    subst (IsFirstBroken program lines) (sym (away.1 ∙ ap (λ n. Missing n) same))
    (order, first_missing program lines sheet away.0 holds away.2)

all_given : (program : Program) (lines : ℕ → Text) (sheet : Sheet) → Holds program lines sheet
    → missing 0 sheet.values ≡ None → AreGiven program lines (params_of sheet.values)
all_given program lines sheet holds none = record {
  count = length-map sheet.values param_of ∙ holds.value_count;
  each = λ i within.
      let there = all_there 0 sheet.values none i (omega (arith, within, length-map sheet.values param_of)) in (
        there.0,
        value_said_at program lines sheet holds i there,
        get_or-map param_of sheet.values i None (pos 0) (omega (arith, within, length-map sheet.values param_of))
            ∙ ap param_of there.1,
      );
}

-- the first extent that is not positive
extent_told : (program : Program) (lines : ℕ → Text) (params : List ℤ) (told : DataRefusal)
    → AreComplete program lines params → bad_extent params 0 program.arrays ≡ Some told
    → IsFirstBroken program lines told
extent_told program lines params told complete is =
    let low = low_array params 0 program.arrays told is in
    let same : 0 + low.0 ≡ low.0 = omega arith in
    subst (IsFirstBroken program lines) (sym (low.3 ∙ ap (λ n. Extent n low.1 low.2) same)) (params, complete, low.4)

-- the first list that is not as long as its array
pub layout_count : (program : Program) (params : List ℤ) → length (layout program params) ≡ length program.arrays
layout_count program params = length-map program.arrays (λ (d : Declaration). map size_of (values d.extents params))

row_long : (program : Program) (lines : ℕ → Text) (sheet : Sheet) (params : List ℤ) → Holds program lines sheet
    → length sheet.rows ≡ length (layout program params)
row_long program lines sheet params holds = holds.row_count ∙ sym (layout_count program params)

miscount_here : (program : Program) (lines : ℕ → Text) (sheet : Sheet) (params : List ℤ) (m : Miscount)
    → Holds program lines sheet → first_miscount None (layout program params) sheet.rows ≡ Some m
    → IsMiscounted program (lines m.line) params m.expected m.found
miscount_here program lines sheet params m holds told =
    elim (miscount_found None (layout program params) sheet.rows m told) [
      | inl none ↦ cc
      | inr found ↦ let is = miscount_is _ (get_or sheet.rows found.0 nothing) m found.2 in
          record {
            array = found.0;
            cells = is.0;
            within = omega (arith, found.1, layout_count program params);
            lists = subst (HoldsRow program found.0 lines) is.1 (holds.row found.0);
            expected_is = is.2;
            found_is = is.3;
            differ = λ same. is.4 (is.3 ∙ (sym same ∙ sym is.2));
          }
    ]

-- a list of another length is found by its array
row_miscounted : (laws : LineLaws) (program : Program) (lines : ℕ → Text) (params : List ℤ) (n other count : ℕ)
    (is : IsMiscounted program (lines n) params other count) (given : Given) → AreLines program lines
    → HoldsRow program is.array lines given
    → (m : Miscount) × (miscount_of (cells_in program params is.array) given ≡ Some m) × (m.line ≡ n)
row_miscounted laws program lines params n other count is nothing are held =
    absurd (held n is.lists.0 is.lists.1)
row_miscounted laws program lines params n other count is (listed line cells) are held =
    let says : SaysCells program is.array is.cells lines = (n, is.lists.0, is.lists.1, is.lists.2) in
    let same = laws.cells program lines is.array cells is.cells are (line, held.0, held.1, held.2) says in
    let differ : length cells ≡ cells_in program params is.array → ⊥ =
    λ long. is.differ (sym is.expected_is ∙ (sym long ∙ (ap length same ∙ is.found_is))) in
    let m : Miscount = record {
      line = line;
      expected = cells_in program params is.array;
      found = length cells;
    } in (
      m,
      miscount_told_of (cells_in program params is.array) line cells differ,
      are.once line n _ (held.0, held.1) (is.lists.0, is.lists.1),
    )
row_miscounted laws program lines params n other count is (seeded seed) are held =
    absurd (laws.either program lines is.array is.cells seed are (n, is.lists.0, is.lists.1, is.lists.2) held)

none_miscounted : (laws : LineLaws) (program : Program) (lines : ℕ → Text) (sheet : Sheet) (params : List ℤ)
    (m : Miscount) (n other count : ℕ) → Holds program lines sheet
    → first_miscount None (layout program params) sheet.rows ≡ Some m → n < m.line
    → IsMiscounted program (lines n) params other count → ⊥
none_miscounted laws program lines sheet params m n other count holds told before is =
    let found = row_miscounted laws program lines params n other count is (get_or sheet.rows is.array nothing)
    holds.lines_are (holds.row is.array) in
    let within : is.array < length (layout program params) =
    omega (arith, is.within, layout_count program params) in
    let least = least_line (layout program params) sheet.rows m is.array found.0
    (row_long program lines sheet params holds) told within found.1 in
    omega (arith, before, least, found.2)

-- contents, array by array
contents_count : (narrow : List Bool) (layouts : List (List ℕ)) (rows : List Given) → length rows ≡ length layouts
    → length (contents_said narrow layouts rows) ≡ length layouts
contents_count narrow [] rows count = refl
contents_count narrow (extents ∷ layouts) [] count = absurd (omega (arith, count))
contents_count narrow (extents ∷ layouts) (given ∷ rows) count =
    omega (arith, contents_count (drop 1 narrow) layouts rows (omega (arith, count)))

contents_at : (narrow : List Bool) (layouts : List (List ℕ)) (rows : List Given) (j : ℕ)
    → length rows ≡ length layouts → j < length layouts → get_or (contents_said narrow layouts rows) j []
    ≡ cells_said (get_or narrow j false) (cell_count (get_or layouts j [])) (get_or rows j nothing)
contents_at narrow [] rows j count within = absurd (omega (arith, within))
contents_at narrow (extents ∷ layouts) [] j count within = absurd (omega (arith, count))
contents_at narrow (extents ∷ layouts) (given ∷ rows) zero count within = refl
contents_at narrow (extents ∷ layouts) (given ∷ rows) (suc j) count within =
    let next : 1 + j ≡ suc j = omega arith in
    contents_at (drop 1 narrow) layouts rows j (omega (arith, count)) (omega (arith, within))
    ∙ ap (λ w. cells_said w (cell_count (get_or layouts j [])) (get_or rows j nothing))
    (get_or-drop 1 narrow j false ∙ ap (λ n. get_or narrow n false) next)

cells_held : (program : Program) (lines : ℕ → Text) (j n : ℕ) (given : Given) → HoldsRow program j lines given
    → miscount_of n given ≡ None → AreHeld program lines j n (cells_said (is_narrow program j) n given)
cells_held program lines j n nothing held none = inl (
  held,
  record {
    count_is = length-replicate n 0;
    each = λ k within. get_or-replicate n k 0 0 within;
  },
)
cells_held program lines j n (listed line cells) held none =
    inr (inl ((line, held.0, held.1, held.2), cells_long (is_narrow program j) n (listed line cells) none))
cells_held program lines j n (seeded seed) held none =
    let cell = seeded_cell (is_narrow program j) seed in
    inr (inr (
      seed,
      held,
      record {
        count_is = length-map-range_with_len cell 0 n;
        each = λ k within. get_or-map-range_with_len cell 0 n k k 0 within (omega arith);
      },
    ))

contents_are : (program : Program) (lines : ℕ → Text) (sheet : Sheet) (params : List ℤ) → Holds program lines sheet
    → first_miscount None (layout program params) sheet.rows ≡ None → AreContents program lines params
    (contents_said (narrow_arrays program) (layout program params) sheet.rows)
contents_are program lines sheet params holds none =
    let layouts = layout program params in
    let narrow = narrow_arrays program in
    let long = row_long program lines sheet params holds in
    record {
      count = contents_count narrow layouts sheet.rows long ∙ layout_count program params;
      each = λ j within.
          let there : j < length layouts = omega (arith, within, contents_count narrow layouts sheet.rows long) in
          subst (AreHeld program lines j (cell_count (get_or layouts j [])))
          (sym (contents_at narrow layouts sheet.rows j long there))
          (cells_held program lines j (cell_count (get_or layouts j [])) (get_or sheet.rows j nothing) (holds.row j)
          (none_found layouts sheet.rows j none long there));
    }

-- rule by rule
filled_tells : (laws : LineLaws) (program : Program) (lines : ℕ → Text) (sheet : Sheet) (params : List ℤ)
    (o : Option Miscount) → Holds program lines sheet → AreComplete program lines params → AreExtents program params
    → total_cells (layout program params) ≤ 2 ^ 22 → first_miscount None (layout program params) sheet.rows ≡ o
    → Tells program lines (told_or (miscounted o)
    (Ok (record {
      params = params;
      contents = contents_said (narrow_arrays program) (layout program params) sheet.rows;
    })))
filled_tells laws program lines sheet params (Some m) holds complete positive few is = (
  params,
  complete,
  positive,
  few,
  record {
    is_miscounted = miscount_here program lines sheet params m holds is;
    before = λ n other count. none_miscounted laws program lines sheet params m n other count holds is;
  },
)
filled_tells laws program lines sheet params None holds complete positive few is = record {
  lines_are = holds.lines_are;
  params_are = complete.given;
  contents_are = contents_are program lines sheet params holds is;
  extents = positive;
  cells = few;
}

counted_tells : (laws : LineLaws) (program : Program) (lines : ℕ → Text) (sheet : Sheet) (params : List ℤ)
    (many : Bool) → Holds program lines sheet → AreComplete program lines params → AreExtents program params
    → ltb (2 ^ 22) (total_cells (layout program params)) ≡ many
    → Tells program lines (told_or (if many then Some (Cells (total_cells (layout program params))) else None)
    (filled (narrow_arrays program) params (layout program params) sheet.rows))
counted_tells laws program lines sheet params true holds complete positive is =
    (params, complete, positive, refl, ltb-true (2 ^ 22) (total_cells (layout program params)) is)
counted_tells laws program lines sheet params false holds complete positive is =
    filled_tells laws program lines sheet params (first_miscount None (layout program params) sheet.rows) holds complete
    positive (ltb-false (2 ^ 22) (total_cells (layout program params)) is) refl

laid_tells : (laws : LineLaws) (program : Program) (lines : ℕ → Text) (sheet : Sheet) (params : List ℤ)
    (o : Option DataRefusal) → Holds program lines sheet → AreComplete program lines params
    → bad_extent params 0 program.arrays ≡ o
    → Tells program lines (told_or (or_else o (too_many (total_cells (layout program params))))
    (filled (narrow_arrays program) params (layout program params) sheet.rows))
laid_tells laws program lines sheet params (Some told) holds complete is =
    extent_told program lines params told complete is
laid_tells laws program lines sheet params None holds complete is = counted_tells laws program lines sheet params
    (ltb (2 ^ 22) (total_cells (layout program params))) holds complete (arrays_positive params 0 program.arrays is)
    refl

case_by : (laws : LineLaws) (program : Program) (lines : ℕ → Text) (sheet : Sheet) (o : Option DataRefusal)
    → Holds program lines sheet → AreInOrder program lines → missing 0 sheet.values ≡ o
    → Tells program lines (told_or o (laid_out program (params_of sheet.values) sheet.rows))
case_by laws program lines sheet (Some refusal) holds order is =
    missing_told program lines sheet refusal holds order is
case_by laws program lines sheet None holds order is =
    laid_tells laws program lines sheet (params_of sheet.values)
    (bad_extent (params_of sheet.values) 0 program.arrays) holds
    (record { order = order; given = all_given program lines sheet holds is }) refl

-- a line that breaks a rule of lines
line_told : (program : Program) (lines : ℕ → Text) (refusal : DataRefusal) → IsFirstBrokenLine program lines refusal
    → IsFirstBroken program lines refusal
line_told program lines (Line n) breaks = breaks
line_told program lines (UnknownName n) breaks = breaks
line_told program lines (Repeated n) breaks = breaks
line_told program lines (Number n) breaks = breaks
line_told program lines (ParameterRange n) breaks = breaks
line_told program lines (Missing i) breaks = absurd breaks.broken
line_told program lines (Extent j k value) breaks = absurd breaks.broken
line_told program lines (Cells total) breaks = absurd breaks.broken
line_told program lines (Count n expected found) breaks = absurd breaks.broken

-- what is known of the lines by their sheet
pub record SheetLaws : Type 0 where
  pub holds : (program : Program) (text : Text) (sheet : Sheet) → sheet_said program text ≡ Ok sheet
      → Holds program (line_of text) sheet
  pub order : (program : Program) (text : Text) (sheet : Sheet) → sheet_said program text ≡ Ok sheet
      → AreInOrder program (line_of text)
  pub breaks : (program : Program) (text : Text) (refusal : DataRefusal) → sheet_said program text ≡ Err refusal
      → IsFirstBrokenLine program (line_of text) refusal

lines_tell : (sheets : SheetLaws) (laws : LineLaws) (program : Program) (text : Text)
    (answer : Result Sheet DataRefusal) → sheet_said program text ≡ answer
    → Tells program (line_of text) (case_of_lines program answer)
lines_tell sheets laws program text (Ok sheet) is =
    case_by laws program (line_of text) sheet (missing 0 sheet.values) (sheets.holds program text sheet is)
    (sheets.order program text sheet is) refl
lines_tell sheets laws program text (Err refusal) is =
    line_told program (line_of text) refusal (sheets.breaks program text refusal is)

pub text_tells : (sheets : SheetLaws) (laws : LineLaws) (program : Program) (text : Text)
    (answer : Result Said DataRefusal) → data_said program text ≡ answer → Tells program (line_of text) answer
text_tells sheets laws program text answer is =
    subst (Tells program (line_of text)) is (lines_tell sheets laws program text (sheet_said program text) refl)
