-- The text of a case says the case: its lines are those of its parameters and its arrays, in the order of declaration.
use Rattle.scop_syntax.proofs.Common.{◌≡◌, ◌∙◌, sym, ap, subst, refl, inl, inr, ℕ, zero, suc, ◌+◌, ◌^◌, ◌<◌, ◌≤◌, true}
use Rattle.scop_syntax.proofs.Common.{Bool, false, List, [], ◌∷◌, ◌++◌, map, length, get_or, codes, decimal}
use Rattle.scop_syntax.proofs.Common.{append_assoc, length-append, arith, ints, get_or_append_left, get_or-append-add}
use Rattle.scop_syntax.proofs.Common.{get_or-map, get_or_default, length-map, All-nil, All-cons, All-append, All-map}
use Rattle.scop_syntax.proofs.Common.{All, ℤ, pos, negsuc, ⊤, list_all, Declaration, Program, IsShaped}
use Rattle.scop_syntax.proofs.Common.{cell_count, layout, size_of, IsInRange, WithinLimits, most_parameter}
use Rattle.std.proofs.Common.{ne_eqb}
use Rattle.std.proofs.Math.Nat.{one-le-mul}
use Rattle.std.proofs.lemmas.List.Splits.{slice_split_at}
use Rattle.std.proofs.lemmas.List.Sums.{AllPass-from_list_all}
use Rattle.scop_lexer.specs.Bytes.{Text, is_blank, is_word_byte}
use Rattle.scop_lexer.specs.Words.{IsName}
use Rattle.data_lines.specs.Words.{is_line_feed, lines_of}
use Rattle.data_lines.specs.Numbers.{HaveWidth}
use Rattle.data_lines.specs.Sheets.{is_narrow, names_of}
use Rattle.data_lines.specs.Naming.{AreNumbers, IsBlank, IsValue, line_of}
use Rattle.data_lines.proofs.EachLemmas.{HasHead, NameEach, each_are_lines, each_says_cells, each_says_value}
use Rattle.data_text.specs.ArrayText.{cells_text, row_text, rows_text}
use Rattle.data_text.specs.Written.{IsWritable, parameter_rows, case_text}
use Rattle.data_text.specs.Described.{AreContents, AreGiven, Describes}
use Rattle.data_text.proofs.DescribedLemmas.{layout_count}
use Rattle.data_text.proofs.NumeralLemmas.{decimal_is_number, decimal_no_blank, numbers_of_cells}
use Rattle.data_text.proofs.RowLemmas.{row_head}

abbrev AreSmall : List ℕ → Type 0
AreSmall cells = All (λ cell. cell < 2 ^ 64) cells

-- a row that can be written
abbrev IsRow : List ℕ → Type 0
IsRow cells = (0 < length cells) × AreSmall cells

-- names with rows
abbrev AreRows : List Text → List (List ℕ) → Type 0
AreRows [] [] = ⊤
AreRows [] (cells ∷ rows) = ⊥
AreRows (name ∷ names) [] = ⊥
AreRows (name ∷ names) (cells ∷ rows) = IsName name × IsRow cells × AreRows names rows

rows_are : (names : List Text) (rows : List (List ℕ)) → length names ≡ length rows → All IsName names → All IsRow rows
    → AreRows names rows
rows_are [] [] long named all = tt
rows_are [] (cells ∷ rows) long named all = absurd (omega (arith, long))
rows_are (name ∷ names) [] long named all = absurd (omega (arith, long))
rows_are (name ∷ names) (cells ∷ rows) long named all = (
  named 0 [] (omega arith),
  all 0 [] (omega arith),
  rows_are names rows (omega (arith, long)) (λ k d h. named (suc k) d (omega (arith, h)))
      (λ k d h. all (suc k) d (omega (arith, h))),
)

-- no line feed stands in a row
abbrev HasNoFeed : Text → Type 0
HasNoFeed text = All (λ b. is_line_feed b ≡ false) text

word_no_feed : (b : ℕ) → is_word_byte b ≡ true → is_line_feed b ≡ false
word_no_feed b word = ne_eqb b 10 (λ e. let wrong : true ≡ false = sym word ∙ ap is_word_byte e in cc)

digit_no_feed : (b : ℕ) → is_blank b ≡ false → is_line_feed b ≡ false
digit_no_feed b plain = ne_eqb b 10 (λ e. let wrong : false ≡ true = sym plain ∙ ap is_blank e in cc)

name_no_feed : (name : Text) → list_all is_word_byte name ≡ true → HasNoFeed name
name_no_feed name all k d within =
    word_no_feed (get_or name k d) (AllPass-from_list_all is_word_byte name all k d within)

cells_no_feed : (cells : List ℕ) → AreSmall cells → HasNoFeed (cells_text cells)
cells_no_feed [] small = All-nil (λ b. is_line_feed b ≡ false)
cells_no_feed (cell ∷ cells) small =
    let digits = decimal_no_blank cell (small 0 0 (omega arith)) in
    let first : HasNoFeed (32 ∷ decimal cell) = All-cons (λ b. is_line_feed b ≡ false) 32 (decimal cell) refl
    (λ k d h. digit_no_feed (get_or (decimal cell) k d) (digits k d h)) in
    All-append (λ b. is_line_feed b ≡ false) (32 ∷ decimal cell) (cells_text cells) first
    (cells_no_feed cells (λ k d h. small (suc k) d (omega (arith, h))))

row_no_feed : (name : Text) (cells : List ℕ) → IsName name → AreSmall cells → HasNoFeed (row_text name cells)
row_no_feed name cells is small =
    let sign : HasNoFeed (32 ∷ 61 ∷ []) = All-cons (λ b. is_line_feed b ≡ false) 32 (61 ∷ []) refl
    (All-cons (λ b. is_line_feed b ≡ false) 61 [] refl (All-nil (λ b. is_line_feed b ≡ false))) in
    All-append (λ b. is_line_feed b ≡ false) (name ++ codes " =") (cells_text cells)
    (All-append (λ b. is_line_feed b ≡ false) name (codes " =") (name_no_feed name is.bytes) sign)
    (cells_no_feed cells small)

-- the lines of rows, and the empty one behind the last line feed
abbrev row_lines : List Text → List (List ℕ) → List Text
row_lines [] rows = [] ∷ []
row_lines (name ∷ names) [] = [] ∷ []
row_lines (name ∷ names) (cells ∷ rows) = row_text name cells ∷ row_lines names rows

lines_are_rows : (names : List Text) (rows : List (List ℕ)) → AreRows names rows
    → lines_of (rows_text names rows) ≡ row_lines names rows
lines_are_rows [] [] are = refl
lines_are_rows [] (cells ∷ rows) are = absurd are
lines_are_rows (name ∷ names) [] are = absurd are
lines_are_rows (name ∷ names) (cells ∷ rows) are =
    let rest = rows_text names rows in
    ap lines_of (append_assoc (row_text name cells) (codes "\n") rest)
    ∙ (slice_split_at is_line_feed (row_text name cells) 10 rest (row_no_feed name cells are.0 are.1.1) refl
    ∙ ap (λ lines. row_text name cells ∷ lines) (lines_are_rows names rows are.2))

row_at : (names : List Text) (rows : List (List ℕ)) (i : ℕ) → AreRows names rows → i < length names
    → HasHead (get_or names i []) (map decimal (get_or rows i [])) (get_or (row_lines names rows) i [])
row_at [] rows i are within = absurd (omega (arith, within))
row_at (name ∷ names) [] i are within = absurd are
row_at (name ∷ names) (cells ∷ rows) zero are within = row_head name cells are.0 are.1.1
row_at (name ∷ names) (cells ∷ rows) (suc i) are within = row_at names rows i are.2 (omega (arith, within))

blank_at : (names : List Text) (rows : List (List ℕ)) (i : ℕ) → AreRows names rows → length names ≤ i
    → IsBlank (get_or (row_lines names rows) i [])
blank_at [] rows zero are past = refl
blank_at [] rows (suc i) are past = refl
blank_at (name ∷ names) [] i are past = absurd are
blank_at (name ∷ names) (cells ∷ rows) zero are past = absurd (omega (arith, past))
blank_at (name ∷ names) (cells ∷ rows) (suc i) are past = blank_at names rows i are.2 (omega (arith, past))

-- rows behind rows
text_append : (ns ms : List Text) (cs ds : List (List ℕ)) → length ns ≡ length cs
    → rows_text (ns ++ ms) (cs ++ ds) ≡ rows_text ns cs ++ rows_text ms ds
text_append [] ms [] ds long = refl
text_append [] ms (a ∷ cs) ds long = absurd (omega (arith, long))
text_append (n ∷ ns) ms [] ds long = absurd (omega (arith, long))
text_append (n ∷ ns) ms (a ∷ cs) ds long =
    ap (λ t. (row_text n a ++ codes "\n") ++ t) (text_append ns ms cs ds (omega (arith, long)))
    ∙ sym (append_assoc (row_text n a ++ codes "\n") (rows_text ns cs) (rows_text ms ds))

-- the rows of a case
abbrev rows_of : List ℤ → List (List ℕ) → List (List ℕ)
rows_of params contents = parameter_rows params ++ contents

abbrev words_at : List ℤ → List (List ℕ) → ℕ → List Text
words_at params contents i = map decimal (get_or (rows_of params contents) i [])

abbrev names_from : Program → List Text
names_from program = map (λ (d : Declaration). d.name) program.arrays

parameter_count : (params : List ℤ) → length (parameter_rows params) ≡ length params
parameter_count params = length-map params (λ p. size_of p ∷ [])

text_is : (program : Program) (params : List ℤ) (contents : List (List ℕ)) → length params ≡ length program.parameters
    → rows_text (names_of program) (rows_of params contents) ≡ case_text program params contents
text_is program params contents count =
    text_append program.parameters (names_from program) (parameter_rows params) contents
    (sym (parameter_count params ∙ count))

-- numbers of parameters
small_value : (p : ℤ) → IsInRange p → (size_of p ≤ most_parameter) × (p ≡ pos (size_of p))
small_value (pos n) lies = (omega (arith, ints, lies.1), refl)
small_value (negsuc n) lies = absurd (omega (arith, ints, lies.0))

value_at : (program : Program) (params : List ℤ) (i : ℕ) → WithinLimits program params → i < length params
    → (let p = get_or params i (pos 0) in (size_of p ≤ most_parameter) × (p ≡ pos (size_of p)))
value_at program params i limits within =
    small_value (get_or params i (pos 0)) (limits.parameters i (pos 0) within)

parameter_row : (n : ℕ) → n ≤ most_parameter → IsRow (n ∷ [])
parameter_row n small = (
  omega arith,
  All-cons (λ cell. cell < 2 ^ 64) n [] (omega (arith, small)) (All-nil (λ cell. cell < 2 ^ 64)),
)

-- cells of arrays
count_at : (program : Program) (params : List ℤ) (contents : List (List ℕ)) (j : ℕ)
    → IsShaped (layout program params) contents → j < length contents
    → length (get_or contents j []) ≡ cell_count (get_or (layout program params) j [])
count_at program params contents j shape within =
    let layouts = layout program params in
    let long : j < length layouts =
    omega (arith, within, ap length shape, length-map contents length, length-map layouts cell_count) in
    sym (get_or-map length contents j [] 0 within)
    ∙ (ap (λ counts. get_or counts j 0) shape ∙ get_or-map cell_count layouts j [] 0 long)

contents_count : (program : Program) (params : List ℤ) (contents : List (List ℕ))
    → IsShaped (layout program params) contents → length contents ≡ length program.arrays
contents_count program params contents shape =
    let layouts = layout program params in
    omega (
      arith,
      ap length shape,
      length-map contents length,
      length-map layouts cell_count,
      layout_count program params,
    )

some_cells : (extents : List ℕ) → All (λ e. (1 ≤ e) × (e ≤ 2 ^ 22)) extents → 1 ≤ cell_count extents
some_cells [] all = omega arith
some_cells (e ∷ es) all =
    one-le-mul ((all 0 0 (omega arith)).0) (some_cells es (λ k d h. all (suc k) d (omega (arith, h))))

-- the extents of a layout, as the limits have them
pub record ExtentLaw : Type 0 where
  pub extents : (program : Program) (params : List ℤ) → WithinLimits program params
      → All (λ extents. All (λ e. (1 ≤ e) × (e ≤ 2 ^ 22)) extents) (layout program params)

content_row : ExtentLaw → (program : Program) (params : List ℤ) (contents : List (List ℕ))
    → IsWritable program params contents → All IsRow contents
content_row law program params contents is k d within =
    let layouts = layout program params in
    let long : k < length layouts = omega (
      arith,
      within,
      contents_count program params contents is.shape,
      layout_count program params,
    ) in
    let some = some_cells (get_or layouts k []) (law.extents program params is.limits k [] long) in
    let cells : IsRow (get_or contents k []) = (
      omega (arith, some, count_at program params contents k is.shape within),
      is.cells k [] within,
    ) in
    subst IsRow (get_or_default contents k [] d within) cells

are_rows : ExtentLaw → (program : Program) (params : List ℤ) (contents : List (List ℕ))
    → IsWritable program params contents → AreRows (names_of program) (rows_of params contents)
are_rows law program params contents is =
    let ps : All IsRow (parameter_rows params) = All-map IsRow (λ p. size_of p ∷ []) params (λ k d within.
    parameter_row (size_of (get_or params k d)) (small_value (get_or params k d) (is.limits.parameters k d within)).0) in
    rows_are (names_of program) (rows_of params contents)
    (omega (
      arith,
      length-append program.parameters (names_from program),
      length-append (parameter_rows params) contents,
      length-map program.arrays (λ (d : Declaration). d.name),
      parameter_count params,
      is.limits.count,
      contents_count program params contents is.shape,
    )) is.names
    (All-append IsRow (parameter_rows params) contents ps (content_row law program params contents is))

-- each line has its name and its numbers
name_each : ExtentLaw → (program : Program) (params : List ℤ) (contents : List (List ℕ))
    → IsWritable program params contents
    → NameEach program (line_of (case_text program params contents)) (words_at params contents)
name_each law program params contents is =
    let names = names_of program in
    let rows = rows_of params contents in
    let are = are_rows law program params contents is in
    let lines : lines_of (case_text program params contents) ≡ row_lines names rows =
    ap lines_of (sym (text_is program params contents is.limits.count)) ∙ lines_are_rows names rows are in
    record {
      apart = is.apart;
      named = λ i within. subst (HasHead (get_or names i []) (words_at params contents i))
          (sym (ap (λ ls. get_or ls i []) lines)) (row_at names rows i are within);
      first = refl;
      rest = λ i past. subst IsBlank (sym (ap (λ ls. get_or ls i []) lines)) (blank_at names rows i are past);
    }

parameter_words : (params : List ℤ) (contents : List (List ℕ)) (i : ℕ) → i < length params
    → words_at params contents i ≡ decimal (size_of (get_or params i (pos 0))) ∷ []
parameter_words params contents i within =
    let there : i < length (parameter_rows params) = omega (arith, within, parameter_count params) in
    ap (map decimal) (get_or_append_left (parameter_rows params) contents [] i there
    ∙ get_or-map (λ p. size_of p ∷ []) params i (pos 0) [] within)

parameters_given : ExtentLaw → (program : Program) (params : List ℤ) (contents : List (List ℕ))
    → IsWritable program params contents → AreGiven program (line_of (case_text program params contents)) params
parameters_given law program params contents is = record {
  count = is.limits.count;
  each = λ i within.
      let value = size_of (get_or params i (pos 0)) in
      let small = value_at program params i is.limits within in
      let says : IsValue value (words_at params contents i) = record {
        word = decimal value;
        one = parameter_words params contents i within;
        number = decimal_is_number value (omega (arith, small.0));
        small = small.0;
      } in (
        value,
        each_says_value program (line_of (case_text program params contents)) (words_at params contents) i value
            (name_each law program params contents is) (omega (arith, within, is.limits.count)) says,
        small.1,
      );
}

array_words : (program : Program) (params : List ℤ) (contents : List (List ℕ)) (j : ℕ)
    → length params ≡ length program.parameters
    → words_at params contents (length program.parameters + j) ≡ map decimal (get_or contents j [])
array_words program params contents j count =
    let same : length program.parameters ≡ length (parameter_rows params) = sym (parameter_count params ∙ count) in
    ap (λ n. words_at params contents (n + j)) same
    ∙ ap (map decimal) (get_or-append-add (parameter_rows params) contents j [])

width_of : (narrow : Bool) (cells : List ℕ) → ((k : ℕ) → narrow ≡ true → get_or cells k 0 < 2 ^ 32)
    → HaveWidth narrow cells
width_of false cells hold = tt
width_of true cells hold = λ k d within. subst (λ n. n < 2 ^ 32) (get_or_default cells k 0 d within) (hold k refl)

arrays_given : ExtentLaw → (program : Program) (params : List ℤ) (contents : List (List ℕ))
    → IsWritable program params contents
    → AreContents program (line_of (case_text program params contents)) params contents
arrays_given law program params contents is = record {
  count = contents_count program params contents is.shape;
  each = λ j within.
      let cells = get_or contents j [] in
      let row = content_row law program params contents is j [] within in
      let narrow = is_narrow program j in
      let numbers : AreNumbers narrow cells (map decimal cells) = record {
        numbers = numbers_of_cells cells row.1;
        some = omega (arith, row.0, length-map cells decimal);
        width = width_of narrow cells (is.widths j);
      } in
      let there : j < length program.arrays =
      omega (arith, within, contents_count program params contents is.shape) in
      inr (inl (
        each_says_cells program (line_of (case_text program params contents)) (words_at params contents) j cells
            (name_each law program params contents is) there
            (subst (AreNumbers narrow cells) (sym (array_words program params contents j is.limits.count)) numbers),
        count_at program params contents j is.shape within,
      ));
}

-- so the lines of the text describe the case
pub text_describes : ExtentLaw → (program : Program) (params : List ℤ) (contents : List (List ℕ))
    → IsWritable program params contents
    → Describes program (line_of (case_text program params contents)) params contents
text_describes law program params contents is = record {
  lines_are = each_are_lines program (line_of (case_text program params contents)) (words_at params contents)
      (name_each law program params contents is);
  params_are = parameters_given law program params contents is;
  contents_are = arrays_given law program params contents is;
  extents = is.limits.extents;
  cells = is.limits.cells;
}
