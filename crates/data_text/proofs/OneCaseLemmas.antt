-- Lines describe one case at most, and lines that describe one break no rule.
use Rattle.scop_syntax.proofs.Common.{◌≡◌, ◌∙◌, sym, ap, ap₂, subst, refl, inl, inr, ◌⊎◌, ℕ, ◌^◌, ◌<◌, ◌≤◌, List, []}
use Rattle.scop_syntax.proofs.Common.{length, get_or, arith, ints, All-get_or, All, ℤ, pos, ◌≤ℤ◌, Some, None, Result}
use Rattle.scop_syntax.proofs.Common.{Ok, Err, slice_get, value_of, Declaration, Program, layout, total_cells}
use Rattle.std.proofs.lemmas.List.{ext_get_or}
use Rattle.std.proofs.lemmas.Option.{slice_get_cases}
use Rattle.scop_lexer.specs.Bytes.{Text}
use Rattle.data_lines.specs.declared.refusal.DataRefusal.{DataRefusal}
use Rattle.data_lines.specs.declared.refusal.DataRefusal.TheVariants.{Missing, Extent, Cells, Count}
use Rattle.data_lines.specs.declared.refusal.DataRefusal.TheVariants.{Line, UnknownName, Repeated, Number}
use Rattle.data_lines.specs.declared.refusal.DataRefusal.TheVariants.{ParameterRange}
use Rattle.data_lines.specs.Naming.{AreLines, AreSound, IsLeftOut, SaysCells, SaysSeed, line_of}
use Rattle.data_lines.specs.Sheets.{is_narrow}
use Rattle.data_text.specs.Cases.{Said, data_said, ok_said, seeded_cell}
use Rattle.data_text.specs.Described.{AreCells, AreContents, AreGiven, AreHeld, Describes, IsFirstBroken, IsLow}
use Rattle.data_text.specs.Described.{IsMiscounted, cells_in}
use Rattle.data_text.proofs.DescribedLemmas.{LineLaws, SheetLaws, text_tells}

-- one value of each parameter
one_given : (laws : LineLaws) (program : Program) (lines : ℕ → Text) (p q : List ℤ) → AreLines program lines
    → AreGiven program lines p → AreGiven program lines q → p ≡ q
one_given laws program lines p q are first second =
    ext_get_or (pos 0) p q (first.count ∙ sym second.count) (λ i within.
    let there : i < length q = omega (arith, within, first.count, second.count) in
    let one = first.each i within in
    let other = second.each i there in
    one.2 ∙ (ap (λ n. pos n) (laws.value program lines i one.0 other.0 are one.1 other.1) ∙ sym other.2))

-- one content of each array
same_cells : (n : ℕ) (f : ℕ → ℕ) (a b : List ℕ) → AreCells n f a → AreCells n f b → a ≡ b
same_cells n f a b first second = ext_get_or 0 a b (first.count_is ∙ sym second.count_is) (λ k within.
    let there : k < n = omega (arith, within, first.count_is) in first.each k there ∙ sym (second.each k there))

one_held : (laws : LineLaws) (program : Program) (lines : ℕ → Text) (j n : ℕ) (a b : List ℕ)
    → AreLines program lines → AreHeld program lines j n a → AreHeld program lines j n b → a ≡ b
one_held laws program lines j n a b are (inl one) (inl other) = same_cells n _ a b one.1 other.1
one_held laws program lines j n a b are (inl one) (inr (inl other)) =
    absurd (one.0 other.0.0 other.0.1 other.0.2)
one_held laws program lines j n a b are (inl one) (inr (inr other)) =
    absurd (one.0 other.1.0 other.1.1 other.1.2)
one_held laws program lines j n a b are (inr (inl one)) (inl other) =
    absurd (other.0 one.0.0 one.0.1 one.0.2)
one_held laws program lines j n a b are (inr (inl one)) (inr (inl other)) =
    laws.cells program lines j a b are one.0 other.0
one_held laws program lines j n a b are (inr (inl one)) (inr (inr other)) =
    absurd (laws.either program lines j a other.0 are one.0 other.1)
one_held laws program lines j n a b are (inr (inr one)) (inl other) =
    absurd (other.0 one.1.0 one.1.1 one.1.2)
one_held laws program lines j n a b are (inr (inr one)) (inr (inl other)) =
    absurd (laws.either program lines j b one.0 are other.0 one.1)
one_held laws program lines j n a b are (inr (inr one)) (inr (inr other)) =
    let same = laws.seed program lines j one.0 other.0 are one.1 other.1 in
    let cell : ℕ → ℕ → ℕ = seeded_cell (is_narrow program j) in
    same_cells n (cell other.0) a b (subst (λ s. AreCells n (cell s) a) same one.2) other.2

one_contents : (laws : LineLaws) (program : Program) (lines : ℕ → Text) (params : List ℤ) (a b : List (List ℕ))
    → AreLines program lines → AreContents program lines params a → AreContents program lines params b → a ≡ b
one_contents laws program lines params a b are first second =
    ext_get_or [] a b (first.count ∙ sym second.count) (λ j within.
    let there : j < length b = omega (arith, within, first.count, second.count) in
    one_held laws program lines j (cells_in program params j) (get_or a j []) (get_or b j []) are
    (first.each j within) (second.each j there))

one_case : (laws : LineLaws) (program : Program) (lines : ℕ → Text) (p q : List ℤ) (a b : List (List ℕ))
    → Describes program lines p a → Describes program lines q b → ok_said p a ≡ ok_said q b
one_case laws program lines p q a b first second =
    let same = one_given laws program lines p q first.lines_are first.params_are second.params_are in
    ap₂ ok_said same (one_contents laws program lines q a b first.lines_are
    (subst (λ params. AreContents program lines params a) same first.contents_are) second.contents_are)

-- lines that describe a case are in order
abbrev IsRow : Program → (ℕ → Text) → ℕ → Type 0
IsRow program lines j = IsLeftOut program j lines
    ⊎ (((cells : List ℕ) × SaysCells program j cells lines) ⊎ ((seed : ℕ) × SaysSeed program j seed lines))

row_of : (program : Program) (lines : ℕ → Text) (j n : ℕ) (cells : List ℕ) → AreHeld program lines j n cells
    → IsRow program lines j
row_of program lines j n cells (inl held) = inl held.0
row_of program lines j n cells (inr (inl held)) = inr (inl (cells, held.0))
row_of program lines j n cells (inr (inr held)) = inr (inr (held.0, held.1))

are_sound : (program : Program) (lines : ℕ → Text) (params : List ℤ) (contents : List (List ℕ))
    → Describes program lines params contents → AreSound program lines
are_sound program lines params contents is = record {
  lines_are = is.lines_are;
  value = λ i within. let there : i < length params = omega (arith, within, is.params_are.count) in
      let given = is.params_are.each i there in (given.0, given.1);
  row = λ j within. let there : j < length contents = omega (arith, within, is.contents_are.count) in
      row_of program lines j (cells_in program params j) (get_or contents j []) (is.contents_are.each j there);
}

-- they break no rule
all_at : {X : Type 0} → (P : X → Type 0) (xs : List X) (i : ℕ) (x : X) → All P xs → slice_get xs i ≡ Some x → P x
all_at P xs i x all is = elim (slice_get_cases xs i).1 [
  | inl found ↦ let same : Some found.0 ≡ Some x = sym found.2 ∙ is in
      let one : found.0 ≡ x = cc in
      subst P (found.3 ∙ one) (All-get_or P xs i found.0 found.1 all)
  | inr past ↦ let wrong : None ≡ Some x = sym past.1 ∙ is in cc
]

low_not : (params : List ℤ) (ds : List Declaration) (j k : ℕ) (v : ℤ)
    → All (λ d. All (λ form. pos 1 ≤ℤ value_of form params) d.extents) ds → IsLow params ds j k v → ⊥
low_not params ds j k v all low =
    let extents = all_at (λ d. All (λ form. pos 1 ≤ℤ value_of form params) d.extents) ds j low.array all
    low.is_array in
    let positive = all_at (λ form. pos 1 ≤ℤ value_of form params) low.array.extents low.before low.form extents
    low.is_extent in
    let is = low.value_is in
    let not = low.low in
    omega (arith, ints, positive, is, not)

miscounted_not : (laws : LineLaws) (program : Program) (lines : ℕ → Text) (params : List ℤ) (n e f : ℕ)
    (cells : List ℕ) (found : IsMiscounted program (lines n) params e f) → AreLines program lines
    → AreHeld program lines found.array (cells_in program params found.array) cells → ⊥
miscounted_not laws program lines params n e f cells found are (inl held) =
    held.0 n found.lists.0 found.lists.1
miscounted_not laws program lines params n e f cells found are (inr (inl held)) =
    let same = laws.cells program lines found.array found.cells cells are
    (n, found.lists.0, found.lists.1, found.lists.2) held.0 in
    found.differ (sym found.expected_is ∙ (sym held.1 ∙ (sym (ap length same) ∙ found.found_is)))
miscounted_not laws program lines params n e f cells found are (inr (inr held)) =
    laws.either program lines found.array found.cells held.0 are
    (n, found.lists.0, found.lists.1, found.lists.2) held.1

no_rule_broken : (laws : LineLaws) (program : Program) (lines : ℕ → Text) (params : List ℤ)
    (contents : List (List ℕ)) (refusal : DataRefusal) → Describes program lines params contents
    → IsFirstBroken program lines refusal → ⊥
no_rule_broken laws program lines params contents (Missing i) is breaks =
    let says = (are_sound program lines params contents is).value i breaks.1.within in
    breaks.1.missing says.1.0 says.1.1 says.1.2
no_rule_broken laws program lines params contents (Extent j k v) is breaks =
    let same = one_given laws program lines breaks.0 params is.lines_are breaks.1.given is.params_are in
    low_not params program.arrays j k v is.extents
    (subst (λ ps. IsLow ps program.arrays j k v) same breaks.2.is_low)
no_rule_broken laws program lines params contents (Cells total) is breaks =
    let same = one_given laws program lines breaks.0 params is.lines_are breaks.1.given is.params_are in
    let few = subst (λ ps. total_cells (layout program ps) ≤ 2 ^ 22) (sym same) is.cells in
    omega (arith, few, breaks.3, breaks.4)
no_rule_broken laws program lines params contents (Count n e f) is breaks =
    let same = one_given laws program lines breaks.0 params is.lines_are breaks.1.given is.params_are in
    let found = subst (λ ps. IsMiscounted program (lines n) ps e f) same breaks.4.is_miscounted in
    let there : found.array < length contents = omega (arith, found.within, is.contents_are.count) in
    miscounted_not laws program lines params n e f (get_or contents found.array []) found is.lines_are
    (is.contents_are.each found.array there)
no_rule_broken laws program lines params contents (Line n) is breaks =
    laws.sound program lines (Line n) (are_sound program lines params contents is) breaks.broken
no_rule_broken laws program lines params contents (UnknownName n) is breaks =
    laws.sound program lines (UnknownName n) (are_sound program lines params contents is) breaks.broken
no_rule_broken laws program lines params contents (Repeated n) is breaks =
    laws.sound program lines (Repeated n) (are_sound program lines params contents is) breaks.broken
no_rule_broken laws program lines params contents (Number n) is breaks =
    laws.sound program lines (Number n) (are_sound program lines params contents is) breaks.broken
no_rule_broken laws program lines params contents (ParameterRange n) is breaks =
    laws.sound program lines (ParameterRange n) (are_sound program lines params contents is) breaks.broken

-- so a text says the case that its lines describe
said_by : (sheets : SheetLaws) (laws : LineLaws) (program : Program) (text : Text) (params : List ℤ)
    (contents : List (List ℕ)) (answer : Result Said DataRefusal) → Describes program (line_of text) params contents
    → data_said program text ≡ answer → answer ≡ ok_said params contents
said_by sheets laws program text params contents (Ok said) is told =
    one_case laws program (line_of text) said.params params said.contents contents
    (text_tells sheets laws program text (Ok said) told) is
said_by sheets laws program text params contents (Err refusal) is told =
    absurd (no_rule_broken laws program (line_of text) params contents refusal is
    (text_tells sheets laws program text (Err refusal) told))

pub described_is_said : (sheets : SheetLaws) (laws : LineLaws) (text : Text) (program : Program) (params : List ℤ)
    (contents : List (List ℕ)) → Describes program (line_of text) params contents
    → data_said program text ≡ ok_said params contents
described_is_said sheets laws text program params contents is =
    said_by sheets laws program text params contents (data_said program text) is refl
