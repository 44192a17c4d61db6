-- The lines of a statement's reads one by one, and those of statements one behind another.
use Rattle.scop_syntax.proofs.Common.{◌≡◌, ◌∙◌, ap, ap₂, sym, refl, ℕ, zero, suc, ◌+◌, ◌-◌, ◌<◌, ◌≤◌, List, [], ◌∷◌}
use Rattle.scop_syntax.proofs.Common.{◌++◌, drop, get_or, length, arith, append_assoc, drop-cons, add-one, Some}
use Rattle.scop_syntax.proofs.Common.{drop_of_length-le, subst, Vec, Global, slice_get, Program}
use Rattle.scop_lexer.specs.Bytes.{Text}
use Rattle.iteration_domains.specs.Model.{Modelled, model_of}
use Rattle.dataflow.specs.ReadSources.{reads_from, reads_of_statement, reads_in}
use Rattle.quast_text.specs.Text.{texts_of}
use Rattle.dataflow.specs.declared.source.ReadSource.{ReadSource}
use Rattle.report_text.specs.DepsText.{read_text, line_of, lines_of, turn_name, turn_names}

-- where there is no source there is no line
pub no_lines : (program : Program) (reads : List (ℕ × ℕ)) → lines_of program reads [] ≡ []
no_lines program [] = refl
no_lines program (r ∷ rs) = refl

-- past the last source there is no line
pub lines_past : (program : Program) (reads : List (ℕ × ℕ)) (k : ℕ) (sources : List ReadSource) → length sources ≤ k
    → lines_of program reads (drop k sources) ≡ []
lines_past program reads k sources past =
    ap (lines_of program reads) (drop_of_length-le sources past) ∙ no_lines program reads

-- a read's line, and those of the reads behind it
pub lines_next : (program : Program) (s : Modelled) (k count : ℕ) (sources : List ReadSource) (from : ReadSource)
    → slice_get (model_of program).statements s.number ≡ Some s → 1 ≤ k → k < count → k - 1 < length sources
    → get_or sources (k - 1) from ≡ from
    → lines_of program (reads_from s.number k (count - k)) (drop (k - 1) sources)
    ≡ read_text program s k from
    ++ lines_of program (reads_from s.number (k + 1) (count - (k + 1))) (drop (k + 1 - 1) sources)
lines_next program s k count sources from here some less inside is =
    let left : count - k ≡ suc (count - (k + 1)) = omega (arith, less) in
    let next : suc (k - 1) ≡ k + 1 - 1 = omega (arith, some) in
    let rest = drop (suc (k - 1)) sources in
    let front : drop (k - 1) sources ≡ from ∷ rest =
    drop-cons sources (k - 1) from inside ∙ ap (λ (x : ReadSource). x ∷ rest) is in
    ap₂ (λ (n : ℕ) (ss : List ReadSource). lines_of program (reads_from s.number k n) ss) left front
    ∙ ap₂ (λ o (ss : List ReadSource). line_of program o k from
    ++ lines_of program (reads_from s.number (k + 1) (count - (k + 1))) ss) here (ap (λ (i : ℕ). drop i sources) next)

-- one line more
pub line_more : (program : Program) (s : Modelled) (k count : ℕ) (sources : List ReadSource) (from : ReadSource)
    (old new whole : Text) → slice_get (model_of program).statements s.number ≡ Some s → 1 ≤ k → k < count
    → k - 1 < length sources → get_or sources (k - 1) from ≡ from
    → old ++ lines_of program (reads_from s.number k (count - k)) (drop (k - 1) sources) ≡ whole
    → new ≡ old ++ read_text program s k from
    → new ++ lines_of program (reads_from s.number (k + 1) (count - (k + 1))) (drop (k + 1 - 1) sources) ≡ whole
line_more program s k count sources from old new whole here some less inside is so_far made =
    let rest = lines_of program (reads_from s.number (k + 1) (count - (k + 1))) (drop (k + 1 - 1) sources) in
    let line = read_text program s k from in
    ap (λ (t : Text). t ++ rest) made ∙ (append_assoc old line rest
    ∙ (ap (λ (t : Text). old ++ t) (sym (lines_next program s k count sources from here some less inside is))
    ∙ so_far))

-- how many reads there are
length_from : (n k count : ℕ) → length (reads_from n k count) ≡ count
length_from n k zero = refl
length_from n k (suc count) = ap suc (length_from n (k + 1) count)

-- the lines of some reads and of others behind them
pub lines_behind : (program : Program) (rs more : List (ℕ × ℕ)) (sources : List ReadSource)
    → lines_of program (rs ++ more) sources
    ≡ lines_of program rs sources ++ lines_of program more (drop (length rs) sources)
lines_behind program [] more sources = refl
lines_behind program (r ∷ rs) more [] = sym (no_lines program more)
lines_behind program (r ∷ rs) more (s ∷ ss) =
    let line = line_of program (slice_get (model_of program).statements r.0) r.1 s in
    ap (λ (t : Text). line ++ t) (lines_behind program rs more ss)
    ∙ sym (append_assoc line (lines_of program rs ss) (lines_of program more (drop (length rs) ss)))

-- those of a statement and of the others
pub statement_more : (program : Program) (statements : List Modelled) (i : ℕ) (s : Modelled)
    (sources rest : List ReadSource)
    (old new whole : Text) → i < length statements → get_or statements i s ≡ s
    → old ++ lines_of program (reads_in (drop i statements)) sources ≡ whole
    → new ≡ old ++ lines_of program (reads_of_statement s) sources → rest ≡ drop (length s.accesses - 1) sources
    → new ++ lines_of program (reads_in (drop (i + 1) statements)) rest ≡ whole
statement_more program statements i s sources rest old new whole less is so_far made behind =
    let others = reads_in (drop (i + 1) statements) in
    let own = reads_of_statement s in
    let front : drop i statements ≡ s ∷ drop (i + 1) statements =
    rw add-one (drop-cons statements i s less ∙ ap (λ (x : Modelled). x ∷ drop (suc i) statements) is) in
    let count = length_from s.number 1 (length s.accesses - 1) in
    ap₂ (λ (t : Text) (ss : List ReadSource). t ++ lines_of program others ss) made behind
    ∙ (append_assoc old (lines_of program own sources) (lines_of program others (drop (length s.accesses - 1) sources))
    ∙ (ap (λ (t : Text). old ++ t) (ap (λ (n : ℕ). lines_of program own sources ++ lines_of program others
    (drop n sources))
    (sym count) ∙ (sym (lines_behind program own others sources)
    ∙ ap (λ (ss : List Modelled). lines_of program (reads_in ss) sources) (sym front)))
    ∙ so_far))

-- ---- names

-- the name at a place, and those behind it
pub texts_next : (names : List (Vec ℕ Global)) (at : ℕ) (d : Vec ℕ Global) → at < length names
    → (get_or names at d).items ∷ texts_of (drop (at + 1) names) ≡ texts_of (drop at names)
texts_next names at d less = rw (add-one, drop-cons names at d less) refl

-- the name of one turn more behind those before
pub turns_next : (before now names : List Text) (at : ℕ) (name : Text) → now ≡ names ++ name ∷ []
    → names ≡ before ++ turn_names at → name ≡ turn_name (at + 1) → now ≡ before ++ turn_names (at + 1)
turns_next before now names at name is so_far named =
    rw add-one (is ∙ (ap₂ (λ ns n. ns ++ n ∷ []) so_far (subst (λ k. name ≡ turn_name k) (add-one at) named)
    ∙ append_assoc before (turn_names at) (turn_name (suc at) ∷ [])))
