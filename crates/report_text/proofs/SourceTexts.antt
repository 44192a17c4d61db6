-- The text of the sources of a kernel's reads is read in one way.
use Rattle.scop_syntax.proofs.Common.{◌≡◌, ◌∙◌, ap, sym, subst, refl, ℕ, zero, suc, ◌+◌, ◌^◌, ◌<◌, List, [], ◌∷◌}
use Rattle.scop_syntax.proofs.Common.{◌++◌, drop, get_or, length, arith, append_assoc, append-nil, decimal, Option}
use Rattle.scop_syntax.proofs.Common.{Some, None, ◌≢◌, All, codes, slice_get, append_cancel_left, Program}
use Rattle.std.proofs.lemmas.List.{length-append}
use Rattle.scop_lexer.specs.Bytes.{Text}
use Rattle.scop_lexer.specs.Words.{IsName}
use Rattle.scop_parser.specs.DistinctNames.{HasDistinctNames, header_names}
use Rattle.iteration_domains.specs.Model.{Modelled, KernelModel, model_of}
use Rattle.quast_trees.specs.Postfix.{tree_of}
use Rattle.dataflow.specs.Stop.TheVariants as solver
use Rattle.dataflow.specs.ReadSources.{reads_of}
use Rattle.dataflow.specs.Told.{IsQuastOver, IsToldStop, IsToldOver, IsToldAt, AreTold}
use Rattle.dataflow.specs.declared.source.ReadSource.{ReadSource}
use Rattle.dataflow.specs.declared.source.ReadSource.TheVariants as source
use Rattle.dataflow.specs.declared.source.SourceStop.{SourceStop}
use Rattle.dataflow.specs.declared.source.SourceStop.TheVariants as stop
use Rattle.report_text.specs.DepsText.{turn_name, turn_names, solver_text, stop_text, source_text, array_of, names_at}
use Rattle.report_text.specs.DepsText.{line_of, lines_of, deps_text}
use Rattle.report_text.specs.DepsReading.{StopAlike, HaltAlike, SaySame, AllSaySame}
use Rattle.report_text.proofs.TellableQuasts.{loops_of, tellable}
use Rattle.quast_trees.specs.Tree.{Tree}
use Rattle.quast_text.specs.Reading.{AreOuter, IsTellable}
use Rattle.quast_text.specs.Text.{quast_text}
use Rattle.report_text.proofs.VariableNames.{outer_names}
use Rattle.form_text.proofs.Digits.{EndsDigits, one_number}
use Rattle.form_text.proofs.Numerals.{decimal_is_numeral}

-- the laws of quasts' texts
pub record QuastLaws : Type 0 where
  pub one : (loops : List (List ℕ)) (outer : List Text) (t u : Tree) (x y : Text)
      → AreOuter outer → IsTellable loops (length outer) t → IsTellable loops (length outer) u
      → quast_text outer 0 t ++ x ≡ quast_text outer 0 u ++ y → (t ≡ u) × (x ≡ y)
  pub first : (loops : List (List ℕ)) (outer : List Text) (t : Tree) (x : Text)
      → IsTellable loops (length outer) t → get_or (quast_text outer 0 t ++ x) 0 0 ≢ 117

-- the byte at a place
abbrev byte : ℕ → Text → ℕ
byte k t = get_or t k 0

-- ---- unresolved reads

-- two decimals of 128 bits with one text in front of what no digit begins are one
one_decimal : (m n : ℕ) (r s : Text) → m < 2 ^ 128 → n < 2 ^ 128 → EndsDigits r → EndsDigits s
    → decimal m ++ r ≡ decimal n ++ s → (m ≡ n) × (r ≡ s)
one_decimal m n r s a b c d e =
    one_number m n r s c d
    (ap (λ (t : Text). t ++ r) (sym (decimal_is_numeral m (omega (arith, a))))
    ∙ (e ∙ ap (λ (t : Text). t ++ s) (decimal_is_numeral n (omega (arith, b)))))

one_solver : (a b : solver.the_data) (x y : Text) → IsToldStop a → IsToldStop b
    → solver_text a ++ 10 ∷ x ≡ solver_text b ++ 10 ∷ y → StopAlike a b × (x ≡ y)
one_solver solver.NoMemory b x y h g e = absurd h
one_solver (solver.Wide p i) solver.NoMemory x y h g e = absurd g
one_solver (solver.Spent p i) solver.NoMemory x y h g e = absurd g
one_solver (solver.Wide p i) (solver.Wide q j) x y h g e = (tt, ap (drop 16) e)
one_solver (solver.Wide p i) (solver.Spent q j) x y h g e =
    let same : 119 ≡ 115 = ap (byte 11) e in absurd (omega (arith, same))
one_solver (solver.Spent p i) (solver.Wide q j) x y h g e =
    let same : 115 ≡ 119 = ap (byte 11) e in absurd (omega (arith, same))
one_solver (solver.Spent p i) (solver.Spent q j) x y h g e =
    let t = one_decimal i j (10 ∷ x) (10 ∷ y) (omega (arith, h)) (omega (arith, g)) refl refl (ap (drop 17) e) in
    (t.0, ap (drop 1) t.1)

-- a problem's stop is told otherwise than a join's
no_join : (a : solver.the_data) (n : ℕ) (x y : Text) → IsToldStop a
    → solver_text a ++ x ≡ (codes "unresolved nodes " ++ decimal n) ++ y → ⊥
no_join (solver.Wide p i) n x y h e = let same : 119 ≡ 110 = ap (byte 11) e in omega (arith, same)
no_join (solver.Spent p i) n x y h e = let same : 115 ≡ 110 = ap (byte 11) e in omega (arith, same)
no_join solver.NoMemory n x y h e = absurd h

one_stop : (model : KernelModel) (n : ℕ) (a b : SourceStop) (x y : Text)
    → IsToldOver model n (source.Unresolved a) → IsToldOver model n (source.Unresolved b)
    → stop_text a ++ 10 ∷ x ≡ stop_text b ++ 10 ∷ y → HaltAlike a b × (x ≡ y)
one_stop model n (stop.Solver a) (stop.Solver b) x y h g e = one_solver a b x y h g e
one_stop model n (stop.Solver a) (stop.Join j) x y h g e = absurd (no_join a j (10 ∷ x) (10 ∷ y) h e)
one_stop model n (stop.Join i) (stop.Solver b) x y h g e = absurd (no_join b i (10 ∷ y) (10 ∷ x) g (sym e))
one_stop model n (stop.Join i) (stop.Join j) x y h g e =
    let t = one_decimal i j (10 ∷ x) (10 ∷ y) h g refl refl (ap (drop 17) e) in
    (t.0, ap (drop 1) t.1)

stop_first : (model : KernelModel) (n : ℕ) (a : SourceStop) (x : Text) → IsToldOver model n (source.Unresolved a)
    → byte 0 (stop_text a ++ x) ≡ 117
stop_first model n (stop.Solver (solver.Wide p i)) x h = refl
stop_first model n (stop.Solver (solver.Spent p i)) x h = refl
stop_first model n (stop.Solver solver.NoMemory) x h = absurd h
stop_first model n (stop.Join i) x h = refl

-- ---- sources

-- a quast over as many variables as there are names
over : (model : KernelModel) (n m : ℕ) (t : Tree) → n ≡ m → IsQuastOver model n t → IsTellable (loops_of model) m t
over model n m t e h = subst (λ i. IsTellable (loops_of model) i t) e (tellable model n t h.speaks h.leaves)

one_source_text : (laws : QuastLaws) (model : KernelModel) (outer : List Text) (n : ℕ) (a b : ReadSource)
    (x y : Text) → AreOuter outer → n ≡ length outer → IsToldOver model n a
    → IsToldOver model n b → source_text outer a ++ 10 ∷ x ≡ source_text outer b ++ 10 ∷ y → SaySame a b × (x ≡ y)
one_source_text laws model outer n (source.Resolved q) (source.Resolved r) x y o count h g e =
    let t = laws.one (loops_of model) outer (tree_of q) (tree_of r) (10 ∷ x) (10 ∷ y) o
    (over model n (length outer) (tree_of q) count h) (over model n (length outer) (tree_of r) count g) e in
    (t.0, ap (drop 1) t.1)
one_source_text laws model outer n (source.Resolved q) (source.Unresolved b) x y o count h g e =
    absurd (laws.first (loops_of model) outer (tree_of q) (10 ∷ x) (over model n (length outer) (tree_of q) count h)
    (ap (byte 0) e ∙ stop_first model n b (10 ∷ y) g))
one_source_text laws model outer n (source.Unresolved a) (source.Resolved r) x y o count h g e =
    absurd (laws.first (loops_of model) outer (tree_of r) (10 ∷ y) (over model n (length outer) (tree_of r) count g)
    (sym (ap (byte 0) e) ∙ stop_first model n a (10 ∷ x) h))
one_source_text laws model outer n (source.Unresolved a) (source.Unresolved b) x y o count h g e =
    one_stop model n a b x y h g e

-- ---- lines

-- a kernel's parameters and any turns are told apart
abbrev AreNamesOf : Program → Type 0
AreNamesOf program = (d : ℕ) → AreOuter (program.parameters ++ turn_names d)

length_turns : (d : ℕ) → length (turn_names d) ≡ d
length_turns zero = refl
length_turns (suc d) =
    let a = length-append (turn_names d) (turn_name (suc d) ∷ []) in
    let b = length_turns d in
    omega (arith, a, b)

line_parts : (p d q k r a s t u x : Text)
    → (p ++ (d ++ (q ++ (k ++ (r ++ (a ++ (s ++ (t ++ (u ++ []))))))))) ++ x
    ≡ (p ++ (d ++ (q ++ (k ++ (r ++ (a ++ s)))))) ++ (t ++ (u ++ x))
line_parts p d q k r a s t u x = simp (append_assoc, append-nil) refl

one_line : (quasts : QuastLaws) (program : Program) (k : ℕ) (o : Option Modelled) (a b : ReadSource) (x y : Text)
    → AreNamesOf program → IsToldAt (model_of program) o a → IsToldAt (model_of program) o b
    → line_of program o k a ++ x ≡ line_of program o k b ++ y → SaySame a b × (x ≡ y)
one_line quasts program k None a b x y named h g e = absurd h
one_line quasts program k (Some s) a b x y named h g e =
    let names = names_at program s in
    let both = length-append program.parameters (turn_names (length s.loops)) in
    let turns = length_turns (length s.loops) in
    let array = array_of program (slice_get s.accesses k) in
    let number = decimal (suc s.number) in
    let head = codes "S" ++ (number ++ (codes " read " ++ (decimal k ++ (codes " " ++ (array ++ codes ": "))))) in
    let parts = λ (c : ReadSource) (z : Text). line_parts (codes "S") number (codes " read ") (decimal k) (codes " ")
    array (codes ": ") (source_text names c) (codes "\n") z in
    one_source_text quasts (model_of program) names (length program.parameters + length s.loops) a b x y
    (named (length s.loops)) (omega (arith, both, turns)) h g
    (append_cancel_left head (source_text names a ++ 10 ∷ x) (source_text names b ++ 10 ∷ y)
    (sym (parts a x) ∙ (e ∙ parts b y)))

one_text : (quasts : QuastLaws) (program : Program) (reads : List (ℕ × ℕ)) (a b : List ReadSource)
    → AreNamesOf program → AreTold (model_of program) reads a → AreTold (model_of program) reads b
    → lines_of program reads a ≡ lines_of program reads b → AllSaySame a b
one_text quasts program [] [] [] named h g e = tt
one_text quasts program [] [] (b ∷ bs) named h g e = absurd g
one_text quasts program [] (a ∷ others) bs named h g e = absurd h
one_text quasts program (r ∷ rs) [] bs named h g e = absurd h
one_text quasts program (r ∷ rs) (a ∷ others) [] named h g e = absurd g
one_text quasts program (r ∷ rs) (a ∷ others) (b ∷ bs) named h g e =
    let t = one_line quasts program r.1 (slice_get (model_of program).statements r.0) a b (lines_of program rs others)
    (lines_of program rs bs) named h.0 g.0 e in
    (t.0, one_text quasts program rs others bs named h.1 g.1 t.1)

-- sources of a kernel's reads with one text say the same
pub one_deps_text : (quasts : QuastLaws) (program : Program) (a b : List ReadSource) → HasDistinctNames program
    → All IsName (header_names program) → AreTold (model_of program) (reads_of (model_of program)) a
    → AreTold (model_of program) (reads_of (model_of program)) b
    → deps_text program a ≡ deps_text program b → AllSaySame a b
one_deps_text quasts program a b distinct words h g e =
    one_text quasts program (reads_of (model_of program)) a b (λ d. outer_names program d distinct words) h g e
