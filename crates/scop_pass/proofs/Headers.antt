-- The pass over the pieces of a kernel finds the kernel's faults and its program.
use Rattle.scop_syntax.proofs.Common.{◌≡◌, ℕ, zero, suc, ◌+◌, List, [], ◌∷◌, ◌++◌, refl, sym, ap, ◌∙◌, append_assoc}
use Rattle.scop_syntax.proofs.Common.{Declaration}
use Rattle.std.proofs.lemmas.List.{append-nil}
use Rattle.scop_expressions.specs.Tree.{Tree, size}
use Rattle.scop_expressions.specs.Width.{Width}
use Rattle.scop_grammar.specs.declared.part.Mark.{Mark}
use Rattle.scop_grammar.specs.declared.part.Mark.TheVariants as kept
use Rattle.scop_grammar.specs.Kernel.{Element, Piece, mark_at, pieces, Parameter, number, array, extents}
use Rattle.scop_grammar.specs.Kernel.{parameter_elements, other_parameters, other_names, declarations}
use Rattle.scop_roles.specs.declared.kinds.Fault.{Fault}
use Rattle.scop_roles.specs.Formula.{Formula}
use Rattle.scop_roles.specs.Forms.{is_narrow_width}
use Rattle.scop_units.specs.Words.{Words}
use Rattle.scop_units.specs.Scopes.{Scope, look}
use Rattle.scop_units.specs.Judging.{width, formula_in, extents_in, parameter_faults, behind_parameter}
use Rattle.scop_units.specs.Judging.{parameters_faults, behind_parameters, names_faults, behind_names, names_end}
use Rattle.scop_units.specs.Judging.{declared_faults, behind_declared}
use Rattle.scop_units.specs.Scopes as scopes
use Rattle.scop_units.specs.Units.{name_faults, number_faults, array_faults, array_of}
use Rattle.scop_units.specs.Programs.{array_in, arrays_in}
use Rattle.scop_units.proofs.FaultlessKernels.{extents_length}
use Rattle.scop_pass.specs.Machine.{idle, State, expects, numbered, declared, run}
use Rattle.scop_pass.specs.Machine as machine
use Rattle.scop_roles.proofs.FormulaStack.{formula-of-written}
use Rattle.scop_pass.proofs.Pieces.{pieces-append}
use Rattle.scop_pass.proofs.PieceRuns.{run-append}

-- more faults, and another scope
abbrev pub scoped : State → List Fault → Scope → State
scoped s fs z = record s { faults = s.faults ++ fs; scope = z }

pub scoped-more : (s : State) (fs gs : List Fault) (y z : Scope) → scoped (scoped s fs y) gs z ≡ scoped s (fs ++ gs) z
scoped-more s fs gs y z = ap (λ (hs : List Fault). record s { faults = hs; scope = z }) (append_assoc s.faults fs gs)

pub scoped-same : (s : State) → s ≡ scoped s [] s.scope
scoped-same s = ap (λ (hs : List Fault). record s { faults = hs }) (sym (append-nil s.faults))

-- the names of a declaration behind its first
abbrev pub with_names : Words → State → ℕ → ℕ → State
with_names words s at k = scoped s (names_faults words s.scope at k) (behind_names words s.scope at k)

pub names-run : (words : Words) (s : State) (at k : ℕ) (es : List Element)
    → run words (expects s idle) (pieces at (other_names k ++ es))
    ≡ run words (expects (with_names words s at k) idle) (pieces (names_end at k + 1) es)
names-run words s at zero es =
    ap (λ (x : State). run words (expects x idle) (pieces (at + 1) es)) (scoped-same s)
names-run words s at (suc k) es =
    let t = declared words s (at + 1) in
    let fs = names_faults words t.scope (at + 1 + 1) k in
    let z = behind_names words t.scope (at + 1 + 1) k in
    names-run words t (at + 1 + 1) k es
    ∙ ap (λ (x : State). run words (expects x idle) (pieces (names_end (at + 1 + 1) k + 1) es))
    (scoped-more s (name_faults words s.scope (at + 1)) fs t.scope z)

abbrev pub with_declared : Words → State → ℕ → List ℕ → State
with_declared words s at ks = scoped s (declared_faults words s.scope at ks) (behind_declared words s.scope at ks)

pub declarations-run : (words : Words) (s : State) (at : ℕ) (ks : List ℕ)
    → run words (expects s idle) (pieces at (declarations ks)) ≡ expects (with_declared words s at ks) idle
declarations-run words s at [] = ap (λ (x : State). expects x idle) (scoped-same s)
declarations-run words s at (k ∷ ks) =
    let t = declared words s (at + 1) in
    let u = with_names words t (at + 1 + 1) k in
    let q = names_end (at + 1 + 1) k + 1 in
    let gs = names_faults words t.scope (at + 1 + 1) k in
    let hs = declared_faults words u.scope q ks in
    let z = behind_declared words u.scope q ks in
    names-run words t (at + 1 + 1) k (declarations ks)
    ∙ (declarations-run words u q ks
    ∙ ap (λ (x : State). expects x idle)
    (scoped-more t gs hs u.scope z
    ∙ scoped-more s (name_faults words s.scope (at + 1)) (gs ++ hs) t.scope z))

-- the extents of an array
pub extents-run : (words : Words) (s : State) (w : Width) (n : ℕ) (fs : List Formula) (at : ℕ) (xs : List Tree)
    → run words (expects s (machine.extents w n fs)) (pieces at (extents xs))
    ≡ expects s (machine.extents w n (fs ++ extents_in words s.scope at xs))
extents-run words s w n fs at [] =
    ap (λ (gs : List Formula). expects s (machine.extents w n gs)) (sym (append-nil fs))
extents-run words s w n fs at (x ∷ xs) =
    let f = formula_in words s.scope (at + 1) x in
    let rest = pieces (at + 1 + size x + 1) (extents xs) in
    ap (λ (g : Formula). run words (expects s (machine.extents w n (fs ++ g ∷ []))) rest)
    (formula-of-written (look words s.scope) (at + 1) x)
    ∙ (extents-run words s w n (fs ++ f ∷ []) (at + 1 + size x + 1) xs
    ∙ ap (λ (gs : List Formula). expects s (machine.extents w n gs))
    (append_assoc fs (f ∷ []) (extents_in words s.scope (at + 1 + size x + 1) xs)))

-- a parameter whose end may not be known yet
abbrev pub half : Words → State → ℕ → Parameter → State
half words s at number = expects (numbered words s (at + 1)) idle
half words s at (array w x xs) =
    expects s (machine.extents w (at + 1) (extents_in words s.scope (at + 1 + 1) (x ∷ xs)))

pub parameter-run : (words : Words) (s : State) (at : ℕ) (p : Parameter)
    → run words (expects s idle) (pieces at (parameter_elements p)) ≡ half words s at p
parameter-run words s at number = refl
parameter-run words s at (array w x xs) = extents-run words s w (at + 1) [] (at + 1 + 1) (x ∷ xs)

abbrev pub with_arrays : State → List Fault → Scope → List Declaration → State
with_arrays s fs z ds = record s { faults = s.faults ++ fs; scope = z; arrays = s.arrays ++ ds }

pub with-more-arrays : (s : State) (fs gs : List Fault) (y z : Scope) (ds es : List Declaration)
    → with_arrays (with_arrays s fs y ds) gs z es ≡ with_arrays s (fs ++ gs) z (ds ++ es)
with-more-arrays s fs gs y z ds es =
    rw (append_assoc s.faults fs gs, append_assoc s.arrays ds es) refl

pub with-no-arrays : (s : State) (fs : List Fault) (z : Scope) → scoped s fs z ≡ with_arrays s fs z []
with-no-arrays s fs z =
    ap (λ (es : List Declaration). record s { faults = s.faults ++ fs; scope = z; arrays = es })
    (sym (append-nil s.arrays))

-- a parameter read whole
abbrev pub with_parameter : Words → State → ℕ → Parameter → State
with_parameter words s at p =
    with_arrays s (parameter_faults words s.scope at p) (behind_parameter words s.scope at p)
    (array_in words s.scope at p)

-- a state goes on at each mark as another does that wants nothing
abbrev pub Flushes : Words → State → State → Type 0
Flushes words x s = (m : Mark) (q : ℕ) (rest : List Piece)
    → run words x (mark_at m q ∷ rest) ≡ run words (expects s idle) (mark_at m q ∷ rest)

pub half-flushes : (words : Words) (s : State) (at : ℕ) (p : Parameter)
    → Flushes words (half words s at p) (with_parameter words s at p)
half-flushes words s at number m q rest =
    let t = numbered words s (at + 1) in
    ap (λ (x : State). run words (expects x idle) (mark_at m q ∷ rest))
    (with-no-arrays s (number_faults words s.scope (at + 1)) t.scope)
half-flushes words s at (array w x xs) m q rest =
    let fs = extents_in words s.scope (at + 1 + 1) (x ∷ xs) in
    let ds = array_of words s.scope (at + 1) w fs ∷ [] in
    let t = with_arrays s (array_faults words s.scope (at + 1) fs) s.scope ds in
    let in_scope : ℕ → Scope = λ n. scopes.with_array s.scope (words.spelling (at + 1)) n (is_narrow_width w) in
    ap (λ (n : ℕ). run words (record t { scope = in_scope n; pending = idle }) (mark_at m q ∷ rest))
    (extents_length words s.scope (at + 1 + 1) (x ∷ xs))

-- the first piece of a parameter is a mark
pub parameter-flushes : (words : Words) (x s : State) (at : ℕ) (p : Parameter) (rest : List Piece) → Flushes words x s
    → run words x (pieces at (parameter_elements p) ++ rest)
    ≡ run words (expects s idle) (pieces at (parameter_elements p) ++ rest)
parameter-flushes words x s at number rest flush = flush kept.Number (at + 1) rest
parameter-flushes words x s at (array w y ys) rest flush =
    flush (kept.Array w) (at + 1) (pieces (at + 1 + 1) (extents (y ∷ ys)) ++ rest)

-- the parameters behind the first
abbrev pub with_parameters : Words → State → ℕ → List Parameter → State
with_parameters words s at ps =
    with_arrays s (parameters_faults words s.scope at ps) (behind_parameters words s.scope at ps)
    (arrays_in words s.scope at ps)

pub with-nothing : (s : State) → s ≡ with_arrays s [] s.scope []
with-nothing s = scoped-same s ∙ with-no-arrays s [] s.scope

pub parameters-run : (words : Words) (x s : State) (at : ℕ) (ps : List Parameter) → Flushes words x s
    → (m : Mark) (q : ℕ) (rest : List Piece)
    → run words x (pieces at (other_parameters ps) ++ mark_at m q ∷ rest)
    ≡ run words (expects (with_parameters words s at ps) idle) (mark_at m q ∷ rest)
parameters-run words x s at [] flush m q rest =
    flush m q rest ∙ ap (λ (y : State). run words (expects y idle) (mark_at m q ∷ rest)) (with-nothing s)
parameters-run words x s at (p ∷ ps) flush m q rest =
    let es = pieces (at + 1) (parameter_elements p) in
    let place = at + 1 + width (parameter_elements p) in
    let fs = pieces place (other_parameters ps) in
    let more = mark_at m q ∷ rest in
    let t = with_parameter words s (at + 1) p in
    ap (λ (zs : List Piece). run words x (zs ++ more))
    (pieces-append (at + 1) (parameter_elements p) (other_parameters ps))
    ∙ (ap (run words x) (append_assoc es fs more)
    ∙ (parameter-flushes words x s (at + 1) p (fs ++ more) flush
    ∙ (run-append words (expects s idle) es (fs ++ more)
    ∙ (ap (λ (y : State). run words y (fs ++ more)) (parameter-run words s (at + 1) p)
    ∙ (parameters-run words (half words s (at + 1) p) t place ps (half-flushes words s (at + 1) p) m q rest
    ∙ ap (λ (y : State). run words (expects y idle) more)
    (with-more-arrays s (parameter_faults words s.scope (at + 1) p) (parameters_faults words t.scope place ps)
    t.scope (behind_parameters words t.scope place ps) (array_in words s.scope (at + 1) p)
    (arrays_in words t.scope place ps)))))))
