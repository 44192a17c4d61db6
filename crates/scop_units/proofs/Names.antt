-- Names of a kernel without faults are distinct.
use Rattle.scop_syntax.proofs.Common.{◌≡◌, ℕ, ◌+◌, Bool, true, false, if◌then◌else◌, List, [], ◌∷◌, ◌++◌, length, map}
use Rattle.scop_syntax.proofs.Common.{refl, sym, ap, subst, ◌∙◌, append_assoc, append-nil, Option, Some, None}
use Rattle.scop_syntax.proofs.Common.{map-append, In, Tree, Declaration, trees_of}
use Rattle.std.proofs.Common.{bytes_eq}
use Rattle.scop_expressions.specs.Tree as expression
use Rattle.scop_grammar.specs.Kernel.{Step, branch, loop, Item, block, empty, assign, headed, Items, none, more}
use Rattle.scop_grammar.specs.Kernel.{Parameter, number, array, Kernel, item_elements, head_elements}
use Rattle.scop_grammar.specs.Kernel.{parameter_elements}
use Rattle.scop_lexer.specs.Bytes.{Text}
use Rattle.scop_roles.specs.declared.formula.Meaning.{Meaning}
use Rattle.scop_roles.specs.declared.formula.Meaning.TheVariants as meaning
use Rattle.scop_roles.specs.Faults.{told, judged}
use Rattle.scop_roles.specs.Forms.{is_narrow_width}
use Rattle.scop_units.specs.Words.{Words}
use Rattle.scop_units.specs.Scopes.{Scope, Ranked, no_scope, number_of, variable_or, array_in, meaning_in}
use Rattle.scop_units.specs.Scopes.{taken, iterator_fault}
use Rattle.scop_units.specs.Loops.{part_faults}
use Rattle.scop_units.specs.Units.{declared_over, kernel_name_faults}
use Rattle.scop_units.specs.Judging.{width, iterator_at, inside, loop_in, head_faults, compared, statements_in}
use Rattle.scop_units.specs.Judging.{item_faults, items_faults, parameter_faults, behind_parameter, parameters_faults}
use Rattle.scop_units.specs.Judging.{behind_parameters, declared_faults, others_at, declared_at, items_at, first_scope}
use Rattle.scop_units.specs.Judging.{header_scope, body_scope, faults_of}
use Rattle.scop_units.specs.Programs as programs
use Rattle.scop_units.specs.Programs.{headed_by, wrapped, item_trees, all_trees, arrays_in, arrays_of, program_spelled}
use Rattle.scop_units.specs.Names.{AreDistinct, TakeFresh, header_names, HasDistinctNames}
use Rattle.scop_units.proofs.FaultlessUnits.{parts_none, judged_none, told_none}
use Rattle.scop_units.proofs.FaultlessKernels.{changes_nothing}
use Rattle.scop_units.proofs.FreshNames.{array_names, declared_keep, distinct_append, none_in, number_none}
use Rattle.scop_units.proofs.FreshNames.{parameter_keeps, parameters_keep, redeclared_fresh, IsDistinct}

-- the names that a loop may not take
abbrev pub taken_names : Scope → List Text
taken_names s = (s.parameters ++ array_names s.arrays) ++ s.open_loops

fresh_name : (s : Scope) (w : Text) → (In w s.parameters → ⊥) → (In w (array_names s.arrays) → ⊥)
    → (In w s.open_loops → ⊥) → In w (taken_names s) → ⊥
fresh_name s w a b c =
    none_in w (s.parameters ++ array_names s.arrays) s.open_loops
    (none_in w s.parameters (array_names s.arrays) a b) c

-- a declared name that is not open
not_closed_array : (k : ℕ) (w : Text) (xs : List Ranked) → array_in k w xs ≡ meaning.Closed → ⊥
not_closed_array k w [] e = absurd (cc)
not_closed_array k w (a ∷ xs) e =
    by_test (bytes_eq a.name w) k a.rank a.narrow (array_in (k + 1) w xs) (not_closed_array (k + 1) w xs) e
  where
    by_test : (b : Bool) (j r : ℕ) (narrow : Bool) (m : Meaning) → (m ≡ meaning.Closed → ⊥)
        → (if b then meaning.Array j r narrow else m) ≡ meaning.Closed → ⊥
    by_test true j r narrow m h f = absurd (cc)
    by_test false j r narrow m h f = h f

not_closed_variable : (n : ℕ) (o : Option ℕ) (m : Meaning) → (m ≡ meaning.Closed → ⊥)
    → variable_or n o m ≡ meaning.Closed → ⊥
not_closed_variable n (Some k) m h e = absurd (cc)
not_closed_variable n None m h e = h e

taken_closed : (m : Meaning) → taken m ≡ None → m ≡ meaning.Closed
taken_closed meaning.Closed e = refl
taken_closed meaning.Unknown e = absurd (cc)
taken_closed (meaning.Variable k) e = absurd (cc)
taken_closed (meaning.Array k r narrow) e = absurd (cc)

closed_parts : (n : ℕ) (o : Option ℕ) (b : Bool) (m : Meaning) → (m ≡ meaning.Closed → ⊥)
    → variable_or n o (if b then meaning.Closed else m) ≡ meaning.Closed → (o ≡ None) × (b ≡ true)
closed_parts n (Some k) b m h e = absurd (cc)
closed_parts n None true m h e = (refl, refl)
closed_parts n None false m h e = absurd (h e)

iterator_fresh : (new : Bool) (s : Scope) (w : Text) → IsDistinct s → iterator_fault new s w ≡ None
    → In w (taken_names s) → ⊥
iterator_fresh true s w d e =
    let fresh = redeclared_fresh s w e in fresh_name s w fresh.parameters fresh.arrays fresh.loops
iterator_fresh false s w d e =
    let arrays = array_in 0 w s.arrays in
    let parts = closed_parts (length s.parameters) (number_of w s.open_loops) (s.declared w)
    (variable_or 0 (number_of w s.parameters) arrays)
    (not_closed_variable 0 (number_of w s.parameters) arrays (not_closed_array 0 w s.arrays))
    (taken_closed (meaning_in s w) e) in
    let outside = d.declared w parts.1 in
    fresh_name s w outside.0 outside.1 (number_none 0 w s.open_loops parts.0)

-- trees

abbrev Fresh : List Text → List Tree → Type 0
Fresh names ts = TakeFresh names (trees_of ts)

trees_append : (names : List Text) (ts us : List Tree) → Fresh names ts → Fresh names us → Fresh names (ts ++ us)
trees_append names [] us h k = k
trees_append names (t ∷ ts) us h k = (h.0, trees_append names ts us h.1 k)

branch_fresh : (words : Words) (s : Scope) (at : ℕ) (x : expression.Tree) (names : List Text) (ts : List Tree)
    → Fresh names ts → Fresh names (wrapped (headed_by words s at (branch x)) ts)
branch_fresh words s at x names [] h = tt
branch_fresh words s at x names (t ∷ ts) h = (h, tt)

loop_fresh : (words : Words) (s : Scope) (at : ℕ) (new : Bool) (a x : expression.Tree) (st : Step) (names : List Text)
    (ts : List Tree) → (In (words.spelling (iterator_at new at)) names → ⊥)
    → Fresh (names ++ words.spelling (iterator_at new at) ∷ []) ts
    → Fresh names (wrapped (headed_by words s at (loop new a x st)) ts)
loop_fresh words s at new a x st names [] one h = tt
loop_fresh words s at new a x st names (t ∷ ts) one h = ((one, h), tt)

inside_distinct : (words : Words) (s : Scope) (new : Bool) (at : ℕ) → IsDistinct s → IsDistinct (inside words s new at)
inside_distinct words s new at d =
    record { parameters = d.parameters; arrays = d.arrays; apart = d.apart; declared = d.declared }

mutual
  item_fresh : (words : Words) (s : Scope) (comparisons before at : ℕ) (i : Item) → IsDistinct s
      → item_faults words s comparisons before at i ≡ [] → Fresh (taken_names s) (item_trees words s at i)
  item_fresh words s comparisons before at (block is) d e = items_fresh words s comparisons before (at + 1) is d e
  item_fresh words s comparisons before at empty d e = tt
  item_fresh words s comparisons before at (assign a p x) d e = (tt, tt)
  item_fresh words s comparisons before at (headed (branch x) i) d e =
      let both = parts_none (head_faults words s at (branch x)) _ e in
      let place = at + width (head_elements (branch x)) in
      branch_fresh words s at x (taken_names s) (item_trees words s place i)
      (item_fresh words s (comparisons + compared words s at (branch x)) before place i d both.1)
  item_fresh words s comparisons before at (headed (loop new a x st) i) d e =
      let both = parts_none (head_faults words s at (loop new a x st)) _ e in
      let place = at + width (head_elements (loop new a x st)) in
      let w = words.spelling (iterator_at new at) in
      let h = loop_in words s at new a x st in
      let judged_parts = parts_none (judged (part_faults s h) _) _ both.0 in
      let parts = judged_none (part_faults s h) _ judged_parts.0 in
      let told_parts = parts_none (told h.name_at (iterator_fault new s w)) _ parts.0 in
      let fresh = iterator_fresh new s w d (told_none h.name_at (iterator_fault new s w) told_parts.0) in
      let ts = item_trees words (inside words s new at) place i in
      let more_names = sym (append_assoc (s.parameters ++ array_names s.arrays) s.open_loops (w ∷ [])) in
      loop_fresh words s at new a x st (taken_names s) ts fresh
      (subst (λ (names : List Text). Fresh names ts) more_names
      (item_fresh words (inside words s new at) (comparisons + 0) before place i
      (inside_distinct words s new at d) both.1))

  items_fresh : (words : Words) (s : Scope) (comparisons before at : ℕ) (is : Items) → IsDistinct s
      → items_faults words s comparisons before at is ≡ [] → Fresh (taken_names s) (all_trees words s at is)
  items_fresh words s comparisons before at none d e = tt
  items_fresh words s comparisons before at (more i is) d e =
      let both = parts_none (item_faults words s comparisons before at i) _ e in
      let place = at + width (item_elements i) in
      trees_append (taken_names s) (item_trees words s at i) (all_trees words s place is)
      (item_fresh words s comparisons before at i d both.0)
      (items_fresh words s comparisons (before + statements_in i) place is d both.1)

-- the arrays of a scope are those of the program

abbrev named : Declaration → Text
named d = d.name

parameter_names : (words : Words) (s : Scope) (at : ℕ) (p : Parameter)
    → array_names (behind_parameter words s at p).arrays
    ≡ array_names s.arrays ++ map named (programs.array_in words s at p)
parameter_names words s at number = sym (append-nil (array_names s.arrays))
parameter_names words s at (array w x xs) =
    map-append (λ (a : Ranked). a.name) s.arrays
    (record { name = words.spelling (at + 1); rank = length (x ∷ xs); narrow = is_narrow_width w } ∷ [])

parameters_names : (words : Words) (s : Scope) (at : ℕ) (ps : List Parameter)
    → array_names (behind_parameters words s at ps).arrays
    ≡ array_names s.arrays ++ map named (arrays_in words s at ps)
parameters_names words s at [] = sym (append-nil (array_names s.arrays))
parameters_names words s at (p ∷ ps) =
    let t = behind_parameter words s (at + 1) p in
    let place = at + 1 + width (parameter_elements p) in
    let ds = programs.array_in words s (at + 1) p in
    let es = arrays_in words t place ps in
    parameters_names words t place ps
    ∙ (ap (λ (ns : List Text). ns ++ map named es) (parameter_names words s (at + 1) p)
    ∙ (append_assoc (array_names s.arrays) (map named ds) (map named es)
    ∙ ap (λ (ns : List Text). array_names s.arrays ++ ns) (sym (map-append named ds es))))

over_names : (n : ℕ) (ds : List Declaration) → map named (map (declared_over n) ds) ≡ map named ds
over_names n [] = refl
over_names n (d ∷ ds) = ap (λ (ns : List Text). d.name ∷ ns) (over_names n ds)

parameter_loops : (words : Words) (s : Scope) (at : ℕ) (p : Parameter)
    → (behind_parameter words s at p).open_loops ≡ s.open_loops
parameter_loops words s at number = refl
parameter_loops words s at (array w x xs) = refl

parameters_loops : (words : Words) (s : Scope) (at : ℕ) (ps : List Parameter)
    → (behind_parameters words s at ps).open_loops ≡ s.open_loops
parameters_loops words s at [] = refl
parameters_loops words s at (p ∷ ps) =
    parameters_loops words (behind_parameter words s (at + 1) p) (at + 1 + width (parameter_elements p)) ps
    ∙ parameter_loops words s (at + 1) p

-- the program of a kernel without faults has distinct names
pub names_stand : (words : Words) (k : Kernel) → faults_of words k ≡ [] → HasDistinctNames (program_spelled words k)
names_stand words k e =
    let s = first_scope words k in
    let header = header_scope words k in
    let body = body_scope words k in
    let ds = arrays_of words k in
    let n = length header.parameters in
    let start = parts_none (kernel_name_faults words 1) _ e in
    let one = parts_none (parameter_faults words no_scope 3 k.first) _ start.1 in
    let rest = parts_none (parameters_faults words s (others_at k) k.others) _ one.1 in
    let inner = parts_none (declared_faults words header (declared_at k) k.declared) _ rest.1 in
    let nothing : IsDistinct no_scope =
    record { parameters = tt; arrays = tt; apart = λ w m a. m; declared = λ w m. absurd (cc) } in
    let a = parameter_keeps words no_scope 3 k.first nothing one.0 in
    let b = parameters_keep words s (others_at k) k.others a rest.0 in
    let c = declared_keep words header (declared_at k) k.declared b inner.0 in
    let keeps = changes_nothing words header (declared_at k) k.declared in
    let names : array_names header.arrays ≡ map named (map (declared_over n) ds) =
    parameters_names words s (others_at k) k.others
    ∙ (ap (λ (ns : List Text). ns ++ map named (arrays_in words s (others_at k) k.others))
    (parameter_names words no_scope 3 k.first)
    ∙ (sym (map-append named (programs.array_in words no_scope 3 k.first) (arrays_in words s (others_at k) k.others))
    ∙ sym (over_names n ds))) in
    let loops : body.open_loops ≡ [] =
    keeps.2 ∙ (parameters_loops words s (others_at k) k.others ∙ parameter_loops words no_scope 3 k.first) in
    let same : taken_names body ≡ header_names (program_spelled words k) =
    ap (λ (ls : List Text). (body.parameters ++ array_names body.arrays) ++ ls) loops
    ∙ (append-nil (body.parameters ++ array_names body.arrays)
    ∙ (ap (λ (ps : List Text). ps ++ array_names body.arrays) keeps.0
    ∙ (ap (λ (xs : List Ranked). header.parameters ++ array_names xs) keeps.1
    ∙ ap (λ (ns : List Text). header.parameters ++ ns) names))) in
    record {
      header = subst (λ (ns : List Text). AreDistinct (header.parameters ++ ns)) names
          (distinct_append header.parameters (array_names header.arrays) b.parameters b.arrays b.apart);
      loops = subst (λ (ns : List Text). Fresh ns (all_trees words body (items_at k) k.items)) same
          (items_fresh words body 0 0 (items_at k) k.items c inner.1);
    }
