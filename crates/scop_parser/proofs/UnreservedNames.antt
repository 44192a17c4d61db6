-- No name that is declared without a fault begins with `pp_`, nor a kernel's own, and a loop takes none that does.
use Rattle.scop_syntax.proofs.Common.{◌≡◌, ◌∙◌, sym, ap, subst, refl, ℕ, zero, suc, ◌+◌, Bool, true, false, ◌||◌}
use Rattle.scop_syntax.proofs.Common.{if◌then◌else◌, List, [], ◌∷◌, length, inl, inr, ◌⊎◌, All, Option, Some, None}
use Rattle.scop_syntax.proofs.Common.{false≢true, All-append, All-cons, All-nil, All-push, bytes_eq-Decides}
use Rattle.scop_syntax.proofs.Common.{Declaration}
use Rattle.std.proofs.Common.{bytes_eq}
use Rattle.scop_grammar.specs.Kernel.{Parameter, number, array, Kernel, parameter_elements}
use Rattle.scop_lexer.specs.Bytes.{Text}
use Rattle.scop_roles.specs.declared.kinds.Kind.TheVariants as kind
use Rattle.scop_roles.specs.declared.formula.Meaning.{Meaning}
use Rattle.scop_roles.specs.declared.formula.Meaning.TheVariants as meaning
use Rattle.scop_roles.specs.Faults.{only_where}
use Rattle.scop_units.specs.Words.{Words}
use Rattle.scop_units.specs.Scopes.{Scope, Ranked, no_scope, with_iterator, number_of, variable_or, array_in}
use Rattle.scop_units.specs.Scopes.{meaning_in, is_known, is_reserved, redeclared, taken, iterator_fault}
use Rattle.scop_units.specs.Units.{kernel_name_faults, name_faults}
use Rattle.scop_units.specs.Judging.{width, parameter_faults, behind_parameter, parameters_faults, behind_parameters}
use Rattle.scop_units.specs.Judging.{names_faults, behind_names, names_end, declared_faults, behind_declared, faults_of}
use Rattle.scop_units.specs.Judging.{items_faults, others_at, declared_at, items_at, first_scope, header_scope}
use Rattle.scop_units.specs.Judging.{body_scope}
use Rattle.scop_units.specs.Programs.{array_in as its_array, arrays_in, arrays_of}
use Rattle.scop_units.proofs.FaultlessUnits.{parts_none, told_none, both_false, where_false}
use Rattle.scop_parser.specs.Names.{IsUnreserved}
use Rattle.scop_parser.specs.steps.Iterators.{IsUnreservedScope}

-- names that are declared
unreserved : (w : Text) → is_reserved w ≡ false → IsUnreserved w
unreserved w h rest e = false≢true (sym h ∙ ap is_reserved e)

redeclared_none : (s : Scope) (w : Text) → redeclared s w ≡ None → IsUnreserved w
redeclared_none s w e =
    unreserved w (both_false (is_known (meaning_in s w)) (is_reserved w)
    (where_false (is_known (meaning_in s w) || is_reserved w) kind.Redeclared e)).1

name_none : (words : Words) (s : Scope) (at : ℕ) → name_faults words s at ≡ [] → IsUnreserved (words.spelling at)
name_none words s at e =
    redeclared_none s (words.spelling at) (told_none at (redeclared s (words.spelling at)) e)

-- parameters
parameter_unreserved : (words : Words) (s : Scope) (at : ℕ) (p : Parameter) → IsUnreservedScope s
    → parameter_faults words s at p ≡ [] → IsUnreservedScope (behind_parameter words s at p)
parameter_unreserved words s at number h e =
    let named = name_none words s (at + 1) (parts_none (name_faults words s (at + 1)) _ e).0 in
    record {
      parameters = All-push IsUnreserved s.parameters (words.spelling (at + 1)) h.parameters named;
      declared = h.declared;
    }
parameter_unreserved words s at (array w x xs) h e = record { parameters = h.parameters; declared = h.declared }

parameters_unreserved : (words : Words) (s : Scope) (at : ℕ) (ps : List Parameter) → IsUnreservedScope s
    → parameters_faults words s at ps ≡ [] → IsUnreservedScope (behind_parameters words s at ps)
parameters_unreserved words s at [] h e = h
parameters_unreserved words s at (p ∷ ps) h e =
    let both = parts_none (parameter_faults words s (at + 1) p) _ e in
    parameters_unreserved words (behind_parameter words s (at + 1) p) (at + 1 + width (parameter_elements p)) ps
    (parameter_unreserved words s (at + 1) p h both.0) both.1

-- arrays
abbrev HasUnreservedName : Declaration → Type 0
HasUnreservedName d = IsUnreserved d.name

array_unreserved : (words : Words) (s : Scope) (at : ℕ) (p : Parameter) → parameter_faults words s at p ≡ []
    → All HasUnreservedName (its_array words s at p)
array_unreserved words s at number e = All-nil HasUnreservedName
array_unreserved words s at (array w x xs) e =
    All-cons HasUnreservedName _ []
    (name_none words s (at + 1) (parts_none (name_faults words s (at + 1)) _ e).0) (All-nil HasUnreservedName)

arrays_unreserved : (words : Words) (s : Scope) (at : ℕ) (ps : List Parameter) → parameters_faults words s at ps ≡ []
    → All HasUnreservedName (arrays_in words s at ps)
arrays_unreserved words s at [] e = All-nil HasUnreservedName
arrays_unreserved words s at (p ∷ ps) e =
    let both = parts_none (parameter_faults words s (at + 1) p) _ e in
    All-append HasUnreservedName _ _ (array_unreserved words s (at + 1) p both.0)
    (arrays_unreserved words (behind_parameter words s (at + 1) p) (at + 1 + width (parameter_elements p)) ps both.1)

-- iterators that are declared at the start
one_of : (a b : Bool) → (a || b) ≡ true → (a ≡ true) ⊎ (b ≡ true)
one_of true b e = inl refl
one_of false b e = inr e

iterator_unreserved : (s : Scope) (w : Text) → IsUnreservedScope s → IsUnreserved w
    → IsUnreservedScope (with_iterator s w)
iterator_unreserved s w h named =
    record {
      parameters = h.parameters;
      declared = λ v m. elim (one_of (bytes_eq w v) (s.declared v) m) [
        | inl same ↦ subst IsUnreserved ((bytes_eq-Decides w v).0 same) named
        | inr old ↦ h.declared v old
      ];
    }

names_unreserved : (words : Words) (s : Scope) (at k : ℕ) → IsUnreservedScope s → names_faults words s at k ≡ []
    → IsUnreservedScope (behind_names words s at k)
names_unreserved words s at zero h e = h
names_unreserved words s at (suc k) h e =
    let both = parts_none (name_faults words s (at + 1)) _ e in
    let w = words.spelling (at + 1) in
    names_unreserved words (with_iterator s w) (at + 1 + 1) k
    (iterator_unreserved s w h (name_none words s (at + 1) both.0)) both.1

declared_unreserved : (words : Words) (s : Scope) (at : ℕ) (ks : List ℕ) → IsUnreservedScope s
    → declared_faults words s at ks ≡ [] → IsUnreservedScope (behind_declared words s at ks)
declared_unreserved words s at [] h e = h
declared_unreserved words s at (k ∷ ks) h e =
    let w = words.spelling (at + 1) in
    let t = with_iterator s w in
    let first = parts_none (name_faults words s (at + 1)) _ e in
    let both = parts_none (names_faults words t (at + 1 + 1) k) _ first.1 in
    let inner = names_unreserved words t (at + 1 + 1) k
    (iterator_unreserved s w h (name_none words s (at + 1) first.0)) both.0 in
    declared_unreserved words (behind_names words t (at + 1 + 1) k) (names_end (at + 1 + 1) k + 1) ks inner both.1

-- the names in scope behind the header, those behind the declarations, and items without a fault
pub kernel_parts : (words : Words) (k : Kernel) → faults_of words k ≡ []
    → IsUnreservedScope (header_scope words k) × IsUnreservedScope (body_scope words k)
    × (items_faults words (body_scope words k) 0 0 (items_at k) k.items ≡ [])
kernel_parts words k e =
    let start = parts_none (kernel_name_faults words 1) _ e in
    let one = parts_none (parameter_faults words no_scope 3 k.first) _ start.1 in
    let rest = parts_none (parameters_faults words (first_scope words k) (others_at k) k.others) _ one.1 in
    let inner = parts_none (declared_faults words (header_scope words k) (declared_at k) k.declared) _ rest.1 in
    let nothing : IsUnreservedScope no_scope =
    record { parameters = All-nil IsUnreserved; declared = λ w m. absurd (cc) } in
    let first = parameter_unreserved words no_scope 3 k.first nothing one.0 in
    let header = parameters_unreserved words (first_scope words k) (others_at k) k.others first rest.0 in
    (header, declared_unreserved words (header_scope words k) (declared_at k) k.declared header inner.0, inner.1)

-- the name of a kernel without faults, and those of its arrays
pub kernel_names : (words : Words) (k : Kernel) → faults_of words k ≡ []
    → IsUnreserved (words.spelling 1) × All (λ (d : Declaration). IsUnreserved d.name) (arrays_of words k)
kernel_names words k e =
    let start = parts_none (kernel_name_faults words 1) _ e in
    let one = parts_none (parameter_faults words no_scope 3 k.first) _ start.1 in
    let rest = parts_none (parameters_faults words (first_scope words k) (others_at k) k.others) _ one.1 in
    let own = told_none 1 (only_where (is_reserved (words.spelling 1)) kind.Redeclared) start.0 in (
      unreserved (words.spelling 1) (where_false (is_reserved (words.spelling 1)) kind.Redeclared own),
      All-append HasUnreservedName _ _ (array_unreserved words no_scope 3 k.first one.0)
          (arrays_unreserved words (first_scope words k) (others_at k) k.others rest.0),
    )

-- a name that a loop takes without declaring it is one that is declared
taken_array : (k : ℕ) (w : Text) (xs : List Ranked) → taken (array_in k w xs) ≡ None → ⊥
taken_array k w [] e = absurd (cc)
taken_array k w (a ∷ xs) e = by_test (bytes_eq a.name w) (array_in (k + 1) w xs) (taken_array (k + 1) w xs) e
  where
    by_test : (b : Bool) (m : Meaning) → (taken m ≡ None → ⊥)
        → taken (if b then meaning.Array k a.rank a.narrow else m) ≡ None → ⊥
    by_test true m h f = absurd (cc)
    by_test false m h f = h f

taken_variable : (n : ℕ) (o : Option ℕ) (m : Meaning) → (taken m ≡ None → ⊥) → taken (variable_or n o m) ≡ None → ⊥
taken_variable n (Some k) m h e = absurd (cc)
taken_variable n None m h e = h e

taken_declared : (n : ℕ) (o : Option ℕ) (b : Bool) (m : Meaning) → (taken m ≡ None → ⊥)
    → taken (variable_or n o (if b then meaning.Closed else m)) ≡ None → b ≡ true
taken_declared n (Some k) b m h e = absurd (cc)
taken_declared n None true m h e = refl
taken_declared n None false m h e = absurd (h e)

-- the iterator of a loop whose name has no fault
pub iterator_none : (new : Bool) (s : Scope) (w : Text) → IsUnreservedScope s → iterator_fault new s w ≡ None
    → IsUnreserved w
iterator_none true s w h e = redeclared_none s w e
iterator_none false s w h e =
    let arrays = array_in 0 w s.arrays in
    let outside = variable_or 0 (number_of w s.parameters) arrays in
    let never = taken_variable 0 (number_of w s.parameters) arrays (taken_array 0 w s.arrays) in
    h.declared w (taken_declared (length s.parameters) (number_of w s.open_loops) (s.declared w) outside never e)
