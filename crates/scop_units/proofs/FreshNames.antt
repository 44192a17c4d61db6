-- Names that are declared without a fault are fresh, so those in scope stay distinct.
use Rattle.scop_syntax.proofs.Common.{◌≡◌, ℕ, zero, suc, ◌+◌, Bool, true, false, ◌||◌, if◌then◌else◌, List, [], ◌∷◌}
use Rattle.scop_syntax.proofs.Common.{◌++◌, length, map, refl, sym, ap, subst, inl, inr, ◌⊎◌, Option, Some, None}
use Rattle.scop_syntax.proofs.Common.{map-append, bytes_eq-Decides, In}
use Rattle.std.proofs.Common.{bytes_eq}
use Rattle.scop_grammar.specs.Kernel.{Parameter, number, array, parameter_elements}
use Rattle.scop_lexer.specs.Bytes.{Text}
use Rattle.scop_roles.specs.declared.kinds.Kind.TheVariants as kind
use Rattle.scop_roles.specs.declared.formula.Meaning.{Meaning}
use Rattle.scop_roles.specs.declared.formula.Meaning.TheVariants as meaning
use Rattle.scop_roles.specs.Forms.{is_narrow_width}
use Rattle.scop_units.specs.Words.{Words}
use Rattle.scop_units.specs.Scopes.{Scope, Ranked, with_parameter, with_array, with_iterator, number_from, number_of}
use Rattle.scop_units.specs.Scopes.{variable_or, array_in, outer_meaning, meaning_in, is_known, is_reserved}
use Rattle.scop_units.specs.Scopes.{redeclared}
use Rattle.scop_units.specs.Units.{name_faults}
use Rattle.scop_units.specs.Judging.{width, parameter_faults, behind_parameter, parameters_faults, behind_parameters}
use Rattle.scop_units.specs.Judging.{names_faults, behind_names, names_end, declared_faults, behind_declared}
use Rattle.scop_units.specs.Names.{AreDistinct}
use Rattle.scop_units.proofs.FaultlessUnits.{parts_none, told_none, both_false, where_false}

-- lists

in_append : (w : Text) (xs ys : List Text) → In w (xs ++ ys) → In w xs ⊎ In w ys
in_append w [] ys m = inr m
in_append w (x ∷ xs) ys (inl e) = inl (inl e)
in_append w (x ∷ xs) ys (inr m) = elim (in_append w xs ys m) [
  | inl a ↦ inl (inr a)
  | inr b ↦ inr b
]

pub none_in : (w : Text) (xs ys : List Text) → (In w xs → ⊥) → (In w ys → ⊥) → In w (xs ++ ys) → ⊥
none_in w xs ys h k m = elim (in_append w xs ys m) [
  | inl a ↦ h a
  | inr b ↦ k b
]

pub distinct_append : (xs ys : List Text) → AreDistinct xs → AreDistinct ys
    → ((w : Text) → In w xs → In w ys → ⊥) → AreDistinct (xs ++ ys)
distinct_append [] ys h k apart = k
distinct_append (x ∷ xs) ys h k apart = (
  λ y m e. elim (in_append y xs ys m) [
    | inl a ↦ h.0 y a e
    | inr b ↦ apart x (inl refl) (subst (λ (z : Text). In z ys) (sym e) b)
  ],
  distinct_append xs ys h.1 k (λ w a b. apart w (inr a) b),
)

only_in : (v w : Text) → In v (w ∷ []) → v ≡ w
only_in v w (inl e) = e
only_in v w (inr m) = absurd m

distinct_push : (xs : List Text) (w : Text) → AreDistinct xs → (In w xs → ⊥) → AreDistinct (xs ++ w ∷ [])
distinct_push xs w h fresh =
    distinct_append xs (w ∷ []) h (λ y m. absurd m, tt)
    (λ v a b. fresh (subst (λ (z : Text). In z xs) (only_in v w b) a))

-- what is not found does not stand there

if_none : (b : Bool) (k : ℕ) (o : Option ℕ) → (if b then Some k else o) ≡ None → (b ≡ false) × (o ≡ None)
if_none true k o e = absurd (cc)
if_none false k o e = (refl, e)

not_equal : (v w : Text) → bytes_eq v w ≡ false → w ≡ v → ⊥
not_equal v w e same =
    let yes_so : bytes_eq v w ≡ true = (bytes_eq-Decides v w).1 (sym same) in
    absurd (cc)

pub number_none : (k : ℕ) (w : Text) (names : List Text) → number_from k w names ≡ None → In w names → ⊥
number_none k w [] e m = m
number_none k w (v ∷ vs) e m =
    let parts = if_none (bytes_eq v w) k (number_from (k + 1) w vs) e in
    elim m [
      | inl same ↦ not_equal v w parts.0 same
      | inr rest ↦ number_none (k + 1) w vs parts.1 rest
    ]

abbrev pub array_names : List Ranked → List Text
array_names xs = map (λ (a : Ranked). a.name) xs

unknown_if : (b : Bool) (m n : Meaning) → is_known m ≡ true → is_known (if b then m else n) ≡ false
    → (b ≡ false) × (is_known n ≡ false)
unknown_if true m n h e = absurd (cc)
unknown_if false m n h e = (refl, e)

array_none : (k : ℕ) (w : Text) (xs : List Ranked) → is_known (array_in k w xs) ≡ false → In w (array_names xs) → ⊥
array_none k w [] e m = m
array_none k w (a ∷ xs) e m =
    let parts = unknown_if (bytes_eq a.name w) (meaning.Array k a.rank a.narrow) (array_in (k + 1) w xs) refl e in
    elim m [
      | inl same ↦ not_equal a.name w parts.0 same
      | inr rest ↦ array_none (k + 1) w xs parts.1 rest
    ]

variable_none : (n : ℕ) (o : Option ℕ) (m : Meaning) → is_known (variable_or n o m) ≡ false
    → (o ≡ None) × (is_known m ≡ false)
variable_none n (Some k) m e = absurd (cc)
variable_none n None m e = (refl, e)

-- a name that is nowhere in scope
pub record IsFresh (s : Scope) (w : Text) : Type 0 where
  pub parameters : In w s.parameters → ⊥
  pub arrays : In w (array_names s.arrays) → ⊥
  pub declared : s.declared w ≡ false
  pub loops : In w s.open_loops → ⊥

unknown_fresh : (s : Scope) (w : Text) → is_known (meaning_in s w) ≡ false → IsFresh s w
unknown_fresh s w e =
    let a = variable_none (length s.parameters) (number_of w s.open_loops) (outer_meaning s w) e in
    let parameter = variable_or 0 (number_of w s.parameters) (array_in 0 w s.arrays) in
    let b = unknown_if (s.declared w) meaning.Closed parameter refl a.1 in
    let c = variable_none 0 (number_of w s.parameters) (array_in 0 w s.arrays) b.1 in
    record {
      parameters = number_none 0 w s.parameters c.0;
      arrays = array_none 0 w s.arrays c.1;
      declared = b.0;
      loops = number_none 0 w s.open_loops a.0;
    }

pub redeclared_fresh : (s : Scope) (w : Text) → redeclared s w ≡ None → IsFresh s w
redeclared_fresh s w e =
    unknown_fresh s w
    (both_false (is_known (meaning_in s w)) (is_reserved w)
    (where_false (is_known (meaning_in s w) || is_reserved w) kind.Redeclared e)).0

-- names that are declared once
pub record IsDistinct (s : Scope) : Type 0 where
  pub parameters : AreDistinct s.parameters
  pub arrays : AreDistinct (array_names s.arrays)
  pub apart : (w : Text) → In w s.parameters → In w (array_names s.arrays) → ⊥
  pub declared : (w : Text) → s.declared w ≡ true → (In w s.parameters → ⊥) × (In w (array_names s.arrays) → ⊥)

other_declared : (s : Scope) (v w : Text) → s.declared v ≡ true → s.declared w ≡ false → v ≡ w → ⊥
other_declared s v w m fresh same = let at = ap s.declared same in absurd (cc)

parameter_distinct : (s : Scope) (w : Text) → IsDistinct s → IsFresh s w → IsDistinct (with_parameter s w)
parameter_distinct s w d fresh =
    record {
      parameters = distinct_push s.parameters w d.parameters fresh.parameters;
      arrays = d.arrays;
      apart = λ v m a. elim (in_append v s.parameters (w ∷ []) m) [
        | inl old ↦ d.apart v old a
        | inr one ↦ fresh.arrays (subst (λ (z : Text). In z (array_names s.arrays)) (only_in v w one) a)
      ];
      declared = λ v m. (
        none_in v s.parameters (w ∷ []) (d.declared v m).0
            (λ one. other_declared s v w m fresh.declared (only_in v w one)),
        (d.declared v m).1,
      );
    }

array_distinct : (s : Scope) (w : Text) (r : ℕ) (narrow : Bool) → IsDistinct s → IsFresh s w
    → IsDistinct (with_array s w r narrow)
array_distinct s w r narrow d fresh =
    let names = array_names s.arrays in
    let more_names : array_names (with_array s w r narrow).arrays ≡ names ++ w ∷ [] =
    map-append (λ (a : Ranked). a.name) s.arrays (record { name = w; rank = r; narrow = narrow } ∷ []) in
    record {
      parameters = d.parameters;
      arrays = subst AreDistinct (sym more_names) (distinct_push names w d.arrays fresh.arrays);
      apart = λ v m a. none_in v names (w ∷ []) (d.apart v m)
          (λ one. fresh.parameters (subst (λ (z : Text). In z s.parameters) (only_in v w one) m))
          (subst (In v) more_names a);
      declared = λ v m. (
        (d.declared v m).0,
        λ a. none_in v names (w ∷ []) (d.declared v m).1
            (λ one. other_declared s v w m fresh.declared (only_in v w one))
            (subst (In v) more_names a),
      );
    }

one_of : (a b : Bool) → (a || b) ≡ true → (a ≡ true) ⊎ (b ≡ true)
one_of true b e = inl refl
one_of false b e = inr e

iterator_distinct : (s : Scope) (w : Text) → IsDistinct s → IsFresh s w → IsDistinct (with_iterator s w)
iterator_distinct s w d fresh =
    record {
      parameters = d.parameters;
      arrays = d.arrays;
      apart = d.apart;
      declared = λ v m. elim (one_of (bytes_eq w v) (s.declared v) m) [
        | inl one ↦
            let same = sym ((bytes_eq-Decides w v).0 one) in (
              λ a. fresh.parameters (subst (λ (z : Text). In z s.parameters) same a),
              λ a. fresh.arrays (subst (λ (z : Text). In z (array_names s.arrays)) same a),
            )
        | inr old ↦ d.declared v old
      ];
    }

name_fresh : (words : Words) (s : Scope) (at : ℕ) → name_faults words s at ≡ [] → IsFresh s (words.spelling at)
name_fresh words s at e =
    redeclared_fresh s (words.spelling at) (told_none at (redeclared s (words.spelling at)) e)

pub parameter_keeps : (words : Words) (s : Scope) (at : ℕ) (p : Parameter) → IsDistinct s
    → parameter_faults words s at p ≡ []
    → IsDistinct (behind_parameter words s at p)
parameter_keeps words s at number d e =
    parameter_distinct s (words.spelling (at + 1)) d
    (name_fresh words s (at + 1) (parts_none (name_faults words s (at + 1)) _ e).0)
parameter_keeps words s at (array w x xs) d e =
    array_distinct s (words.spelling (at + 1)) (length (x ∷ xs)) (is_narrow_width w) d
    (name_fresh words s (at + 1) (parts_none (name_faults words s (at + 1)) _ e).0)

pub parameters_keep : (words : Words) (s : Scope) (at : ℕ) (ps : List Parameter) → IsDistinct s
    → parameters_faults words s at ps ≡ [] → IsDistinct (behind_parameters words s at ps)
parameters_keep words s at [] d e = d
parameters_keep words s at (p ∷ ps) d e =
    let t = behind_parameter words s (at + 1) p in
    let place = at + 1 + width (parameter_elements p) in
    let both = parts_none (parameter_faults words s (at + 1) p) (parameters_faults words t place ps) e in
    parameters_keep words t place ps (parameter_keeps words s (at + 1) p d both.0) both.1

names_keep : (words : Words) (s : Scope) (at k : ℕ) → IsDistinct s → names_faults words s at k ≡ []
    → IsDistinct (behind_names words s at k)
names_keep words s at zero d e = d
names_keep words s at (suc k) d e =
    let t = with_iterator s (words.spelling (at + 1)) in
    let both = parts_none (name_faults words s (at + 1)) (names_faults words t (at + 1 + 1) k) e in
    names_keep words t (at + 1 + 1) k
    (iterator_distinct s (words.spelling (at + 1)) d (name_fresh words s (at + 1) both.0)) both.1

pub declared_keep : (words : Words) (s : Scope) (at : ℕ) (ks : List ℕ) → IsDistinct s
    → declared_faults words s at ks ≡ []
    → IsDistinct (behind_declared words s at ks)
declared_keep words s at [] d e = d
declared_keep words s at (k ∷ ks) d e =
    let t = with_iterator s (words.spelling (at + 1)) in
    let u = behind_names words t (at + 1 + 1) k in
    let both = parts_none (name_faults words s (at + 1)) _ e in
    let rest = parts_none (names_faults words t (at + 1 + 1) k) _ both.1 in
    declared_keep words u (names_end (at + 1 + 1) k + 1) ks
    (names_keep words t (at + 1 + 1) k
    (iterator_distinct s (words.spelling (at + 1)) d (name_fresh words s (at + 1) both.0)) rest.0)
    rest.1
