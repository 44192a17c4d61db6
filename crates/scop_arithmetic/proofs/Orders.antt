-- Names mean by the order of their declarations: each unit that is declared without a fault adds its own name.
use Rattle.scop_syntax.proofs.Common.{◌≡◌, ◌≢◌, ◌∙◌, ◌↔◌, ◌⊎◌, inl, inr, ap, subst, sym, refl, ℕ, zero, suc, ◌+◌, Bool}
use Rattle.scop_syntax.proofs.Common.{true, false, ◌||◌, if◌then◌else◌, List, [], ◌∷◌, ◌++◌, length, slice_get, arith}
use Rattle.scop_syntax.proofs.Common.{append_assoc, append-nil, length-append, Option, Some, None, ⊤, bytes_eq-Decides}
use Rattle.std.proofs.Common.{bytes_eq}
use Rattle.scop_grammar.specs.Kernel.{Parameter, number, array}
use Rattle.scop_lexer.specs.Bytes.{Text}
use Rattle.scop_roles.specs.declared.kinds.Kind.TheVariants as kind
use Rattle.scop_roles.specs.declared.formula.Meaning.{Meaning}
use Rattle.scop_roles.specs.declared.formula.Meaning.TheVariants as meaning
use Rattle.scop_roles.specs.Forms.{is_narrow_width}
use Rattle.scop_units.specs.Words.{Words}
use Rattle.scop_units.specs.Scopes.{Scope, Ranked, no_scope, with_parameter, with_array, with_iterator, with_loop}
use Rattle.scop_units.specs.Scopes.{entries}
use Rattle.scop_units.specs.Scopes.{number_from, number_of, variable_or, array_in, outer_meaning, meaning_in}
use Rattle.scop_units.specs.Scopes.{is_known, is_reserved, redeclared, taken, iterator_fault}
use Rattle.scop_units.specs.Units.{name_faults}
use Rattle.scop_units.specs.Judging.{parameter_faults, behind_parameter}
use Rattle.scop_units.specs.Judging.{names_faults, behind_names, names_end, declared_faults, behind_declared}
use Rattle.scop_units.proofs.FaultlessUnits.{parts_none, told_none, both_false, where_false}
use Rattle.scop_arithmetic.specs.Meaning.{NamesMean}
use Rattle.scop_arithmetic.proofs.Iterators.{own_meaning, kept_meaning, same_text, equal_text}

-- what stands in a list with one element more
last_get : {A : Type 0} (xs : List A) (x : A) → slice_get (xs ++ x ∷ []) (length xs) ≡ Some x
last_get [] x = refl
last_get (y ∷ xs) x = last_get xs x

front_get : {A : Type 0} (xs : List A) (x : A) (k : ℕ) (y : A) → slice_get xs k ≡ Some y
    → slice_get (xs ++ x ∷ []) k ≡ Some y
front_get [] x k y e = absurd (cc)
front_get (z ∷ xs) x zero y e = e
front_get (z ∷ xs) x (suc k) y e = front_get xs x k y e

which_get : {A : Type 0} (xs : List A) (x : A) (k : ℕ) (y : A) → slice_get (xs ++ x ∷ []) k ≡ Some y
    → (slice_get xs k ≡ Some y) ⊎ ((k ≡ length xs) × (x ≡ y))
which_get [] x zero y e = inr (refl, cc)
which_get [] x (suc k) y e = absurd (cc)
which_get (z ∷ xs) x zero y e = inl e
which_get (z ∷ xs) x (suc k) y e = elim (which_get xs x k y e) [
  | inl a ↦ inl a
  | inr b ↦ inr (ap suc b.0, b.1)
]

same_or_other : (u w : Text) → (w ≡ u) ⊎ (w ≢ u)
same_or_other u w =
    by_test (bytes_eq u w) (λ e. sym ((bytes_eq-Decides u w).0 e)) (λ e. (bytes_eq-Decides u w).1 (sym e))
  where
    by_test : (b : Bool) → (b ≡ true → w ≡ u) → (w ≡ u → b ≡ true) → (w ≡ u) ⊎ (w ≢ u)
    by_test true h k = inl (h refl)
    by_test false h k = inr (λ e. absurd (let t = k e in cc))

-- the elements of a list, told by their names: as which number and which element each name is seen
abbrev AreSeen : (A : Type 0) → (A → Text) → (ℕ → A → Meaning) → (Text → Meaning) → List A → Type 0
AreSeen A name tag see xs = (k : ℕ) (x : A) → (see (name x) ≡ tag k x) ↔ (slice_get xs k ≡ Some x)

-- the name u is seen otherwise than before, and no other name
abbrev SeesOthers : (Text → Meaning) → (Text → Meaning) → Text → Type 0
SeesOthers see later u = (w : Text) → w ≢ u → later w ≡ see w

-- a name that is no element stays none
seen_same : (A : Type 0) (name : A → Text) (tag : ℕ → A → Meaning) (see later : Text → Meaning) (u : Text) (xs : List A)
    → SeesOthers see later u → ((k : ℕ) (x : A) → see u ≢ tag k x) → ((k : ℕ) (x : A) → later u ≢ tag k x)
    → AreSeen A name tag see xs → AreSeen A name tag later xs
seen_same A name tag see later u xs others before after seen k x = elim (same_or_other u (name x)) [
  | inl same ↦ (
    λ (e : later (name x) ≡ tag k x). absurd (after k x (ap later (sym same) ∙ e)),
    λ (e : slice_get xs k ≡ Some x). absurd (before k x (ap see (sym same) ∙ (seen k x).1 e)),
  )
  | inr other ↦ (
    λ (e : later (name x) ≡ tag k x). (seen k x).0 (sym (others (name x) other) ∙ e),
    λ (e : slice_get xs k ≡ Some x). others (name x) other ∙ (seen k x).1 e,
  )
]

-- a name that becomes the last element
seen_more : (A : Type 0) (name : A → Text) (tag : ℕ → A → Meaning) (see later : Text → Meaning) (xs : List A) (z : A)
    → SeesOthers see later (name z) → ((k : ℕ) (x : A) → see (name z) ≢ tag k x)
    → later (name z) ≡ tag (length xs) z
    → ((k : ℕ) (x : A) → name x ≡ name z → tag k x ≡ tag (length xs) z → (k ≡ length xs) × (x ≡ z))
    → AreSeen A name tag see xs → AreSeen A name tag later (xs ++ z ∷ [])
seen_more A name tag see later xs z others before own only seen k x = elim (same_or_other (name z) (name x)) [
  | inl same ↦ (
    λ (e : later (name x) ≡ tag k x).
        let is = only k x same (sym e ∙ (ap later same ∙ own)) in
        ap (slice_get (xs ++ z ∷ [])) is.0 ∙ (last_get xs z ∙ ap Some (sym is.1)),
    λ (e : slice_get (xs ++ z ∷ []) k ≡ Some x). elim (which_get xs z k x e) [
      | inl old ↦ absurd (before k x (ap see (sym same) ∙ (seen k x).1 old))
      | inr new ↦ ap later same ∙ (own ∙ (ap (λ i. tag i z) (sym new.0) ∙ ap (tag k) new.1))
    ],
  )
  | inr other ↦ (
    λ (e : later (name x) ≡ tag k x).
        front_get xs z k x ((seen k x).0 (sym (others (name x) other) ∙ e)),
    λ (e : slice_get (xs ++ z ∷ []) k ≡ Some x). elim (which_get xs z k x e) [
      | inl old ↦ others (name x) other ∙ (seen k x).1 old
      | inr new ↦ absurd (other (ap name (sym new.1)))
    ],
  )
]

-- a free name: none, or that of a declared iterator that is not open
abbrev IsFree : Meaning → Type 0
IsFree meaning.Unknown = ⊤
IsFree meaning.Closed = ⊤
IsFree _ = ⊥

free_entry : (m : Meaning) → IsFree m → (k : ℕ) → m ≢ meaning.Variable k
free_entry meaning.Unknown f k e = absurd (cc)
free_entry meaning.Closed f k e = absurd (cc)
free_entry (meaning.Variable j) f k e = absurd f
free_entry (meaning.Array j r b) f k e = absurd f

-- what the name of an array means by its number
abbrev array_as : ℕ → Ranked → Meaning
array_as k a = meaning.Array k a.rank a.narrow

free_array : (m : Meaning) → IsFree m → (k : ℕ) (a : Ranked) → m ≢ array_as k a
free_array meaning.Unknown f k a e = absurd (cc)
free_array meaning.Closed f k a e = absurd (cc)
free_array (meaning.Variable j) f k a e = absurd f
free_array (meaning.Array j r b) f k a e = absurd f

abbrev entry_names : Scope → List Text
entry_names s = s.parameters ++ s.open_loops

-- the names of entries, and of arrays, in a scope
abbrev EntriesSeen : Scope → List Text → Type 0
EntriesSeen s xs = AreSeen Text (λ w. w) (λ k w. meaning.Variable k) (meaning_in s) xs

abbrev ArraysSeen : Scope → List Ranked → Type 0
ArraysSeen s xs = AreSeen Ranked (λ a. a.name) array_as (meaning_in s) xs

-- a free name that becomes the last entry, the last array, or that of a declared iterator
more_entry : (s t : Scope) (u : Text) → SeesOthers (meaning_in s) (meaning_in t) u → IsFree (meaning_in s u)
    → entry_names t ≡ entry_names s ++ u ∷ [] → t.arrays ≡ s.arrays
    → meaning_in t u ≡ meaning.Variable (length (entry_names s)) → NamesMean s → NamesMean t
more_entry s t u others free longer arrays own names =
    record {
      entries = subst (EntriesSeen t) (sym longer)
          (seen_more Text (λ w. w) (λ k w. meaning.Variable k) (meaning_in s) (meaning_in t) (entry_names s) u others
          (λ k x. free_entry (meaning_in s u) free k) own (λ k x same e. (cc, same)) names.entries);
      arrays = subst (ArraysSeen t) (sym arrays)
          (seen_same Ranked (λ a. a.name) array_as (meaning_in s) (meaning_in t) u s.arrays
          others (free_array (meaning_in s u) free) (λ k x e. absurd (cc)) names.arrays);
    }

more_array : (s t : Scope) (a : Ranked) → SeesOthers (meaning_in s) (meaning_in t) a.name
    → IsFree (meaning_in s a.name) → entry_names t ≡ entry_names s → t.arrays ≡ s.arrays ++ a ∷ []
    → meaning_in t a.name ≡ array_as (length s.arrays) a → NamesMean s → NamesMean t
more_array s t a others free same arrays own names =
    record {
      entries = subst (EntriesSeen t) (sym same)
          (seen_same Text (λ w. w) (λ k w. meaning.Variable k) (meaning_in s) (meaning_in t) a.name (entry_names s)
          others (λ k x. free_entry (meaning_in s a.name) free k) (λ k x e. absurd (cc)) names.entries);
      arrays = subst (ArraysSeen t) (sym arrays)
          (seen_more Ranked (λ b. b.name) array_as (meaning_in s) (meaning_in t) s.arrays a
          others (free_array (meaning_in s a.name) free) own (λ k x named e. (cc, element x named (cc) (cc)))
          names.arrays);
    }
  where
    element : (x : Ranked) → x.name ≡ a.name → x.rank ≡ a.rank → x.narrow ≡ a.narrow → x ≡ a
    element x n r b = rw (n, r, b) refl

no_more : (s t : Scope) (u : Text) → SeesOthers (meaning_in s) (meaning_in t) u → IsFree (meaning_in s u)
    → entry_names t ≡ entry_names s → t.arrays ≡ s.arrays → meaning_in t u ≡ meaning.Closed → NamesMean s → NamesMean t
no_more s t u others free same arrays own names =
    record {
      entries = subst (EntriesSeen t) (sym same)
          (seen_same Text (λ w. w) (λ k w. meaning.Variable k) (meaning_in s) (meaning_in t) u (entry_names s) others
          (λ k x. free_entry (meaning_in s u) free k) (λ k x e. absurd (cc)) names.entries);
      arrays = subst (ArraysSeen t) (sym arrays)
          (seen_same Ranked (λ a. a.name) array_as (meaning_in s) (meaning_in t) u s.arrays
          others (free_array (meaning_in s u) free) (λ k x e. absurd (cc)) names.arrays);
    }

-- look-ups in a list with one element more
own_number : (k : ℕ) (u : Text) (vs : List Text) → number_from k u vs ≡ None
    → number_from k u (vs ++ u ∷ []) ≡ Some (k + length vs)
own_number k u [] e =
    let here : k ≡ k + 0 = omega arith in
    let same = equal_text u in
    rw same (ap (λ (i : ℕ). Some i) here)
own_number k u (v ∷ vs) e =
    by_test (bytes_eq v u) (number_from (k + 1) u vs) (number_from (k + 1) u (vs ++ u ∷ [])) e (own_number (k + 1) u vs)
  where
    by_test : (b : Bool) (o p : Option ℕ) → (if b then Some k else o) ≡ None → (o ≡ None → p ≡ Some (k + 1 + length vs))
        → (if b then Some k else p) ≡ Some (k + suc (length vs))
    by_test true o p e h = absurd (cc)
    by_test false o p e h =
        let next : k + 1 + length vs ≡ k + suc (length vs) = omega arith in
        h e ∙ ap (λ (i : ℕ). Some i) next

other_number : (k : ℕ) (u w : Text) (vs : List Text) → bytes_eq u w ≡ false
    → number_from k w (vs ++ u ∷ []) ≡ number_from k w vs
other_number k u w [] e = rw e refl
other_number k u w (v ∷ vs) e =
    ap (λ (o : Option ℕ). if bytes_eq v w then Some k else o) (other_number (k + 1) u w vs e)

own_array : (k : ℕ) (a : Ranked) (xs : List Ranked) → array_in k a.name xs ≡ meaning.Unknown
    → array_in k a.name (xs ++ a ∷ []) ≡ array_as (k + length xs) a
own_array k a [] e =
    let here : k ≡ k + 0 = omega arith in
    let same = equal_text a.name in
    rw same (ap (λ (i : ℕ). array_as i a) here)
own_array k a (b ∷ xs) e =
    by_test (bytes_eq b.name a.name) (array_in (k + 1) a.name xs) (array_in (k + 1) a.name (xs ++ a ∷ [])) e
    (own_array (k + 1) a xs)
  where
    by_test : (t : Bool) (m n : Meaning) → (if t then array_as k b else m) ≡ meaning.Unknown
        → (m ≡ meaning.Unknown → n ≡ array_as (k + 1 + length xs) a)
        → (if t then array_as k b else n) ≡ array_as (k + suc (length xs)) a
    by_test true m n e h = absurd (cc)
    by_test false m n e h =
        let next : k + 1 + length xs ≡ k + suc (length xs) = omega arith in
        h e ∙ ap (λ (i : ℕ). array_as i a) next

other_array : (k : ℕ) (a : Ranked) (w : Text) (xs : List Ranked) → bytes_eq a.name w ≡ false
    → array_in k w (xs ++ a ∷ []) ≡ array_in k w xs
other_array k a w [] e = rw e refl
other_array k a w (b ∷ xs) e =
    ap (λ (m : Meaning). if bytes_eq b.name w then array_as k b else m) (other_array (k + 1) a w xs e)

told_apart : (u w : Text) → w ≢ u → bytes_eq u w ≡ false
told_apart u w other = by_test (bytes_eq u w) (same_text u w)
  where
    by_test : (b : Bool) → (b ≡ true → w ≡ u) → b ≡ false
    by_test true h = absurd (other (h refl))
    by_test false h = refl

-- outside of all loops
outer : (s : Scope) (w : Text) → s.open_loops ≡ [] → meaning_in s w ≡ outer_meaning s w
outer s w closed =
    ap (λ (vs : List Text). variable_or (length s.parameters) (number_of w vs) (outer_meaning s w)) closed

outer_parts : (b : Bool) (o : Option ℕ) (m : Meaning)
    → (if b then meaning.Closed else variable_or 0 o m) ≡ meaning.Unknown
    → (b ≡ false) × (o ≡ None) × (m ≡ meaning.Unknown)
outer_parts true o m e = absurd (cc)
outer_parts false (Some k) m e = absurd (cc)
outer_parts false None m e = (refl, refl, e)

unknown_parts : (s : Scope) (u : Text) → s.open_loops ≡ [] → meaning_in s u ≡ meaning.Unknown
    → (s.declared u ≡ false) × (number_of u s.parameters ≡ None) × (array_in 0 u s.arrays ≡ meaning.Unknown)
unknown_parts s u closed e =
    outer_parts (s.declared u) (number_of u s.parameters) (array_in 0 u s.arrays) (sym (outer s u closed) ∙ e)

free_unknown : (m : Meaning) → m ≡ meaning.Unknown → IsFree m
free_unknown m e = subst IsFree (sym e) tt

with_parameter_means : (s : Scope) (u : Text) → s.open_loops ≡ [] → meaning_in s u ≡ meaning.Unknown → NamesMean s
    → NamesMean (with_parameter s u)
with_parameter_means s u closed unknown names =
    let t = with_parameter s u in
    let parts = unknown_parts s u closed unknown in
    let longer : entry_names t ≡ entry_names s ++ u ∷ [] =
    rw closed (append-nil (s.parameters ++ u ∷ [])
    ∙ ap (λ (vs : List Text). vs ++ u ∷ []) (sym (append-nil s.parameters))) in
    let none = ap length closed in
    let both = length-append s.parameters s.open_loops in
    let long : 0 + (0 + length s.parameters) ≡ length (entry_names s) = omega (arith, none, both) in
    let own : outer_meaning t u ≡ meaning.Variable (length (entry_names s)) =
    rw (parts.0, own_number 0 u s.parameters parts.1) (ap (λ (i : ℕ). meaning.Variable i) long) in
    more_entry s t u
    (λ w other. outer t w closed
    ∙ (ap (λ (o : Option ℕ). if s.declared w then meaning.Closed else variable_or 0 o (array_in 0 w s.arrays))
    (other_number 0 u w s.parameters (told_apart u w other))
    ∙ sym (outer s w closed)))
    (free_unknown (meaning_in s u) unknown) longer refl (outer t u closed ∙ own) names

with_array_means : (s : Scope) (u : Text) (r : ℕ) (b : Bool) → s.open_loops ≡ []
    → meaning_in s u ≡ meaning.Unknown → NamesMean s → NamesMean (with_array s u r b)
with_array_means s u r b closed unknown names =
    let t = with_array s u r b in
    let a : Ranked = record { name = u; rank = r; narrow = b } in
    let parts = unknown_parts s u closed unknown in
    let first : 0 + length s.arrays ≡ length s.arrays = omega arith in
    let own : outer_meaning t u ≡ meaning.Array (length s.arrays) r b =
    rw (parts.0, parts.1) (own_array 0 a s.arrays parts.2 ∙ ap (λ (i : ℕ). meaning.Array i r b) first) in
    more_array s t a
    (λ w other. outer t w closed
    ∙ (ap (λ (m : Meaning). if s.declared w then meaning.Closed else variable_or 0 (number_of w s.parameters) m)
    (other_array 0 a w s.arrays (told_apart u w other))
    ∙ sym (outer s w closed)))
    (free_unknown (meaning_in s u) unknown) refl refl (outer t u closed ∙ own) names

with_iterator_means : (s : Scope) (u : Text) → s.open_loops ≡ [] → meaning_in s u ≡ meaning.Unknown → NamesMean s
    → NamesMean (with_iterator s u)
with_iterator_means s u closed unknown names =
    let t = with_iterator s u in
    let own : outer_meaning t u ≡ meaning.Closed = rw (equal_text u) refl in
    no_more s t u
    (λ w other. outer t w closed ∙ (kept w (told_apart u w other) ∙ sym (outer s w closed)))
    (free_unknown (meaning_in s u) unknown) refl refl (outer t u closed ∙ own) names
  where
    kept : (w : Text) → bytes_eq u w ≡ false → outer_meaning (with_iterator s u) w ≡ outer_meaning s w
    kept w e = rw e refl

-- names that are declared without a fault
not_known : (m : Meaning) → is_known m ≡ false → m ≡ meaning.Unknown
not_known meaning.Unknown e = refl
not_known _ e = absurd (cc)

fresh : (s : Scope) (w : Text) → redeclared s w ≡ None → meaning_in s w ≡ meaning.Unknown
fresh s w e =
    not_known (meaning_in s w)
    (both_false (is_known (meaning_in s w)) (is_reserved w)
    (where_false (is_known (meaning_in s w) || is_reserved w) kind.Redeclared e)).0

named_fresh : (words : Words) (s : Scope) (at : ℕ) → name_faults words s at ≡ []
    → meaning_in s (words.spelling at) ≡ meaning.Unknown
named_fresh words s at e =
    fresh s (words.spelling at) (told_none at (redeclared s (words.spelling at)) e)

-- outside of all names
pub nothing_means : NamesMean no_scope
nothing_means =
    record {
      entries = λ k w. (
        λ (e : meaning.Unknown ≡ meaning.Variable k). absurd (cc),
        λ (e : None ≡ Some w). absurd (cc),
      );
      arrays = λ k a. (
        λ (e : meaning.Unknown ≡ meaning.Array k a.rank a.narrow). absurd (cc),
        λ (e : None ≡ Some a). absurd (cc),
      );
    }

pub parameter_means : (words : Words) (s : Scope) (at : ℕ) (p : Parameter) → s.open_loops ≡ []
    → parameter_faults words s at p ≡ [] → NamesMean s → NamesMean (behind_parameter words s at p)
parameter_means words s at number closed e names =
    with_parameter_means s (words.spelling (at + 1)) closed
    (named_fresh words s (at + 1) (parts_none (name_faults words s (at + 1)) _ e).0) names
parameter_means words s at (array w x xs) closed e names =
    with_array_means s (words.spelling (at + 1)) (length (x ∷ xs)) (is_narrow_width w) closed
    (named_fresh words s (at + 1) (parts_none (name_faults words s (at + 1)) _ e).0) names

-- iterators that are declared at the start
record IsOrdered (s : Scope) : Type 0 where
  closed : s.open_loops ≡ []
  names : NamesMean s

iterator_ordered : (words : Words) (s : Scope) (at : ℕ) → name_faults words s at ≡ [] → IsOrdered s
    → IsOrdered (with_iterator s (words.spelling at))
iterator_ordered words s at e is =
    record {
      closed = is.closed;
      names = with_iterator_means s (words.spelling at) is.closed (named_fresh words s at e) is.names;
    }

names_ordered : (words : Words) (s : Scope) (at k : ℕ) → names_faults words s at k ≡ [] → IsOrdered s
    → IsOrdered (behind_names words s at k)
names_ordered words s at zero e is = is
names_ordered words s at (suc k) e is =
    let both = parts_none (name_faults words s (at + 1)) _ e in
    names_ordered words (with_iterator s (words.spelling (at + 1))) (at + 1 + 1) k both.1
    (iterator_ordered words s (at + 1) both.0 is)

declared_ordered : (words : Words) (s : Scope) (at : ℕ) (ks : List ℕ) → declared_faults words s at ks ≡ [] → IsOrdered s
    → IsOrdered (behind_declared words s at ks)
declared_ordered words s at [] e is = is
declared_ordered words s at (k ∷ ks) e is =
    let t = with_iterator s (words.spelling (at + 1)) in
    let both = parts_none (name_faults words s (at + 1)) _ e in
    let rest = parts_none (names_faults words t (at + 1 + 1) k) _ both.1 in
    declared_ordered words (behind_names words t (at + 1 + 1) k) (names_end (at + 1 + 1) k + 1) ks rest.1
    (names_ordered words t (at + 1 + 1) k rest.0 (iterator_ordered words s (at + 1) both.0 is))

pub declared_means : (words : Words) (s : Scope) (at : ℕ) (ks : List ℕ) → s.open_loops ≡ []
    → declared_faults words s at ks ≡ [] → NamesMean s → NamesMean (behind_declared words s at ks)
declared_means words s at ks closed e names =
    (declared_ordered words s at ks e (record { closed = closed; names = names })).names

-- the iterator of a loop
taken_free : (m : Meaning) → taken m ≡ None → IsFree m
taken_free meaning.Closed e = tt
taken_free meaning.Unknown e = tt
taken_free (meaning.Variable k) e = absurd (cc)
taken_free (meaning.Array k r b) e = absurd (cc)

iterator_free : (new : Bool) (s : Scope) (u : Text) → iterator_fault new s u ≡ None → IsFree (meaning_in s u)
iterator_free true s u e = free_unknown (meaning_in s u) (fresh s u e)
iterator_free false s u e = taken_free (meaning_in s u) e

pub inside_means : (s : Scope) (new : Bool) (u : Text) → iterator_fault new s u ≡ None → NamesMean s
    → NamesMean (with_loop s u)
inside_means s new u e names =
    let long : entries s ≡ length (entry_names s) = sym (length-append s.parameters s.open_loops) in
    more_entry s (with_loop s u) u (kept_meaning s u) (iterator_free new s u e)
    (sym (append_assoc s.parameters s.open_loops (u ∷ []))) refl
    ((own_meaning s new u u e).1 refl ∙ ap (λ (i : ℕ). meaning.Variable i) long) names
