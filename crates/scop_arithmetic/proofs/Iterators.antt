-- Inside a loop its iterator means the entry behind those outside, and no other name does.
use Rattle.scop_syntax.proofs.Common.{◌≡◌, ◌≢◌, ℕ, ◌+◌, ◌<◌, Bool, true, false, ◌||◌, ◌↔◌, List, [], ◌∷◌, length, ap}
use Rattle.scop_syntax.proofs.Common.{sym, ◌∙◌, refl, arith, Option, Some, None, if◌then◌else◌, bytes_eq-Decides}
use Rattle.std.proofs.Common.{bytes_eq}
use Rattle.scop_lexer.specs.Bytes.{Text}
use Rattle.scop_roles.specs.declared.kinds.Kind.TheVariants as kind
use Rattle.scop_roles.specs.declared.formula.Meaning.{Meaning}
use Rattle.scop_roles.specs.declared.formula.Meaning.TheVariants as meaning
use Rattle.scop_roles.specs.Faults.{only_where}
use Rattle.scop_units.specs.Scopes.{Scope, Ranked, with_loop, entries, number_from, number_of, number_or, number_inside}
use Rattle.scop_units.specs.Scopes.{variable_or, array_in, outer_meaning, meaning_in, is_known, is_reserved}
use Rattle.scop_units.specs.Scopes.{taken, iterator_fault}
use Rattle.scop_units.proofs.InnerNames.{inside_meaning}

-- a name that a loop may take is none of an open loop
taken_apart : (a : ℕ) (o : Option ℕ) (m : Meaning) → taken (variable_or a o m) ≡ None → o ≡ None
taken_apart a None m e = refl
taken_apart a (Some k) m e = absurd (cc)

fresh_apart : (a : ℕ) (o : Option ℕ) (m : Meaning) (r : Bool)
    → only_where (is_known (variable_or a o m) || r) kind.Redeclared ≡ None → o ≡ None
fresh_apart a None m r e = refl
fresh_apart a (Some k) m r e = absurd (cc)

apart : (s : Scope) (new : Bool) (u : Text) → iterator_fault new s u ≡ None → number_of u s.open_loops ≡ None
apart s true u e =
    fresh_apart (length s.parameters) (number_of u s.open_loops) (outer_meaning s u) (is_reserved u) e
apart s false u e = taken_apart (length s.parameters) (number_of u s.open_loops) (outer_meaning s u) e

-- numbers of names are below their count
numbered : (k : ℕ) (w : Text) (vs : List Text) (j : ℕ) → number_from k w vs ≡ Some j → j < k + length vs
numbered k w [] j e = absurd (cc)
numbered k w (v ∷ vs) j e = by_name (bytes_eq v w) (number_from (k + 1) w vs) (numbered (k + 1) w vs j) e
  where
    by_name : (b : Bool) (o : Option ℕ) → (o ≡ Some j → j < k + 1 + length vs) → (if b then Some k else o) ≡ Some j
        → j < k + length (v ∷ vs)
    by_name true o rest e = let same : k ≡ j = cc in omega arith
    by_name false o rest e = let r = rest e in omega arith

-- an array is no entry
array_none : (k : ℕ) (w : Text) (xs : List Ranked) (j : ℕ) → array_in k w xs ≡ meaning.Variable j → ⊥
array_none k w [] j e = absurd (cc)
array_none k w (a ∷ xs) j e = by_name (bytes_eq a.name w) (array_in (k + 1) w xs) (array_none (k + 1) w xs j) e
  where
    by_name : (b : Bool) (m : Meaning) → (m ≡ meaning.Variable j → ⊥)
        → (if b then meaning.Array k a.rank a.narrow else m) ≡ meaning.Variable j → ⊥
    by_name true m rest e = absurd (cc)
    by_name false m rest e = rest e

-- outside of loops entries are those of the parameters
outer_below : (s : Scope) (w : Text) (j : ℕ) → outer_meaning s w ≡ meaning.Variable j → j < length s.parameters
outer_below s w j e =
    by_name (s.declared w) (number_of w s.parameters) (numbered 0 w s.parameters) e
  where
    by_name : (b : Bool) (o : Option ℕ) → ((i : ℕ) → o ≡ Some i → i < 0 + length s.parameters)
        → (if b then meaning.Closed else variable_or 0 o (array_in 0 w s.arrays)) ≡ meaning.Variable j
        → j < length s.parameters
    by_name true o below e = absurd (cc)
    by_name false (Some i) below e =
        let b = below i refl in
        let same : 0 + i ≡ j = cc in
        omega arith
    by_name false None below e = absurd (array_none 0 w s.arrays j e)

pub same_text : (u w : Text) → bytes_eq u w ≡ true → w ≡ u
same_text u w e = sym ((bytes_eq-Decides u w).0 e)

pub equal_text : (u : Text) → bytes_eq u u ≡ true
equal_text u = (bytes_eq-Decides u u).1 refl

only_own : (s : Scope) (u w : Text) (o : Option ℕ) (b : Bool)
    → ((i : ℕ) → o ≡ Some i → i < 0 + length s.open_loops) → (b ≡ true → w ≡ u)
    → variable_or (length s.parameters) (number_or o (if b then Some (length s.open_loops) else None))
    (outer_meaning s w)
    ≡ meaning.Variable (entries s) → w ≡ u
only_own s u w (Some i) b below is e =
    let l = below i refl in
    let same : length s.parameters + i ≡ length s.parameters + length s.open_loops = cc in
    absurd (omega arith)
only_own s u w None true below is e = is refl
only_own s u w None false below is e = let l = outer_below s w (entries s) e in absurd (omega arith)

pub own_meaning : (s : Scope) (new : Bool) (u w : Text) → iterator_fault new s u ≡ None
    → (meaning_in (with_loop s u) w ≡ meaning.Variable (entries s)) ↔ (w ≡ u)
own_meaning s new u w h = (
  λ (e : meaning_in (with_loop s u) w ≡ meaning.Variable (entries s)).
      only_own s u w (number_of w s.open_loops) (bytes_eq u w) (numbered 0 w s.open_loops) (same_text u w)
      (sym (inside_meaning s u w) ∙ e),
  λ (e : w ≡ u). ap (λ v. meaning_in (with_loop s u) v) e ∙ (inside_meaning s u u ∙ inner),
)
  where
    inner : variable_or (length s.parameters) (number_inside u u s.open_loops) (outer_meaning s u)
        ≡ meaning.Variable (entries s)
    inner = rw (apart s new u h, equal_text u) refl

-- every other name means what it does outside

number_kept : (o : Option ℕ) → number_or o None ≡ o
number_kept None = refl
number_kept (Some k) = refl

pub kept_meaning : (s : Scope) (u w : Text) → (w ≢ u) → meaning_in (with_loop s u) w ≡ meaning_in s w
kept_meaning s u w other = inside_meaning s u w ∙ by_name (bytes_eq u w) (same_text u w)
  where
    by_name : (b : Bool) → (b ≡ true → w ≡ u)
        → variable_or (length s.parameters)
        (number_or (number_of w s.open_loops) (if b then Some (length s.open_loops) else None)) (outer_meaning s w)
        ≡ meaning_in s w
    by_name true same = absurd (other (same refl))
    by_name false same =
        ap (λ o. variable_or (length s.parameters) o (outer_meaning s w)) (number_kept (number_of w s.open_loops))

-- a name that means an entry means one of those that there are
pub entry_below : (s : Scope) (w : Text) (k : ℕ) → meaning_in s w ≡ meaning.Variable k → k < entries s
entry_below s w k e = by_number (number_of w s.open_loops) (numbered 0 w s.open_loops) e
  where
    by_number : (o : Option ℕ) → ((i : ℕ) → o ≡ Some i → i < 0 + length s.open_loops)
        → variable_or (length s.parameters) o (outer_meaning s w) ≡ meaning.Variable k → k < entries s
    by_number (Some i) below e =
        let b = below i refl in
        let same : length s.parameters + i ≡ k = cc in
        omega arith
    by_number None below e = let b = outer_below s w k e in omega arith
