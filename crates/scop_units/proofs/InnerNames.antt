-- What a name means within one loop more: a declared iterator changes nothing else.
use Rattle.scop_syntax.proofs.Common.{◌≡◌, ℕ, ◌+◌, Bool, true, false, List, [], ◌∷◌, ◌++◌, length, refl, sym, ap, ◌∙◌}
use Rattle.scop_syntax.proofs.Common.{arith, Option, Some, None, if◌then◌else◌, bytes_eq}
use Rattle.scop_lexer.specs.Bytes.{Text}
use Rattle.scop_roles.specs.declared.formula.Meaning.{Meaning}
use Rattle.scop_roles.specs.declared.formula.Meaning.TheVariants as meaning
use Rattle.scop_units.specs.Scopes.{Scope, with_loop, number_from, number_or, number_inside, variable_or, outer_meaning}
use Rattle.scop_units.specs.Scopes.{meaning_in}

by-names : (b c : Bool) (k n : ℕ) (o p : Option ℕ) → o ≡ number_or p (if c then Some n else None)
    → (if b then Some k else o) ≡ number_or (if b then Some k else p) (if c then Some n else None)
by-names true c k n o p e = refl
by-names false c k n o p e = e

number-more : (k n : ℕ) (u w : Text) (vs : List Text) → k + length vs ≡ n
    → number_from k w (vs ++ u ∷ []) ≡ number_or (number_from k w vs) (if bytes_eq u w then Some n else None)
number-more k n u w [] e =
    let same : k ≡ n = omega (arith, e) in
    ap (λ (x : ℕ). if bytes_eq u w then Some x else None) same
number-more k n u w (v ∷ vs) e =
    by-names (bytes_eq v w) (bytes_eq u w) k n (number_from (k + 1) w (vs ++ u ∷ [])) (number_from (k + 1) w vs)
    (number-more (k + 1) n u w vs (omega (arith, e)))

pub inside_meaning : (s : Scope) (u w : Text) → meaning_in (with_loop s u) w
    ≡ variable_or (length s.parameters) (number_inside u w s.open_loops) (outer_meaning s w)
inside_meaning s u w =
    ap (λ (o : Option ℕ). variable_or (length s.parameters) o (outer_meaning s w))
    (number-more 0 (length s.open_loops) u w s.open_loops (omega arith))

pub inside_some : (s : Scope) (u w : Text) (k n : ℕ) → Some k ≡ number_inside u w s.open_loops
    → n ≡ length s.parameters → meaning.Variable (n + k) ≡ meaning_in (with_loop s u) w
inside_some s u w k n e f =
    ap (λ (m : ℕ). meaning.Variable (m + k)) f
    ∙ (ap (λ (o : Option ℕ). variable_or (length s.parameters) o (outer_meaning s w)) e ∙ sym (inside_meaning s u w))

pub inside_none : (s : Scope) (u w : Text) (m : Meaning) → None ≡ number_inside u w s.open_loops
    → m ≡ outer_meaning s w → m ≡ meaning_in (with_loop s u) w
inside_none s u w m e f =
    f
    ∙ (ap (λ (o : Option ℕ). variable_or (length s.parameters) o (outer_meaning s w)) e ∙ sym (inside_meaning s u w))
