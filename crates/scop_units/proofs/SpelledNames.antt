-- The names of a header are spelled by its tokens.
use Rattle.scop_syntax.proofs.Common.{◌≡◌, ◌∙◌, ap, subst, refl, ℕ, suc, ◌+◌, List, [], ◌∷◌, ◌++◌, length, map}
use Rattle.scop_syntax.proofs.Common.{append_assoc, arith, All, slice_get, Some, All-nil, All-cons, All-append, All-map}
use Rattle.scop_syntax.proofs.Common.{Declaration}
use Rattle.scop_expressions.specs.Token.{Token}
use Rattle.scop_expressions.specs.Token.TheVariants as token
use Rattle.scop_grammar.specs.Kernel.{Element, spelled, Parameter, number, array, Kernel, parameter_elements}
use Rattle.scop_grammar.specs.Kernel.{other_parameters, kernel_elements, begins, ends, declarations, all_elements}
use Rattle.scop_grammar.proofs.Parses.{spelled_append}
use Rattle.scop_lexer.specs.Words.{IsName}
use Rattle.scop_units.specs.Words.{Words}
use Rattle.scop_units.specs.Scopes.{Scope, no_scope}
use Rattle.scop_units.specs.Units.{declared_over}
use Rattle.scop_units.specs.Judging.{width, behind_parameter, behind_parameters, others_at, first_scope, header_scope}
use Rattle.scop_units.specs.Programs.{array_in, arrays_in, arrays_of, program_spelled}
use Rattle.scop_units.specs.Names.{SpellNames, header_names}

-- the tokens from a place on, where they have a name, stand for one
abbrev SpellFrom : Words → ℕ → List Token → Type 0
SpellFrom words at ts = (i : ℕ) → slice_get ts i ≡ Some token.Name → IsName (words.spelling (at + i))

spell_next : (words : Words) (at : ℕ) (t : Token) (ts : List Token) → SpellFrom words at (t ∷ ts)
    → SpellFrom words (at + 1) ts
spell_next words at t ts h i is =
    let same : at + suc i ≡ (at + 1) + i = omega arith in
    subst (λ n. IsName (words.spelling n)) same (h (suc i) is)

spell_behind : (words : Words) (at : ℕ) (ts us : List Token) → SpellFrom words at (ts ++ us)
    → SpellFrom words (at + length ts) us
spell_behind words at [] us h =
    let same : at ≡ at + 0 = omega arith in
    subst (λ n. SpellFrom words n us) same h
spell_behind words at (t ∷ ts) us h =
    let same : (at + 1) + length ts ≡ at + suc (length ts) = omega arith in
    subst (λ n. SpellFrom words n us) same (spell_behind words (at + 1) ts us (spell_next words at t (ts ++ us) h))

spell_elements : (words : Words) (at : ℕ) (es fs : List Element) → SpellFrom words at (spelled (es ++ fs))
    → SpellFrom words at (spelled es ++ spelled fs)
spell_elements words at es fs h = subst (SpellFrom words at) (spelled_append es fs) h

-- a parameter's name stands behind its type
parameter_spelled : (words : Words) (at : ℕ) (p : Parameter) (ts : List Token)
    → SpellFrom words at (spelled (parameter_elements p) ++ ts) → IsName (words.spelling (at + 1))
parameter_spelled words at number ts h = h 1 refl
parameter_spelled words at (array w x xs) ts h = h 1 refl

parameter_names : (words : Words) (s : Scope) (at : ℕ) (p : Parameter) → IsName (words.spelling (at + 1))
    → All IsName s.parameters → All IsName (behind_parameter words s at p).parameters
parameter_names words s at number named names =
    All-append IsName s.parameters (words.spelling (at + 1) ∷ []) names
    (All-cons IsName (words.spelling (at + 1)) [] named (All-nil IsName))
parameter_names words s at (array w x xs) named names = names

abbrev HasName : Declaration → Type 0
HasName d = IsName d.name

array_named : (words : Words) (s : Scope) (at : ℕ) (p : Parameter) → IsName (words.spelling (at + 1))
    → All HasName (array_in words s at p)
array_named words s at number named = All-nil HasName
array_named words s at (array w x xs) named = All-cons HasName _ [] named (All-nil HasName)

-- so it is for parameters behind others
abbrev AreNamed : Words → Scope → ℕ → List Parameter → Type 0
AreNamed words s at ps = All IsName (behind_parameters words s at ps).parameters × All HasName (arrays_in words s at ps)

others_named : (words : Words) (s : Scope) (at : ℕ) (ps : List Parameter) (ts : List Token)
    → SpellFrom words at (spelled (other_parameters ps) ++ ts) → All IsName s.parameters → AreNamed words s at ps
others_named words s at [] ts h names = (names, All-nil HasName)
others_named words s at (p ∷ ps) ts h names =
    let behind = spelled (other_parameters ps) in
    let parted : spelled (parameter_elements p ++ other_parameters ps) ++ ts
    ≡ spelled (parameter_elements p) ++ (behind ++ ts) =
    ap (λ us. us ++ ts) (spelled_append (parameter_elements p) (other_parameters ps))
    ∙ append_assoc (spelled (parameter_elements p)) behind ts in
    let inner = subst (SpellFrom words (at + 1)) parted (spell_next words at _ _ h) in
    let named = parameter_spelled words (at + 1) p (behind ++ ts) inner in
    let t = behind_parameter words s (at + 1) p in
    let rest = others_named words t (at + 1 + width (parameter_elements p)) ps ts
    (spell_behind words (at + 1) (spelled (parameter_elements p)) (behind ++ ts) inner)
    (parameter_names words s (at + 1) p named names) in
    (rest.0, All-append HasName _ _ (array_named words s (at + 1) p named) rest.1)

-- the names of the header are those that the tokens spell
pub header_named : (words : Words) (k : Kernel) → SpellNames words (spelled (kernel_elements k))
    → All IsName (header_names (program_spelled words k))
header_named words k spell =
    let first = parameter_elements k.first in
    let body = begins ∷ (declarations k.declared ++ (all_elements k.items ++ ends ∷ [])) in
    let header : SpellFrom words 3 (spelled (first ++ (other_parameters k.others ++ body))) = λ i is.
    let same : suc (suc (suc i)) ≡ 3 + i = omega arith in
    subst (λ n. IsName (words.spelling n)) same (spell (suc (suc (suc i))) is) in
    let one = spell_elements words 3 first (other_parameters k.others ++ body) header in
    let others = spell_elements words (others_at k) (other_parameters k.others) body
    (spell_behind words 3 (spelled first) (spelled (other_parameters k.others ++ body)) one) in
    let named = parameter_spelled words 3 k.first (spelled (other_parameters k.others ++ body)) one in
    let names = parameter_names words no_scope 3 k.first named (All-nil IsName) in
    let rest = others_named words (first_scope words k) (others_at k) k.others (spelled body) others names in
    let arrays : All HasName (arrays_of words k) =
    All-append HasName _ _ (array_named words no_scope 3 k.first named) rest.1 in
    let n = length (header_scope words k).parameters in
    All-append IsName (header_scope words k).parameters _ rest.0
    (All-map IsName (λ (d : Declaration). d.name) (map (declared_over n) (arrays_of words k))
    (All-map HasName (declared_over n) (arrays_of words k) arrays))
