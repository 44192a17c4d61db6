-- The names within `let`s are told apart.
use Rattle.whole_numbers.proofs.Common.{ap, sym, refl, ℕ, zero, suc, ◌<◌, List, [], ◌∷◌, ◌++◌, drop, arith, ◌≢◌}
use Rattle.scop_lexer.specs.Bytes.{Text}
use Rattle.form_text.specs.Names.{IsVariableName, IsFresh, AreNames}
use Rattle.form_text.proofs.Digits.{one_number}
use Rattle.form_text.proofs.Names.{numeral_bytes}
use Rattle.quast_text.specs.Text.{bound_name, names_within}
use Rattle.quast_text.specs.Reading.{AreOuter}

-- none of some names, and not another one
pub fresh_behind : (name y : Text) (others : List Text) → IsFresh name others → name ≢ y
    → IsFresh name (others ++ y ∷ [])
fresh_behind name y [] f apart = (apart, tt)
fresh_behind name y (other ∷ others) f apart = (f.0, fresh_behind name y others f.1 apart)

-- one name more
pub names_behind : (xs : List Text) (y : Text) → AreNames xs → IsVariableName y → IsFresh y xs → AreNames (xs ++ y ∷ [])
names_behind [] y n v f = (v, tt, tt)
names_behind (x ∷ xs) y n v f =
    (n.0, fresh_behind x y xs n.1 (λ e. f.0 (sym e)), names_behind xs y n.2 v f.1)

bound_apart : (i j : ℕ) → j < i → bound_name i ≢ bound_name j
bound_apart i j less e =
    let same = (one_number i j [] [] tt tt (ap (λ (t : Text). drop 1 t ++ []) e)).0 in omega (arith, same, less)

bound_fresh : (outer : List Text) (i k : ℕ) → IsFresh (bound_name i) outer → k < i
    → IsFresh (bound_name i) (names_within outer k)
bound_fresh outer i zero f less = f
bound_fresh outer i (suc k) f less =
    fresh_behind (bound_name i) (bound_name (suc k)) (names_within outer k)
    (bound_fresh outer i k f (omega (arith, less))) (bound_apart i (suc k) less)

-- and with them what `let`s bind
pub names_told : (outer : List Text) (k : ℕ) → AreOuter outer → AreNames (names_within outer k)
names_told outer zero o = o.names
names_told outer (suc k) o =
    names_behind (names_within outer k) (bound_name (suc k)) (names_told outer k o)
    (refl, numeral_bytes (suc k)) (bound_fresh outer (suc k) k (o.fresh (suc k)) (omega arith))
