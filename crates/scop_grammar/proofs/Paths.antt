-- Lists of elements that lead through the table to its end.
use Rattle.std.proofs.Common.{◌≡◌, ℕ, ◌+◌, List, [], ◌∷◌, refl, Option, Some, None}
use Rattle.std.specs.Prelude.{⊤}
use Rattle.scop_expressions.specs.Tree.{operators}
use Rattle.scop_grammar.specs.declared.table.Role.{Role}
use Rattle.scop_grammar.specs.declared.table.Want.{Want}
use Rattle.scop_grammar.specs.declared.table.Want.TheVariants as want
use Rattle.scop_grammar.specs.Table.{next, behind, mark, braced, room, left, carried}
use Rattle.scop_grammar.specs.Kernel.{Element, sign, expression, Fits}

abbrev pub along : Option Want → (Want → Type 0) → Type 0
along (Some w) k = k w
along None k = ⊥

abbrev pub inside : Want → (Role → Type 0) → Type 0
inside (want.Inner r) k = k r
inside _ k = ⊥

abbrev pub IsOver : Want → Type 0
IsOver want.Over = ⊤
IsOver _ = ⊥

-- from a want, with so many braces open and so many operators used, the elements lead to the end
abbrev pub Ends : ℕ → ℕ → Want → ℕ → ℕ → List Element → Type 0
Ends d n w b u [] = IsOver w
Ends d n w b u (sign t m ∷ es) =
    along (next w b t) (λ v. (m ≡ mark w t) × Ends d n v (braced w t b) (carried v u) es)
Ends d n w b u (expression x t ∷ es) =
    inside w (λ r. Fits (room r d) (left r n u) x
    × along (behind r t) (λ v. Ends d n v b (carried v (u + operators x)) es))

pub is_over : (w : Want) → IsOver w → w ≡ want.Over
is_over want.Over o = refl
is_over _ o = absurd o
