-- The loops among what stands round a statement are as many as its loops.
use Rattle.whole_numbers.proofs.Common.{◌≡◌, ap, refl, suc, List, [], ◌∷◌, length}
use Rattle.scop_syntax.specs.Statements.{Scope, loops_in, round, under}
use Rattle.scop_syntax.specs.Standings.{heads_in}

pub as_many_heads : (scopes : List Scope) → length (heads_in scopes) ≡ loops_in scopes
as_many_heads [] = refl
as_many_heads (under tests ∷ scopes) = as_many_heads scopes
as_many_heads (round head ∷ scopes) = ap suc (as_many_heads scopes)
