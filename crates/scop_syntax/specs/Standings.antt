-- The statements of a program, each with the loops round it, outermost first.
use Rattle.std.specs.Prelude.{List, [], ◌∷◌, map}
use Rattle.scop_syntax.specs.Tree.{Head, Statement, Program}
use Rattle.scop_syntax.specs.Statements.{Scope, round, under, Placed, statements_of}

-- a statement with the loops round it
pub record Standing : Type 0 where
  pub heads : List Head
  pub body : Statement

-- a statement within these loops
abbrev pub standing : List Head → Statement → Standing
standing heads body = record { heads = heads; body = body }

-- the loops among what stands round a statement
abbrev pub heads_in : List Scope → List Head
heads_in [] = []
heads_in (under tests ∷ scopes) = heads_in scopes
heads_in (round head ∷ scopes) = head ∷ heads_in scopes

-- the statements of a program in textual order
abbrev pub standings_of : Program → List Standing
standings_of program = map (λ (p : Placed). standing (heads_in p.scopes) p.body) (statements_of program)
