-- The plain data that the code's statements stand for.
use Rattle.std.specs.Prelude.{List, map}
use Rattle.scop_syntax.specs.Tree.{Statement}
use Rattle.scop_syntax.specs.View.{statement_of}
use Rattle.scop_syntax.specs.Standings.{Standing, standing}
use Rattle.scop_syntax.specs.declared.standings.Standing.{Standing as Code}

-- what a value of the code stands for
abbrev pub standing_of : Code → Standing
standing_of s = standing (map (λ h. h.now) s.heads.items) (statement_of s.body.now)

-- the statements that a row of values stands for, without their loops
abbrev pub bodies_of : List Code → List Statement
bodies_of ss = map (λ s. statement_of s.body.now) ss
