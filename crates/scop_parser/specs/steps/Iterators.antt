-- What holds of the iterators of a program's loops, and of the names in scope where they are taken.
use Rattle.std.specs.Prelude.{◌≡◌, true, ℕ, ◌+◌, List, slice_get, Some, All, ⊤}
use Rattle.scop_expressions.specs.Token.TheVariants.{Name}
use Rattle.scop_grammar.specs.Kernel.{Element, spelled}
use Rattle.scop_lexer.specs.Bytes.{Text}
use Rattle.scop_lexer.specs.Words.{IsName}
use Rattle.scop_syntax.specs.Tree.{Tree, loop, guard, statement, Trees, none, more}
use Rattle.scop_units.specs.Scopes.{Scope}
use Rattle.scop_units.specs.Words.{Words}
use Rattle.scop_parser.specs.Names.{IsUnreserved}

abbrev mutual
  -- P holds of the iterator of each loop
  pub EachIs : (Text → Type 0) → Tree → Type 0
  EachIs P (loop head body) = P head.iterator × AllAre P body
  EachIs P (guard tests body) = AllAre P body
  EachIs P (statement s) = ⊤

  -- so it is in each of these trees
  pub AllAre : (Text → Type 0) → Trees → Type 0
  AllAre P none = ⊤
  AllAre P (more t ts) = EachIs P t × AllAre P ts

-- `pp_` stands in front of no parameter and of no iterator that is declared at the start
pub record IsUnreservedScope (s : Scope) : Type 0 where
  pub parameters : All IsUnreserved s.parameters
  pub declared : (name : Text) → s.declared name ≡ true → IsUnreserved name

-- elements that begin at a place: where their tokens have a name, the words spell one
abbrev pub SpellFrom : Words → ℕ → List Element → Type 0
SpellFrom words at es = (i : ℕ) → slice_get (spelled es) i ≡ Some Name → IsName (words.spelling (at + i))
