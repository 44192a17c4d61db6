-- What the text of a quast tells, and the names over which it does.
use Rattle.std.specs.Prelude.{◌≡◌, ℕ, ◌+◌, pos, ◌≤ℤ◌, List, All, ⊤, Option, Some, None, slice_get}
use Rattle.scop_lexer.specs.Bytes.{Text}
use Rattle.form_text.specs.Names.{AreNames, IsFresh, IsFormOver}
use Rattle.quast_trees.specs.Source.{Source}
use Rattle.quast_trees.specs.Tree.{Tree, initial, leaf, branch, bind}
use Rattle.quast_text.specs.Text.{bound_name}

-- names that are told apart, also from what `let`s bind
pub record AreOuter (outer : List Text) : Type 0 where
  pub names : AreNames outer
  pub fresh : (j : ℕ) → IsFresh (bound_name j) outer

-- a leaf's source is the statement of its number, with the loops round it
abbrev pub IsOneOf : List (List ℕ) → Option Source → Type 0
IsOneOf loops None = ⊥
IsOneOf loops (Some s) = slice_get loops s.statement ≡ Some s.loops

-- a quast whose forms are over the n variables there, and whose leaves are instances of statements with these loops
-- round them
abbrev pub IsTellable : List (List ℕ) → ℕ → Tree → Type 0
IsTellable loops n initial = ⊤
IsTellable loops n (leaf l) = IsOneOf loops l.source × (l.variables ≡ n) × All (IsFormOver n) l.forms
IsTellable loops n (branch test first second) =
    IsFormOver n test × IsTellable loops n first × IsTellable loops n second
IsTellable loops n (bind form divisor body) =
    IsFormOver n form × (pos 1 ≤ℤ divisor) × IsTellable loops (n + 1) body
