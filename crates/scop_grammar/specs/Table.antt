-- Which sign may come where, and what stands behind it: the text between expressions, as a finite table with a
-- count of braces.
use Rattle.std.specs.Prelude.{ℕ, ◌+◌, ◌-◌, nat_eq, if◌then◌else◌, Option, Some, None}
use Rattle.scop_expressions.specs.Assign.{Assign}
use Rattle.scop_expressions.specs.Assign.TheVariants as assign
use Rattle.scop_expressions.specs.Op.TheVariants as op
use Rattle.scop_expressions.specs.Outside.TheVariants as outside
use Rattle.scop_expressions.specs.Token.{Token}
use Rattle.scop_expressions.specs.Token.TheVariants as token
use Rattle.scop_grammar.specs.declared.part.Mark.{Mark}
use Rattle.scop_grammar.specs.declared.part.Mark.TheVariants as kept
use Rattle.scop_grammar.specs.declared.table.Role.{Role}
use Rattle.scop_grammar.specs.declared.table.Role.TheVariants as role
use Rattle.scop_grammar.specs.declared.table.Level.{Level}
use Rattle.scop_grammar.specs.declared.table.Level.TheVariants as level
use Rattle.scop_grammar.specs.declared.table.Want.{Want}
use Rattle.scop_grammar.specs.declared.table.Want.TheVariants as want

-- behind the sign that begins an item or a declaration, or ends a block; b: how many braces are open besides the
-- kernel's own
abbrev pub item_next : Level → ℕ → Token → Option Want
item_next l b token.Name = Some want.Placed
item_next l b (token.Outside outside.BraceOpen) = Some (want.Item level.Block)
item_next l b (token.Outside outside.Semicolon) = Some (want.Item level.Block)
item_next l b (token.Outside outside.If) = Some want.ConditionOpen
item_next l b (token.Outside outside.For) = Some want.LoopOpen
item_next level.Declarations b (token.Outside outside.Int64) = Some want.DeclaredName
item_next level.Body b (token.Outside outside.BraceClose) = None
item_next l b (token.Outside outside.BraceClose) = Some (if nat_eq b 0 then want.Over else want.Item level.Block)
item_next l b _ = None

-- behind an assigning operator in a loop's step
abbrev pub set_next : Assign → Option Want
set_next assign.Set = Some (want.Inner role.Step)
set_next assign.Plus = Some (want.Inner role.Step)
set_next assign.Minus = Some (want.Inner role.Step)
set_next _ = None

-- behind a sign
abbrev pub next : Want → ℕ → Token → Option Want
next want.Void b (token.Outside outside.Void) = Some want.KernelName
next want.KernelName b token.Name = Some want.ParametersOpen
next want.ParametersOpen b token.Open = Some want.Parameter
next want.Parameter b (token.Outside outside.Int64) = Some want.NumberName
next want.Parameter b (token.Unsigned w) = Some (want.ArrayName w)
next want.NumberName b token.Name = Some want.AfterParameter
next (want.ArrayName w) b token.Name = Some want.ExtentOpen
next want.ExtentOpen b token.OpenIndex = Some (want.Inner role.Extent)
next want.AfterExtent b token.OpenIndex = Some (want.Inner role.Extent)
next want.AfterExtent b (token.Binary op.Comma) = Some want.Parameter
next want.AfterExtent b token.Close = Some want.BodyOpen
next want.AfterParameter b (token.Binary op.Comma) = Some want.Parameter
next want.AfterParameter b token.Close = Some want.BodyOpen
next want.BodyOpen b (token.Outside outside.BraceOpen) = Some (want.Item level.Declarations)
next want.DeclaredName b token.Name = Some want.AfterDeclared
next want.AfterDeclared b (token.Binary op.Comma) = Some want.DeclaredName
next want.AfterDeclared b (token.Outside outside.Semicolon) = Some (want.Item level.Declarations)
next (want.Item l) b t = item_next l b t
next want.ConditionOpen b token.Open = Some (want.Inner role.Condition)
next want.LoopOpen b token.Open = Some want.LoopFirst
next want.LoopFirst b (token.Outside outside.Int64) = Some want.LoopName
next want.LoopFirst b token.Name = Some want.LoopSet
next want.LoopName b token.Name = Some want.LoopSet
next want.LoopSet b (token.Outside (outside.Assign assign.Set)) = Some (want.Inner role.First)
next want.Step b token.Name = Some want.StepSign
next want.Step b (token.Outside (outside.Count _)) = Some want.StepName
next want.StepName b token.Name = Some want.StepClose
next want.StepSign b (token.Outside (outside.Count _)) = Some want.StepClose
next want.StepSign b (token.Outside (outside.Assign a)) = set_next a
next want.StepClose b token.Close = Some (want.Item level.Body)
next want.Placed b token.OpenIndex = Some (want.Inner role.Subscript)
next want.Placed b (token.Outside (outside.Assign _)) = Some (want.Inner role.Value)
next w b _ = None

-- behind the sign that ends an expression
abbrev pub behind : Role → Token → Option Want
behind role.Extent token.CloseIndex = Some want.AfterExtent
behind role.Condition token.Close = Some (want.Item level.Body)
behind role.First (token.Outside outside.Semicolon) = Some (want.Inner role.Second)
behind role.Second (token.Outside outside.Semicolon) = Some want.Step
behind role.Step token.Close = Some (want.Item level.Body)
behind role.Subscript token.CloseIndex = Some want.Placed
behind role.Value (token.Outside outside.Semicolon) = Some (want.Item level.Block)
behind r _ = None

-- what the sign that begins an item, or ends a block, is
abbrev pub item_mark : Token → Option Mark
item_mark token.Name = Some kept.Place
item_mark (token.Outside outside.BraceOpen) = Some kept.Begin
item_mark (token.Outside outside.BraceClose) = Some kept.End
item_mark (token.Outside outside.Semicolon) = Some kept.Empty
item_mark (token.Outside outside.If) = Some kept.If
item_mark (token.Outside outside.For) = Some kept.For
item_mark _ = None

-- what a sign is, if it is kept
abbrev pub mark : Want → Token → Option Mark
mark want.KernelName token.Name = Some kept.Kernel
mark want.NumberName token.Name = Some kept.Number
mark (want.ArrayName w) token.Name = Some (kept.Array w)
mark want.BodyOpen (token.Outside outside.BraceOpen) = Some kept.Begin
mark want.DeclaredName token.Name = Some kept.Declared
mark (want.Item _) t = item_mark t
mark want.LoopFirst token.Name = Some kept.Iterator
mark want.LoopName token.Name = Some kept.NewIterator
mark want.Step token.Name = Some kept.StepName
mark want.Step (token.Outside (outside.Count c)) = Some (kept.Count c)
mark want.StepName token.Name = Some kept.StepName
mark want.StepSign (token.Outside (outside.Count c)) = Some (kept.Count c)
mark want.StepSign (token.Outside (outside.Assign a)) = Some (kept.Assign a)
mark want.Placed (token.Outside (outside.Assign a)) = Some (kept.Assign a)
mark w _ = None

-- how many braces are open behind a `{`
abbrev pub opens : Want → ℕ → ℕ
opens want.BodyOpen b = b
opens _ b = b + 1

-- how many braces are open behind a sign, besides the kernel's own
abbrev pub braced : Want → Token → ℕ → ℕ
braced w (token.Outside outside.BraceOpen) b = opens w b
braced w (token.Outside outside.BraceClose) b = b - 1
braced w _ b = b

-- how many brackets an expression may open: a subscript's own is open already
abbrev pub room : Role → ℕ → ℕ
room role.Subscript d = d - 1
room _ d = d

-- how many operators an expression may have, where so many were used before it in its place
abbrev pub left : Role → ℕ → ℕ → ℕ
left role.Subscript n u = n - u
left _ n u = n

-- the operators so far that count on: those of a place
abbrev pub carried : Want → ℕ → ℕ
carried want.Placed u = u
carried (want.Inner role.Subscript) u = u
carried _ u = 0
