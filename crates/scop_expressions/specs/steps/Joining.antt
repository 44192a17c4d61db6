-- What the code does to a state with what waits in it.
use Rattle.std.specs.Prelude.{◌≡◌, ℕ, ◌+◌, Bool, nat_lt, if◌then◌else◌, true, false, List, [], ◌∷◌, Option}
use Rattle.std.specs.Prelude.{Some, None, Result, Ok, Err, ⊤}
use Rattle.scop_expressions.specs.declared.node.Node.{Node}
use Rattle.scop_expressions.specs.declared.node.Node.TheVariants as node
use Rattle.scop_expressions.specs.declared.node.Held.{Held}
use Rattle.scop_expressions.specs.declared.node.Held.TheVariants as held
use Rattle.scop_expressions.specs.Tree.{level}
use Rattle.scop_tokens.specs.declared.Op.{Op}
use Rattle.scop_tokens.specs.declared.Token.TheVariants as token
use Rattle.scop_expressions.specs.Machine.{State, state, Move, Pair, go, stops, reduced, joined, after_pair}

-- a list without its first element
abbrev pub rest : {A : Type 0} → List A → List A
rest [] = []
rest (x ∷ xs) = xs

-- the node of an operator that binds tighter than a level
abbrev pub tight : ℕ → Held → Option Node
tight l (held.Binary o at) = if nat_lt l (level o + 1) then Some (node.Binary o at) else None
tight l (held.Unary s at) = if nat_lt l 11 then Some (node.Unary s at) else None
tight l (held.Cast w at) = if nat_lt l 11 then Some (node.Cast w at) else None
tight l (held.Group at) = None
tight l (held.Index at) = None
tight l (held.Call at) = None

-- the code went on as the machine does, or stopped with it where what waits and what is complete is a pair
abbrev pub StepsFrom : {E : Type 0} → Result Bool E → State → State → Pair → Move → Type 0
StepsFrom (Ok true) old new p move = move ≡ go new
StepsFrom (Ok false) old new p move =
    (move ≡ stops) × (new ≡ state old.mode p.0 p.1 old.at old.brackets old.used)
StepsFrom (Err e) old new p move = ⊤

-- the code went on with a binary operator behind an operand as the machine does, or stopped with it
abbrev pub JoinsAs : {E : Type 0} → Result Bool E → State → State → Op → Type 0
JoinsAs r old new o =
    StepsFrom r old new (reduced (level o) old.held old.nodes)
    (joined old o (reduced (level o) old.held old.nodes))

-- the same with a parenthesis that closes
abbrev pub ClosesAs : {E : Type 0} → Result Bool E → State → State → Type 0
ClosesAs r old new =
    StepsFrom r old new (reduced 0 old.held old.nodes) (after_pair old token.Close (reduced 0 old.held old.nodes))

-- the same with the bracket of a subscript that closes
abbrev pub ClosesIndexAs : {E : Type 0} → Result Bool E → State → State → Type 0
ClosesIndexAs r old new =
    StepsFrom r old new (reduced 0 old.held old.nodes)
    (after_pair old token.CloseIndex (reduced 0 old.held old.nodes))
