-- The machine that reads an expression, one token a step: it holds what waits for a right operand or a closing
-- bracket, innermost first, and the nodes that are complete.
use Rattle.std.specs.Prelude.{ℕ, ◌+◌, ◌-◌, ◌&&◌, nat_lt, nat_le, Bool, if◌then◌else◌, List, [], ◌∷◌, ◌++◌, Option, Some}
use Rattle.std.specs.Prelude.{None, Result, Ok, Err}
use Rattle.scop_tokens.specs.declared.Op.{Op}
use Rattle.scop_tokens.specs.declared.Op.TheVariants as op
use Rattle.scop_expressions.specs.declared.token.Sign.{Sign}
use Rattle.scop_expressions.specs.declared.token.Sign.TheVariants as sign
use Rattle.scop_tokens.specs.declared.Token.{Token}
use Rattle.scop_tokens.specs.declared.Token.TheVariants as token
use Rattle.scop_tokens.specs.declared.Width.{Width}
use Rattle.scop_expressions.specs.declared.node.Node.{Node}
use Rattle.scop_expressions.specs.declared.node.Node.TheVariants as node
use Rattle.scop_expressions.specs.declared.node.Held.{Held}
use Rattle.scop_expressions.specs.declared.node.Held.TheVariants as held
use Rattle.scop_expressions.specs.declared.node.Last.{Last}
use Rattle.scop_expressions.specs.declared.node.Last.TheVariants as last
use Rattle.scop_expressions.specs.declared.node.Mode.{Mode}
use Rattle.scop_expressions.specs.declared.node.Mode.TheVariants as mode
use Rattle.scop_expressions.specs.Tree.{level, cost}
use Rattle.scop_expressions.specs.Grammar.{told_at}

-- the machine's state; at: the next token's place; brackets: how many are open; used: how many operators were read
pub record State : Type 0 where
  pub mode : Mode
  pub held : List Held
  pub nodes : List Node
  pub at : ℕ
  pub brackets : ℕ
  pub used : ℕ

-- the state of these parts
abbrev pub state : Mode → List Held → List Node → ℕ → ℕ → ℕ → State
state m held nodes at brackets used =
    record { mode = m; held = held; nodes = nodes; at = at; brackets = brackets; used = used }

-- the state before the first token
abbrev pub start : State
start = state mode.Want [] [] 0 0 0

-- what one token does: the machine goes on, or the token does not go on with what was read
pub data Move : Type 0 where
  go : State → Move
  stops : Move

-- the least rank of a tree that may stand behind what is held
abbrev pub demand : List Held → ℕ
demand [] = 1
demand (held.Binary o at ∷ hs) = level o + 1
demand (held.Unary s at ∷ hs) = 11
demand (held.Cast w at ∷ hs) = 11
demand (held.Group at ∷ hs) = 1
demand (held.Index at ∷ hs) = 1
demand (held.Call at ∷ hs) = 0

-- what is held and what is complete
abbrev pub Pair : Type 0
Pair = List Held × List Node

-- the operators that bind tighter than a level get what is complete as their right operand
abbrev pub reduced : ℕ → List Held → List Node → Pair
reduced l [] nodes = ([], nodes)
reduced l (held.Binary o at ∷ hs) nodes =
    if nat_lt l (level o + 1)
    then reduced l hs (nodes ++ node.Binary o at ∷ [])
    else (held.Binary o at ∷ hs, nodes)
reduced l (held.Unary s at ∷ hs) nodes =
    if nat_lt l 11
    then reduced l hs (nodes ++ node.Unary s at ∷ [])
    else (held.Unary s at ∷ hs, nodes)
reduced l (held.Cast w at ∷ hs) nodes =
    if nat_lt l 11
    then reduced l hs (nodes ++ node.Cast w at ∷ [])
    else (held.Cast w at ∷ hs, nodes)
reduced l (held.Group at ∷ hs) nodes = (held.Group at ∷ hs, nodes)
reduced l (held.Index at ∷ hs) nodes = (held.Index at ∷ hs, nodes)
reduced l (held.Call at ∷ hs) nodes = (held.Call at ∷ hs, nodes)

-- an operand that is one token
abbrev pub leaf : State → Last → Node → Move
leaf s l n = go (state (mode.Done l) s.held (s.nodes ++ n ∷ []) (s.at + 1) s.brackets s.used)

-- a bracket opens
abbrev pub opened : State → Held → Move
opened s h = go (state mode.Want (h ∷ s.held) s.nodes (s.at + 1) (s.brackets + 1) s.used)

-- a sign
abbrev pub signed : State → Sign → Move
signed s g = go (state mode.Want (held.Unary g s.at ∷ s.held) s.nodes (s.at + 1) s.brackets (s.used + 1))

-- a bracket closes, with these nodes
abbrev pub closed : State → Mode → List Held → List Node → Move
closed s m hs nodes = go (state m hs nodes (s.at + 1) (s.brackets - 1) s.used)

-- the word of a cast, right behind a parenthesis
abbrev pub cast_word : State → Width → List Held → Move
cast_word s w (held.Group at ∷ hs) =
    go (state (mode.Casting w) s.held s.nodes (s.at + 1) s.brackets (s.used + 1))
cast_word s w _ = stops

-- a call without arguments closes, right behind its parenthesis
abbrev pub bare_closed : State → List Held → Move
bare_closed s (held.Call at ∷ hs) = closed s (mode.Done last.Other) hs (s.nodes ++ node.BareCall at ∷ [])
bare_closed s _ = stops

-- a token where an operand is wanted
abbrev pub operand : State → Token → Move
operand s (token.Constant c) = leaf s last.Other (node.Constant c s.at)
operand s token.Name = leaf s last.Name (node.Name s.at)
operand s token.Open = opened s (held.Group s.at)
operand s (token.Binary op.Minus) = signed s sign.Minus
operand s token.Complement = signed s sign.Complement
operand s token.Not = signed s sign.Not
operand s (token.Unsigned w) = cast_word s w s.held
operand s token.Close = bare_closed s s.held
operand s _ = stops

-- the parenthesis behind a cast's word
abbrev pub cast_closed : State → Width → List Held → Move
cast_closed s w (held.Group at ∷ hs) = closed s mode.Want (held.Cast w at ∷ hs) s.nodes
cast_closed s w _ = stops

-- a token behind the word of a cast
abbrev pub casting : State → Width → Token → Move
casting s w token.Close = cast_closed s w s.held
casting s w _ = stops

-- a parenthesis behind a name
abbrev pub call_opened : State → Last → Move
call_opened s last.Name = opened s (held.Call s.at)
call_opened s _ = stops

-- a subscript behind a place
abbrev pub index_opened : State → Last → Move
index_opened s last.Name = opened s (held.Index s.at)
index_opened s last.Subscript = opened s (held.Index s.at)
index_opened s last.Other = stops

-- a binary operator behind what is held by looser ones
abbrev pub joined : State → Op → Pair → Move
joined s o p =
    if nat_le (demand p.0) (level o)
    then go (state mode.Want (held.Binary o s.at ∷ p.0) p.1 (s.at + 1) s.brackets (s.used + cost o))
    else stops

-- a parenthesis that closes behind an operand: that of a group, or of a call with arguments
abbrev pub closes : State → List Held → List Node → Move
closes s (held.Group at ∷ hs) nodes = closed s (mode.Done last.Other) hs nodes
closes s (held.Call at ∷ hs) nodes = closed s (mode.Done last.Other) hs (nodes ++ node.Call at ∷ [])
closes s hs nodes = stops

-- the bracket of a subscript that closes behind an operand
abbrev pub closes_index : State → List Held → List Node → Move
closes_index s (held.Index at ∷ hs) nodes = closed s (mode.Done last.Subscript) hs (nodes ++ node.Index at ∷ [])
closes_index s hs nodes = stops

-- a bracket that closes behind an operand, what waits and what is complete being this pair
abbrev pub after_pair : State → Token → Pair → Move
after_pair s token.Close p = closes s p.0 p.1
after_pair s token.CloseIndex p = closes_index s p.0 p.1
after_pair s _ p = stops

-- a token behind an operand
abbrev pub after : State → Last → Token → Move
after s l token.Open = call_opened s l
after s l token.OpenIndex = index_opened s l
after s l (token.Binary o) = joined s o (reduced (level o) s.held s.nodes)
after s l t = after_pair s t (reduced 0 s.held s.nodes)

-- one token in a mode
abbrev pub step_in : Mode → State → Token → Move
step_in mode.Want s t = operand s t
step_in (mode.Casting w) s t = casting s w t
step_in (mode.Done l) s t = after s l t

-- one token
abbrev pub step : State → Token → Move
step s t = step_in s.mode s t

-- how a run ends: at the tokens' end, at a token that does not go on, or at one that passes a limit, with
-- the state before that token
pub data Outcome : Type 0 where
  alive : State → Outcome
  stopped : State → Outcome
  deep : State → Token → Outcome

-- a state is within the limits: at most d brackets are open and n operators were read
abbrev pub fits : ℕ → ℕ → State → Bool
fits d n s = nat_le s.brackets d && nat_le s.used n

-- the run goes on behind a token, where the next state is within the limits, or it ends there
abbrev pub goes : ℕ → ℕ → State → Token → Move → (State → Outcome) → Outcome
goes d n s t (go next) run = if fits d n next then run next else deep s t
goes d n s t stops run = stopped s

-- the run over tokens, with at most d brackets open and n operators
abbrev pub run : ℕ → ℕ → State → List Token → Outcome
run d n s [] = alive s
run d n s (t ∷ ts) = goes d n s t (step s t) (λ next. run d n next ts)

-- the nodes, where nothing is held any more
abbrev pub whole : Pair → Option (List Node)
whole ([], nodes) = Some nodes
whole (h ∷ hs, nodes) = None

-- the nodes of a state in such a mode, where an expression may end
abbrev pub nodes_in : Mode → State → Option (List Node)
nodes_in (mode.Done l) s = whole (reduced 0 s.held s.nodes)
nodes_in _ s = None

-- the nodes of a state in which an expression may end
abbrev pub complete : State → Option (List Node)
complete s = nodes_in s.mode s

-- what is wrong: a token that does not go on, an end that comes too early, or a limit that is passed
pub data Kind : Type 0 where
  unfit : Kind
  unended : Kind
  depth : Kind

-- what reading answers: the nodes and how many tokens they took, or the first fault and the token that it is told at
abbrev pub Answer : Type 0
Answer = Result (List Node × ℕ) (Kind × ℕ)

-- the complete nodes and how many tokens they took, else this fault
abbrev pub or_fault : Option (List Node) → Kind → ℕ → Answer
or_fault (Some nodes) k at = Ok (nodes, at)
or_fault None k at = Err (k, at)

-- what a run answers: the expression that is complete where it ends, or the fault there
abbrev pub answer : Outcome → Answer
answer (alive s) = or_fault (complete s) unended s.at
answer (stopped s) = or_fault (complete s) unfit s.at
answer (deep s t) = Err (depth, told_at t s.at)

-- the answer for tokens
abbrev pub read : ℕ → ℕ → List Token → Answer
read d n ts = answer (run d n start ts)
