-- The machine that reads a kernel, one token a step: what may come next, a count of the open braces, the pieces so
-- far, and a machine for the expression in hand. No stack: behind a complete item every open `if` and `for` ends.
use Rattle.std.specs.Prelude.{ℕ, ◌+◌, if◌then◌else◌, List, [], ◌∷◌, ◌++◌, Option, Some, None, Result, Ok, Err}
use Rattle.scop_expressions.specs.Token.{Token}
use Rattle.scop_expressions.specs.declared.node.Node.{Node}
use Rattle.scop_expressions.specs.Machine.{State, start, Move, go, stops, step, fits, complete, Kind, unfit, unended}
use Rattle.scop_expressions.specs.Machine.{depth}
use Rattle.scop_expressions.specs.Grammar.{told_at}
use Rattle.scop_grammar.specs.declared.table.Role.{Role}
use Rattle.scop_grammar.specs.declared.table.Want.{Want}
use Rattle.scop_grammar.specs.declared.table.Want.TheVariants as want
use Rattle.scop_grammar.specs.Table.{next, behind, mark, braced, room, left, carried}
use Rattle.scop_grammar.specs.Kernel.{Piece, nodes_from, marked}

-- where the machine stands; used: the operators so far of a place; at: the next token's place; first: where the
-- expression in hand begins
pub record Spot : Type 0 where
  pub want : Want
  pub braces : ℕ
  pub used : ℕ
  pub pieces : List Piece
  pub at : ℕ
  pub first : ℕ
  pub inner : State

-- the spot of these parts
abbrev pub spot : Want → ℕ → ℕ → List Piece → ℕ → ℕ → State → Spot
spot w b u ps at f e = record { want = w; braces = b; used = u; pieces = ps; at = at; first = f; inner = e }

-- the spot behind a sign
abbrev pub ahead : Want → ℕ → ℕ → List Piece → ℕ → Spot
ahead w b u ps at = spot w b (carried w u) ps at at start

-- the spot before the first token
abbrev pub first_spot : Spot
first_spot = ahead want.Void 0 0 [] 0

-- what one token does
pub data Turn : Type 0 where
  on : Spot → Turn
  stop : Turn
  too_deep : Turn

-- a sign between expressions
abbrev pub sign_turn : Spot → Token → Option Want → Turn
sign_turn s t (Some w) =
    on (ahead w (braced s.want t s.braces) s.used (s.pieces ++ marked (mark s.want t) s.at) (s.at + 1))
sign_turn s t None = stop

-- the sign behind an expression that is complete
abbrev pub leaves : Spot → Option (List Node) → Option Want → Turn
leaves s (Some ns) (Some w) =
    on (ahead w s.braces (s.used + s.inner.used) (s.pieces ++ nodes_from s.first ns ∷ []) (s.at + 1))
leaves s _ _ = stop

-- a token of the expression in hand, or behind it
abbrev pub inner_turn : ℕ → ℕ → Role → Spot → Token → Move → Turn
inner_turn d n r s t (go e) =
    if fits (room r d) (left r n s.used) e
    then on (spot (want.Inner r) s.braces s.used s.pieces (s.at + 1) s.first e)
    else too_deep
inner_turn d n r s t stops = leaves s (complete s.inner) (behind r t)

-- one token, by what may come next
abbrev pub turn_in : ℕ → ℕ → Want → Spot → Token → Turn
turn_in d n (want.Inner r) s t = inner_turn d n r s t (step s.inner t)
turn_in d n w s t = sign_turn s t (next w s.braces t)

-- one token
abbrev pub turn : ℕ → ℕ → Spot → Token → Turn
turn d n s t = turn_in d n s.want s t

-- how a run ends: at the tokens' end, at a token that does not go on, or at one that passes a limit, with the spot
-- before that token
pub data End : Type 0 where
  goes_on : Spot → End
  stopped_at : Spot → End
  deep_at : Spot → Token → End

-- the run goes on behind a token, or ends there
abbrev pub turns : Spot → Token → Turn → (Spot → End) → End
turns s t (on next) run = run next
turns s t stop run = stopped_at s
turns s t too_deep run = deep_at s t

-- the run over tokens, with at most d brackets open and n operators in an expression
abbrev pub run : ℕ → ℕ → Spot → List Token → End
run d n s [] = goes_on s
run d n s (t ∷ ts) = turns s t (turn d n s t) (λ next. run d n next ts)

-- what reading answers: the pieces, or the first fault and the place of the token that it is told at
abbrev pub Answer : Type 0
Answer = Result (List Piece) (Kind × ℕ)

-- the pieces where the kernel is over, else the fault that it is not ended
abbrev pub whole : Want → List Piece → ℕ → Answer
whole want.Over ps at = Ok ps
whole w ps at = Err (unended, at)

-- what a run answers
abbrev pub answer : End → Answer
answer (goes_on s) = whole s.want s.pieces s.at
answer (stopped_at s) = Err (unfit, s.at)
answer (deep_at s t) = Err (depth, told_at t s.at)

-- the answer for a text's tokens
abbrev pub read : ℕ → ℕ → List Token → Answer
read d n ts = answer (run d n first_spot ts)
