-- What the code does to the machine's spot, and what its results stand for.
use Rattle.std.specs.Prelude.{◌≡◌, ℕ, ◌<◌, ◌^◌, ◌++◌, List, map, Result, Ok, Err, ⊤}
use Rattle.scop_expressions.specs.Token.{Token}
use Rattle.scop_expressions.specs.declared.reader.Stop.{Stop}
use Rattle.scop_expressions.specs.declared.reader.Stop.TheVariants as fault
use Rattle.scop_expressions.specs.Machine.{unfit, unended, depth}
use Rattle.scop_expressions.specs.Grammar.{told_at}
use Rattle.scop_grammar.specs.declared.part.Part.{Part}
use Rattle.scop_grammar.specs.declared.part.Part.TheVariants as part
use Rattle.scop_grammar.specs.declared.reader.Text.{Text}
use Rattle.scop_grammar.specs.declared.reader.Went.{Went}
use Rattle.scop_grammar.specs.declared.reader.Went.TheVariants as went
use Rattle.scop_grammar.specs.Kernel.{Piece, mark_at, nodes_from}
use Rattle.scop_grammar.specs.Machine.{Spot, Turn, on, stop, too_deep, End, goes_on, stopped_at, deep_at, Answer}
use Rattle.scop_grammar.specs.Promises.{IsMisplaced, IsUnended, IsTooDeep}

-- the piece that a part stands for
abbrev pub piece_of : Part → Piece
piece_of (part.Sign m at) = mark_at m at
piece_of (part.Expression at nodes) = nodes_from at nodes.items

-- the pieces that parts stand for
abbrev pub pieces_of : List Part → List Piece
pieces_of parts = map piece_of parts

-- the counts have room for one more
pub record HasSpace (s : Spot) : Type 0 where
  pub at : s.at < 2 ^ 62
  pub braces : s.braces < 2 ^ 62
  pub used : s.used < 2 ^ 62

-- the same spot, its own pieces behind these: those so far that were taken
abbrev pub behind : List Piece → Spot → Spot
behind ps s = record s { pieces = ps ++ s.pieces }

-- a turn with these pieces in front
abbrev pub turned : List Piece → Turn → Turn
turned ps (on s) = on (behind ps s)
turned ps stop = stop
turned ps too_deep = too_deep

-- an end with these pieces in front
abbrev pub ended : List Piece → End → End
ended ps (goes_on s) = goes_on (behind ps s)
ended ps (stopped_at s) = stopped_at (behind ps s)
ended ps (deep_at s t) = deep_at (behind ps s) t

-- the code's turn is the machine's
abbrev pub Turns : {E : Type 0} → Result Went E → Spot → Turn → Type 0
Turns (Ok went.On) new turn = turn ≡ on new
Turns (Ok went.Stop) new turn = turn ≡ stop
Turns (Ok went.Deep) new turn = turn ≡ too_deep
Turns (Err e) new turn = ⊤

-- the code went on as the machine does, or tells the fault at which it stopped; want of memory is free
abbrev pub Feeds : {A : Type 0} → Result A Stop → Spot → Spot → Token → Turn → Type 0
Feeds (Ok _) old new t turn = turn ≡ on new
Feeds (Err (fault.Unfit at)) old new t turn = (turn ≡ stop) × (at ≡ old.at)
Feeds (Err (fault.Depth at)) old new t turn = (turn ≡ too_deep) × (at ≡ told_at t old.at)
Feeds (Err (fault.Unended at)) old new t turn = ⊥
Feeds (Err fault.NoMemory) old new t turn = ⊤

-- the answer that a result of the code stands for; want of memory is free
abbrev pub Gives : Result Text Stop → Answer → Type 0
Gives (Ok text) a = a ≡ Ok (pieces_of text.parts.items)
Gives (Err (fault.Unfit at)) a = a ≡ Err (unfit, at)
Gives (Err (fault.Unended at)) a = a ≡ Err (unended, at)
Gives (Err (fault.Depth at)) a = a ≡ Err (depth, at)
Gives (Err fault.NoMemory) a = ⊤

-- the fault that a stop tells
abbrev pub IsStop : ℕ → ℕ → List Token → Stop → Type 0
IsStop d n ts (fault.Unfit at) = IsMisplaced d n ts at
IsStop d n ts (fault.Unended at) = IsUnended d n ts at
IsStop d n ts (fault.Depth at) = IsTooDeep d n ts at
IsStop d n ts fault.NoMemory = ⊤
