-- What the code does to a state.
use Rattle.std.specs.Prelude.{◌≡◌, ◌<◌, ◌^◌, Bool, true, false, Some, None, Result, Ok, Err, ⊤}
use Rattle.scop_expressions.specs.Machine.{State, Move, go, stops, complete}

-- the counts have room for one more
pub record HasRoom (s : State) : Type 0 where
  pub at : s.at < 2 ^ 62
  pub brackets : s.brackets < 2 ^ 62
  pub used : s.used < 2 ^ 62

-- the counts and the mode are as they were
abbrev pub Counts : State → State → Type 0
Counts old new =
    (new.mode ≡ old.mode) × (new.at ≡ old.at) × (new.brackets ≡ old.brackets) × (new.used ≡ old.used)

-- the code went on as the machine does, or stopped with it and kept what is complete
abbrev pub Steps : {E : Type 0} → Result Bool E → State → State → Move → Type 0
Steps (Ok true) old new move = move ≡ go new
Steps (Ok false) old new move =
    (move ≡ stops) × (complete new ≡ complete old) × Counts old new
Steps (Err e) old new move = ⊤

-- the state's nodes are the complete ones, if there are such
abbrev pub Completes : {E : Type 0} → Result Bool E → State → State → Type 0
Completes (Ok true) old new = (complete old ≡ Some new.nodes) × Counts old new
Completes (Ok false) old new = (complete old ≡ None) × Counts old new
Completes (Err e) old new = ⊤
