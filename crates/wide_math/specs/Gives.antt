-- When a call answers what its run gives.
use Rattle.std.specs.Prelude.{◌≡◌, Option, Some, None, Result, Ok, Err, ⊤}

-- `told` sees in a call's error the error that its run may give; None is a cause that no run tells, as want of memory

-- an error that runs tell is the run's; another may come anywhere
abbrev pub IsTold : {Y W : Type 0} → Option W → Result Y W → Type 0
IsTold (Some w) run = run ≡ Err w
IsTold None run = ⊤

-- a call stops with the run's error, or with a cause that no run tells
abbrev pub Fails : {Y E W : Type 0} → (E → Option W) → E → Result Y W → Type 0
Fails told e run = IsTold (told e) run

-- a call gives what the run gives, seen through `view`
abbrev pub Gives : {X Y E W : Type 0} → (E → Option W) → (X → Y) → Result X E → Result Y W → Type 0
Gives told view (Ok x) run = run ≡ Ok (view x)
Gives told view (Err e) run = Fails told e run

-- a value changed in place becomes what the run gives, or the call fails as the run does
abbrev pub Becomes : {X U W : Type 0} → X → Result U W → Result X W → Type 0
Becomes new (Ok _) run = run ≡ Ok new
Becomes new (Err w) run = run ≡ Err w
