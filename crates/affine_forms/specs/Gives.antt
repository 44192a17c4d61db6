-- When a call on forms answers what its run gives.
use Rattle.std.specs.Prelude.{Option, Some, None, Result}
use Rattle.wide_math.specs.declared.Wide.{Wide}
use Rattle.wide_math.specs.Gives.{Fails as FailsAs, Gives as GivesAs}
use Rattle.affine_forms.specs.declared.stop.FormStop.{FormStop}
use Rattle.affine_forms.specs.declared.stop.FormStop.TheVariants as stop

-- the error of a run that a call's error is; want of memory is none
abbrev pub told : FormStop → Option Wide
told (stop.Wide w) = Some w
told stop.NoMemory = None

-- a call stops with the run's error; want of memory may stop it anywhere
abbrev pub Fails : {Y : Type 0} → FormStop → Result Y Wide → Type 0
Fails e run = FailsAs told e run

-- a call gives what the run gives, seen through `view`
abbrev pub Gives : {X Y : Type 0} → (X → Y) → Result X FormStop → Result Y Wide → Type 0
Gives view result run = GivesAs told view result run
