-- The path that a value of the code stands for.
use Rattle.std.specs.Prelude.{List, map}
use Rattle.quast_trees.specs.Paths.{Turn, up, down, bound}
use Rattle.quast_trees.specs.declared.paths.Turn.{Turn as Held}
use Rattle.quast_trees.specs.declared.paths.Turn.TheVariants as held

-- the turn that a value of the program holds
abbrev pub turn_held : Held → Turn
turn_held (held.Up test) = up test.now
turn_held (held.Down test) = down test.now
turn_held (held.Bound form divisor) = bound form.now divisor

-- the turns that a list holds
abbrev pub turns_held : List Held → List Turn
turns_held turns = map turn_held turns
