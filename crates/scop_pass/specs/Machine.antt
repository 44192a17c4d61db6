-- The pass over a kernel's pieces, which needs no tree: what is in scope, the faults so far, the open blocks and heads,
-- and the trees of the innermost one. An item that is complete completes the heads that it stands under.
use Rattle.std.specs.Prelude.{ℕ, ◌+◌, ◌-◌, true, false, List, [], ◌∷◌, ◌++◌, length, map, take, Option, Some, None}
use Rattle.scop_expressions.specs.Assign.{Assign}
use Rattle.scop_expressions.specs.Count.{Count}
use Rattle.scop_expressions.specs.Width.{Width}
use Rattle.scop_grammar.specs.Kernel.{Piece, mark_at, nodes_from}
use Rattle.scop_grammar.specs.declared.part.Mark.{Mark}
use Rattle.scop_grammar.specs.declared.part.Mark.TheVariants as kept
use Rattle.scop_units.specs.Bytes.{Text}
use Rattle.scop_syntax.specs.Tree.{Declaration, Test, Head, Tree, Program}
use Rattle.scop_syntax.specs.Tree as scop
use Rattle.scop_syntax.specs.View.{trees_of}
use Rattle.scop_roles.specs.declared.kinds.Fault.{Fault}
use Rattle.scop_roles.specs.declared.formula.Role.TheVariants as role
use Rattle.scop_roles.specs.Formula.{Formula, name, index, Lookup}
use Rattle.scop_roles.specs.Resolving.{formula_of_nodes}
use Rattle.scop_roles.specs.Faults.{faults}
use Rattle.scop_roles.specs.Forms.{is_narrow_width}
use Rattle.scop_roles.specs.Values.{tests}
use Rattle.scop_units.specs.Words.{Words}
use Rattle.scop_units.specs.Scopes.{Scope, no_scope, with_parameter, with_array, with_iterator, with_loop, entries}
use Rattle.scop_units.specs.Scopes.{look}
use Rattle.scop_units.specs.View.{scope_within}
use Rattle.scop_units.specs.Loops.{LoopHead, Change, counted, assigned, loop_faults, loop_of}
use Rattle.scop_units.specs.Units.{Stored, kernel_name_faults, name_faults, number_faults, array_faults, array_of}
use Rattle.scop_units.specs.Units.{declared_over, statement_faults, statement_of}
use Rattle.scop_units.specs.Programs.{wrapped}
use Rattle.scop_pass.specs.declared.pending.Begun.{Begun}
use Rattle.scop_pass.specs.declared.pending.StepRead.{StepRead}
use Rattle.scop_pass.specs.declared.pending.StepRead.TheVariants as read

-- what is open: a block, or a head with the trees in front of it
pub data Frame : Type 0 where
  block : Frame
  guarded : List Test → List Tree → Frame
  looped : Head → List Tree → Frame

-- what of a declaration, a head or a statement was read
pub data Pending : Type 0 where
  idle : Pending
  extents : Width → ℕ → List Formula → Pending
  condition : Pending
  loop_begun : ℕ → Pending
  loop_named : Begun → Pending
  loop_first : Begun → Formula → Pending
  loop_step : Begun → Formula → Formula → StepRead → Pending
  placed : Formula → Pending
  valued : Formula → Assign → ℕ → Pending

-- the state of the pass; before: the statements so far; comparisons: those of the open heads; trees: those of the
-- innermost open head
pub record State : Type 0 where
  pub name : Text
  pub scope : Scope
  pub arrays : List Declaration
  pub faults : List Fault
  pub before : ℕ
  pub comparisons : ℕ
  pub frames : List Frame
  pub trees : List Tree
  pub pending : Pending

-- the state of these parts
abbrev pub state : Text → Scope → List Declaration → List Fault → ℕ → ℕ → List Frame → List Tree → Pending → State
state w s ds fs b c frames ts p =
    record {
      name = w;
      scope = s;
      arrays = ds;
      faults = fs;
      before = b;
      comparisons = c;
      frames = frames;
      trees = ts;
      pending = p;
    }

-- the state before the first piece
abbrev pub first_state : State
first_state = state [] no_scope [] [] 0 0 [] [] idle

-- outside of the innermost loop
abbrev pub without_loop : Scope → Scope
without_loop s = record s { open_loops = take (length s.open_loops - 1) s.open_loops }

-- heads that are completed from the innermost on, by a state without frames of its own
abbrev pub unwound : List Frame → State → State
unwound [] s = s
unwound (block ∷ fs) s = record s { frames = block ∷ fs }
unwound (guarded ts outer ∷ fs) s =
    unwound fs (record s {
      comparisons = s.comparisons - length ts;
      trees = outer ++ wrapped (scop.guard ts) s.trees;
    })
unwound (looped h outer ∷ fs) s =
    unwound fs (record s { scope = without_loop s.scope; trees = outer ++ wrapped (scop.loop h) s.trees })

-- an item is complete, and with it each head on top
abbrev pub completed : List Frame → State → State
completed fs s = unwound fs (record s { frames = []; pending = idle })

-- an item is complete under the frames of a state
abbrev pub complete : State → State
complete s = completed s.frames s

-- a block ends
abbrev pub closed : List Frame → State → State
closed (block ∷ fs) s = completed fs s
closed _ s = s

-- with this of a declaration, a head or a statement read
abbrev pub expects : State → Pending → State
expects s p = record s { pending = p }

-- a parameter that is a number, at its name
abbrev pub numbered : Words → State → ℕ → State
numbered words s at =
    record s {
      faults = s.faults ++ number_faults words s.scope at;
      scope = with_parameter s.scope (words.spelling at);
    }

-- an iterator that is declared at the start, at its name
abbrev pub declared : Words → State → ℕ → State
declared words s at =
    record s {
      faults = s.faults ++ name_faults words s.scope at;
      scope = with_iterator s.scope (words.spelling at);
    }

-- the kernel's name
abbrev pub named : Words → State → ℕ → State
named words s at = record s { name = words.spelling at; faults = s.faults ++ kernel_name_faults words at }

-- an array with all its extents
abbrev pub ranked : Words → State → Width → ℕ → List Formula → State
ranked words s w at fs =
    record s {
      faults = s.faults ++ array_faults words s.scope at fs;
      arrays = s.arrays ++ array_of words s.scope at w fs ∷ [];
      scope = with_array s.scope (words.spelling at) (length fs) (is_narrow_width w);
      pending = idle;
    }

-- signs

-- a sign where nothing is in hand
abbrev pub idle_step : Words → State → Mark → ℕ → State
idle_step words s kept.Kernel at = named words s at
idle_step words s kept.Number at = numbered words s at
idle_step words s (kept.Array w) at = expects s (extents w at [])
idle_step words s kept.Declared at = declared words s at
idle_step words s kept.Begin at = record s { frames = block ∷ s.frames }
idle_step words s kept.End at = closed s.frames s
idle_step words s kept.Empty at = complete s
idle_step words s kept.If at = expects s condition
idle_step words s kept.For at = expects s (loop_begun at)
idle_step words s kept.Place at = expects s (placed (name ((look words s.scope).meaning at) at))
idle_step words s _ at = s

-- behind a `for` the name of its iterator
abbrev pub begun_step : State → ℕ → Mark → ℕ → State
begun_step s p kept.Iterator at = expects s (loop_named (record { place = p; new = false; name_at = at }))
begun_step s p kept.NewIterator at = expects s (loop_named (record { place = p; new = true; name_at = at }))
begun_step s p _ at = s

-- what stands at a place within the loop whose head is read
abbrev pub look_inside : Words → State → Begun → Lookup
look_inside words s h = look words (with_loop s.scope (words.spelling h.name_at))

-- a head with its last part: v is the place of the name that it changes
abbrev pub whole_head : Words → State → Begun → Formula → Formula → ℕ → Change → LoopHead
whole_head words s h f g v ch =
    record {
      place = h.place;
      new = h.new;
      name_at = h.name_at;
      iterator = words.spelling h.name_at;
      first = f;
      second = g;
      changed = name ((look_inside words s h).meaning v) v;
      change = ch;
    }

-- a loop opens, with its head
abbrev pub loop_opened : State → LoopHead → State
loop_opened s h =
    record s {
      faults = s.faults ++ loop_faults s.scope h;
      scope = with_loop s.scope h.iterator;
      frames = looped (loop_of s.scope h) s.trees ∷ s.frames;
      trees = [];
      pending = idle;
    }

-- the first sign of a loop's step
abbrev pub first_sign : State → Begun → Formula → Formula → Mark → ℕ → State
first_sign s h f g kept.StepName at = expects s (loop_step h f g (read.Name at))
first_sign s h f g (kept.Count c) at = expects s (loop_step h f g (read.Count c))
first_sign s h f g _ at = s

-- behind `++` or `--` of a step the name that it changes
abbrev pub counted_sign : Words → State → Begun → Formula → Formula → Count → Mark → ℕ → State
counted_sign words s h f g c kept.StepName at = loop_opened s (whole_head words s h f g at (counted c))
counted_sign words s h f g c _ at = s

-- behind the name that a step changes `++` or `--`, or the sign that assigns
abbrev pub named_sign : Words → State → Begun → Formula → Formula → ℕ → Mark → ℕ → State
named_sign words s h f g v (kept.Count c) at = loop_opened s (whole_head words s h f g v (counted c))
named_sign words s h f g v (kept.Assign a) at = expects s (loop_step h f g (read.Assignment v a))
named_sign words s h f g v _ at = s

-- behind the condition the first sign of the step
abbrev pub change_step : Words → State → Begun → Formula → Formula → StepRead → Mark → ℕ → State
change_step words s h f g read.Nothing m at = first_sign s h f g m at
change_step words s h f g (read.Count c) m at = counted_sign words s h f g c m at
change_step words s h f g (read.Name v) m at = named_sign words s h f g v m at
change_step words s h f g (read.Assignment v a) m at = s

-- behind a place one subscript more, or the sign that assigns
abbrev pub placed_step : State → Formula → Mark → ℕ → State
placed_step s p (kept.Assign a) at = expects s (valued p a at)
placed_step s p _ at = s

-- a sign behind what is in hand
abbrev pub sign_step : Pending → Words → State → Mark → ℕ → State
sign_step idle words s m at = idle_step words s m at
sign_step (extents w p fs) words s m at = idle_step words (ranked words s w p fs) m at
sign_step (loop_begun p) words s m at = begun_step s p m at
sign_step (loop_step h f g r) words s m at = change_step words s h f g r m at
sign_step (placed f) words s m at = placed_step s f m at
sign_step _ words s m at = s

-- expressions

-- an `if` opens, with its condition
abbrev pub guard_opened : State → Formula → State
guard_opened s f =
    record s {
      faults = s.faults ++ faults (entries s.scope) role.Condition f;
      comparisons = s.comparisons + length (tests (entries s.scope) f);
      frames = guarded (tests (entries s.scope) f) s.trees ∷ s.frames;
      trees = [];
      pending = idle;
    }

-- behind the sign that assigns the right side of the step, with which the head is whole
abbrev pub change_whole : Words → State → Begun → Formula → Formula → StepRead → Formula → State
change_whole words s h f g (read.Assignment v a) e = loop_opened s (whole_head words s h f g v (assigned a e))
change_whole words s h f g _ e = s

-- one statement more
abbrev pub stated : State → Stored → State
stated s x =
    record s {
      faults = s.faults ++ statement_faults (entries s.scope) s.comparisons s.before x;
      before = s.before + 1;
      trees = s.trees ++ scop.statement (statement_of (entries s.scope) x) ∷ [];
    }

-- the statement of these parts
abbrev pub whole_statement : Formula → Assign → ℕ → Formula → Stored
whole_statement p a at f = record { cell = p; assign = a; assign_at = at; value = f }

-- an expression's formula behind what is in hand
abbrev pub formula_step : Pending → Words → State → Formula → State
formula_step (extents w p fs) words s f = expects s (extents w p (fs ++ f ∷ []))
formula_step condition words s f = guard_opened s f
formula_step (loop_named h) words s f = expects s (loop_first h f)
formula_step (loop_first h f) words s g = expects s (loop_step h f g read.Nothing)
formula_step (loop_step h f g r) words s e = change_whole words s h f g r e
formula_step (placed p) words s f = expects s (placed (index p f))
formula_step (valued p a at) words s f = complete (stated s (whole_statement p a at f))
formula_step _ words s f = s

-- the name of the loop whose head is read
abbrev pub inner_of : Pending → Option ℕ
inner_of (loop_first h f) = Some h.name_at
inner_of (loop_step h f g r) = Some h.name_at
inner_of _ = None

-- what an expression's names stand for
abbrev pub look_in : Pending → Words → State → Lookup
look_in q words s = look words (scope_within words s.scope (inner_of q))

-- one piece, by what was read in front of it of a declaration, a head or a statement
abbrev pub step_in : Pending → Words → State → Piece → State
step_in q words s (mark_at m at) = sign_step q words s m at
step_in q words s (nodes_from b ns) = formula_step q words s (formula_of_nodes (look_in q words s) b ns)

-- one piece
abbrev pub step : Words → State → Piece → State
step words s p = step_in s.pending words s p

-- an array in hand is whole, as it is before a sign
abbrev pub settled_in : Pending → Words → State → State
settled_in (extents w at fs) words s = ranked words s w at fs
settled_in _ words s = s

-- an array in hand is whole in a state
abbrev pub settled : Words → State → State
settled words s = settled_in s.pending words s

-- the pass over pieces
abbrev pub run : Words → State → List Piece → State
run words s [] = s
run words s (p ∷ ps) = run words (step words s p) ps

-- the program of a state behind the last piece
abbrev pub program_at : State → Program
program_at s =
    record {
      name = s.name;
      parameters = s.scope.parameters;
      arrays = map (declared_over (length s.scope.parameters)) s.arrays;
      body = trees_of s.trees;
    }
