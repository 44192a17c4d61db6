-- What the code's pass stands for, and what its steps do to the machine's state.
use Rattle.std.specs.Prelude.{◌≡◌, ◌≤◌, ◌^◌, ◌⊎◌, ⊤, true, false, List, [], ◌∷◌, ◌++◌, map, replicate, reverse, Option}
use Rattle.std.specs.Prelude.{Some, None, Result, Ok, Err, Bool}
use Rattle.scop_grammar.specs.Kernel.{Kernel, KernelFits, kernel_elements, Piece, pieces, mark_at, nodes_from}
use Rattle.scop_syntax.specs.View.{program_of, test_of, tree_of}
use Rattle.scop_syntax.specs.declared.tree.Kernel.{Kernel as CodeKernel}
use Rattle.scop_units.specs.Judging.{faults_of, width}
use Rattle.scop_units.specs.Programs.{program_spelled}
use Rattle.scop_roles.specs.declared.kinds.Fault.{Fault}
use Rattle.scop_roles.specs.Faults.{first}
use Rattle.scop_roles.specs.Formula.{formula_of}
use Rattle.scop_pass.specs.declared.frames.Frame.{Frame as CodeFrame}
use Rattle.scop_pass.specs.declared.frames.Frame.TheVariants as frame
use Rattle.scop_pass.specs.declared.pending.Hand.{Hand}
use Rattle.scop_pass.specs.declared.pending.Hand.TheVariants as hand
use Rattle.scop_pass.specs.declared.pending.Pending.{Pending as CodePending}
use Rattle.scop_pass.specs.declared.pending.Pending.TheVariants as pending
use Rattle.scop_pass.specs.declared.pass.Pass.{Pass}
use Rattle.scop_pass.specs.declared.pass.Stop.{Stop}
use Rattle.scop_pass.specs.declared.pass.Stop.TheVariants as stop
use Rattle.scop_roles.specs.Resolving.{IsWritten}
use Rattle.scop_units.specs.Words.{Words}
use Rattle.scop_units.specs.View.{scope_of}
use Rattle.scop_pass.specs.Machine.{Frame, block, guarded, looped, Pending, idle, extents, condition, loop_begun}
use Rattle.scop_pass.specs.Machine.{loop_named, loop_first, loop_step, placed, valued, State, state, expects, complete}
use Rattle.scop_pass.specs.Machine.{settled, step, first_state, run}

-- what the code holds as one frame, within these
abbrev pub within : CodeFrame → List Frame → List Frame
within (frame.Blocks more) fs = block ∷ replicate more block ++ fs
within (frame.Guarded tests outer) fs = guarded (map test_of tests.items) (map tree_of outer.items) ∷ fs
within (frame.Looped head outer) fs = looped head (map tree_of outer.items) ∷ fs

-- what the code holds as frames, the innermost first
abbrev pub frames_from : List CodeFrame → List Frame
frames_from [] = []
frames_from (f ∷ fs) = within f (frames_from fs)

-- the code's frames have the innermost last
abbrev pub frames_of : List CodeFrame → List Frame
frames_of fs = frames_from (reverse fs)

-- what of a head or a statement was read, as the code holds it
abbrev pub hand_of : Hand → Pending
hand_of hand.Idle = idle
hand_of hand.Condition = condition
hand_of (hand.LoopBegun at) = loop_begun at
hand_of (hand.LoopNamed h) = loop_named h
hand_of (hand.LoopFirst h f) = loop_first h (formula_of f)
hand_of (hand.LoopStep s r) = loop_step s.begun (formula_of s.first) (formula_of s.second) r
hand_of (hand.Placed f) = placed (formula_of f)
hand_of (hand.Valued f a at) = valued (formula_of f) a at

-- what of a declaration, a head or a statement was read, as the code holds it
abbrev pub pending_of : CodePending → Pending
pending_of (pending.Extents w at fs) = extents w at (map formula_of fs.items)
pending_of (pending.Hand h) = hand_of h

-- the state that a pass stands for: it goes on as long as there is no fault
abbrev pub state_of : Pass → State
state_of p =
    state p.name.items (scope_of p.scope) p.scope.arrays.items [] p.before p.comparisons (frames_of p.frames.items)
    (map tree_of p.trees.items) (pending_of p.pending)

-- the first of some faults is told; want of memory is free
abbrev pub Tells : Stop → List Fault → Type 0
Tells (stop.Refused f) fs = first fs ≡ Some f
Tells stop.NoMemory fs = ⊤

-- there are no faults, or the first is told
abbrev pub Clears : {A : Type 0} → Result A Stop → List Fault → Type 0
Clears (Ok _) fs = fs ≡ []
Clears (Err s) fs = Tells s fs

-- the pass comes to the machine's next state, or tells its first fault
abbrev pub Comes : {A : Type 0} → Result A Stop → State → State → Type 0
Comes (Ok _) new next = next ≡ new
Comes (Err s) new next = Tells s next.faults

-- the piece is a sign
abbrev pub IsMark : Piece → Type 0
IsMark (mark_at m at) = ⊤
IsMark (nodes_from at ns) = ⊥

-- the same of a step; where it begins with an array's end, that may have the fault
abbrev pub Steps : {A : Type 0} → Result A Stop → Words → State → State → Piece → Type 0
Steps (Ok _) words old new p = step words old p ≡ new
Steps (Err s) words old new p = Tells s (step words old p).faults ⊎ (IsMark p × Tells s (settled words old).faults)

-- the nodes of an expression are those of a tree, and its places have room
abbrev pub IsWhole : Piece → Type 0
IsWhole (mark_at m at) = ⊤
IsWhole (nodes_from at ns) = IsWritten ns at

-- the frame taken off is the innermost
abbrev pub Pops : Option CodeFrame → List Frame → List Frame → Type 0
Pops None old new = (old ≡ []) × (new ≡ [])
Pops (Some f) old new = old ≡ within f new

-- what completes the frames: the innermost was completed and the rest goes on, or nothing is left to complete
abbrev pub Closes : {E : Type 0} → Result Bool E → State → State → Type 0
Closes (Ok true) old new = complete new ≡ complete old
Closes (Ok false) old new = complete old ≡ expects new idle
Closes (Err e) old new = ⊤

-- the pieces come next in a kernel within the limits whose places have room, behind those that led to the state
pub record ComeNext (words : Words) (s : State) (ps : List Piece) : Type 0 where
  pub kernel : Kernel
  pub fits : KernelFits 64 256 kernel
  pub room : width (kernel_elements kernel) ≤ 2 ^ 63
  pub front : List Piece
  pub rest : List Piece
  pub is : pieces 0 (kernel_elements kernel) ≡ front ++ (ps ++ rest)
  pub so : run words first_state front ≡ s

-- the pass stands behind the pieces that were seen, or tells the kernel's first fault
abbrev pub Takes : {A : Type 0} → Result A Stop → Words → Kernel → List Piece → State → Type 0
Takes (Ok _) words k seen new = run words first_state seen ≡ new
Takes (Err s) words k seen new = Tells s (faults_of words k)

-- the tree of a kernel that has no faults is its program, or the first fault is told
abbrev pub Judges : Result CodeKernel Stop → Words → Kernel → Type 0
Judges (Ok made) words k = (faults_of words k ≡ []) × (program_of made ≡ program_spelled words k)
Judges (Err s) words k = Tells s (faults_of words k)
