-- The pass over a kernel's parts one by one.
use Rattle.scop_syntax.proofs.Common.{◌≡◌, ℕ, ◌+◌, ◌<◌, ◌≤◌, ◌^◌, List, [], ◌∷◌, ◌++◌, length, map, get_or, take, drop}
use Rattle.scop_syntax.proofs.Common.{Some, None, inl, inr, sym, ap, ◌∙◌, append_assoc, length-append, arith, ◌⊎◌}
use Rattle.scop_syntax.proofs.Common.{map-append, take_more}
use Rattle.scop_expressions.specs.Tree.{tokens_of, size, written}
use Rattle.scop_expressions.specs.declared.node.Node.{Node}
use Rattle.scop_grammar.specs.declared.part.Mark.{Mark}
use Rattle.scop_grammar.specs.declared.part.Part.{Part}
use Rattle.scop_grammar.specs.Kernel.{Element, sign, expression, spelled, Kernel, KernelFits, kernel_elements, Piece}
use Rattle.scop_grammar.specs.Kernel.{pieces, mark_at, nodes_from}
use Rattle.scop_grammar.specs.Turns.{piece_of, pieces_of}
use Rattle.scop_roles.specs.declared.kinds.Fault.{Fault}
use Rattle.scop_roles.specs.Faults.{first}
use Rattle.scop_roles.specs.Resolving.{IsWritten}
use Rattle.scop_pass.specs.declared.pass.Stop.{Stop}
use Rattle.scop_pass.specs.declared.pass.Stop.TheVariants as stop
use Rattle.scop_units.specs.Words.{Words}
use Rattle.scop_units.specs.Judging.{width, faults_of}
use Rattle.scop_pass.specs.Machine.{State, first_state, run, step, settled}
use Rattle.scop_pass.specs.Passing.{Tells, IsMark, IsWhole, ComeNext}
use Rattle.scop_pass.proofs.PieceRuns.{run-append}
use Rattle.scop_units.proofs.ListElements.{map_around}

-- the nodes of a kernel's piece are those of a tree, within the kernel's places
nodes_whole : (at most : ℕ) (es : List Element) (ps qs : List Piece) (b : ℕ) (ns : List Node)
    → pieces at es ≡ ps ++ nodes_from b ns ∷ qs → at + width es ≤ most → most ≤ 2 ^ 63 → IsWritten ns b
nodes_whole at most [] [] qs b ns same le room = absurd cc
nodes_whole at most [] (p ∷ ps) qs b ns same le room = absurd cc
nodes_whole at most (sign t None ∷ es) ps qs b ns same le room =
    nodes_whole (at + 1) most es ps qs b ns same (omega (arith, le)) room
nodes_whole at most (sign t (Some m) ∷ es) [] qs b ns same le room = absurd cc
nodes_whole at most (sign t (Some m) ∷ es) (p ∷ ps) qs b ns same le room =
    let rest : pieces (at + 1) es ≡ ps ++ nodes_from b ns ∷ qs = cc in
    nodes_whole (at + 1) most es ps qs b ns rest (omega (arith, le)) room
nodes_whole at most (expression x t ∷ es) [] qs b ns same le room =
    let here : nodes_from at (written 0 x) ≡ nodes_from b ns = cc in
    let place : at ≡ b = cc in
    let nodes : ns ≡ written 0 x = cc in
    let long = length-append (tokens_of x) (t ∷ spelled es) in
    record { tree = x; nodes_are = nodes; room = omega (arith, le, room, place, long) }
nodes_whole at most (expression x t ∷ es) (p ∷ ps) qs b ns same le room =
    let next = at + size x + 1 in
    let rest : pieces next es ≡ ps ++ nodes_from b ns ∷ qs = cc in
    let long = length-append (tokens_of x) (t ∷ spelled es) in
    nodes_whole next most es ps qs b ns rest (omega (arith, le, long)) room

piece_whole : (p : Piece) (es : List Element) (ps qs : List Piece) → pieces 0 es ≡ ps ++ p ∷ qs → width es ≤ 2 ^ 63
    → IsWhole p
piece_whole (mark_at m at) es ps qs same le = tt
piece_whole (nodes_from b ns) es ps qs same le =
    nodes_whole 0 (width es) es ps qs b ns same (omega arith) le

-- a part with those in front of it and behind it, among all pieces
pub split_at : (all front rest : List Piece) (parts : List Part) (i : ℕ) (x : Part)
    → all ≡ front ++ (pieces_of parts ++ rest) → i < length parts → x ≡ get_or parts i x
    → all ≡ (front ++ pieces_of (take i parts)) ++ piece_of x ∷ (pieces_of (drop (i + 1) parts) ++ rest)
split_at all front rest parts i x same lt is =
    let before = pieces_of (take i parts) in
    let after = pieces_of (drop (i + 1) parts) in
    same
    ∙ (ap (λ (ps : List Piece). front ++ (ps ++ rest)) (map_around piece_of i parts x lt is)
    ∙ (ap (λ (ps : List Piece). front ++ ps) (append_assoc before (piece_of x ∷ after) rest)
    ∙ sym (append_assoc front before (piece_of x ∷ (after ++ rest)))))

pub part_whole : (words : Words) (s : State) (parts : List Part) (i : ℕ) (x : Part)
    → ComeNext words s (pieces_of parts) → i < length parts → x ≡ get_or parts i x → IsWhole (piece_of x)
part_whole words s parts i x next lt is =
    piece_whole (piece_of x) (kernel_elements next.kernel) (next.front ++ pieces_of (take i parts))
    (pieces_of (drop (i + 1) parts) ++ next.rest)
    (split_at (pieces 0 (kernel_elements next.kernel)) next.front next.rest parts i x next.is lt is) next.room

-- a part more
pub part_run : (words : Words) (old : State) (parts : List Part) (i : ℕ) (x : Part) (s t : State) → i < length parts
    → x ≡ get_or parts i x → run words old (pieces_of (take i parts)) ≡ s → step words s (piece_of x) ≡ t
    → run words old (pieces_of (take (i + 1) parts)) ≡ t
part_run words old parts i x s t lt is so goes =
    ap (λ (ys : List Part). run words old (map piece_of ys))
    (take_more parts i x lt ∙ ap (λ (y : Part). take i parts ++ y ∷ []) (sym is))
    ∙ (ap (run words old) (map-append piece_of (take i parts) (x ∷ []))
    ∙ (run-append words old (map piece_of (take i parts)) (piece_of x ∷ [])
    ∙ (ap (λ (u : State). step words u (piece_of x)) so ∙ goes)))

-- pieces behind those that led to a state
pub run_on : (words : Words) (front ps : List Piece) (old s : State) → run words first_state front ≡ old
    → run words old ps ≡ s → run words first_state (front ++ ps) ≡ s
run_on words front ps old s so goes =
    run-append words first_state front ps ∙ (ap (λ (u : State). run words u ps) so ∙ goes)

-- what the laws say of a pass that stops
abbrev pub AtFault : Type 0
AtFault =
    (words : Words) (kernel : Kernel) (front rest : List Piece) (fault : Fault) → KernelFits 64 256 kernel
    → pieces 0 (kernel_elements kernel) ≡ front ++ rest
    → first (run words first_state front).faults ≡ Some fault → first (faults_of words kernel) ≡ Some fault

abbrev pub AtArray : Type 0
AtArray =
    (words : Words) (kernel : Kernel) (front rest : List Piece) (mark : Mark) (at : ℕ) (fault : Fault)
    → KernelFits 64 256 kernel → pieces 0 (kernel_elements kernel) ≡ front ++ mark_at mark at ∷ rest
    → first (settled words (run words first_state front)).faults ≡ Some fault
    → first (faults_of words kernel) ≡ Some fault

array_tells : AtArray → (words : Words) (k : Kernel) (front rest : List Piece) (p : Piece) (f : Fault)
    → KernelFits 64 256 k → pieces 0 (kernel_elements k) ≡ front ++ p ∷ rest → IsMark p
    → first (settled words (run words first_state front)).faults ≡ Some f → first (faults_of words k) ≡ Some f
array_tells law words k front rest (mark_at m at) f fits same mark is = law words k front rest m at f fits same is
array_tells law words k front rest (nodes_from at ns) f fits same mark is = absurd mark

-- where the pass stops at a piece, it tells the kernel's first fault
pub stop_tells : AtFault → AtArray → (words : Words) (k : Kernel) (front rest : List Piece) (p : Piece) (s : State)
    (why : Stop) → KernelFits 64 256 k → pieces 0 (kernel_elements k) ≡ front ++ p ∷ rest
    → run words first_state front ≡ s
    → Tells why (step words s p).faults ⊎ (IsMark p × Tells why (settled words s).faults)
    → Tells why (faults_of words k)
stop_tells law array words k front rest p s stop.NoMemory fits same so h = tt
stop_tells law array words k front rest p s (stop.Refused f) fits same so (inl h) =
    law words k (front ++ p ∷ []) rest f fits (same ∙ sym (append_assoc front (p ∷ []) rest))
    (ap (λ (t : State). first t.faults)
    (run-append words first_state front (p ∷ []) ∙ ap (λ (u : State). step words u p) so)
    ∙ h)
stop_tells law array words k front rest p s (stop.Refused f) fits same so (inr h) =
    array_tells array words k front rest p f fits same h.0
    (ap (λ (u : State). first (settled words u).faults) so ∙ h.1)
