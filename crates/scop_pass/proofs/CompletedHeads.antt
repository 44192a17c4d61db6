-- Heads that are completed one by one: the machine's completion from that of the innermost.
use Rattle.scop_syntax.proofs.Common.{◌≡◌, ℕ, ◌-◌, List, [], ◌∷◌, ◌++◌, length, take, None, Result, Ok, Err, inl, refl}
use Rattle.scop_syntax.proofs.Common.{sym, ap, ◌∙◌, arith, Test, Head, Tree, nat_le, nat_lt, slice_get}
use Rattle.scop_units.specs.Bytes.{Text}
use Rattle.scop_syntax.specs.Tree as scop
use Rattle.scop_roles.specs.declared.kinds.Fault.{Fault}
use Rattle.scop_pass.specs.Machine.{Frame, block, guarded, looped, idle, State, unwound, completed, complete, expects}
use Rattle.scop_pass.specs.Machine.{step, without_loop}
use Rattle.scop_pass.specs.Passing.{Comes, Steps, frames_of}
use Rattle.scop_units.specs.Words.{Words}
use Rattle.scop_grammar.specs.Kernel.{Piece}
use Rattle.scop_pass.specs.declared.frames.Frame.{Frame as CodeFrame}
use Rattle.scop_pass.specs.declared.pass.Stop.{Stop}
use Rattle.scop_roles.specs.declared.kinds.Kind.TheVariants as kind
use Rattle.scop_roles.specs.Formula.{place}
use Rattle.scop_roles.specs.Faults.{first, told, only_where}
use Rattle.scop_units.specs.Units.{Stored, statement_faults, stored_faults, read_limit, reads_of}
use Rattle.scop_units.specs.Programs.{wrapped}

-- nothing that completes has faults, or leaves anything in hand
pub unwound_faults : (fs : List Frame) (s : State) → (unwound fs s).faults ≡ s.faults
unwound_faults [] s = refl
unwound_faults (block ∷ fs) s = refl
unwound_faults (guarded ts outer ∷ fs) s = unwound_faults fs _
unwound_faults (looped h outer ∷ fs) s = unwound_faults fs _

pub unwound_pending : (fs : List Frame) (s : State) → (unwound fs s).pending ≡ s.pending
unwound_pending [] s = refl
unwound_pending (block ∷ fs) s = refl
unwound_pending (guarded ts outer ∷ fs) s = unwound_pending fs _
unwound_pending (looped h outer ∷ fs) s = unwound_pending fs _

-- the innermost head is completed
pub close_guard :
    (s : State) (ts : List Test) (outer trees : List Tree) (fs : List Frame) (c : ℕ)
    → s.frames ≡ guarded ts outer ∷ fs → c ≡ s.comparisons - length ts
    → trees ≡ outer ++ wrapped (scop.guard ts) s.trees
    → completed fs (record s { comparisons = c; trees = trees }) ≡ complete s
close_guard s ts outer trees fs c is counts grown =
    ap (λ (n : ℕ). completed fs (record s { comparisons = n; trees = trees })) counts
    ∙ (ap (λ (us : List Tree). completed fs (record s { comparisons = s.comparisons - length ts; trees = us })) grown
    ∙ ap (λ (gs : List Frame). completed gs s) (sym is))

pub close_loop :
    (s : State) (h : Head) (outer trees : List Tree) (fs : List Frame) (names : List Text)
    → s.frames ≡ looped h outer ∷ fs → names ≡ take (length s.scope.open_loops - 1) s.scope.open_loops
    → trees ≡ outer ++ wrapped (scop.loop h) s.trees
    → completed fs (record s { scope = record s.scope { open_loops = names }; trees = trees }) ≡ complete s
close_loop s h outer trees fs names is left grown =
    ap (λ (n : List Text). completed fs (record s { scope = record s.scope { open_loops = n }; trees = trees })) left
    ∙ (ap (λ (us : List Tree). completed fs (record s { scope = without_loop s.scope; trees = us })) grown
    ∙ ap (λ (gs : List Frame). completed gs s) (sym is))

none_long : (fs : List CodeFrame) → length fs ≡ 0 → frames_of fs ≡ []
none_long [] h = refl
none_long (f ∷ fs) h = absurd (omega (arith, h))

-- where the code has no frame left, nothing is
pub nothing_left : (s : State) (fs : List CodeFrame) → s.frames ≡ frames_of fs → length fs ≡ 0
    → complete s ≡ expects s idle
nothing_left s fs is none =
    let e = is ∙ none_long fs none in
    ap (λ (gs : List Frame). completed gs s) e
    ∙ ap (λ (gs : List Frame). record s { frames = gs; pending = idle }) (sym e)

-- without faults there is none in front
pub front_empty : (fs gs : List Fault) → fs ++ gs ≡ [] → first fs ≡ None
front_empty [] gs h = refl
front_empty (f ∷ fs) gs h = absurd cc

-- what comes to the next state steps there
pub steps_of : {A : Type 0} (r : Result A Stop) (words : Words) (old new : State) (p : Piece)
    → Comes r new (step words old p) → Steps r words old new p
steps_of (Ok a) words old new p h = h
steps_of (Err s) words old new p h = inl h

-- a statement without faults has none in its parts
pub statement_front : (n comparisons before : ℕ) (x : Stored) → statement_faults n comparisons before x ≡ []
    → first (stored_faults n x) ≡ None
statement_front n comparisons before x h =
    front_empty (stored_faults n x)
    (read_limit (slice_get (reads_of x) 16)
    ++ (told (place x.cell) (only_where (nat_lt 16 comparisons) kind.Depth)
    ++ told (place x.cell) (only_where (nat_le 32 before) kind.Statements)))
    h
