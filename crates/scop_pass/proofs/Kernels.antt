-- The pass over all pieces of a kernel: its faults, and its program.
use Rattle.scop_syntax.proofs.Common.{◌≡◌, ℕ, zero, suc, ◌+◌, List, [], ◌∷◌, ◌++◌, length, map, refl, ap, ◌∙◌}
use Rattle.scop_syntax.proofs.Common.{append_assoc, trees_of}
use Rattle.scop_grammar.specs.declared.part.Mark.TheVariants as kept
use Rattle.scop_grammar.specs.Kernel.{Element, pieces, Kernel, KernelFits, kernel_elements, begins, ends}
use Rattle.scop_grammar.specs.Kernel.{parameter_elements, other_parameters, declarations, all_elements}
use Rattle.scop_units.specs.Bytes.{Text}
use Rattle.scop_units.specs.Words.{Words}
use Rattle.scop_units.specs.Scopes.{Scope, no_scope, with_iterator}
use Rattle.scop_units.specs.Units.{kernel_name_faults, declared_over}
use Rattle.scop_units.specs.Judging.{width, parameter_faults, parameters_faults, declared_faults, items_faults}
use Rattle.scop_units.specs.Judging.{behind_names, names_end, behind_declared, others_at, declared_at, items_at}
use Rattle.scop_units.specs.Judging.{first_scope, header_scope, body_scope, faults_of}
use Rattle.scop_units.specs.Programs.{program_spelled, arrays_of}
use Rattle.scop_pass.specs.Machine.{State, completed, first_state, named, run, program_at}
use Rattle.scop_pass.specs.Machine as machine
use Rattle.scop_pass.proofs.Pieces.{pieces-append}
use Rattle.scop_pass.proofs.PieceRuns.{run-append, run-elements}
use Rattle.scop_pass.proofs.Items.{under, with_items, items-run}
use Rattle.scop_pass.proofs.Headers.{with_parameter, with_parameters, with_declared, half, parameter-run, half-flushes}
use Rattle.scop_pass.proofs.Headers.{parameters-run, declarations-run}

-- the states behind the name, the first parameter, the header, the declarations and the items
abbrev pub at_name : Words → State
at_name words = named words first_state 1

abbrev pub at_first : Words → Kernel → State
at_first words k = with_parameter words (at_name words) 3 k.first

abbrev pub at_header : Words → Kernel → State
at_header words k = with_parameters words (at_first words k) (others_at k) k.others

abbrev pub at_declared : Words → Kernel → State
at_declared words k = with_declared words (at_header words k) (declared_at k) k.declared

abbrev pub at_items : Words → Kernel → State
at_items words k = with_items words (at_declared words k) (items_at k) k.items

-- the elements behind the header's brace, and behind the declarations
abbrev pub body_elements : Kernel → List Element
body_elements k = declarations k.declared ++ (all_elements k.items ++ ends ∷ [])

pub body-run : (d n : ℕ) (words : Words) (k : Kernel) → KernelFits d n k
    → run words (under (at_header words k) []) (pieces (declared_at k) (body_elements k))
    ≡ completed [] (under (at_items words k) [])
body-run d n words k fits =
    let s = record (at_header words k) { frames = machine.block ∷ [] } in
    let rest = all_elements k.items ++ ends ∷ [] in
    run-elements words (under (at_header words k) []) (declared_at k) (declarations k.declared) rest
    ∙ (ap (λ (x : State). run words x (pieces (items_at k) rest)) (declarations-run words s (declared_at k) k.declared)
    ∙ (run-elements words (under (at_declared words k) []) (items_at k) (all_elements k.items) (ends ∷ [])
    ∙ ap (λ (x : State). run words x (pieces (items_at k + width (all_elements k.items)) (ends ∷ [])))
    (items-run d n words (at_declared words k) [] (items_at k) k.items fits.items)))

pub kernel-run : (d n : ℕ) (words : Words) (k : Kernel) → KernelFits d n k
    → run words first_state (pieces 0 (kernel_elements k)) ≡ completed [] (under (at_items words k) [])
kernel-run d n words k fits =
    let s = at_name words in
    let es = pieces 3 (parameter_elements k.first) in
    let others = pieces (others_at k) (other_parameters k.others) in
    let brace = others_at k + width (other_parameters k.others) in
    let rest = pieces (brace + 1) (body_elements k) in
    ap (run words s)
    (pieces-append 3 (parameter_elements k.first) (other_parameters k.others ++ begins ∷ body_elements k))
    ∙ (run-append words s es (pieces (others_at k) (other_parameters k.others ++ begins ∷ body_elements k))
    ∙ (ap (λ (x : State). run words x (pieces (others_at k) (other_parameters k.others ++ begins ∷ body_elements k)))
    (parameter-run words s 3 k.first)
    ∙ (ap (run words (half words s 3 k.first))
    (pieces-append (others_at k) (other_parameters k.others) (begins ∷ body_elements k))
    ∙ (parameters-run words (half words s 3 k.first) (at_first words k) (others_at k) k.others
    (half-flushes words s 3 k.first) kept.Begin brace rest
    ∙ body-run d n words k fits))))

-- the faults that the pass finds
pub run-faults : (d n : ℕ) (words : Words) (k : Kernel) → KernelFits d n k
    → (run words first_state (pieces 0 (kernel_elements k))).faults ≡ faults_of words k
run-faults d n words k fits =
    let a = kernel_name_faults words 1 in
    let b = parameter_faults words no_scope 3 k.first in
    let c = parameters_faults words (first_scope words k) (others_at k) k.others in
    let e = declared_faults words (header_scope words k) (declared_at k) k.declared in
    let f = items_faults words (body_scope words k) 0 0 (items_at k) k.items in
    ap (λ (s : State). s.faults) (kernel-run d n words k fits)
    ∙ (append_assoc (((a ++ b) ++ c)) e f ∙ (append_assoc (a ++ b) c (e ++ f) ∙ append_assoc a b (c ++ (e ++ f))))

-- declarations add no parameters
pub names-parameters : (words : Words) (s : Scope) (at k : ℕ) → (behind_names words s at k).parameters ≡ s.parameters
names-parameters words s at zero = refl
names-parameters words s at (suc k) =
    names-parameters words (with_iterator s (words.spelling (at + 1))) (at + 1 + 1) k

pub declared-parameters : (words : Words) (s : Scope) (at : ℕ) (ks : List ℕ)
    → (behind_declared words s at ks).parameters ≡ s.parameters
declared-parameters words s at [] = refl
declared-parameters words s at (k ∷ ks) =
    let t = with_iterator s (words.spelling (at + 1)) in
    let u = behind_names words t (at + 1 + 1) k in
    declared-parameters words u (names_end (at + 1 + 1) k + 1) ks ∙ names-parameters words t (at + 1 + 1) k

-- the program that the pass makes
pub run-program : (d n : ℕ) (words : Words) (k : Kernel) → KernelFits d n k
    → program_at (run words first_state (pieces 0 (kernel_elements k))) ≡ program_spelled words k
run-program d n words k fits =
    let t = at_items words k in
    let ds = arrays_of words k in
    ap program_at (kernel-run d n words k fits)
    ∙ ap (λ (ps : List Text).
    record {
      name = words.spelling 1;
      parameters = ps;
      arrays = map (declared_over (length ps)) ds;
      body = trees_of t.trees;
    })
    (declared-parameters words (header_scope words k) (declared_at k) k.declared)
