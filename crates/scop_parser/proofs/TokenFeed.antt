-- The grammar's reader fed token by token, its pieces taken out as they come, and the pass that takes them.
use Rattle.scop_syntax.proofs.Common.{◌≡◌, ℕ, ◌+◌, ◌<◌, ◌≤◌, ◌^◌, List, [], ◌∷◌, ◌++◌, length, get_or, drop, refl, sym}
use Rattle.scop_syntax.proofs.Common.{ap, ◌∙◌, subst, append_assoc, append-nil, arith, Result, Ok, Err, drop_all}
use Rattle.scop_syntax.proofs.Common.{length-map}
use Rattle.std.proofs.Math.ListN.{get_or-map}
use Rattle.scop_expressions.specs.declared.reader.Stop.{Stop}
use Rattle.scop_expressions.specs.declared.reader.Stop.TheVariants as fault
use Rattle.scop_expressions.specs.Token.{Token}
use Rattle.scop_grammar.specs.declared.reader.Text.{Text as Parts}
use Rattle.scop_grammar.specs.declared.table.Want.{Want}
use Rattle.scop_grammar.specs.declared.table.Want.TheVariants as want
use Rattle.scop_grammar.specs.Claims.{IsAnswer}
use Rattle.scop_grammar.specs.Kernel.{Kernel, Piece, Spells, kernel_elements, pieces}
use Rattle.scop_grammar.specs.Machine.{Spot, first_spot, Answer, turn, run, goes_on, whole, answer, read}
use Rattle.scop_grammar.specs.Turns.{behind, Feeds, Gives, IsStop}
use Rattle.scop_grammar.proofs.FrontPieces.{feeds_behind, run_front, whole_front}
use Rattle.scop_grammar.proofs.MachineAnswers.{read_answers, spelled_read}
use Rattle.scop_grammar.proofs.MachineLoop.{Runs, runs_first, runs_left, runs_on, feeds_on, gives_fault, tells_stop}
use Rattle.scop_lexer.specs.Bytes.{Text}
use Rattle.scop_lexer.specs.Tokens.{token_at, tokens_at}
use Rattle.scop_lexer.specs.declared.token.Token.{Token as Lexeme}
use Rattle.scop_units.specs.Judging.{faults_of}
use Rattle.scop_units.specs.Programs.{program_spelled}
use Rattle.scop_units.specs.Words.{Words, grammar_tokens}
use Rattle.scop_pass.specs.Machine as machine
use Rattle.scop_pass.specs.Machine.{State, first_state, program_at}
use Rattle.scop_pass.specs.Passing.{ComeNext}
use Rattle.scop_pass.proofs.Kernels.{run-faults, run-program}

-- the token that begins at a start, as the grammar sees it
abbrev pub seen : Text → ℕ → Token
seen text start = (token_at text start).kind

-- all of them
abbrev pub all_seen : Text → List ℕ → List Token
all_seen text starts = grammar_tokens (tokens_at text starts)

-- it is the one of that number
seen_at : (text : Text) (starts : List ℕ) (i : ℕ) (t : Token) → t ≡ seen text (get_or starts i 0)
    → get_or (all_seen text starts) i (seen text 0) ≡ t
seen_at text starts i t is =
    let kind : Lexeme → Token = λ (u : Lexeme). u.kind in
    get_or-map kind (tokens_at text starts) i (token_at text 0)
    ∙ (ap kind (get_or-map (token_at text) starts i 0) ∙ sym is)

-- there are as many as starts
seen_count : (text : Text) (starts : List ℕ) → length (all_seen text starts) ≡ length starts
seen_count text starts =
    length-map (tokens_at text starts) (λ (t : Lexeme). t.kind) ∙ length-map starts (token_at text)

-- the reader stands behind so many tokens, its own pieces behind those that were taken
abbrev pub Fed : List Token → List Piece → ℕ → Spot → Type 0
Fed ts done i s = Runs 64 256 ts i (behind done s)

pub fed_first : (ts : List Token) (s : Spot) → s ≡ first_spot → Fed ts [] 0 s
fed_first ts s is = subst (λ (p : Spot). Fed ts [] 0 p) (sym is) (runs_first 64 256 ts)

-- one token more
pub fed_on : {A : Type 0} (text : Text) (starts : List ℕ) (done : List Piece) (i : ℕ) (s next : Spot) (t : Token)
    (r : Result A Stop) (a : A) → Fed (all_seen text starts) done i s → i < length starts
    → t ≡ seen text (get_or starts i 0) → r ≡ Ok a → Feeds r s next t (turn 64 256 s t)
    → Fed (all_seen text starts) done (i + 1) next
fed_on text starts done i s next t r a fed lt is ok goes =
    let old = behind done s in
    let new = behind done next in
    let on = feeds_on r a old new t (turn 64 256 old t) ok (feeds_behind 64 256 done r s next t goes) in
    let below = subst (λ (n : ℕ). i < n) (sym (seen_count text starts)) lt in
    runs_on 64 256 (all_seen text starts) i old new (seen text 0) (omega arith) fed below
    (ap (turn 64 256 old) (seen_at text starts i t is) ∙ on)

-- the pieces are taken out
pub fed_taken : (ts : List Token) (done : List Piece) (i : ℕ) (s rest : Spot) → Fed ts done i s
    → rest ≡ record s { pieces = [] } → Fed ts (done ++ s.pieces) i rest
fed_taken ts done i s rest fed is =
    let all = done ++ s.pieces in
    let bare =
    subst (λ (qs : List Piece). Runs 64 256 ts i (record s { pieces = qs })) (sym (append-nil all)) fed in
    subst (λ (p : Spot). Fed ts all i p) (sym is) bare

-- where the reader stops, its fault is told
pub fed_stops : {A : Type 0} (text : Text) (starts : List ℕ) (done : List Piece) (i : ℕ) (s next : Spot) (t : Token)
    (r : Result A Stop) (e : Stop) → Fed (all_seen text starts) done i s → i < length starts
    → t ≡ seen text (get_or starts i 0) → r ≡ Err e → Feeds r s next t (turn 64 256 s t)
    → IsStop 64 256 (all_seen text starts) e
fed_stops text starts done i s next t r e fed lt is err goes =
    let ts = all_seen text starts in
    let old = behind done s in
    let below = subst (λ (n : ℕ). i < n) (sym (seen_count text starts)) lt in
    let left =
    ap (λ (u : Token). run 64 256 old (u ∷ drop (i + 1) ts)) (sym (seen_at text starts i t is))
    ∙ runs_left 64 256 ts i old (seen text 0) fed below in
    tells_stop 64 256 ts (Err e) (omega arith)
    (gives_fault 64 256 ts (drop (i + 1) ts) old (behind done next) t r e err
    (feeds_behind 64 256 done r s next t goes) left)

-- behind the last token
fed_end : (text : Text) (starts : List ℕ) (done : List Piece) (i : ℕ) (s : Spot)
    → Fed (all_seen text starts) done i s → length starts ≤ i
    → read 64 256 (all_seen text starts) ≡ whole s.want (done ++ s.pieces) s.at
fed_end text starts done i s fed past =
    let beyond = subst (λ (n : ℕ). n ≤ i) (sym (seen_count text starts)) past in
    ap answer (sym fed.run ∙ ap (run 64 256 (behind done s)) (drop_all i (all_seen text starts) beyond))

-- how a text ends, whatever its pieces
abbrev pub Ends : Result Parts Stop → Answer → Type 0
Ends (Ok parts) a = (all : List Piece) × (a ≡ Ok all)
Ends (Err e) a = Gives (Err e) a

ends_behind : (w : Want) (ps qs : List Piece) (at : ℕ) (r : Result Parts Stop) → Gives r (whole w qs at)
    → Ends r (whole w (ps ++ qs) at)
ends_behind want.Over ps qs at (Ok parts) h = (ps ++ qs, refl)
ends_behind want.Over ps qs at (Err (fault.Unfit k)) h = absurd cc
ends_behind want.Over ps qs at (Err (fault.Unended k)) h = absurd cc
ends_behind want.Over ps qs at (Err (fault.Depth k)) h = absurd cc
ends_behind want.Over ps qs at (Err fault.NoMemory) h = tt
ends_behind w ps qs at (Ok parts) h = absurd cc
ends_behind w ps qs at (Err e) h = h

fed_ends : (text : Text) (starts : List ℕ) (done : List Piece) (i : ℕ) (s : Spot) (r : Result Parts Stop)
    → Fed (all_seen text starts) done i s → length starts ≤ i → Gives r (answer (goes_on s))
    → Ends r (read 64 256 (all_seen text starts))
fed_ends text starts done i s r fed past gives =
    subst (λ (a : Answer). Ends r a) (sym (fed_end text starts done i s fed past))
    (ends_behind s.want done s.pieces s.at r gives)

-- a text that is whole is a kernel's
pub whole_kernel : (text : Text) (starts : List ℕ) (done : List Piece) (i : ℕ) (s : Spot) (r : Result Parts Stop)
    (parts : Parts) → Fed (all_seen text starts) done i s → length starts ≤ i → Gives r (answer (goes_on s))
    → r ≡ Ok parts → (k : Kernel) × Spells 64 256 (all_seen text starts) k
whole_kernel text starts done i s r parts fed past gives ok =
    let ts = all_seen text starts in
    let ends =
    subst (λ (x : Result Parts Stop). Ends x (read 64 256 ts)) ok (fed_ends text starts done i s r fed past gives) in
    let told : IsAnswer 64 256 ts (Ok ends.0) =
    subst (λ (a : Answer). IsAnswer 64 256 ts a) ends.1 (read_answers 64 256 ts (omega arith)) in
    (told.kernel, told.spells)

-- one that is not has the fault that is told
pub early_stops : (text : Text) (starts : List ℕ) (done : List Piece) (i : ℕ) (s : Spot) (r : Result Parts Stop)
    (e : Stop) → Fed (all_seen text starts) done i s → length starts ≤ i → Gives r (answer (goes_on s)) → r ≡ Err e
    → IsStop 64 256 (all_seen text starts) e
early_stops text starts done i s r e fed past gives err =
    let ts = all_seen text starts in
    let ends =
    subst (λ (x : Result Parts Stop). Ends x (read 64 256 ts)) err (fed_ends text starts done i s r fed past gives) in
    tells_stop 64 256 ts (Err e) (omega arith) ends

-- the reader's pieces come next among a kernel's
pub next_pieces : (ts : List Token) (done : List Piece) (k : Kernel) (i : ℕ) (s : Spot) → Fed ts done i s
    → Spells 64 256 ts k
    → (rest : List Piece) × (pieces 0 (kernel_elements k) ≡ done ++ (s.pieces ++ rest))
next_pieces ts done k i s fed spells =
    let all = pieces 0 (kernel_elements k) in
    let front =
    run_front 64 256 (behind done s) (drop i ts) all (ap answer fed.run ∙ spelled_read 64 256 ts k spells) in
    (front.0, sym front.1 ∙ append_assoc done s.pieces front.0)

pub come_next : (words : Words) (text : Text) (starts : List ℕ) (done : List Piece) (k : Kernel) (i : ℕ) (s : Spot)
    (p : State) → Fed (all_seen text starts) done i s → Spells 64 256 (all_seen text starts) k
    → length starts ≤ 2 ^ 63 → machine.run words first_state done ≡ p → ComeNext words p s.pieces
come_next words text starts done k i s p fed spells few so =
    let next = next_pieces (all_seen text starts) done k i s fed spells in
    let room = subst (λ (n : ℕ). n ≤ 2 ^ 63) (sym (seen_count text starts)) few in
    record {
      kernel = k;
      fits = spells.fits;
      room = subst (λ (us : List Token). length us ≤ 2 ^ 63) spells.tokens room;
      front = done;
      rest = next.0;
      is = next.1;
      so = so;
    }

-- the pass has taken all pieces so far
pub record Passed (words : Words) (ts : List Token) (i : ℕ) (s : Spot) (p : State) : Type 0 where
  pub done : List Piece
  pub fed : Fed ts done i s
  pub bare : s.pieces ≡ []
  pub so : machine.run words first_state done ≡ p

pub passed_first : (words : Words) (ts : List Token) (s : Spot) (p : State) → s ≡ first_spot → p ≡ first_state
    → Passed words ts 0 s p
passed_first words ts s p is so =
    record { done = []; fed = fed_first ts s is; bare = ap (λ (q : Spot). q.pieces) is; so = sym so }

pub passed_on : (words : Words) (ts : List Token) (done : List Piece) (i : ℕ) (s rest : Spot) (p : State)
    → Fed ts done i s → rest ≡ record s { pieces = [] } → machine.run words first_state (done ++ s.pieces) ≡ p
    → Passed words ts i rest p
passed_on words ts done i s rest p fed is so =
    record {
      done = done ++ s.pieces;
      fed = fed_taken ts done i s rest fed is;
      bare = ap (λ (q : Spot). q.pieces) is;
      so = so;
    }

-- behind the last token it has judged the kernel
pub all_passed : (words : Words) (text : Text) (starts : List ℕ) (k : Kernel) (i : ℕ) (s : Spot) (p : State)
    → Spells 64 256 (all_seen text starts) k → Passed words (all_seen text starts) i s p → length starts ≤ i
    → (faults_of words k ≡ p.faults) × (program_at p ≡ program_spelled words k)
all_passed words text starts k i s p spells passed past =
    let done = passed.done in
    let all = pieces 0 (kernel_elements k) in
    let is : done ++ s.pieces ≡ all =
    whole_front s.want done s.pieces all s.at
    (sym (fed_end text starts done i s passed.fed past) ∙ spelled_read 64 256 (all_seen text starts) k spells) in
    let whole : all ≡ done = sym is ∙ (ap (λ (qs : List Piece). done ++ qs) passed.bare ∙ append-nil done) in
    let so = ap (machine.run words first_state) whole ∙ passed.so in (
      sym (run-faults 64 256 words k spells.fits) ∙ ap (λ (t : State). t.faults) so,
      ap program_at (sym so) ∙ run-program 64 256 words k spells.fits,
    )
