-- A text spells one program at most, and none where it has a fault.
use Rattle.scop_syntax.proofs.Common.{◌≡◌, ℕ, List, [], ◌∷◌, ◌++◌, Bool, true, false, refl, sym, ap, subst, ◌∙◌}
use Rattle.scop_syntax.proofs.Common.{append_assoc, arith, ◌⊎◌, if◌then◌else◌, Option, Some, None, inl, inr, Program}
use Rattle.scop_lexer.specs.Bytes.{Text}
use Rattle.scop_lexer.specs.declared.token.Token.{Token}
use Rattle.scop_lexer.specs.declared.token.Fault.{Fault as TokenFault}
use Rattle.scop_lexer.specs.Tokens.{HasTokens, HasFault}
use Rattle.scop_grammar.specs.Kernel.{Piece, pieces, Kernel, kernel_elements, Spells}
use Rattle.scop_lexer.proofs.Splits.{one-list, no-fault, one-holds}
use Rattle.scop_expressions.specs.Token.{Token as Kind}
use Rattle.scop_expressions.specs.Grammar.{told_at}
use Rattle.scop_expressions.specs.declared.reader.Stop.{Stop}
use Rattle.scop_expressions.specs.declared.reader.Stop.TheVariants as stop
use Rattle.scop_grammar.specs.Kernel.{IsFront}
use Rattle.scop_grammar.specs.Turns.{IsStop}
use Rattle.scop_grammar.specs.declared.table.Want.{Want}
use Rattle.scop_grammar.specs.declared.table.Want.TheVariants as want
use Rattle.scop_grammar.specs.Machine.{Spot, first_spot, End, goes_on, stopped_at, deep_at, run as run_machine}
use Rattle.scop_grammar.specs.Machine.{whole as whole_answer, answer as machine_answer}
use Rattle.scop_grammar.specs.Claims.{IsAnswer}
use Rattle.scop_grammar.proofs.MachineAnswers.{one_reading, read_answers}
use Rattle.scop_grammar.proofs.WiderLimits.{stop-misplaced}
use Rattle.scop_roles.specs.declared.kinds.Fault.{Fault}
use Rattle.scop_roles.specs.Faults.{first, first_of, precedes}
use Rattle.scop_units.specs.Words.{start_of, words_of, grammar_tokens}
use Rattle.scop_units.specs.Judging.{faults_of}
use Rattle.scop_units.specs.Programs.{program_spelled}
use Rattle.scop_pass.specs.Machine.{first_state, run, program_at}
use Rattle.scop_roles.specs.declared.kinds.Kind.{Kind as RefusalKind}
use Rattle.scop_roles.specs.declared.kinds.Kind.TheVariants as refusal
use Rattle.scop_parser.specs.Spelling.{IsText, SpellsProgram, token_kind, IsGrammarFault, HasGrammarFault}
use Rattle.scop_parser.specs.Spelling.{IsFirstFault}
use Rattle.scop_pass.proofs.Kernels.{run-faults, run-program}

-- all kernels of a text have the same pieces
pub same-pieces : (text : Text) (ts : List Token) (k l : Kernel) → IsText text ts k → IsText text ts l
    → pieces 0 (kernel_elements k) ≡ pieces 0 (kernel_elements l)
same-pieces text ts k l x y = one_reading 64 256 (grammar_tokens ts) k l x.spells y.spells

pub same-program : (text : Text) (ts : List Token) (k l : Kernel) → IsText text ts k → IsText text ts l
    → program_spelled (words_of text ts) k ≡ program_spelled (words_of text ts) l
same-program text ts k l x y =
    let words = words_of text ts in
    sym (run-program 64 256 words k x.spells.fits)
    ∙ (ap (λ (ps : List Piece). program_at (run words first_state ps)) (same-pieces text ts k l x y)
    ∙ run-program 64 256 words l y.spells.fits)

pub same-faults : (text : Text) (ts : List Token) (k l : Kernel) → IsText text ts k → IsText text ts l
    → faults_of (words_of text ts) k ≡ faults_of (words_of text ts) l
same-faults text ts k l x y =
    let words = words_of text ts in
    sym (run-faults 64 256 words k x.spells.fits)
    ∙ (ap (λ (ps : List Piece). (run words first_state ps).faults) (same-pieces text ts k l x y)
    ∙ run-faults 64 256 words l y.spells.fits)

-- a text spells one program at most
pub one-program : (text : Text) (p q : Program) → SpellsProgram text p → SpellsProgram text q → p ≡ q
one-program text p q x y =
    let e = one-list text x.tokens y.tokens x.is_text.has y.is_text.has in
    let z = subst (λ (ts : List Token). IsText text ts y.kernel) (sym e) y.is_text in
    x.stands
    ∙ (same-program text x.tokens x.kernel y.kernel x.is_text z
    ∙ (ap (λ (ts : List Token). program_spelled (words_of text ts) y.kernel) e ∙ sym y.stands))

-- a front with which no text begins is in front of none
no-front : (d n : ℕ) (ts front : List Kind) (t : Kind) (rest : List Kind) (k : Kernel) → ts ≡ front ++ t ∷ rest
    → (IsFront d n (front ++ t ∷ []) → ⊥) → Spells d n ts k → ⊥
no-front d n ts front t rest k e never x =
    let split : ts ≡ (front ++ t ∷ []) ++ rest = e ∙ sym (append_assoc front (t ∷ []) rest) in
    never (rest, k, subst (λ (us : List Kind). Spells d n us k) split x)

-- only want of memory stops the grammar in the tokens of a kernel
pub no-stop : (ts : List Kind) (k : Kernel) (e : Stop) → IsStop 64 256 ts e → Spells 64 256 ts k → e ≡ stop.NoMemory
no-stop ts k (stop.Unfit at) x spells =
    let f = x 64 256 (omega arith) (omega arith) in
    absurd (no-front 64 256 ts f.front f.token f.rest k f.split f.unfit spells)
no-stop ts k (stop.Unended at) x spells = absurd (x.incomplete k spells)
no-stop ts k (stop.Depth at) x spells = absurd (no-front 64 256 ts x.front x.token x.rest k x.split x.deep spells)
no-stop ts k stop.NoMemory x spells = refl

-- no kernel is spelled where the grammar has a fault
pub no-kernel : (text : Text) (c : RefusalKind) (at : ℕ) (ts : List Token) (k : Kernel) → HasGrammarFault text c at
    → IsText text ts k → ⊥
no-kernel text c at ts k x y = by_fault x.fault
  where
    us : List Kind
    us = grammar_tokens x.tokens

    spells : Spells 64 256 us k
    spells = subst (λ (vs : List Token). Spells 64 256 (grammar_tokens vs) k) (one-list text ts x.tokens y.has x.has)
        y.spells

    by_fault : IsGrammarFault us c x.number → ⊥
    by_fault (inl (e, f)) = let same = no-stop us k (stop.Unfit x.number) f spells in absurd (cc)
    by_fault (inr (inl (e, f))) = let same = no-stop us k (stop.Unended x.number) f spells in absurd (cc)
    by_fault (inr (inr (e, f))) = let same = no-stop us k (stop.Depth x.number) f spells in absurd (cc)

-- a text with a fault spells no program
pub no-program : (text : Text) (c : RefusalKind) (at : ℕ) (p : Program) → IsFirstFault text c at
    → SpellsProgram text p → ⊥
no-program text c at p (inl x) y = no-fault text y.tokens x.fault y.is_text.has x.has
no-program text c at p (inr (inl x)) y = no-kernel text c at y.tokens y.kernel x y.is_text
no-program text c at p (inr (inr x)) y =
    let e = one-list text y.tokens x.tokens y.is_text.has x.is_text.has in
    let z = subst (λ (ts : List Token). IsText text ts y.kernel) e y.is_text in
    let none : faults_of (words_of text x.tokens) y.kernel ≡ [] =
    subst (λ (ts : List Token). faults_of (words_of text ts) y.kernel ≡ []) e y.faultless in
    let same = same-faults text x.tokens x.kernel y.kernel x.is_text z ∙ none in
    let some : None ≡ Some x.fault = ap first (sym same) ∙ x.first in
    absurd (cc)

-- a text spells a program, or has a first fault
abbrev pub Decided : Text → Type 0
Decided text = ((p : Program) × SpellsProgram text p) ⊎ ((c : RefusalKind) × (at : ℕ) × IsFirstFault text c at)

one-of : (b : Bool) (f g : Fault) → (if b then Some f else Some g) ≡ None → ⊥
one-of true f g e = absurd (cc)
one-of false f g e = absurd (cc)

some-first : (f : Fault) (o : Option Fault) → first_of (Some f) o ≡ None → ⊥
some-first f None e = absurd (cc)
some-first f (Some g) e = one-of (precedes g f) g f e

by-faults : (text : Text) (ts : List Token) (k : Kernel) (fs : List Fault) (f : Option Fault) → IsText text ts k
    → faults_of (words_of text ts) k ≡ fs → first fs ≡ f → Decided text
by-faults text ts k [] f x e g =
    inl (
      program_spelled (words_of text ts) k,
      record { tokens = ts; kernel = k; is_text = x; faultless = e; stands = refl },
    )
by-faults text ts k (h ∷ fs) (Some f) x e g =
    let found = ap first e ∙ g in
    inr (
      f.kind,
      start_of text ts f.place,
      inr (inr (record { tokens = ts; kernel = k; is_text = x; fault = f; first = found; kind = refl; place = refl })),
    )
by-faults text ts k (h ∷ fs) None x e g = absurd (some-first h (first fs) g)

-- where the machine stops a text goes on so with no limits
by-stop : (text : Text) (ts : List Token) (s : Spot) → HasTokens text ts
    → run_machine 64 256 first_spot (grammar_tokens ts) ≡ stopped_at s → Decided text
by-stop text ts s h e =
    let unfit = stop-misplaced 64 256 (grammar_tokens ts) s (omega arith) e in
    inr (
      refusal.Token,
      start_of text ts s.at,
      inr (inl (record { tokens = ts; has = h; number = s.at; fault = inl (refl, unfit); place = refl })),
    )

by-whole : (text : Text) (ts : List Token) (w : Want) (ps : List Piece) (at : ℕ) → HasTokens text ts
    → IsAnswer 64 256 (grammar_tokens ts) (whole_answer w ps at) → Decided text
by-whole text ts want.Over ps at h x =
    let words = words_of text ts in
    let is : IsText text ts x.kernel = record { has = h; spells = x.spells } in
    by-faults text ts x.kernel (faults_of words x.kernel) (first (faults_of words x.kernel)) is refl refl
by-whole text ts w ps at h x =
    inr (
      refusal.Unended,
      start_of text ts at,
      inr (inl (record { tokens = ts; has = h; number = at; fault = inr (inl (refl, x)); place = refl })),
    )

by-end : (text : Text) (ts : List Token) (o : End) → HasTokens text ts
    → run_machine 64 256 first_spot (grammar_tokens ts) ≡ o
    → IsAnswer 64 256 (grammar_tokens ts) (machine_answer o) → Decided text
by-end text ts (goes_on s) h e x = by-whole text ts s.want s.pieces s.at h x
by-end text ts (stopped_at s) h e x = by-stop text ts s h e
by-end text ts (deep_at s t) h e x =
    inr (
      refusal.Depth,
      start_of text ts (told_at t s.at),
      inr (inl (record { tokens = ts; has = h; number = told_at t s.at; fault = inr (inr (refl, x)); place = refl })),
    )

by-tokens : (text : Text)
    → ((ts : List Token) × HasTokens text ts) ⊎ ((fault : TokenFault) × HasFault text fault) → Decided text
by-tokens text (inl (ts, h)) =
    let us = grammar_tokens ts in
    by-end text ts (run_machine 64 256 first_spot us) h refl (read_answers 64 256 us (omega arith))
by-tokens text (inr (f, h)) =
    inr (token_kind f.kind, f.place, inl (record { fault = f; has = h; kind = refl; place = refl }))

pub decided : (text : Text) → Decided text
decided text = by-tokens text (one-holds text)
