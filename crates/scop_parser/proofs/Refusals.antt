-- A text has one first fault at most.
use Rattle.scop_syntax.proofs.Common.{◌≡◌, ℕ, ◌+◌, List, [], ◌∷◌, ◌++◌, length, sym, ap, subst, ◌∙◌, append_assoc}
use Rattle.scop_syntax.proofs.Common.{arith, inl, inr, Some, take}
use Rattle.scop_lexer.specs.Bytes.{Text}
use Rattle.scop_lexer.specs.Lines.{line_behind, column_behind}
use Rattle.scop_lexer.specs.declared.token.Fault.{Fault as TokenFault}
use Rattle.scop_lexer.specs.declared.token.Token.{Token as Lexeme}
use Rattle.scop_lexer.proofs.Splits.{one-list, no-fault, one-fault}
use Rattle.scop_expressions.specs.Token.{Token}
use Rattle.scop_expressions.specs.Grammar.{told_at}
use Rattle.scop_grammar.specs.Kernel.{IsFront}
use Rattle.scop_grammar.specs.Promises.{IsUnfit, IsMisplaced, IsUnended, IsTooDeep}
use Rattle.scop_roles.specs.declared.kinds.Fault.{Fault}
use Rattle.scop_roles.specs.Faults.{first}
use Rattle.scop_parser.specs.declared.refusal.Refusal.{Refusal}
use Rattle.scop_roles.specs.declared.kinds.Kind.{Kind as RefusalKind}
use Rattle.scop_units.specs.Words.{start_of, words_of, grammar_tokens}
use Rattle.scop_units.specs.Judging.{faults_of}
use Rattle.scop_parser.specs.Spelling.{IsText, token_kind, IsGrammarFault, IsFirstFault, IsRefusedAs}
use Rattle.scop_parser.proofs.Fronts.{front-more, front-shorter, one-break, one-split}
use Rattle.scop_parser.proofs.UniquePrograms.{no-kernel, same-faults}

unfit-once : (d n : ℕ) (ts : List Token) (a b : ℕ) → IsUnfit d n ts a → IsUnfit d n ts b → a ≡ b
unfit-once d n ts a b x y =
    let same = one-break d n [] x.front y.front x.token y.token x.rest y.rest (sym x.split ∙ y.split) x.fits x.unfit
    y.fits y.unfit in
    x.place ∙ (ap (λ (f : List Token). length f) same.0 ∙ sym y.place)

deep-once : (d n : ℕ) (ts : List Token) (a b : ℕ) → IsTooDeep d n ts a → IsTooDeep d n ts b → a ≡ b
deep-once d n ts a b x y =
    let same = one-break d n [] x.front y.front x.token y.token x.rest y.rest (sym x.split ∙ y.split) x.fits x.deep
    y.fits y.deep in
    x.place
    ∙ (ap (λ (f : List Token). told_at x.token (length f)) same.0
    ∙ (ap (λ (t : Token). told_at t (length y.front)) same.1 ∙ sym y.place))

-- a token that only texts beyond the limits have is not misplaced
not-misplaced : (ts : List Token) (a b : ℕ) → IsMisplaced 64 256 ts a → IsTooDeep 64 256 ts b → ⊥
not-misplaced ts a b u x =
    let v = u 64 256 (omega arith) (omega arith) in
    let far = x.without_limits in
    let z = u (far.0 + 64) (far.1 + 256) (omega arith) (omega arith) in
    let near = one-break 64 256 [] v.front x.front v.token x.token v.rest x.rest (sym v.split ∙ x.split) v.fits v.unfit
    x.fits x.deep in
    let long : length z.front ≡ length x.front =
    sym z.place ∙ (v.place ∙ ap (λ (f : List Token). length f) near.0) in
    let same = one-split z.front x.front z.token x.token z.rest x.rest (sym z.split ∙ x.split) long in
    let wide = front-more far.0 far.1 (far.0 + 64) (far.1 + 256) (x.front ++ x.token ∷ []) (omega arith) (omega arith)
    far.2 in
    let fronts : x.front ++ x.token ∷ [] ≡ z.front ++ z.token ∷ [] =
    sym (ap (λ (f : List Token). f ++ z.token ∷ []) same.0 ∙ ap (λ (t : Token). x.front ++ t ∷ []) same.1) in
    z.unfit (subst (λ (us : List Token). IsFront (far.0 + 64) (far.1 + 256) us) fronts wide)

-- a text whose tokens all fit has no token that does not
all-fit-none : (d n : ℕ) (ts front : List Token) (t : Token) (rest : List Token) → ts ≡ front ++ t ∷ rest
    → (IsFront d n (front ++ t ∷ []) → ⊥) → IsFront d n ts → ⊥
all-fit-none d n ts front t rest e never f =
    let split : ts ≡ (front ++ t ∷ []) ++ rest = e ∙ sym (append_assoc front (t ∷ []) rest) in
    never (front-shorter d n (front ++ t ∷ []) rest (subst (λ (us : List Token). IsFront d n us) split f))

unfit-unended : (ts : List Token) (a b : ℕ) → IsMisplaced 64 256 ts a → IsUnended 64 256 ts b → ⊥
unfit-unended ts a b u y =
    let v = u 64 256 (omega arith) (omega arith) in
    all-fit-none 64 256 ts v.front v.token v.rest v.split v.unfit y.fits

deep-unended : (ts : List Token) (a b : ℕ) → IsTooDeep 64 256 ts a → IsUnended 64 256 ts b → ⊥
deep-unended ts a b x y = all-fit-none 64 256 ts x.front x.token x.rest x.split x.deep y.fits

pub grammar-once : (ts : List Token) (k l : RefusalKind) (a b : ℕ) → IsGrammarFault ts k a → IsGrammarFault ts l b
    → (k ≡ l) × (a ≡ b)
grammar-once ts k l a b (inl (e, x)) (inl (f, y)) =
    (e ∙ sym f, unfit-once 64 256 ts a b (x 64 256 (omega arith) (omega arith)) (y 64 256 (omega arith) (omega arith)))
grammar-once ts k l a b (inl (e, x)) (inr (inl (f, y))) = absurd (unfit-unended ts a b x y)
grammar-once ts k l a b (inl (e, x)) (inr (inr (f, y))) = absurd (not-misplaced ts a b x y)
grammar-once ts k l a b (inr (inl (e, x))) (inl (f, y)) = absurd (unfit-unended ts b a y x)
grammar-once ts k l a b (inr (inl (e, x))) (inr (inl (f, y))) = (e ∙ sym f, x.place ∙ sym y.place)
grammar-once ts k l a b (inr (inl (e, x))) (inr (inr (f, y))) = absurd (deep-unended ts b a y x)
grammar-once ts k l a b (inr (inr (e, x))) (inl (f, y)) = absurd (not-misplaced ts b a y x)
grammar-once ts k l a b (inr (inr (e, x))) (inr (inl (f, y))) = absurd (deep-unended ts a b x y)
grammar-once ts k l a b (inr (inr (e, x))) (inr (inr (f, y))) = (e ∙ sym f, deep-once 64 256 ts a b x y)

some-same : (f g : Fault) → Some f ≡ Some g → f ≡ g
some-same f g e = cc

-- a text has one first fault at most
pub fault-once : (text : Text) (k l : RefusalKind) (a b : ℕ) → IsFirstFault text k a → IsFirstFault text l b
    → (k ≡ l) × (a ≡ b)
fault-once text k l a b (inl x) (inl y) =
    let same = one-fault text x.fault y.fault x.has y.has in (
      x.kind ∙ (ap (λ (f : TokenFault). token_kind f.kind) same ∙ sym y.kind),
      x.place ∙ (ap (λ (f : TokenFault). f.place) same ∙ sym y.place),
    )
fault-once text k l a b (inl x) (inr (inl y)) = absurd (no-fault text y.tokens x.fault y.has x.has)
fault-once text k l a b (inl x) (inr (inr y)) = absurd (no-fault text y.tokens x.fault y.is_text.has x.has)
fault-once text k l a b (inr (inl x)) (inl y) = absurd (no-fault text x.tokens y.fault x.has y.has)
fault-once text k l a b (inr (inl x)) (inr (inl y)) =
    let e = one-list text y.tokens x.tokens y.has x.has in
    let z = subst (λ (ts : List Lexeme). IsGrammarFault (grammar_tokens ts) l y.number) e y.fault in
    let same = grammar-once (grammar_tokens x.tokens) k l x.number y.number x.fault z in (
      same.0,
      x.place
          ∙ (ap (start_of text x.tokens) same.1
          ∙ (ap (λ (ts : List Lexeme). start_of text ts y.number) (sym e) ∙ sym y.place)),
    )
fault-once text k l a b (inr (inl x)) (inr (inr y)) = absurd (no-kernel text k a y.tokens y.kernel x y.is_text)
fault-once text k l a b (inr (inr x)) (inl y) = absurd (no-fault text x.tokens y.fault x.is_text.has y.has)
fault-once text k l a b (inr (inr x)) (inr (inl y)) = absurd (no-kernel text l b x.tokens x.kernel y x.is_text)
fault-once text k l a b (inr (inr x)) (inr (inr y)) =
    let e = one-list text y.tokens x.tokens y.is_text.has x.is_text.has in
    let z = subst (λ (ts : List Lexeme). IsText text ts y.kernel) e y.is_text in
    let moved : faults_of (words_of text y.tokens) y.kernel ≡ faults_of (words_of text x.tokens) y.kernel =
    ap (λ (ts : List Lexeme). faults_of (words_of text ts) y.kernel) e in
    let list = same-faults text x.tokens x.kernel y.kernel x.is_text z ∙ sym moved in
    let same = some-same x.fault y.fault (sym x.first ∙ (ap first list ∙ y.first)) in (
      x.kind ∙ (ap (λ (f : Fault). f.kind) same ∙ sym y.kind),
      x.place
          ∙ (ap (λ (f : Fault). start_of text x.tokens f.place) same
          ∙ (ap (λ (ts : List Lexeme). start_of text ts y.fault.place) (sym e) ∙ sym y.place)),
    )

-- a text is refused in one way at most
pub refusal-once : (text : Text) (r q : Refusal) → IsRefusedAs text r → IsRefusedAs text q → r ≡ q
refusal-once text r q x y =
    let same = fault-once text r.kind q.kind x.at y.at x.fault y.fault in
    let line : r.line ≡ q.line = x.line ∙ (ap (λ (n : ℕ). line_behind (take n text)) same.1 ∙ sym y.line) in
    let column : r.column ≡ q.column =
    x.column ∙ (ap (λ (n : ℕ). column_behind (take n text)) same.1 ∙ sym y.column) in
    ap (λ (k : RefusalKind). record r { kind = k }) same.0
    ∙ (ap (λ (n : ℕ). record r { kind = q.kind; line = n }) line
    ∙ ap (λ (n : ℕ). record q { column = n }) column)
