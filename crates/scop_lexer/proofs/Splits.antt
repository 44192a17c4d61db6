-- A text splits into gaps and tokens in one way only (`tokens-agree`), up to its end or its first fault, found by fuel
-- (`outcome`).
use Rattle.std.proofs.Common.{◌≡◌, ◌∙◌, sym, ap, subst, refl, ℕ, zero, suc, ◌+◌, ◌-◌, ◌<◌, ◌≤◌, ◌⊎◌, List, [], ◌∷◌}
use Rattle.std.proofs.Common.{◌++◌, length, take, inl, inr, arith}
use Rattle.std.proofs.lemmas.List.{drop_all, map-append}
use Rattle.scop_lexer.specs.Bytes.{Text, is_fresh}
use Rattle.scop_lexer.specs.Stands.{stands, stands_at, HasRoom}
use Rattle.scop_lexer.specs.Tokens.{AreGaps, IsGap, IsToken, AreTokens, HasTokens, IsFault, HasFault, IsNext}
use Rattle.scop_lexer.specs.Tokens.{AreBetween, token_of, token_at, tokens_at}
use Rattle.scop_tokens.specs.declared.Token.{Token as Kind}
use Rattle.scop_tokens.specs.declared.Token.TheVariants.{Name}
use Rattle.scop_lexer.specs.declared.token.FaultKind.{FaultKind}
use Rattle.scop_lexer.specs.declared.token.FaultKind.TheVariants.{Character}
use Rattle.scop_lexer.specs.declared.token.Token.{Token}
use Rattle.scop_lexer.specs.declared.token.Fault.{Fault}
use Rattle.scop_lexer.specs.declared.stand.Stand.{Stand}
use Rattle.scop_lexer.specs.declared.stand.Stand.TheVariants.{End, Gap, Lexeme, Wrong}
use Rattle.scop_lexer.proofs.Rooms.{stands_at_room}

gaps-join : (text : Text) (at mid to : ℕ) (ns ms : List ℕ) → AreGaps text at ns mid → AreGaps text mid ms to
    → AreGaps text at (ns ++ ms) to
gaps-join text at mid to [] ms front back = subst (λ n. AreGaps text n ms to) (sym front) back
gaps-join text at mid to (n ∷ ns) ms front back = (front.0, gaps-join text (at + n) mid to ns ms front.1 back)

-- a gap behind a gap
pub gap-join : (text : Text) (at mid to : ℕ) → IsGap text at mid → IsGap text mid to → IsGap text at to
gap-join text at mid to front back = (front.0 ++ back.0, gaps-join text at mid to front.0 back.0 front.1 back.1)

-- a gap of nothing
pub gap-nothing : (text : Text) (at : ℕ) → IsGap text at at
gap-nothing text at = ([], refl)

-- a gap behind what stands there
pub gap-more : (text : Text) (from at n : ℕ) → IsGap text from at → stands_at text at ≡ Gap n
    → IsGap text from (at + n)
gap-more text from at n front here = gap-join text from at (at + n) front (n ∷ [], (here, refl))

-- a gap behind tokens
pub tokens-gap : (text : Text) (at mid to : ℕ) (ts : List Token) → AreTokens text at ts mid → IsGap text mid to
    → AreTokens text at ts to
tokens-gap text at mid to [] front back = gap-join text at mid to front back
tokens-gap text at mid to (t ∷ ts) front back = (front.0, front.1, tokens-gap text t.end mid to ts front.2 back)

-- one token more
pub tokens-more : (text : Text) (at mid : ℕ) (ts : List Token) (t : Token) → AreTokens text at ts mid
    → IsNext text mid t
    → AreTokens text at (ts ++ t ∷ []) t.end
tokens-more text at mid [] t front next =
    (gap-join text at mid t.start front next.0, next.1, gap-nothing text t.end)
tokens-more text at mid (s ∷ ts) t front next = (front.0, front.1, tokens-more text s.end mid ts t front.2 next)

-- whether no gap is this
abbrev IsNoGap : Stand → Type 0
IsNoGap stand = (n : ℕ) → stand ≡ Gap n → ⊥

-- neither gap nor token
abbrev IsLast : Stand → Type 0
IsLast stand = ((n : ℕ) → stand ≡ Gap n → ⊥) × ((kind : Kind) (value n : ℕ) → stand ≡ Lexeme kind value n → ⊥)

-- how many bytes a gap has
abbrev gap_length : Stand → ℕ
gap_length (Gap n) = n
gap_length End = 0
gap_length (Lexeme kind value n) = 0
gap_length (Wrong kind n) = 0

-- two gaps from one place end at one place
gaps-agree : (text : Text) (at to up : ℕ) (ns ms : List ℕ) → AreGaps text at ns to → AreGaps text at ms up
    → IsNoGap (stands_at text to) → IsNoGap (stands_at text up) → to ≡ up
gaps-agree text at to up [] [] f g no_f no_g = sym f ∙ g
gaps-agree text at to up [] (m ∷ ms) f g no_f no_g = absurd (no_f m (ap (stands_at text) (sym f) ∙ g.0))
gaps-agree text at to up (n ∷ ns) [] f g no_f no_g = absurd (no_g n (ap (stands_at text) (sym g) ∙ f.0))
gaps-agree text at to up (n ∷ ns) (m ∷ ms) f g no_f no_g =
    let same : m ≡ n = ap gap_length (sym g.0 ∙ f.0) in
    gaps-agree text (at + n) to up ns ms f.1 (subst (λ k. AreGaps text (at + k) ms up) same g.1) no_f no_g

-- tokens are no gaps
lexeme-no_gap : (text : Text) (t : Token) → IsToken text t → IsNoGap (stands_at text t.start)
lexeme-no_gap text t is n h = absurd (cc)

-- the length of a token
abbrev lexeme_length : Stand → ℕ
lexeme_length (Lexeme kind value n) = n
lexeme_length (Gap n) = 0
lexeme_length End = 0
lexeme_length (Wrong kind n) = 0

-- the kind of a token
abbrev lexeme_kind : Stand → Kind
lexeme_kind (Lexeme kind value n) = kind
lexeme_kind (Gap n) = Name
lexeme_kind End = Name
lexeme_kind (Wrong kind n) = Name

-- what a token is worth
abbrev lexeme_value : Stand → ℕ
lexeme_value (Lexeme kind value n) = value
lexeme_value (Gap n) = 0
lexeme_value End = 0
lexeme_value (Wrong kind n) = 0

-- a token of these parts
abbrev token : Kind → ℕ → ℕ → ℕ → Token
token kind value start end = record { kind = kind; value = value; start = start; end = end }

-- two tokens at one place are one
token-agree : (text : Text) (t u : Token) → IsToken text t → IsToken text u → t.start ≡ u.start → t ≡ u
token-agree text t u f g same =
    let stand = sym f.1 ∙ (ap (stands_at text) same ∙ g.1) in
    let end : t.end ≡ u.end = f.2 ∙ (omega (arith, same, ap lexeme_length stand) ∙ sym g.2) in
    ap (λ k. token k t.value t.start t.end) (ap lexeme_kind stand)
    ∙ (ap (λ v. token u.kind v t.start t.end) (ap lexeme_value stand)
    ∙ (ap (λ n. token u.kind u.value n t.end) same ∙ ap (λ n. token u.kind u.value u.start n) end))

-- a token is found at its start
pub token-there : (text : Text) (t : Token) → IsToken text t → token_at text t.start ≡ t
token-there text t is = ap (token_of t.start) is.1 ∙ ap (λ n. token t.kind t.value t.start n) (sym is.2)

-- one start more
pub starts-more : (text : Text) (starts : List ℕ) (t : Token) → IsToken text t
    → tokens_at text (starts ++ t.start ∷ []) ≡ tokens_at text starts ++ t ∷ []
starts-more text starts t is =
    map-append (token_at text) starts (t.start ∷ [])
    ∙ ap (λ (u : Token). tokens_at text starts ++ u ∷ []) (token-there text t is)

-- two splits of one text are one
pub tokens-agree : (text : Text) (at to up : ℕ) (ts us : List Token) → AreTokens text at ts to
    → AreTokens text at us up
    → IsLast (stands_at text to) → IsLast (stands_at text up) → (ts ≡ us) × (to ≡ up)
tokens-agree text at to up [] [] f g last_f last_g =
    (refl, gaps-agree text at to up f.0 g.0 f.1 g.1 last_f.0 last_g.0)
tokens-agree text at to up [] (u ∷ us) f g last_f last_g =
    let same = gaps-agree text at to u.start f.0 g.0.0 f.1 g.0.1 last_f.0 (lexeme-no_gap text u g.1) in
    absurd (last_f.1 u.kind u.value g.1.0 (ap (stands_at text) same ∙ g.1.1))
tokens-agree text at to up (t ∷ ts) [] f g last_f last_g =
    let same = gaps-agree text at up t.start g.0 f.0.0 g.1 f.0.1 last_g.0 (lexeme-no_gap text t f.1) in
    absurd (last_g.1 t.kind t.value f.1.0 (ap (stands_at text) same ∙ f.1.1))
tokens-agree text at to up (t ∷ ts) (u ∷ us) f g last_f last_g =
    let start = gaps-agree text at t.start u.start f.0.0 g.0.0 f.0.1 g.0.1 (lexeme-no_gap text t f.1)
    (lexeme-no_gap text u g.1) in
    let same = token-agree text t u f.1 g.1 start in
    let back = subst (λ (x : Token). AreTokens text x.end us up) (sym same) g.2 in
    let others = tokens-agree text t.end to up ts us f.2 back last_f last_g in
    (ap (λ x. x ∷ ts) same ∙ ap (λ xs. u ∷ xs) others.0, others.1)

-- the text's end, and what lies behind it
pub end-behind : (text : Text) (at : ℕ) → length text ≤ at → stands_at text at ≡ End
unfolding stands_at
end-behind text at behind = ap (stands (is_fresh (take at text))) (drop_all at text behind)

end-at : (text : Text) → stands_at text (length text) ≡ End
end-at text = end-behind text (length text) (omega arith)

end-last : (text : Text) → IsLast (stands_at text (length text))
end-last text = (λ n h. absurd (cc (end-at text)), λ kind value n h. absurd (cc (end-at text)))

-- a fault
fault-last : (text : Text) (at : ℕ) (fault : Fault) → IsFault text at fault → IsLast (stands_at text at)
fault-last text at fault is = (λ n h. absurd (cc is.1), λ kind value n h. absurd (cc is.1))

-- a text has one list of tokens at most
pub one-list : (text : Text) (ts us : List Token) → HasTokens text ts → HasTokens text us → ts ≡ us
one-list text ts us f g =
    (tokens-agree text 0 (length text) (length text) ts us f g (end-last text) (end-last text)).0

-- and then no fault
pub no-fault : (text : Text) (ts : List Token) (fault : Fault) → HasTokens text ts → HasFault text fault → ⊥
no-fault text ts fault f g =
    let same = (tokens-agree text 0 (length text) g.1 ts g.0 f g.2 (end-last text)
    (fault-last text g.1 fault g.3)).1 in
    let end = ap (stands_at text) (sym same) ∙ end-at text in
    cc (end, g.3.1)

-- where a fault stands
abbrev wrong_length : Stand → ℕ
wrong_length (Wrong kind n) = n
wrong_length (Gap n) = 0
wrong_length End = 0
wrong_length (Lexeme kind value n) = 0

-- the kind of a fault
abbrev wrong_kind : Stand → FaultKind
wrong_kind (Wrong kind n) = kind
wrong_kind (Gap n) = Character
wrong_kind End = Character
wrong_kind (Lexeme kind value n) = Character

-- a fault of these parts
abbrev fault_of : FaultKind → ℕ → Fault
fault_of kind place = record { kind = kind; place = place }

-- a text has one first fault at most
pub one-fault : (text : Text) (f g : Fault) → HasFault text f → HasFault text g → f ≡ g
one-fault text f g has also =
    let same = (tokens-agree text 0 has.1 also.1 has.0 also.0 has.2 also.2 (fault-last text has.1 f has.3)
    (fault-last text also.1 g also.3)).1 in
    let stand = sym has.3.1 ∙ (ap (stands_at text) same ∙ also.3.1) in
    let place : f.place ≡ g.place = has.3.2 ∙ (omega (arith, same, ap wrong_length stand) ∙ sym also.3.2) in
    ap (λ k. fault_of k f.place) (ap wrong_kind stand) ∙ ap (λ n. fault_of g.kind n) place

-- tokens from a place on, and then the end or a fault
Outcome : Text → ℕ → Type 0
Outcome text at = (ts : List Token) × (to : ℕ) × AreTokens text at ts to
    × ((to ≡ length text) ⊎ ((fault : Fault) × IsFault text to fault))

-- a gap in front of tokens
gap-tokens : (text : Text) (at n to : ℕ) (ts : List Token) → stands_at text at ≡ Gap n
    → AreTokens text (at + n) ts to → AreTokens text at ts to
gap-tokens text at n to [] here behind = (n ∷ behind.0, (here, behind.1))
gap-tokens text at n to (t ∷ ts) here behind = ((n ∷ behind.0.0, (here, behind.0.1)), behind.1, behind.2)

-- what stands at a place, and the outcome behind it
outcome-by : (text : Text) (at fuel : ℕ) (s : Stand) → at ≤ length text → length text ≤ at + fuel
    → stands_at text at ≡ s → HasRoom (length text - at) s
    → ((next : ℕ) → next ≤ length text → length text < next + fuel → Outcome text next) → Outcome text at
unfolding Outcome
outcome-by text at fuel End within small here room next =
    ([], at, gap-nothing text at, inl (omega (arith, within, room)))
outcome-by text at fuel (Gap n) within small here room next =
    let k = next (at + n) (omega (arith, within, room.1)) (omega (arith, small, room.0)) in
    (k.0, k.1, gap-tokens text at n k.1 k.0 here k.2, k.3)
outcome-by text at fuel (Lexeme kind value n) within small here room next =
    let k = next (at + n) (omega (arith, within, room.1)) (omega (arith, small, room.0)) in
    (token kind value at (at + n) ∷ k.0, k.1, (gap-nothing text at, (n, here, refl), k.2), k.3)
outcome-by text at fuel (Wrong kind n) within small here room next =
    ([], at, gap-nothing text at, inr (fault_of kind (at + n), (n, here, refl)))

outcome : (text : Text) (fuel at : ℕ) → at ≤ length text → length text < at + fuel → Outcome text at
outcome text zero at within small = absurd (omega (arith, within, small))
outcome text (suc fuel) at within small =
    outcome-by text at fuel (stands_at text at) within (omega (arith, small)) refl (stands_at_room text at)
    (outcome text fuel)

-- each text has tokens or a first fault
pub one-holds : (text : Text) → ((ts : List Token) × HasTokens text ts) ⊎ ((fault : Fault) × HasFault text fault)
unfolding Outcome
one-holds text =
    let k = outcome text (suc (length text)) 0 (omega arith) (omega arith) in
    elim k.3 [
      | inl end ↦ inl (k.0, subst (AreTokens text 0 k.0) end k.2)
      | inr fault ↦ inr (fault.0, (k.0, k.1, k.2, fault.1))
    ]

-- a gap goes on
pub gap-order : (text : Text) (at to : ℕ) (ns : List ℕ) → AreGaps text at ns to → at ≤ to
gap-order text at to [] h = omega (arith, h)
gap-order text at to (n ∷ ns) h = omega (arith, gap-order text (at + n) to ns h.1)

-- a token has bytes, up to the text's end
token-room : (text : Text) (t : Token) → IsToken text t → (t.start < t.end) × (t.end ≤ length text)
token-room text t is =
    let room = subst (HasRoom (length text - t.start)) is.1 (stands_at_room text t.start) in
    (omega (arith, room.0, is.2), omega (arith, room.0, room.1, is.2))

-- tokens stand in order
pub tokens-between : (text : Text) (at to : ℕ) (ts : List Token) → AreTokens text at ts to → AreBetween at ts to
tokens-between text at to [] h = gap-order text at to h.0 h.1
tokens-between text at to (t ∷ ts) h =
    (gap-order text at t.start h.0.0 h.0.1, (token-room text t h.1).0, tokens-between text t.end to ts h.2)
