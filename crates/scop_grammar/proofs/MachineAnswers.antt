-- The machine's answer says what it ought to of the grammar.
use Rattle.std.proofs.Common.{◌≡◌, ℕ, ◌≤◌, subst, List, [], ◌∷◌, ◌++◌, refl, sym, ap, ◌∙◌, append_assoc, append-nil}
use Rattle.std.proofs.Common.{arith, Ok, Err}
use Rattle.scop_expressions.specs.Token.{Token}
use Rattle.scop_expressions.specs.Grammar.{told_at}
use Rattle.scop_grammar.specs.declared.table.Want.{Want}
use Rattle.scop_grammar.specs.declared.table.Want.TheVariants as want
use Rattle.scop_grammar.specs.Kernel.{Element, Kernel, kernel_elements, spelled, Piece, pieces, Spells, IsFront}
use Rattle.scop_grammar.specs.Machine.{Spot, first_spot, Turn, on, stop, too_deep, turn, turns, run, End, goes_on}
use Rattle.scop_grammar.specs.Machine.{stopped_at, deep_at, whole, answer, Answer, read}
use Rattle.scop_grammar.specs.Promises.{IsNoKernel, IsUnended}
use Rattle.scop_grammar.specs.Claims.{IsAnswer}
use Rattle.scop_grammar.proofs.AcceptedTrees.{kernel_ends}
use Rattle.scop_grammar.proofs.Drives.{Driven, driven, driven_as}
use Rattle.scop_grammar.proofs.Headers.{IsKernel, is_kernel}
use Rattle.scop_grammar.proofs.SpotInvariant.{Holds, Leads, Means, Goes, keeps_turn, is_front_at, first_means}

-- a kernel's tokens are read as its pieces
pub accepted : (d n : ℕ) (ts : List Token) (k : Kernel) → Spells d n ts k
    → Driven (run d n first_spot ts) (pieces 0 (kernel_elements k))
accepted d n ts k s =
    driven_as (run d n first_spot ts) (run d n first_spot (spelled (kernel_elements k)))
    (pieces 0 (kernel_elements k)) (pieces 0 (kernel_elements k)) (ap (run d n first_spot) s.tokens) refl
    (driven d n (kernel_elements k) want.Void 0 0 [] 0 (kernel_ends d n k s.fits))

pub read_as : (o : End) (ps : List Piece) → Driven o ps → answer o ≡ Ok ps
read_as o ps k = ap answer k.is ∙ rw (k.over, k.pieces) refl

pub spelled_read : (d n : ℕ) (ts : List Token) (k : Kernel) → Spells d n ts k
    → read d n ts ≡ Ok (pieces 0 (kernel_elements k))
spelled_read d n ts k s = read_as (run d n first_spot ts) (pieces 0 (kernel_elements k)) (accepted d n ts k s)

-- the run came to a token with the spot before it
pub record Halt (d n : ℕ) (p : Spot) (seen ts : List Token) (s : Spot) (t : Token) : Type 0 where
  pub front : List Token
  pub rest : List Token
  pub split : ts ≡ front ++ t ∷ rest
  pub run : (more : List Token) → run d n p (front ++ more) ≡ run d n s more
  pub means : Means d n s (seen ++ front)

abbrev pub Reached : ℕ → ℕ → Spot → List Token → List Token → End → Type 0
Reached d n p seen ts (goes_on s) = Means d n s (seen ++ ts)
Reached d n p seen ts (stopped_at s) = (t : Token) × Halt d n p seen ts s t × (turn d n s t ≡ stop)
Reached d n p seen ts (deep_at s t) = Halt d n p seen ts s t × (turn d n s t ≡ too_deep)

pub halt_later : (d n : ℕ) (p next : Spot) (seen : List Token) (t : Token) (ts : List Token) (s : Spot) (u : Token)
    → turn d n p t ≡ on next → Halt d n next (seen ++ t ∷ []) ts s u → Halt d n p seen (t ∷ ts) s u
halt_later d n p next seen t ts s u e halt =
    record {
      front = t ∷ halt.front;
      rest = halt.rest;
      split = ap (λ (xs : List Token). t ∷ xs) halt.split;
      run = λ (more : List Token). rw e (halt.run more);
      means = simp append_assoc at halt.means;
    }

pub reached_later : (d n : ℕ) (p next : Spot) (seen : List Token) (t : Token) (ts : List Token) (o : End)
    → turn d n p t ≡ on next → Reached d n next (seen ++ t ∷ []) ts o → Reached d n p seen (t ∷ ts) o
reached_later d n p next seen t ts (goes_on s) e r = simp append_assoc at r
reached_later d n p next seen t ts (stopped_at s) e r = (r.0, halt_later d n p next seen t ts s r.0 e r.1, r.2)
reached_later d n p next seen t ts (deep_at s u) e r = (halt_later d n p next seen t ts s u e r.0, r.1)

pub halt_here : (d n : ℕ) (p : Spot) (seen : List Token) (t : Token) (ts : List Token) → Means d n p seen
    → Halt d n p seen (t ∷ ts) p t
halt_here d n p seen t ts k =
    record { front = []; rest = ts; split = refl; run = λ (more : List Token). refl; means = rw append-nil k }

pub reached_turn : (d n : ℕ) (p : Spot) (seen : List Token) (t : Token) (ts : List Token) (m : Turn)
    → turn d n p t ≡ m → Means d n p seen → Goes d n (seen ++ t ∷ []) m
    → ((next : Spot) → Means d n next (seen ++ t ∷ []) → Reached d n next (seen ++ t ∷ []) ts (run d n next ts))
    → Reached d n p seen (t ∷ ts) (turns p t m (λ next. run d n next ts))
reached_turn d n p seen t ts (on next) e k kept more =
    reached_later d n p next seen t ts (run d n next ts) e (more next kept)
reached_turn d n p seen t ts stop e k kept more = (t, halt_here d n p seen t ts k, e)
reached_turn d n p seen t ts too_deep e k kept more = (halt_here d n p seen t ts k, e)

pub reached : (d n : ℕ) (ts : List Token) (p : Spot) (seen : List Token) → 1 ≤ d → Means d n p seen
    → Reached d n p seen ts (run d n p ts)
reached d n [] p seen l k = rw append-nil k
reached d n (t ∷ ts) p seen l k =
    reached_turn d n p seen t ts (turn d n p t) refl k (keeps_turn d n p seen t l k)
    (λ (next : Spot) (h : Means d n next (seen ++ t ∷ [])). reached d n ts next (seen ++ t ∷ []) l h)

-- where the machine stops, no text goes on
pub stop_unfit : (d n : ℕ) (ts : List Token) (s : Spot) (t : Token) (halt : Halt d n first_spot [] ts s t)
    → turn d n s t ≡ stop → IsFront d n (halt.front ++ t ∷ []) → ⊥
stop_unfit d n ts s t halt e v =
    let a = (accepted d n ((halt.front ++ t ∷ []) ++ v.0) v.1 v.2).is in
    let r : run d n first_spot ((halt.front ++ t ∷ []) ++ v.0) ≡ stopped_at s =
    rw append_assoc (halt.run (t ∷ v.0) ∙ rw e refl) in
    cc

pub deep_unfit : (d n : ℕ) (ts : List Token) (s : Spot) (t : Token) (halt : Halt d n first_spot [] ts s t)
    → turn d n s t ≡ too_deep → IsFront d n (halt.front ++ t ∷ []) → ⊥
deep_unfit d n ts s t halt e v =
    let a = (accepted d n ((halt.front ++ t ∷ []) ++ v.0) v.1 v.2).is in
    let r : run d n first_spot ((halt.front ++ t ∷ []) ++ v.0) ≡ deep_at s t =
    rw append_assoc (halt.run (t ∷ v.0) ∙ rw e refl) in
    cc

pub went_same : (s s' : Spot) → goes_on s ≡ goes_on s' → s ≡ s'
went_same s s' h = cc

-- where a text ends too early, the tokens are no kernel
pub no_kernel : (d n : ℕ) (ts : List Token) (s : Spot) → run d n first_spot ts ≡ goes_on s
    → (s.want ≡ want.Over → ⊥) → IsNoKernel d n ts
no_kernel d n ts s e h k x =
    let a = accepted d n ts k x in
    h (ap (λ (p : Spot). p.want) (went_same s a.last (sym e ∙ a.is)) ∙ a.over)

pub early : (d n : ℕ) (ts : List Token) (s : Spot) → 1 ≤ d → run d n first_spot ts ≡ goes_on s → Means d n s ts
    → (s.want ≡ want.Over → ⊥) → IsUnended d n ts s.at
early d n ts s l e k h =
    record { place = k.place; fits = is_front_at d n s ts l k; incomplete = no_kernel d n ts s e h }

-- a text that ends where it may is a kernel's
pub over_kernel : (d n b u : ℕ) (es : List Element) (us ts : List Token) → 1 ≤ d → Leads d n want.Over b u es
    → us ≡ [] → ts ≡ spelled es ++ us → IsKernel d n ts
over_kernel d n b u es us ts l k e h =
    let same : spelled (es ++ []) ≡ ts = sym (h ∙ rw (e, append-nil (spelled es), append-nil es) refl) in
    subst (λ (xs : List Token). IsKernel d n xs) same
    (is_kernel d n (es ++ []) l (k d n (omega arith) (omega arith) [] tt))

pub over_answer : (d n : ℕ) (ts : List Token) (s : Spot) → 1 ≤ d → run d n first_spot ts ≡ goes_on s
    → s.want ≡ want.Over → Means d n s ts → IsAnswer d n ts (Ok s.pieces)
over_answer d n ts s l e h k =
    let leads : Leads d n want.Over s.braces s.used k.elements =
    subst (λ (w : Want). Leads d n w s.braces s.used k.elements) h k.leads in
    let holds : Holds d n want.Over s.used s.inner k.inner =
    subst (λ (w : Want). Holds d n w s.used s.inner k.inner) h k.holds in
    let q = over_kernel d n s.braces s.used k.elements k.inner ts l leads holds.0 k.tokens in
    let a = accepted d n ts q.kernel q.spells in
    record {
      kernel = q.kernel;
      spells = q.spells;
      pieces = ap (λ (p : Spot). p.pieces) (went_same s a.last (sym e ∙ a.is)) ∙ a.pieces;
    }

pub whole_answer : (d n : ℕ) (ts : List Token) (s : Spot) (w : Want) → s.want ≡ w → 1 ≤ d
    → run d n first_spot ts ≡ goes_on s → Means d n s ts → IsAnswer d n ts (whole w s.pieces s.at)
whole_answer d n ts s want.Over h l e k = over_answer d n ts s l e h k
whole_answer d n ts s w h l e k = early d n ts s l e k (λ (o : s.want ≡ want.Over). absurd (cc))

pub deeper_front : (d n : ℕ) (ts : List Token) (m : Turn) → m ≡ too_deep → Goes d n ts m
    → (e : ℕ) × (k : ℕ) × IsFront e k ts
deeper_front d n ts m e k = subst (λ (x : Turn). Goes d n ts x) e k

pub end_answer : (d n : ℕ) (ts : List Token) (o : End) → 1 ≤ d → run d n first_spot ts ≡ o
    → Reached d n first_spot [] ts o → IsAnswer d n ts (answer o)
end_answer d n ts (goes_on s) l e r = whole_answer d n ts s s.want refl l e r
end_answer d n ts (stopped_at s) l e r =
    let halt = r.1 in
    record {
      front = halt.front;
      token = r.0;
      rest = halt.rest;
      split = halt.split;
      place = halt.means.place;
      fits = is_front_at d n s halt.front l halt.means;
      unfit = stop_unfit d n ts s r.0 halt r.2;
    }
end_answer d n ts (deep_at s t) l e r =
    let halt = r.0 in
    record {
      front = halt.front;
      token = t;
      rest = halt.rest;
      split = halt.split;
      place = ap (told_at t) halt.means.place;
      fits = is_front_at d n s halt.front l halt.means;
      deep = deep_unfit d n ts s t halt r.1;
      without_limits =
          deeper_front d n (halt.front ++ t ∷ []) (turn d n s t) r.1 (keeps_turn d n s halt.front t l halt.means);
    }

pub read_answers : (d n : ℕ) (ts : List Token) → 1 ≤ d → IsAnswer d n ts (read d n ts)
read_answers d n ts l =
    end_answer d n ts (run d n first_spot ts) l refl (reached d n ts first_spot [] l (first_means d n))

abbrev pub pieces_read : Answer → List Piece
pieces_read (Ok ps) = ps
pieces_read (Err e) = []

-- all kernels that tokens spell have the same pieces
pub one_reading : (d n : ℕ) (ts : List Token) (k l : Kernel) → Spells d n ts k → Spells d n ts l
    → pieces 0 (kernel_elements k) ≡ pieces 0 (kernel_elements l)
one_reading d n ts k l x y = ap pieces_read (sym (spelled_read d n ts k x) ∙ spelled_read d n ts l y)
