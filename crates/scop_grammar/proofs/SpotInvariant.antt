-- What a spot stands for: elements that lead to its want, and the tokens of an expression in hand. A turn keeps it.
use Rattle.std.proofs.Common.{◌≡◌, ℕ, ◌+◌, ◌≤◌, Bool, true, false, List, [], ◌∷◌, ◌++◌, length, refl, sym, ◌∙◌}
use Rattle.std.proofs.Common.{append_assoc, append-nil, length-append, arith, max, Option, Some, None}
use Rattle.std.specs.Prelude.{⊤}
use Rattle.scop_expressions.specs.Outside.TheVariants as outside
use Rattle.scop_expressions.specs.Token.{Token}
use Rattle.scop_expressions.specs.Token.TheVariants as token
use Rattle.scop_expressions.specs.declared.node.Node.{Node}
use Rattle.scop_expressions.specs.Tree.{Tree, tokens_of, operators}
use Rattle.scop_expressions.specs.Machine.{State, start, Move, go, stops, step, fits, complete}
use Rattle.scop_expressions.proofs.Shapes.{Stands, Keeps, keeps}
use Rattle.scop_expressions.proofs.RunEnds.{fits_bounds}
use Rattle.scop_expressions.proofs.Fronts.{within_wider, is_front, is_whole}
use Rattle.scop_expressions.proofs.MachineAnswers.{begins}
use Rattle.scop_grammar.specs.declared.table.Role.{Role}
use Rattle.scop_grammar.specs.declared.table.Role.TheVariants as role
use Rattle.scop_grammar.specs.declared.table.Want.{Want}
use Rattle.scop_grammar.specs.declared.table.Want.TheVariants as want
use Rattle.scop_grammar.specs.Table.{next, behind, mark, opens, braced, room, left, carried}
use Rattle.scop_grammar.specs.Kernel.{Element, sign, expression, spelled, Piece, Fits, IsFront}
use Rattle.scop_grammar.specs.Machine.{Spot, spot, ahead, first_spot, Turn, on, stop, too_deep, sign_turn, leaves}
use Rattle.scop_grammar.specs.Machine.{inner_turn, turn_in, turn}
use Rattle.scop_grammar.proofs.Paths.{Ends}
use Rattle.scop_grammar.proofs.Parses.{spelled_append}
use Rattle.scop_grammar.proofs.Headers.{is_kernel}
use Rattle.scop_grammar.proofs.Tails.{tail, closed, ender, tail_behind, inner_closed}

-- whatever leads on from there to the end leads there from the start, within these limits and higher ones
abbrev pub Leads : ℕ → ℕ → Want → ℕ → ℕ → List Element → Type 0
Leads d n w b u es =
    (e m : ℕ) → d ≤ e → n ≤ m → (fs : List Element) → Ends e m w b u fs → Ends e m want.Void 0 0 (es ++ fs)

-- the expression in hand stands for its tokens, if there is one
abbrev pub Holds : ℕ → ℕ → Want → ℕ → State → List Token → Type 0
Holds d n (want.Inner r) u e ts = Stands e ts (room r d) × (e.used ≤ left r n u)
Holds d n _ u e ts = (ts ≡ []) × (e ≡ start)

-- the counts of a spot
pub record Small (n : ℕ) (s : Spot) : Type 0 where
  pub braces : s.braces ≤ s.at
  pub carried : carried s.want s.used ≡ s.used
  pub used : s.used ≤ n

pub record Means (d n : ℕ) (s : Spot) (ts : List Token) : Type 0 where
  pub elements : List Element
  pub inner : List Token
  pub leads : Leads d n s.want s.braces s.used elements
  pub holds : Holds d n s.want s.used s.inner inner
  pub tokens : ts ≡ spelled elements ++ inner
  pub place : s.at ≡ length ts
  pub small : Small n s

-- a front of a kernel within limits at least as high
abbrev pub Goes : ℕ → ℕ → List Token → Turn → Type 0
Goes d n ts (on next) = Means d n next ts
Goes d n ts stop = ⊤
Goes d n ts too_deep = (e : ℕ) × (m : ℕ) × IsFront e m ts

pub opens_most : (w : Want) (b : ℕ) → opens w b ≤ b + 1
opens_most want.BodyOpen b = omega arith
opens_most _ b = omega arith

pub braced_most : (w : Want) (t : Token) (b : ℕ) → braced w t b ≤ b + 1
braced_most w (token.Outside outside.BraceOpen) b = opens_most w b
braced_most w (token.Outside outside.BraceClose) b = omega arith
braced_most w _ b = omega arith

pub carried_again : (w : Want) (u : ℕ) → carried w (carried w u) ≡ carried w u
carried_again want.Placed u = refl
carried_again (want.Inner role.Subscript) u = refl
carried_again (want.Inner _) u = refl
carried_again _ u = refl

pub carried_most : (w : Want) (u : ℕ) → carried w u ≤ u
carried_most want.Placed u = omega arith
carried_most (want.Inner role.Subscript) u = omega arith
carried_most (want.Inner _) u = omega arith
carried_most _ u = omega arith

-- a place's operators with those of a subscript, or an expression's own
pub used_most : (r : Role) (n u k : ℕ) → carried (want.Inner r) u ≡ u → u ≤ n → k ≤ left r n u → u + k ≤ n
used_most role.Subscript n u k c h l = omega arith
used_most _ n u k c h l = omega arith

pub small_ahead : (n : ℕ) (v : Want) (b u : ℕ) (ps : List Piece) (at : ℕ) → b ≤ at → u ≤ n
    → Small n (ahead v b u ps at)
small_ahead n v b u ps at h k =
    let c = carried_most v u in
    record { braces = h; carried = carried_again v u; used = omega arith }

pub begins_held : (d n : ℕ) (w : Want) (u : ℕ) → Holds d n w u start []
begins_held d n (want.Inner r) u = (begins (room r d), omega arith)
begins_held d n want.Over u = (refl, refl)
begins_held d n _ u = (refl, refl)

pub room_wider : (r : Role) (d e : ℕ) → d ≤ e → room r d ≤ room r e
room_wider role.Subscript d e h = omega arith
room_wider _ d e h = h

pub left_wider : (r : Role) (n m u : ℕ) → n ≤ m → left r n u ≤ left r m u
left_wider role.Subscript n m u h = omega arith
left_wider _ n m u h = h

-- the fits of an expression at higher limits
pub fits_more : (d n e m u : ℕ) (r : Role) (t : Tree) → d ≤ e → n ≤ m → Fits (room r d) (left r n u) t
    → Fits (room r e) (left r m u) t
fits_more d n e m u r t h k f =
    record {
      expression = f.expression;
      within =
          within_wider (room r d) (left r n u) (room r e) (left r m u) t (room_wider r d e h) (left_wider r n m u k)
          f.within;
    }

-- one element more
pub leads_sign : (d n : ℕ) (w v : Want) (b u : ℕ) (t : Token) (es : List Element) → next w b t ≡ Some v
    → Leads d n w b u es → Leads d n v (braced w t b) (carried v u) (es ++ sign t (mark w t) ∷ [])
leads_sign d n w v b u t es h k e m i j fs p =
    rw (append_assoc es (sign t (mark w t) ∷ []) fs) (k e m i j (sign t (mark w t) ∷ fs) (rw h (refl, p)))

pub leads_expression : (d n : ℕ) (r : Role) (v : Want) (b u : ℕ) (x : Tree) (t : Token) (es : List Element)
    → behind r t ≡ Some v → Fits (room r d) (left r n u) x → Leads d n (want.Inner r) b u es
    → Leads d n v b (carried v (u + operators x)) (es ++ expression x t ∷ [])
leads_expression d n r v b u x t es h f k e m i j fs p =
    rw (append_assoc es (expression x t ∷ []) fs)
    (k e m i j (expression x t ∷ fs) (fits_more d n e m u r x i j f, rw h p))

pub ends_place : (a : ℕ) (ts : List Token) (t : Token) → a ≡ length ts → a + 1 ≡ length (ts ++ t ∷ [])
ends_place a ts t h = simp length-append (omega arith)

-- a sign
pub keeps_sign : (d n : ℕ) (s : Spot) (ts : List Token) (t : Token) (o : Option Want) → next s.want s.braces t ≡ o
    → (es : List Element) → Leads d n s.want s.braces s.used es → ts ≡ spelled es ++ [] → s.at ≡ length ts
    → Small n s → Goes d n (ts ++ t ∷ []) (sign_turn s t o)
keeps_sign d n s ts t None h es k e a z = tt
keeps_sign d n s ts t (Some v) h es k e a z =
    let b = z.braces in
    let c = braced_most s.want t s.braces in
    record {
      elements = es ++ sign t (mark s.want t) ∷ [];
      inner = [];
      leads = leads_sign d n s.want v s.braces s.used t es h k;
      holds = begins_held d n v (carried v s.used);
      tokens =
          rw (e, spelled_append es (sign t (mark s.want t) ∷ [])) (simp (append_assoc, append-nil));
      place = ends_place s.at ts t a;
      small = small_ahead n v (braced s.want t s.braces) s.used _ (s.at + 1) (omega arith) z.used;
    }

-- a complete expression, and the sign behind it
pub means_behind : (d n : ℕ) (r : Role) (s : Spot) (ts us : List Token) (t : Token) (v : Want) (x : Tree)
    (ns : List Node) (es : List Element) → behind r t ≡ Some v → Leads d n (want.Inner r) s.braces s.used es
    → Fits (room r d) (left r n s.used) x → us ≡ tokens_of x → s.inner.used ≡ operators x
    → ts ≡ spelled es ++ us → s.at ≡ length ts → s.braces ≤ s.at → s.used + s.inner.used ≤ n
    → Goes d n (ts ++ t ∷ []) (leaves s (Some ns) (Some v))
means_behind d n r s ts us t v x ns es h k f q o e a b m =
    record {
      elements = es ++ expression x t ∷ [];
      inner = [];
      leads = rw o (leads_expression d n r v s.braces s.used x t es h f k);
      holds = begins_held d n v (carried v (s.used + s.inner.used));
      tokens = rw (e, q, spelled_append es (expression x t ∷ [])) (simp (append_assoc, append-nil));
      place = ends_place s.at ts t a;
      small = small_ahead n v s.braces (s.used + s.inner.used) _ (s.at + 1) (omega arith) m;
    }

pub keeps_leaves : (d n : ℕ) (r : Role) (s : Spot) (ts us : List Token) (t : Token) (o : Option (List Node))
    (p : Option Want) → complete s.inner ≡ o → behind r t ≡ p → (es : List Element)
    → Leads d n (want.Inner r) s.braces s.used es → Stands s.inner us (room r d) → s.inner.used ≤ left r n s.used
    → ts ≡ spelled es ++ us → s.at ≡ length ts → carried (want.Inner r) s.used ≡ s.used → s.used ≤ n
    → s.braces ≤ s.at → Goes d n (ts ++ t ∷ []) (leaves s o p)
keeps_leaves d n r s ts us t None p c h es k i u e a l m b = tt
keeps_leaves d n r s ts us t (Some ns) None c h es k i u e a l m b = tt
keeps_leaves d n r s ts us t (Some ns) (Some v) c h es k i u e a l m b =
    let w = is_whole (room r d) (left r n s.used) s.inner us ns i u c in
    let f : Fits (room r d) (left r n s.used) w.tree =
    record { expression = w.spells.expression; within = w.spells.within } in
    means_behind d n r s ts us t v w.tree ns es h k f w.spells.tokens w.used e a b
    (used_most r n s.used s.inner.used l m u)

pub spelled_front : (es more : List Element) (us vs xs ts : List Token) → us ++ vs ≡ xs → spelled more ≡ xs ++ ts
    → (spelled es ++ us) ++ (vs ++ ts) ≡ spelled (es ++ more)
spelled_front es more us vs xs ts e f = rw (spelled_append es more, f, ← e) (simp append_assoc)

-- tokens with an expression in hand are a front
pub inner_front : (d n : ℕ) (r : Role) (b u : ℕ) (e : State) (es : List Element) (us : List Token) → 1 ≤ d
    → Leads d n (want.Inner r) b u es → Stands e us (room r d) → e.used ≤ left r n u
    → IsFront d n (spelled es ++ us)
inner_front d n r b u e es us k l i h =
    let v = is_front (room r d) (left r n u) e us i h in
    let f : Fits (room r d) (left r n u) v.1 =
    record { expression = v.2.expression; within = v.2.within } in
    let more = expression v.1 (ender r) ∷ tail_behind r b in
    let p = l d n (omega arith) (omega arith) more (inner_closed d n r b u v.1 f) in
    let q = is_kernel d n (es ++ more) k p in (
      v.0 ++ ender r ∷ spelled (tail_behind r b),
      q.kernel,
      record {
        fits = q.spells.fits;
        tokens = spelled_front es more us v.0 (tokens_of v.1) (ender r ∷ spelled (tail_behind r b)) v.2.tokens
            refl ∙ q.spells.tokens;
      },
    )

-- tokens between expressions are a front
pub outer_front : (d n : ℕ) (w : Want) (b u : ℕ) (es : List Element) (us : List Token) → 1 ≤ d
    → Leads d n w b u es → us ≡ [] → IsFront d n (spelled es ++ us)
outer_front d n w b u es us k l h =
    let p = l d n (omega arith) (omega arith) (tail w b) (closed d n w b u) in
    let q = is_kernel d n (es ++ tail w b) k p in (
      spelled (tail w b),
      q.kernel,
      record {
        fits = q.spells.fits;
        tokens = rw (h, append-nil (spelled es)) (sym (spelled_append es (tail w b)) ∙ q.spells.tokens);
      },
    )

pub room_high : (r : Role) (d b : ℕ) → b ≤ room r (max d (b + 1))
room_high role.Subscript d b = omega arith
room_high _ d b = omega arith

pub left_high : (r : Role) (n u k : ℕ) → k ≤ left r (n + u + k) u
left_high role.Subscript n u k = omega arith
left_high _ n u k = omega arith

-- an expression in hand beyond the limits is a front within higher ones
pub deeper : (d n : ℕ) (r : Role) (b u : ℕ) (e : State) (es : List Element) (us ts : List Token) → 1 ≤ d
    → Leads d n (want.Inner r) b u es → Stands e us (max (room r d) e.brackets) → ts ≡ spelled es ++ us
    → (c : ℕ) × (m : ℕ) × IsFront c m ts
deeper d n r b u e es us ts k l i q =
    let p = i.peak in
    let c = max d (e.brackets + 1) in
    let m = n + u + e.used in
    let low = room_wider r d c (omega arith) in
    let high = room_high r d e.brackets in
    let stands : Stands e us (room r c) =
    record { shape = i.shape; is = i.is; tokens = i.tokens; sound = i.sound; peak = omega arith } in
    let leads : Leads c m (want.Inner r) b u es =
    λ (x y : ℕ) (g : c ≤ x) (h : m ≤ y). l x y (omega arith) (omega arith) in
    (c, m, rw q (inner_front c m r b u e es us (omega arith) leads stands (left_high r n u e.used)))

-- a token of the expression in hand
pub keeps_go : (d n : ℕ) (r : Role) (s : Spot) (ts us : List Token) (t : Token) (next : State) (x : Bool)
    → fits (room r d) (left r n s.used) next ≡ x → (es : List Element) → 1 ≤ d
    → Leads d n (want.Inner r) s.braces s.used es
    → Stands next (us ++ t ∷ []) (max (room r d) next.brackets) → ts ≡ spelled es ++ us → s.at ≡ length ts
    → carried (want.Inner r) s.used ≡ s.used → s.used ≤ n → s.braces ≤ s.at
    → Goes d n (ts ++ t ∷ []) (inner_turn d n r s t (go next))
keeps_go d n r s ts us t next false f es k l i e a y m z =
    rw f (deeper d n r s.braces s.used next es (us ++ t ∷ []) (ts ++ t ∷ []) k l i (rw e (simp append_assoc)))
keeps_go d n r s ts us t next true f es k l i e a y m z =
    let b = fits_bounds (room r d) (left r n s.used) next.brackets next.used f in
    let c = b.0 in
    let p = i.peak in
    let means : Means d n (spot (want.Inner r) s.braces s.used s.pieces (s.at + 1) s.first next) (ts ++ t ∷ []) =
    record {
      elements = es;
      inner = us ++ t ∷ [];
      leads = l;
      holds = (
        record { shape = i.shape; is = i.is; tokens = i.tokens; sound = i.sound; peak = omega arith },
        b.1,
      );
      tokens = rw e (simp append_assoc);
      place = ends_place s.at ts t a;
      small = record { braces = omega arith; carried = y; used = m };
    } in
    rw f means

pub keeps_move : (d n : ℕ) (r : Role) (s : Spot) (ts us : List Token) (t : Token) (m : Move) → step s.inner t ≡ m
    → (es : List Element) → 1 ≤ d → Leads d n (want.Inner r) s.braces s.used es → Stands s.inner us (room r d)
    → s.inner.used ≤ left r n s.used → Keeps us t (room r d) m → ts ≡ spelled es ++ us → s.at ≡ length ts
    → carried (want.Inner r) s.used ≡ s.used → s.used ≤ n → s.braces ≤ s.at
    → Goes d n (ts ++ t ∷ []) (inner_turn d n r s t m)
keeps_move d n r s ts us t (go next) h es k l i u q e a y m z =
    keeps_go d n r s ts us t next (fits (room r d) (left r n s.used) next) refl es k l q e a y m z
keeps_move d n r s ts us t stops h es k l i u q e a y m z =
    keeps_leaves d n r s ts us t (complete s.inner) (behind r t) refl refl es l i u e a y m z

pub keeps_want : (d n : ℕ) (w : Want) (b u : ℕ) (s : Spot) (ts us : List Token) (t : Token) (es : List Element)
    → s.want ≡ w → s.braces ≡ b → s.used ≡ u → 1 ≤ d
    → Leads d n w b u es → Holds d n w u s.inner us → ts ≡ spelled es ++ us → s.at ≡ length ts
    → Small n s → Goes d n (ts ++ t ∷ []) (turn_in d n w s t)
keeps_want d n (want.Inner r) b u s ts us t es e f g k l h q a z =
    let leads : Leads d n (want.Inner r) s.braces s.used es = rw (f, g) l in
    let c : carried (want.Inner r) s.used ≡ s.used = rw e at z.carried in
    keeps_move d n r s ts us t (step s.inner t) refl es k leads h.0 (rw g h.1) (keeps s.inner us (room r d) t h.0) q a
    c z.used z.braces
keeps_want d n want.Over b u s ts us t es e f g k l h q a z =
    keeps_sign d n s ts t None (rw e refl) es (rw (e, f, g) l) (rw h.0 at q) a z
keeps_want d n w b u s ts us t es e f g k l h q a z =
    keeps_sign d n s ts t (next w s.braces t) (rw e refl) es (rw (e, f, g) l) (rw h.0 at q) a z

-- a turn keeps what a spot means
pub keeps_turn : (d n : ℕ) (s : Spot) (ts : List Token) (t : Token) → 1 ≤ d → Means d n s ts
    → Goes d n (ts ++ t ∷ []) (turn d n s t)
keeps_turn d n s ts t k m =
    keeps_want d n s.want s.braces s.used s ts m.inner t m.elements refl refl refl k m.leads m.holds m.tokens m.place
    m.small

-- tokens that lead to a spot are a front
pub front_at : (d n : ℕ) (w : Want) (b u : ℕ) (e : State) (es : List Element) (us : List Token) → 1 ≤ d
    → Leads d n w b u es → Holds d n w u e us → IsFront d n (spelled es ++ us)
front_at d n (want.Inner r) b u e es us k l h = inner_front d n r b u e es us k l h.0 h.1
front_at d n want.Over b u e es us k l h = outer_front d n want.Over b u es us k l h.0
front_at d n w b u e es us k l h = outer_front d n w b u es us k l h.0

pub is_front_at : (d n : ℕ) (s : Spot) (ts : List Token) → 1 ≤ d → Means d n s ts → IsFront d n ts
is_front_at d n s ts k m =
    rw m.tokens (front_at d n s.want s.braces s.used s.inner m.elements m.inner k m.leads m.holds)

pub first_means : (d n : ℕ) → Means d n first_spot []
first_means d n =
    record {
      elements = [];
      inner = [];
      leads = λ (e m : ℕ) (i : d ≤ e) (j : n ≤ m) (fs : List Element) (p : Ends e m want.Void 0 0 fs). p;
      holds = (refl, refl);
      tokens = refl;
      place = refl;
      small = record { braces = omega arith; carried = refl; used = omega arith };
    }
