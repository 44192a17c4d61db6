-- Elements that lead to the end drive the machine over their tokens.
use Rattle.std.proofs.Common.{◌≡◌, ℕ, ◌+◌, Bool, true, false, List, [], ◌∷◌, ◌++◌, length, refl, sym, ap, ◌∙◌}
use Rattle.std.proofs.Common.{append_assoc, append-nil, arith, Option, Some, None}
use Rattle.scop_expressions.specs.Outside.TheVariants as outside
use Rattle.scop_expressions.specs.Token.{Token}
use Rattle.scop_expressions.specs.Token.TheVariants as token
use Rattle.scop_expressions.specs.Tree.{Tree, tokens_of, size, written, operators}
use Rattle.scop_expressions.specs.Grammar.{IsExpression}
use Rattle.scop_expressions.specs.Machine.{State, start, Move, go, stops, step, fits, goes, run as run_inner, alive}
use Rattle.scop_expressions.proofs.Fronts.{final, accepted, final_complete, closes_behind, index_closes_behind}
use Rattle.scop_grammar.specs.declared.part.Mark.{Mark}
use Rattle.scop_grammar.specs.declared.table.Role.{Role}
use Rattle.scop_grammar.specs.declared.table.Role.TheVariants as role
use Rattle.scop_grammar.specs.declared.table.Want.{Want}
use Rattle.scop_grammar.specs.declared.table.Want.TheVariants as want
use Rattle.scop_grammar.specs.Table.{next, behind, mark, braced, room, left, carried}
use Rattle.scop_grammar.specs.Kernel.{Element, sign, expression, spelled, Piece, nodes_from, marked, pieces, Fits}
use Rattle.scop_grammar.specs.Machine.{Spot, spot, ahead, sign_turn, inner_turn, turn, turns, run, End, goes_on}
use Rattle.scop_grammar.proofs.Paths.{along, Ends, is_over}

-- the expression's run within the kernel's run
pub lift_fits : (d n : ℕ) (r : Role) (s : Spot) (t : Token) (ts rest : List Token) (next last : State) (x : Bool)
    → fits (room r d) (left r n s.used) next ≡ x
    → goes (room r d) (left r n s.used) s.inner t (go next) (λ e. run_inner (room r d) (left r n s.used) e ts)
    ≡ alive last
    → (run_inner (room r d) (left r n s.used) next ts ≡ alive last
    → run d n (spot (want.Inner r) s.braces s.used s.pieces (s.at + 1) s.first next) (ts ++ rest)
    ≡ run d n (spot (want.Inner r) s.braces s.used s.pieces (s.at + 1 + length ts) s.first last) rest)
    → turns s t (inner_turn d n r s t (go next)) (λ p. run d n p (ts ++ rest))
    ≡ run d n (spot (want.Inner r) s.braces s.used s.pieces (s.at + length (t ∷ ts)) s.first last) rest
lift_fits d n r s t ts rest next last false e h later = let g = rw e at h in absurd (cc)
lift_fits d n r s t ts rest next last true e h later =
    let same : s.at + 1 + length ts ≡ s.at + length (t ∷ ts) = omega arith in
    rw e (later (rw e at h)
    ∙ ap (λ (k : ℕ). run d n (spot (want.Inner r) s.braces s.used s.pieces k s.first last) rest) same)

pub lift_move : (d n : ℕ) (r : Role) (s : Spot) (t : Token) (ts rest : List Token) (last : State) (m : Move)
    → goes (room r d) (left r n s.used) s.inner t m (λ e. run_inner (room r d) (left r n s.used) e ts) ≡ alive last
    → ((next : State) → run_inner (room r d) (left r n s.used) next ts ≡ alive last
    → run d n (spot (want.Inner r) s.braces s.used s.pieces (s.at + 1) s.first next) (ts ++ rest)
    ≡ run d n (spot (want.Inner r) s.braces s.used s.pieces (s.at + 1 + length ts) s.first last) rest)
    → turns s t (inner_turn d n r s t m) (λ p. run d n p (ts ++ rest))
    ≡ run d n (spot (want.Inner r) s.braces s.used s.pieces (s.at + length (t ∷ ts)) s.first last) rest
lift_move d n r s t ts rest last (go next) h later =
    lift_fits d n r s t ts rest next last (fits (room r d) (left r n s.used) next) refl h (later next)
lift_move d n r s t ts rest last stops h later = absurd (cc)

pub alive_same : (s last : State) → alive s ≡ alive last → s ≡ last
alive_same s last h = cc

pub lifts : (d n : ℕ) (r : Role) (b u : ℕ) (ps : List Piece) (at f : ℕ) (ts rest : List Token) (s last : State)
    → run_inner (room r d) (left r n u) s ts ≡ alive last
    → run d n (spot (want.Inner r) b u ps at f s) (ts ++ rest)
    ≡ run d n (spot (want.Inner r) b u ps (at + length ts) f last) rest
lifts d n r b u ps at f [] rest s last h =
    let z : at ≡ at + 0 = omega arith in
    ap (λ (e : State). run d n (spot (want.Inner r) b u ps at f e) rest) (alive_same s last h)
    ∙ ap (λ (k : ℕ). run d n (spot (want.Inner r) b u ps k f last) rest) z
lifts d n r b u ps at f (t ∷ ts) rest s last h =
    lift_move d n r (spot (want.Inner r) b u ps at f s) t ts rest last (step s t) h
    (λ (next : State) (e : run_inner (room r d) (left r n u) next ts ≡ alive last).
    lifts d n r b u ps (at + 1) f ts rest next last e)

-- no expression goes on with the sign that ends it
pub behind_stops : (r : Role) (t : Token) (v : Want) (x : Tree) → behind r t ≡ Some v → IsExpression x
    → step (final x) t ≡ stops
behind_stops role.Extent token.CloseIndex v x h e = index_closes_behind x e
behind_stops role.Subscript token.CloseIndex v x h e = index_closes_behind x e
behind_stops role.Condition token.Close v x h e = closes_behind x e
behind_stops role.Step token.Close v x h e = closes_behind x e
behind_stops role.First (token.Outside outside.Semicolon) v x h e = refl
behind_stops role.Second (token.Outside outside.Semicolon) v x h e = refl
behind_stops role.Value (token.Outside outside.Semicolon) v x h e = refl
behind_stops _ _ v x h e = absurd (cc)

-- a sign is looked up in the table
pub turn_sign : (d n : ℕ) (w v : Want) (b u : ℕ) (ps : List Piece) (at f : ℕ) (e : State) (t : Token)
    → next w b t ≡ Some v
    → turn d n (spot w b u ps at f e) t ≡ sign_turn (spot w b u ps at f e) t (Some v)
turn_sign d n (want.Inner r) v b u ps at f e t h = absurd (cc)
turn_sign d n want.Over v b u ps at f e t h = absurd (cc)
turn_sign d n _ v b u ps at f e t h = rw h refl

-- a run that ended with the whole text, which these pieces stand for
pub record Driven (o : End) (ps : List Piece) : Type 0 where
  pub last : Spot
  pub is : o ≡ goes_on last
  pub over : last.want ≡ want.Over
  pub pieces : last.pieces ≡ ps

pub driven_as : (o o' : End) (ps ps' : List Piece) → o ≡ o' → ps ≡ ps' → Driven o' ps' → Driven o ps
driven_as o o' ps ps' e f k = record { last = k.last; is = e ∙ k.is; over = k.over; pieces = k.pieces ∙ sym f }

pub driven_sign : (d n : ℕ) (w : Want) (b u : ℕ) (ps : List Piece) (at : ℕ) (t : Token) (m : Option Mark)
    (es : List Element) (o : Option Want) → next w b t ≡ o
    → along o (λ v. (m ≡ mark w t) × Ends d n v (braced w t b) (carried v u) es)
    → ((v : Want) (qs : List Piece) → Ends d n v (braced w t b) (carried v u) es
    → Driven (run d n (ahead v (braced w t b) u qs (at + 1)) (spelled es)) (qs ++ pieces (at + 1) es))
    → Driven (run d n (spot w b u ps at at start) (t ∷ spelled es)) (ps ++ pieces at (sign t m ∷ es))
driven_sign d n w b u ps at t m es None e p later = absurd p
driven_sign d n w b u ps at t m es (Some v) e p later =
    let one = turn_sign d n w v b u ps at at start t e in
    driven_as (run d n (spot w b u ps at at start) (t ∷ spelled es))
    (run d n (ahead v (braced w t b) u (ps ++ marked m at) (at + 1)) (spelled es))
    (ps ++ pieces at (sign t m ∷ es)) ((ps ++ marked m at) ++ pieces (at + 1) es)
    (rw (one, p.0) refl) (sym (append_assoc ps (marked m at) (pieces (at + 1) es)))
    (later v (ps ++ marked m at) p.1)

pub driven_behind : (d n : ℕ) (r : Role) (b u : ℕ) (ps : List Piece) (at : ℕ) (x : Tree) (t : Token)
    (es : List Element) (o : Option Want) → behind r t ≡ o → Fits (room r d) (left r n u) x
    → along o (λ v. Ends d n v b (carried v (u + operators x)) es)
    → ((v : Want) (qs : List Piece) → Ends d n v b (carried v (u + operators x)) es
    → Driven (run d n (ahead v b (u + operators x) qs (at + size x + 1)) (spelled es))
    (qs ++ pieces (at + size x + 1) es))
    → Driven (run d n (spot (want.Inner r) b u ps at at start) (tokens_of x ++ t ∷ spelled es))
    (ps ++ pieces at (expression x t ∷ es))
driven_behind d n r b u ps at x t es None e f p later = absurd p
driven_behind d n r b u ps at x t es (Some v) e f p later =
    let qs = ps ++ nodes_from at (written 0 x) ∷ [] in
    let inner =
    accepted (room r d) (left r n u) (tokens_of x) x
    (record { expression = f.expression; within = f.within; tokens = refl }) in
    let stop = behind_stops r t v x e f.expression in
    let whole = final_complete x f.expression in
    let same : 0 + operators x ≡ operators x = omega arith in
    driven_as (run d n (spot (want.Inner r) b u ps at at start) (tokens_of x ++ t ∷ spelled es))
    (run d n (ahead v b (u + operators x) qs (at + size x + 1)) (spelled es))
    (ps ++ pieces at (expression x t ∷ es)) (qs ++ pieces (at + size x + 1) es)
    (lifts d n r b u ps at at (tokens_of x) (t ∷ spelled es) start (final x) inner ∙ rw (stop, whole, e, same) refl)
    (sym (append_assoc ps (nodes_from at (written 0 x) ∷ []) (pieces (at + size x + 1) es)))
    (later v qs p)

pub driven : (d n : ℕ) (es : List Element) (w : Want) (b u : ℕ) (ps : List Piece) (at : ℕ) → Ends d n w b u es
    → Driven (run d n (spot w b u ps at at start) (spelled es)) (ps ++ pieces at es)
driven d n [] w b u ps at p =
    record { last = spot w b u ps at at start; is = refl; over = is_over w p; pieces = sym (append-nil ps) }
driven d n (sign t m ∷ es) w b u ps at p =
    driven_sign d n w b u ps at t m es (next w b t) refl p
    (λ (v : Want) (qs : List Piece) (q : Ends d n v (braced w t b) (carried v u) es).
    driven d n es v (braced w t b) (carried v u) qs (at + 1) q)
driven d n (expression x t ∷ es) (want.Inner r) b u ps at p =
    driven_behind d n r b u ps at x t es (behind r t) refl p.0 p.1
    (λ (v : Want) (qs : List Piece) (q : Ends d n v b (carried v (u + operators x)) es).
    driven d n es v b (carried v (u + operators x)) qs (at + size x + 1) q)
driven d n (expression x t ∷ es) _ b u ps at p = absurd p
