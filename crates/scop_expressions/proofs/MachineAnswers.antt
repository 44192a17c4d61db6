-- The machine's answer says what it ought to of the grammar.
use Rattle.std.proofs.Common.{◌≡◌, ℕ, ◌+◌, ◌≤◌, false, List, [], ◌∷◌, ◌++◌, length, refl, sym, ap, ◌∙◌, append_assoc}
use Rattle.std.proofs.Common.{append-nil, length-append, arith, max, Option, Some, None, Ok, Err}
use Rattle.scop_tokens.specs.declared.Token.{Token}
use Rattle.scop_expressions.specs.declared.node.Node.{Node}
use Rattle.scop_expressions.specs.Tree.{Tree, size, written}
use Rattle.scop_expressions.specs.Grammar.{Spells, IsFront}
use Rattle.scop_expressions.specs.Machine.{State, start, go, stops, step, fits, run, Outcome, alive, stopped, deep}
use Rattle.scop_expressions.specs.Machine.{complete, unfit, unended, or_fault, answer, Answer, read}
use Rattle.scop_expressions.specs.Grammar.{told_at}
use Rattle.scop_expressions.specs.Promises.{IsNoExpression}
use Rattle.scop_expressions.specs.steps.Claims.{IsAnswer}
use Rattle.scop_expressions.proofs.Shapes.{Shape, want, cast_word, done, state_of, read_of, Stands, keeps}
use Rattle.scop_expressions.proofs.RunEnds.{Stop, Reached, reached}
use Rattle.scop_expressions.proofs.Fronts.{is_front, final, accepted, final_complete, is_whole, spells_wider}

-- a state knows how many tokens led to it
pub at_shape : (x : Shape) → (state_of x).at ≡ length (read_of x)
at_shape (want fs) = refl
at_shape (cast_word z fs) = simp length-append refl
at_shape (done fs t) = simp length-append refl

pub at_length : (s : State) (ts : List Token) (d : ℕ) → Stands s ts d → s.at ≡ length ts
at_length s ts d k = ap (λ (x : State). x.at) k.is ∙ at_shape k.shape ∙ ap length (sym k.tokens)

-- the start stands for no tokens
pub begins : (d : ℕ) → Stands start [] d
begins d = record { shape = want []; is = refl; tokens = refl; sound = tt; peak = omega arith }

-- where a state is not complete, its tokens are no expression
pub no_expression : (d n : ℕ) (s : State) (ts : List Token) → run d n start ts ≡ alive s → complete s ≡ None
    → IsNoExpression d n ts
no_expression d n s ts e h t x =
    let a = accepted d n ts t x in
    let f = final_complete t x.expression in
    let same : s ≡ final t = cc in
    let c : complete s ≡ Some (written 0 t) = ap complete same ∙ f in
    cc

-- where the machine stops, no text goes on, however deep
pub stopped_unfit : (d n : ℕ) (ts : List Token) (s : State) (t : Token) (stop : Stop d n start [] ts s t)
    → step s t ≡ stops → (e m : ℕ) → IsFront e m (stop.front ++ t ∷ []) → ⊥
stopped_unfit d n ts s t stop h e m v =
    let wide = spells_wider e m (d + e) (n + m) ((stop.front ++ t ∷ []) ++ v.0) v.1 (omega arith) (omega arith) v.2 in
    let a = accepted (d + e) (n + m) ((stop.front ++ t ∷ []) ++ v.0) v.1 wide in
    let r : run (d + e) (n + m) start ((stop.front ++ t ∷ []) ++ v.0) ≡ stopped s =
    rw append_assoc (stop.run (d + e) (n + m) (omega arith) (omega arith) (t ∷ v.0) ∙ rw h refl) in
    cc

pub deep_unfit : (d n : ℕ) (ts : List Token) (s next : State) (t : Token) (stop : Stop d n start [] ts s t)
    → step s t ≡ go next → fits d n next ≡ false → IsFront d n (stop.front ++ t ∷ []) → ⊥
deep_unfit d n ts s next t stop e f v =
    let a = accepted d n ((stop.front ++ t ∷ []) ++ v.0) v.1 v.2 in
    let r : run d n start ((stop.front ++ t ∷ []) ++ v.0) ≡ deep s t =
    rw append_assoc (stop.run d n (omega arith) (omega arith) (t ∷ v.0) ∙ rw (e, f) refl) in
    cc

pub front_runs : (d n : ℕ) (ts : List Token) (s : State) (t : Token) (stop : Stop d n start [] ts s t)
    → run d n start stop.front ≡ alive s
front_runs d n ts s t stop = rw append-nil at (stop.run d n (omega arith) (omega arith) [])

pub alive_answer : (d n : ℕ) (ts : List Token) (s : State) → run d n start ts ≡ alive s → Stands s ts d → s.used ≤ n
    → (o : Option (List Node)) → complete s ≡ o → IsAnswer d n ts (or_fault o unended s.at)
alive_answer d n ts s r k u (Some nodes) e =
    let w = is_whole d n s ts nodes k u e in
    record {
      front = ts;
      rest = [];
      split = sym (append-nil ts);
      length = at_length s ts d k;
      tree = w.tree;
      spells = w.spells;
      written = w.written;
      last = tt;
    }
alive_answer d n ts s r k u None e =
    record { place = at_length s ts d k; fits = is_front d n s ts k u; incomplete = no_expression d n s ts r e }

pub stopped_answer : (d n : ℕ) (ts : List Token) (s : State) (t : Token) → Stop d n start [] ts s t → step s t ≡ stops
    → (o : Option (List Node)) → complete s ≡ o → IsAnswer d n ts (or_fault o unfit s.at)
stopped_answer d n ts s t stop h (Some nodes) e =
    let w = is_whole d n s stop.front nodes stop.stands stop.used e in
    record {
      front = stop.front;
      rest = t ∷ stop.rest;
      split = stop.split;
      length = at_length s stop.front d stop.stands;
      tree = w.tree;
      spells = w.spells;
      written = w.written;
      last = λ v. stopped_unfit d n ts s t stop h v.0 v.1 v.2;
    }
stopped_answer d n ts s t stop h None e =
    record {
      front = stop.front;
      token = t;
      rest = stop.rest;
      split = stop.split;
      place = at_length s stop.front d stop.stands;
      fits = is_front d n s stop.front stop.stands stop.used;
      unfit = λ v. stopped_unfit d n ts s t stop h v.0 v.1 v.2;
      incomplete = no_expression d n s stop.front (front_runs d n ts s t stop) e;
    }

pub go_stands : (ts : List Token) (t : Token) (d : ℕ) (s next : State) → step s t ≡ go next → Stands s ts d
    → Stands next (ts ++ t ∷ []) (max d next.brackets)
go_stands ts t d s next e k = rw e at (keeps s ts d t k)

pub outcome_answer : (d n : ℕ) (ts : List Token) (o : Outcome) → run d n start ts ≡ o → Reached d n start [] ts o
    → IsAnswer d n ts (answer o)
outcome_answer d n ts (alive s) e r = alive_answer d n ts s e r.0 r.1 (complete s) refl
outcome_answer d n ts (stopped s) e r = stopped_answer d n ts s r.0 r.1 r.2 (complete s) refl
outcome_answer d n ts (deep s t) e r =
    let stop = r.1 in
    record {
      front = stop.front;
      token = t;
      rest = stop.rest;
      split = stop.split;
      place = ap (told_at t) (at_length s stop.front d stop.stands);
      fits = is_front d n s stop.front stop.stands stop.used;
      deep = deep_unfit d n ts s r.0 t stop r.2 r.3;
      without_limits = (
        max d r.0.brackets,
        r.0.used,
        is_front (max d r.0.brackets) r.0.used r.0 (stop.front ++ t ∷ [])
            (go_stands stop.front t d s r.0 r.2 stop.stands) (omega arith),
      );
    }

pub read_answers : (d n : ℕ) (ts : List Token) → IsAnswer d n ts (read d n ts)
read_answers d n ts =
    outcome_answer d n ts (run d n start ts) refl (reached d n ts start [] (begins d) (omega arith))

-- an expression is read as its own nodes
pub spelled_read : (d n : ℕ) (ts : List Token) (t : Tree) → Spells d n ts t
    → read d n ts ≡ Ok (written 0 t, length ts)
spelled_read d n ts t x =
    let a = accepted d n ts t x in
    let f = final_complete t x.expression in
    ap answer a
    ∙ ap (λ (o : Option (List Node)). or_fault o unended (0 + size t)) f
    ∙ rw x.tokens (ap (λ (k : ℕ). Ok (written 0 t, k)) (omega arith))

abbrev pub nodes_read : Answer → List Node
nodes_read (Ok r) = r.0
nodes_read (Err e) = []

-- so there is one at most
pub one_reading : (d n : ℕ) (ts : List Token) (t u : Tree) → Spells d n ts t → Spells d n ts u
    → written 0 t ≡ written 0 u
one_reading d n ts t u x y =
    ap nodes_read (sym (spelled_read d n ts t x) ∙ spelled_read d n ts u y)
