-- Every tree drives the machine over its tokens, whatever comes behind.
use Rattle.std.proofs.Common.{◌≡◌, ℕ, ◌+◌, ◌-◌, ◌≤◌, List, [], ◌∷◌, ◌++◌, refl, ◌∙◌, append_assoc, length-append, arith}
use Rattle.std.proofs.lemmas.Bool.{le-leb}
use Rattle.scop_tokens.specs.declared.Op.{Op}
use Rattle.scop_expressions.specs.declared.token.Sign.{Sign}
use Rattle.scop_expressions.specs.declared.token.Sign.TheVariants as sign
use Rattle.scop_tokens.specs.declared.Token.{Token}
use Rattle.scop_tokens.specs.declared.Token.TheVariants as token
use Rattle.scop_expressions.specs.declared.node.Node.{Node}
use Rattle.scop_expressions.specs.declared.node.Node.TheVariants as node
use Rattle.scop_expressions.specs.declared.node.Held.{Held}
use Rattle.scop_expressions.specs.declared.node.Held.TheVariants as held
use Rattle.scop_expressions.specs.declared.node.Last.{Last}
use Rattle.scop_expressions.specs.declared.node.Last.TheVariants as last
use Rattle.scop_expressions.specs.declared.node.Mode.{Mode}
use Rattle.scop_expressions.specs.declared.node.Mode.TheVariants as mode
use Rattle.scop_expressions.specs.Tree.{Tree, constant, name, group, index, bare_call, call, unary, cast, binary}
use Rattle.scop_expressions.specs.Tree.{level, cost, rank, size, depth, operators, written, WellBracketed, IsPlace}
use Rattle.scop_expressions.specs.Tree.{tokens_of, sign_token}
use Rattle.scop_expressions.specs.Machine.{state, go, step, demand, reduced, run}
use Rattle.scop_expressions.proofs.Runs.{run_goes, level_most, spine, shown, last_of, reduced_spine}
use Rattle.scop_expressions.proofs.Runs.{reduced_stays}

pub step_sign : (s : Sign) (hs : List Held) (ns : List Node) (at b u : ℕ)
    → step (state mode.Want hs ns at b u) (sign_token s)
    ≡ go (state mode.Want (held.Unary s at ∷ hs) ns (at + 1) b (u + 1))
step_sign sign.Minus hs ns at b u = refl
step_sign _ hs ns at b u = refl

-- the steps behind an operand
pub step_close : (l : Last) (hs hs' : List Held) (p : ℕ) (ns ns' : List Node) (at b u : ℕ)
    → reduced 0 hs ns ≡ (held.Group p ∷ hs', ns')
    → step (state (mode.Done l) hs ns at b u) token.Close
    ≡ go (state (mode.Done last.Other) hs' ns' (at + 1) (b - 1) u)
step_close l hs hs' p ns ns' at b u e = rw e refl

pub step_close_call : (l : Last) (hs hs' : List Held) (p : ℕ) (ns ns' : List Node) (at b u : ℕ)
    → reduced 0 hs ns ≡ (held.Call p ∷ hs', ns')
    → step (state (mode.Done l) hs ns at b u) token.Close
    ≡ go (state (mode.Done last.Other) hs' (ns' ++ node.Call p ∷ []) (at + 1) (b - 1) u)
step_close_call l hs hs' p ns ns' at b u e = rw e refl

pub step_close_index : (l : Last) (hs hs' : List Held) (p : ℕ) (ns ns' : List Node) (at b u : ℕ)
    → reduced 0 hs ns ≡ (held.Index p ∷ hs', ns')
    → step (state (mode.Done l) hs ns at b u) token.CloseIndex
    ≡ go (state (mode.Done last.Subscript) hs' (ns' ++ node.Index p ∷ []) (at + 1) (b - 1) u)
step_close_index l hs hs' p ns ns' at b u e = rw e refl

pub step_binary : (o : Op) (l : Last) (hs hs' : List Held) (ns ns' : List Node) (at b u : ℕ)
    → reduced (level o) hs ns ≡ (hs', ns') → demand hs' ≤ level o
    → step (state (mode.Done l) hs ns at b u) (token.Binary o)
    ≡ go (state mode.Want (held.Binary o at ∷ hs') ns' (at + 1) b (u + cost o))
step_binary o l hs hs' ns ns' at b u e h = rw (e, le-leb (demand hs') (level o) h) refl

-- equal numbers, equal runs
pub run_same : (d n : ℕ) (m : Mode) (hs : List Held) (ns ns' : List Node) (at at' b b' u u' : ℕ) (ts : List Token)
    → ns ≡ ns' → at ≡ at' → b ≡ b' → u ≡ u'
    → run d n (state m hs ns at b u) ts ≡ run d n (state m hs ns' at' b' u') ts
run_same d n m hs ns ns' at at' b b' u u' ts e f g h = rw (e, f, g, h) refl

pub place_rank : (t : Tree) → IsPlace t → 12 ≤ rank t
place_rank name p = omega arith
place_rank (index t i) p = omega arith
place_rank _ p = absurd p

-- a subscript stands behind a place, which reduces nothing
pub place_index : (at b u : ℕ) (t : Tree) (hs : List Held) (ns : List Node) (next : ℕ) → IsPlace t
    → step (state (mode.Done (last_of t)) (spine at t hs) (shown at t ns) next b u) token.OpenIndex
    ≡ go (state mode.Want (held.Index next ∷ hs) (ns ++ written at t) (next + 1) (b + 1) u)
place_index at b u name hs ns next p = refl
place_index at b u (index t i) hs ns next p = refl
place_index at b u _ hs ns next p = absurd p

pub drives : (d n : ℕ) (t : Tree) (hs : List Held) (ns : List Node) (at b u : ℕ) (rest : List Token)
    → WellBracketed t → demand hs ≤ rank t → b + depth t ≤ d → u + operators t ≤ n
    → run d n (state mode.Want hs ns at b u) (tokens_of t ++ rest)
    ≡ run d n (state (mode.Done (last_of t)) (spine at t hs) (shown at t ns) (at + size t) b (u + operators t)) rest
drives d n (constant c) hs ns at b u rest w h deep many =
    let ns' = ns ++ node.Constant c at ∷ [] in
    run_goes d n (state mode.Want hs ns at b u) (state (mode.Done last.Other) hs ns' (at + 1) b u)
    (token.Constant c) rest refl (omega arith) (omega arith)
    ∙ run_same d n (mode.Done last.Other) hs ns' ns' (at + 1) (at + 1) b b u (u + 0) rest refl refl refl (omega arith)
drives d n name hs ns at b u rest w h deep many =
    let ns' = ns ++ node.Name at ∷ [] in
    run_goes d n (state mode.Want hs ns at b u) (state (mode.Done last.Name) hs ns' (at + 1) b u)
    token.Name rest refl (omega arith) (omega arith)
    ∙ run_same d n (mode.Done last.Name) hs ns' ns' (at + 1) (at + 1) b b u (u + 0) rest refl refl refl (omega arith)
drives d n (group t) hs ns at b u rest w h deep many =
    let r = w.0 in
    let hs' = held.Group at ∷ hs in
    let v = u + operators t in
    let ns' = ns ++ written (at + 1) t in
    let inner : reduced 0 (spine (at + 1) t hs') (shown (at + 1) t ns) ≡ (hs', ns') =
    reduced_spine 0 (at + 1) t hs' ns w.1 (omega arith) (omega arith) in
    let here =
    state (mode.Done (last_of t)) (spine (at + 1) t hs') (shown (at + 1) t ns) (at + 1 + size t) (b + 1) v in
    let next = state (mode.Done last.Other) hs ns' (at + 1 + size t + 1) (b + 1 - 1) v in
    run_goes d n (state mode.Want hs ns at b u) (state mode.Want hs' ns (at + 1) (b + 1) u) token.Open
    ((tokens_of t ++ token.Close ∷ []) ++ rest) refl (omega arith) (omega arith)
    ∙ rw append_assoc
    (drives d n t hs' ns (at + 1) (b + 1) u (token.Close ∷ rest) w.1 r (omega arith) (omega arith))
    ∙ run_goes d n here next token.Close rest
    (step_close (last_of t) (spine (at + 1) t hs') hs at (shown (at + 1) t ns) ns' (at + 1 + size t) (b + 1) v inner)
    (omega arith) (omega arith)
    ∙ run_same d n (mode.Done last.Other) hs ns' ns' (at + 1 + size t + 1) (at + size (group t)) (b + 1 - 1) b v v rest
    refl (simp length-append (omega arith)) (omega arith) refl
drives d n (index t i) hs ns at b u rest w h deep many =
    let r = w.1 in
    let q = place_rank t w.0 in
    let at' = at + size t in
    let hs' = held.Index at' ∷ hs in
    let v = u + operators t in
    let v' = v + operators i in
    let ns' = ns ++ written at t in
    let ns'' = (ns' ++ written (at' + 1) i) ++ node.Index at' ∷ [] in
    let more = (tokens_of i ++ token.CloseIndex ∷ []) ++ rest in
    let inner : reduced 0 (spine (at' + 1) i hs') (shown (at' + 1) i ns') ≡ (hs', ns' ++ written (at' + 1) i) =
    reduced_spine 0 (at' + 1) i hs' ns' w.3 (omega arith) (omega arith) in
    let here =
    state (mode.Done (last_of i)) (spine (at' + 1) i hs') (shown (at' + 1) i ns') (at' + 1 + size i) (b + 1) v' in
    let next = state (mode.Done last.Subscript) hs ns'' (at' + 1 + size i + 1) (b + 1 - 1) v' in
    rw append_assoc
    (drives d n t hs ns at b u (token.OpenIndex ∷ more) w.2 (omega arith) (omega arith) (omega arith))
    ∙ run_goes d n (state (mode.Done (last_of t)) (spine at t hs) (shown at t ns) at' b v)
    (state mode.Want hs' ns' (at' + 1) (b + 1) v) token.OpenIndex more
    (place_index at b v t hs ns at' w.0) (omega arith) (omega arith)
    ∙ rw append_assoc
    (drives d n i hs' ns' (at' + 1) (b + 1) v (token.CloseIndex ∷ rest) w.3 r (omega arith) (omega arith))
    ∙ run_goes d n here next token.CloseIndex rest
    (step_close_index (last_of i) (spine (at' + 1) i hs') hs at' (shown (at' + 1) i ns')
    (ns' ++ written (at' + 1) i) (at' + 1 + size i) (b + 1) v' inner) (omega arith) (omega arith)
    ∙ run_same d n (mode.Done last.Subscript) hs ns'' (ns ++ written at (index t i)) (at' + 1 + size i + 1)
    (at + size (index t i)) (b + 1 - 1) b v' (u + operators (index t i)) rest
    (simp append_assoc) (simp length-append (omega arith)) (omega arith) (omega arith)
drives d n bare_call hs ns at b u rest w h deep many =
    let ns' = ns ++ node.Name at ∷ [] in
    let ns'' = ns' ++ node.BareCall (at + 1) ∷ [] in
    let named = state (mode.Done last.Name) hs ns' (at + 1) b u in
    let called = state mode.Want (held.Call (at + 1) ∷ hs) ns' (at + 1 + 1) (b + 1) u in
    run_goes d n (state mode.Want hs ns at b u) named token.Name (token.Open ∷ token.Close ∷ rest)
    refl (omega arith) (omega arith)
    ∙ run_goes d n named called token.Open (token.Close ∷ rest) refl (omega arith) (omega arith)
    ∙ run_goes d n called (state (mode.Done last.Other) hs ns'' (at + 1 + 1 + 1) (b + 1 - 1) u) token.Close rest
    refl (omega arith) (omega arith)
    ∙ run_same d n (mode.Done last.Other) hs ns'' (ns ++ written at bare_call) (at + 1 + 1 + 1) (at + 3)
    (b + 1 - 1) b u (u + 0) rest (simp append_assoc) (omega arith) (omega arith) (omega arith)
drives d n (call t) hs ns at b u rest w h deep many =
    let at' = at + 1 + 1 in
    let hs' = held.Call (at + 1) ∷ hs in
    let ns' = ns ++ node.Name at ∷ [] in
    let ns'' = (ns' ++ written at' t) ++ node.Call (at + 1) ∷ [] in
    let v = u + operators t in
    let more = (tokens_of t ++ token.Close ∷ []) ++ rest in
    let inner : reduced 0 (spine at' t hs') (shown at' t ns') ≡ (hs', ns' ++ written at' t) =
    reduced_spine 0 at' t hs' ns' w (omega arith) (omega arith) in
    let named = state (mode.Done last.Name) hs ns' (at + 1) b u in
    let here = state (mode.Done (last_of t)) (spine at' t hs') (shown at' t ns') (at' + size t) (b + 1) v in
    let next = state (mode.Done last.Other) hs ns'' (at' + size t + 1) (b + 1 - 1) v in
    run_goes d n (state mode.Want hs ns at b u) named token.Name (token.Open ∷ more) refl (omega arith) (omega arith)
    ∙ run_goes d n named (state mode.Want hs' ns' at' (b + 1) u) token.Open more refl (omega arith) (omega arith)
    ∙ rw append_assoc
    (drives d n t hs' ns' at' (b + 1) u (token.Close ∷ rest) w (omega arith) (omega arith) (omega arith))
    ∙ run_goes d n here next token.Close rest
    (step_close_call (last_of t) (spine at' t hs') hs (at + 1) (shown at' t ns') (ns' ++ written at' t)
    (at' + size t) (b + 1) v inner) (omega arith) (omega arith)
    ∙ run_same d n (mode.Done last.Other) hs ns'' (ns ++ written at (call t)) (at' + size t + 1) (at + size (call t))
    (b + 1 - 1) b v v rest (simp append_assoc) (simp length-append (omega arith)) (omega arith) refl
drives d n (unary s t) hs ns at b u rest w h deep many =
    let r = w.0 in
    let hs' = held.Unary s at ∷ hs in
    let ns' = shown (at + 1) t ns in
    run_goes d n (state mode.Want hs ns at b u) (state mode.Want hs' ns (at + 1) b (u + 1)) (sign_token s)
    (tokens_of t ++ rest) (step_sign s hs ns at b u) (omega arith) (omega arith)
    ∙ drives d n t hs' ns (at + 1) b (u + 1) rest w.1 r (omega arith) (omega arith)
    ∙ run_same d n (mode.Done (last_of t)) (spine (at + 1) t hs') ns' ns' (at + 1 + size t) (at + size (unary s t))
    b b (u + 1 + operators t) (u + operators (unary s t)) rest refl (omega arith) refl (omega arith)
drives d n (cast z t) hs ns at b u rest w h deep many =
    let r = w.0 in
    let hs' = held.Cast z at ∷ hs in
    let at' = at + 1 + 1 + 1 in
    let ns' = shown at' t ns in
    let more = tokens_of t ++ rest in
    let grouped = state mode.Want (held.Group at ∷ hs) ns (at + 1) (b + 1) u in
    let worded = state (mode.Casting z) (held.Group at ∷ hs) ns (at + 1 + 1) (b + 1) (u + 1) in
    let next = state mode.Want hs' ns at' (b + 1 - 1) (u + 1) in
    run_goes d n (state mode.Want hs ns at b u) grouped token.Open ((token.Unsigned z) ∷ token.Close ∷ more)
    refl (omega arith) (omega arith)
    ∙ run_goes d n grouped worded (token.Unsigned z) (token.Close ∷ more) refl (omega arith) (omega arith)
    ∙ run_goes d n worded next token.Close more refl (omega arith) (omega arith)
    ∙ run_same d n mode.Want hs' ns ns at' at' (b + 1 - 1) b (u + 1) (u + 1) more refl refl (omega arith) refl
    ∙ drives d n t hs' ns at' b (u + 1) rest w.1 r (omega arith) (omega arith)
    ∙ run_same d n (mode.Done (last_of t)) (spine at' t hs') ns' ns' (at' + size t) (at + size (cast z t)) b b
    (u + 1 + operators t) (u + operators (cast z t)) rest refl (omega arith) refl (omega arith)
drives d n (binary o a c) hs ns at b u rest w h deep many =
    let l = w.0 in
    let r = w.1 in
    let most = level_most o in
    let at' = at + size a in
    let hs' = held.Binary o at' ∷ hs in
    let ns' = ns ++ written at a in
    let ns'' = shown (at' + 1) c ns' in
    let v = u + operators a in
    let more = tokens_of c ++ rest in
    let inner : reduced (level o) (spine at a hs) (shown at a ns) ≡ (hs, ns') =
    reduced_spine (level o) at a hs ns w.2 l most ∙ reduced_stays (level o) hs ns' h in
    rw append_assoc
    (drives d n a hs ns at b u (token.Binary o ∷ more) w.2 (omega arith) (omega arith) (omega arith))
    ∙ run_goes d n (state (mode.Done (last_of a)) (spine at a hs) (shown at a ns) at' b v)
    (state mode.Want hs' ns' (at' + 1) b (v + cost o)) (token.Binary o) more
    (step_binary o (last_of a) (spine at a hs) hs (shown at a ns) ns' at' b v inner h) (omega arith) (omega arith)
    ∙ drives d n c hs' ns' (at' + 1) b (v + cost o) rest w.3 (omega arith) (omega arith) (omega arith)
    ∙ run_same d n (mode.Done (last_of c)) (spine (at' + 1) c hs') ns'' ns'' (at' + 1 + size c)
    (at + size (binary o a c)) b b (v + cost o + operators c) (u + operators (binary o a c)) rest
    refl (simp length-append (omega arith)) refl (omega arith)
