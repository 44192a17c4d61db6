-- The parts of a kernel stand at the tokens that spell them.
use Rattle.scop_syntax.proofs.Common.{◌≡◌, ◌∙◌, inl, inr, ap, subst, refl, ℕ, zero, suc, ◌+◌, ◌≤◌, Bool, true, false}
use Rattle.scop_syntax.proofs.Common.{List, [], ◌∷◌, ◌++◌, length, slice_get, arith, length-append, All, Some, All-nil}
use Rattle.scop_syntax.proofs.Common.{All-cons, All-append, get_behind}
use Rattle.whole_numbers.proofs.Entries.{found_front}
use Rattle.scop_expressions.specs.declared.node.Node.{Node}
use Rattle.scop_expressions.specs.declared.node.Node.TheVariants as node
use Rattle.scop_expressions.specs.Token.{Token}
use Rattle.scop_expressions.specs.Token.TheVariants as token
use Rattle.scop_expressions.specs.Outside.TheVariants as outside
use Rattle.scop_expressions.specs.Assign.{Assign}
use Rattle.scop_expressions.specs.Assign.TheVariants as set
use Rattle.scop_expressions.specs.Tree.{Tree, IsPlace, WellBracketed, tokens_of, size, written, sign_token}
use Rattle.scop_expressions.specs.Tree as tree
use Rattle.scop_grammar.specs.Kernel.{Element, spelled, expression, semicolon, comma, Step, counted, counts}
use Rattle.scop_grammar.specs.Kernel.{assigned, Head, branch, loop, Item, block, empty, assign, headed, Items, none}
use Rattle.scop_grammar.specs.Kernel.{more, Parameter, number, array, Kernel, place_elements, head_elements}
use Rattle.scop_grammar.specs.Kernel.{step_elements, item_elements, all_elements, extents, parameter_elements}
use Rattle.scop_grammar.specs.Kernel.{other_parameters, other_names, declarations, begins, ends, kernel_elements}
use Rattle.scop_grammar.specs.Kernel.{ItemFits, ItemsFit, Spells, assign_sign, plain}
use Rattle.scop_grammar.proofs.Parses.{spelled_append}
use Rattle.scop_roles.specs.Formula.{Formula, Lookup, formula, constant, name, index, bare_call, call, unary, cast}
use Rattle.scop_roles.specs.Formula.{binary}
use Rattle.scop_roles.proofs.FormulaStack.{size_group, size_index, size_call, size_unary, size_cast, size_binary}
use Rattle.scop_units.specs.Words.{Words}
use Rattle.scop_units.specs.Scopes.{Scope, no_scope, with_loop, look}
use Rattle.scop_units.specs.Judging.{width, extents_in, behind_parameter, behind_head, second_at}
use Rattle.scop_units.specs.Judging.{step_at, changed, change, loop_head, names_end, others_at}
use Rattle.scop_units.specs.Judging.{declared_at}
use Rattle.scop_units.specs.Judging.{items_at, first_scope, body_scope}
use Rattle.scop_arithmetic.specs.Tokens.{IsAt, StandsBetween, ChangeStands, LoopStands, HeadStands, ItemStands}
use Rattle.scop_arithmetic.specs.Tokens.{ItemsStand, ExtentsStand, ParameterStands, ParametersStand, NamesStand}
use Rattle.scop_arithmetic.specs.Tokens.{DeclaredStand, KernelStands, NodeStands}

-- these tokens stand among all from a place on
pub record AreFrom (ts : List Token) (at : ℕ) (us : List Token) : Type 0 where
  pub each : (i : ℕ) (x : Token) → slice_get us i ≡ Some x → IsAt ts (at + i) x

front : (ts : List Token) (at : ℕ) (us vs : List Token) → AreFrom ts at (us ++ vs) → AreFrom ts at us
front ts at us vs h = record { each = λ i x e. h.each i x (found_front us vs i x e) }

behind : (ts : List Token) (at : ℕ) (us vs : List Token) → AreFrom ts at (us ++ vs) → AreFrom ts (at + length us) vs
behind ts at us vs h =
    record {
      each = λ i x e.
          let same : at + (length us + i) ≡ (at + length us) + i = omega arith in
          subst (λ k. IsAt ts k x) same (h.each (length us + i) x (get_behind us vs i ∙ e));
    }

here : (ts : List Token) (at : ℕ) (x : Token) (us : List Token) → AreFrom ts at (x ∷ us) → IsAt ts at x
here ts at x us h = let same : at + 0 ≡ at = omega arith in subst (λ k. IsAt ts k x) same (h.each 0 x refl)

next : (ts : List Token) (at : ℕ) (x : Token) (us : List Token) → AreFrom ts at (x ∷ us) → AreFrom ts (at + 1) us
next ts at x us h =
    record {
      each = λ i y e.
          let same : at + suc i ≡ (at + 1) + i = omega arith in
          subst (λ k. IsAt ts k y) same (h.each (suc i) y e);
    }

-- a formula stands between wider places
widened : (ts : List Token) (see : Lookup) (from to low high : ℕ) (f : Formula) → low ≤ from → to ≤ high
    → StandsBetween ts see from to f → StandsBetween ts see low high f
widened ts see from to low high (constant s v at) l g h =
    let a = h.0 in let b = h.1 in (omega (arith, l, a), omega (arith, g, b), h.2, h.3)
widened ts see from to low high (name m at) l g h =
    let a = h.0 in let b = h.1 in (omega (arith, l, a), omega (arith, g, b), h.2, h.3)
widened ts see from to low high (index p i) l g h = (
  h.0,
  widened ts see from h.0 low h.0 p l (omega arith) h.1,
  h.2,
  widened ts see (h.0 + 1) to (h.0 + 1) high i (omega arith) g h.3,
)
widened ts see from to low high (bare_call m at) l g h =
    let a = h.0 in let b = h.1 in (omega (arith, l, a), omega (arith, g, b), h.2, h.3, h.4)
widened ts see from to low high (call m f at) l g h =
    let a = h.0 in
    (omega (arith, l, a), h.1, h.2, h.3, widened ts see (at + 1 + 1) to (at + 1 + 1) high f (omega arith) g h.4)
widened ts see from to low high (unary s f at) l g h =
    let a = h.0 in (omega (arith, l, a), h.1, widened ts see (at + 1) to (at + 1) high f (omega arith) g h.2)
widened ts see from to low high (cast w f at) l g h =
    let a = h.0 in (
      omega (arith, l, a),
      h.1,
      h.2,
      widened ts see (at + 1 + 1 + 1) to (at + 1 + 1 + 1) high f (omega arith) g h.3,
    )
widened ts see from to low high (binary o f g at) l r h = (
  widened ts see from at low at f l (omega arith) h.0,
  h.1,
  widened ts see (at + 1) to (at + 1) high g (omega arith) r h.2,
)

-- the formula of a tree stands at the tree's tokens
pub formula_stands : (ts : List Token) (see : Lookup) (at : ℕ) (t : Tree) → AreFrom ts at (tokens_of t)
    → StandsBetween ts see at (at + size t) (formula see at t)
formula_stands ts see at (tree.constant s) h = (omega arith, omega arith, here ts at (token.Constant s) [] h, refl)
formula_stands ts see at tree.name h = (omega arith, omega arith, here ts at token.Name [] h, refl)
formula_stands ts see at (tree.group t) h =
    let inner = front ts (at + 1) (tokens_of t) (token.Close ∷ []) (next ts at token.Open _ h) in
    let long = size_group t in
    widened ts see (at + 1) (at + 1 + size t) at (at + size (tree.group t)) (formula see (at + 1) t) (omega arith)
    (omega (arith, long)) (formula_stands ts see (at + 1) t inner)
formula_stands ts see at (tree.index t i) h =
    let rest = behind ts at (tokens_of t) _ h in
    let sub = next ts (at + size t) token.OpenIndex _ rest in
    let long = size_index t i in (
      at + size t,
      formula_stands ts see at t (front ts at (tokens_of t) _ h),
      here ts (at + size t) token.OpenIndex _ rest,
      widened ts see (at + size t + 1) (at + size t + 1 + size i) (at + size t + 1) (at + size (tree.index t i))
          (formula see (at + size t + 1) i) (omega arith) (omega (arith, long))
          (formula_stands ts see (at + size t + 1) i
          (front ts (at + size t + 1) (tokens_of i) (token.CloseIndex ∷ []) sub)),
    )
formula_stands ts see at tree.bare_call h = (
  omega arith,
  omega arith,
  here ts at token.Name _ h,
  here ts (at + 1) token.Open _ (next ts at token.Name _ h),
  refl,
)
formula_stands ts see at (tree.call t) h =
    let one = next ts at token.Name _ h in
    let two = next ts (at + 1) token.Open _ one in
    let long = size_call t in (
      omega arith,
      here ts at token.Name _ h,
      here ts (at + 1) token.Open _ one,
      refl,
      widened ts see (at + 1 + 1) (at + 1 + 1 + size t) (at + 1 + 1) (at + size (tree.call t))
          (formula see (at + 1 + 1) t) (omega arith) (omega (arith, long))
          (formula_stands ts see (at + 1 + 1) t (front ts (at + 1 + 1) (tokens_of t) (token.Close ∷ []) two)),
    )
formula_stands ts see at (tree.unary s t) h =
    let long = size_unary s t in (
      omega arith,
      here ts at (sign_token s) _ h,
      widened ts see (at + 1) (at + 1 + size t) (at + 1) (at + size (tree.unary s t)) (formula see (at + 1) t)
          (omega arith) (omega (arith, long)) (formula_stands ts see (at + 1) t (next ts at (sign_token s) _ h)),
    )
formula_stands ts see at (tree.cast w t) h =
    let one = next ts at token.Open _ h in
    let two = next ts (at + 1) (token.Unsigned w) _ one in
    let three = next ts (at + 1 + 1) token.Close _ two in
    let long = size_cast w t in (
      omega arith,
      here ts at token.Open _ h,
      here ts (at + 1) (token.Unsigned w) _ one,
      widened ts see (at + 1 + 1 + 1) (at + 1 + 1 + 1 + size t) (at + 1 + 1 + 1) (at + size (tree.cast w t))
          (formula see (at + 1 + 1 + 1) t) (omega arith) (omega (arith, long))
          (formula_stands ts see (at + 1 + 1 + 1) t three),
    )
formula_stands ts see at (tree.binary o a b) h =
    let rest = behind ts at (tokens_of a) _ h in
    let long = size_binary o a b in (
      formula_stands ts see at a (front ts at (tokens_of a) _ h),
      here ts (at + size a) (token.Binary o) _ rest,
      widened ts see (at + size a + 1) (at + size a + 1 + size b) (at + size a + 1) (at + size (tree.binary o a b))
          (formula see (at + size a + 1) b) (omega arith) (omega (arith, long))
          (formula_stands ts see (at + size a + 1) b (next ts (at + size a) (token.Binary o) _ rest)),
    )

-- the nodes of a tree stand at its tokens
one : (ts : List Token) (n : Node) → NodeStands ts n → All (NodeStands ts) (n ∷ [])
one ts n h = All-cons (NodeStands ts) n [] h (All-nil (NodeStands ts))

nodes_stand : (ts : List Token) (at : ℕ) (t : Tree) → AreFrom ts at (tokens_of t) → All (NodeStands ts) (written at t)
nodes_stand ts at (tree.constant s) h = one ts (node.Constant s at) (here ts at (token.Constant s) [] h)
nodes_stand ts at tree.name h = one ts (node.Name at) (here ts at token.Name [] h)
nodes_stand ts at (tree.group t) h =
    nodes_stand ts (at + 1) t (front ts (at + 1) (tokens_of t) (token.Close ∷ []) (next ts at token.Open _ h))
nodes_stand ts at (tree.index t i) h =
    let rest = behind ts at (tokens_of t) (token.OpenIndex ∷ (tokens_of i ++ token.CloseIndex ∷ [])) h in
    let sub = front ts (at + size t + 1) (tokens_of i) (token.CloseIndex ∷ [])
    (next ts (at + size t) token.OpenIndex _ rest) in
    All-append (NodeStands ts) (written at t) (written (at + size t + 1) i ++ node.Index (at + size t) ∷ [])
    (nodes_stand ts at t (front ts at (tokens_of t) _ h))
    (All-append (NodeStands ts) (written (at + size t + 1) i) (node.Index (at + size t) ∷ [])
    (nodes_stand ts (at + size t + 1) i sub)
    (one ts (node.Index (at + size t)) (here ts (at + size t) token.OpenIndex _ rest)))
nodes_stand ts at tree.bare_call h =
    All-cons (NodeStands ts) (node.Name at) (node.BareCall (at + 1) ∷ []) (here ts at token.Name _ h)
    (one ts (node.BareCall (at + 1)) (here ts (at + 1) token.Open _ (next ts at token.Name _ h)))
nodes_stand ts at (tree.call t) h =
    let first = next ts at token.Name _ h in
    let second = next ts (at + 1) token.Open _ first in
    let inner = front ts (at + 1 + 1) (tokens_of t) (token.Close ∷ []) second in
    All-cons (NodeStands ts) (node.Name at) (written (at + 1 + 1) t ++ node.Call (at + 1) ∷ [])
    (here ts at token.Name _ h)
    (All-append (NodeStands ts) (written (at + 1 + 1) t) (node.Call (at + 1) ∷ []) (nodes_stand ts (at + 1 + 1) t inner)
    (one ts (node.Call (at + 1)) (here ts (at + 1) token.Open _ first)))
nodes_stand ts at (tree.unary s t) h =
    All-append (NodeStands ts) (written (at + 1) t) (node.Unary s at ∷ [])
    (nodes_stand ts (at + 1) t (next ts at (sign_token s) _ h))
    (one ts (node.Unary s at) (here ts at (sign_token s) _ h))
nodes_stand ts at (tree.cast w t) h =
    let first = next ts at token.Open _ h in
    let second = next ts (at + 1) (token.Unsigned w) _ first in
    All-append (NodeStands ts) (written (at + 1 + 1 + 1) t) (node.Cast w at ∷ [])
    (nodes_stand ts (at + 1 + 1 + 1) t (next ts (at + 1 + 1) token.Close _ second))
    (one ts (node.Cast w at) (here ts at token.Open _ h, here ts (at + 1) (token.Unsigned w) _ first))
nodes_stand ts at (tree.binary o a b) h =
    let rest = behind ts at (tokens_of a) (token.Binary o ∷ tokens_of b) h in
    All-append (NodeStands ts) (written at a) (written (at + size a + 1) b ++ node.Binary o (at + size a) ∷ [])
    (nodes_stand ts at a (front ts at (tokens_of a) _ h))
    (All-append (NodeStands ts) (written (at + size a + 1) b) (node.Binary o (at + size a) ∷ [])
    (nodes_stand ts (at + size a + 1) b (next ts (at + size a) (token.Binary o) _ rest))
    (one ts (node.Binary o (at + size a)) (here ts (at + size a) (token.Binary o) _ rest)))

pub own_nodes : (t : Tree) → All (NodeStands (tokens_of t)) (written 0 t)
own_nodes t =
    nodes_stand (tokens_of t) 0 t
    (record { each = λ i x e. let same : i ≡ 0 + i = omega arith in subst (λ k. IsAt (tokens_of t) k x) same e })

-- elements, one behind another
el_front : (ts : List Token) (at : ℕ) (es fs : List Element) → AreFrom ts at (spelled (es ++ fs))
    → AreFrom ts at (spelled es)
el_front ts at es fs h = front ts at (spelled es) (spelled fs) (subst (AreFrom ts at) (spelled_append es fs) h)

el_behind : (ts : List Token) (at : ℕ) (es fs : List Element) → AreFrom ts at (spelled (es ++ fs))
    → AreFrom ts (at + width es) (spelled fs)
el_behind ts at es fs h = behind ts at (spelled es) (spelled fs) (subst (AreFrom ts at) (spelled_append es fs) h)

-- an expression, with a sign behind it
pub x_stands : (ts : List Token) (see : Lookup) (at : ℕ) (x : Tree) (us : List Token)
    → AreFrom ts at (tokens_of x ++ us) → StandsBetween ts see at (at + size x) (formula see at x)
x_stands ts see at x us h = formula_stands ts see at x (front ts at (tokens_of x) us h)

-- the name that a step changes, and how
change_stands : (ts : List Token) (see : Lookup) (at : ℕ) (st : Step) → AreFrom ts at (spelled (step_elements st))
    → (to : ℕ) × (to + 1 ≡ at + width (step_elements st))
    × ChangeStands ts see at to (changed see at st) (change see at st) × IsAt ts to token.Close
change_stands ts see at (counted c) h =
    let sign_from = next ts at token.Name _ h in
    let close_from = next ts (at + 1) (token.Outside (outside.Count c)) _ sign_from in (
      at + 1 + 1,
      omega arith,
      inl (
        (omega arith, omega arith, here ts at token.Name _ h, refl),
        here ts (at + 1) (token.Outside (outside.Count c)) _ sign_from,
      ),
      here ts (at + 1 + 1) token.Close _ close_from,
    )
change_stands ts see at (counts c) h =
    let name_from = next ts at (token.Outside (outside.Count c)) _ h in
    let close_from = next ts (at + 1) token.Name _ name_from in (
      at + 1 + 1,
      omega arith,
      inr (
        here ts at (token.Outside (outside.Count c)) _ h,
        (omega arith, omega arith, here ts (at + 1) token.Name _ name_from, refl),
      ),
      here ts (at + 1 + 1) token.Close _ close_from,
    )
change_stands ts see at (assigned a x) h =
    let sign_from = next ts at token.Name _ h in
    let right = next ts (at + 1) (token.Outside (outside.Assign a)) _ sign_from in
    let close_from = behind ts (at + 1 + 1) (tokens_of x) _ right in
    let long = length-append (tokens_of x) (token.Close ∷ []) in (
      at + 1 + 1 + size x,
      omega (arith, long),
      (
        (omega arith, omega arith, here ts at token.Name _ h, refl),
        here ts (at + 1) (token.Outside (outside.Assign a)) _ sign_from,
        x_stands ts see (at + 1 + 1) x _ right,
      ),
      here ts (at + 1 + 1 + size x) token.Close _ close_from,
    )

-- the tokens of a loop's head from the name of its iterator on
abbrev named_loop : Tree → Tree → Step → List Token
named_loop a c st =
    token.Name ∷ token.Outside (outside.Assign set.Set)
    ∷ (tokens_of a ++ semicolon ∷ (tokens_of c ++ semicolon ∷ spelled (step_elements st)))

named_stands : (ts : List Token) (words : Words) (s : Scope) (at n : ℕ) (new : Bool) (a c : Tree) (st : Step)
    → IsAt ts at (token.Outside outside.For) → AreFrom ts n (named_loop a c st)
    → (to : ℕ) × (to + 1 ≡ n + length (named_loop a c st))
    × LoopStands ts words s to (loop_head words s at new n a c st) × IsAt ts to token.Close
named_stands ts words s at n new a c st keyword h =
    let within = with_loop s (words.spelling n) in
    let set_from = next ts n token.Name _ h in
    let first_from = next ts (n + 1) (token.Outside (outside.Assign set.Set)) _ set_from in
    let first_end = behind ts (n + 1 + 1) (tokens_of a) _ first_from in
    let second_from = next ts (n + 1 + 1 + size a) semicolon _ first_end in
    let second_end = behind ts (second_at n a) (tokens_of c) _ second_from in
    let third_from = next ts (second_at n a + size c) semicolon _ second_end in
    let third = change_stands ts (look words within) (step_at n a c) st third_from in
    let same = third.1 in
    let one_long = length-append (tokens_of a) (semicolon ∷ (tokens_of c ++ semicolon ∷ spelled (step_elements st))) in
    let two_long = length-append (tokens_of c) (semicolon ∷ spelled (step_elements st)) in (
      third.0,
      omega (arith, same, one_long, two_long),
      record {
        keyword = keyword;
        name = here ts n token.Name _ h;
        iterator = refl;
        set = here ts (n + 1) (token.Outside (outside.Assign set.Set)) _ set_from;
        first_end = n + 1 + 1 + size a;
        first = x_stands ts (look words s) (n + 1 + 1) a _ first_from;
        behind_first = here ts (n + 1 + 1 + size a) semicolon _ first_end;
        second_end = second_at n a + size c;
        second = x_stands ts (look words within) (second_at n a) c _ second_from;
        behind_second = here ts (second_at n a + size c) semicolon _ second_end;
        third = third.2;
      },
      third.3,
    )

-- a head, and the parenthesis at its end
head_stands : (ts : List Token) (words : Words) (s : Scope) (at : ℕ) (h : Head)
    → AreFrom ts at (spelled (head_elements h)) → (to : ℕ) × (to + 1 ≡ at + width (head_elements h))
    × HeadStands ts words s at to h × IsAt ts to token.Close
head_stands ts words s at (branch c) h =
    let open_from = next ts at (token.Outside outside.If) _ h in
    let inner = next ts (at + 1) token.Open _ open_from in
    let close_from = behind ts (at + 1 + 1) (tokens_of c) _ inner in
    let long = length-append (tokens_of c) (token.Close ∷ []) in (
      at + 1 + 1 + size c,
      omega (arith, long),
      (here ts at (token.Outside outside.If) _ h, x_stands ts (look words s) (at + 1 + 1) c _ inner),
      here ts (at + 1 + 1 + size c) token.Close _ close_from,
    )
head_stands ts words s at (loop true a c st) h =
    let open_from = next ts at (token.Outside outside.For) _ h in
    let type_from = next ts (at + 1) token.Open _ open_from in
    let name_from = next ts (at + 1 + 1) (token.Outside outside.Int64) _ type_from in
    let rest = named_stands ts words s at (at + 1 + 1 + 1) true a c st (here ts at (token.Outside outside.For) _ h)
    name_from in
    let same = rest.1 in
    (rest.0, omega (arith, same), (refl, rest.2), rest.3)
head_stands ts words s at (loop false a c st) h =
    let open_from = next ts at (token.Outside outside.For) _ h in
    let name_from = next ts (at + 1) token.Open _ open_from in
    let rest = named_stands ts words s at (at + 1 + 1) false a c st (here ts at (token.Outside outside.For) _ h)
    name_from in
    let same = rest.1 in
    (rest.0, omega (arith, same), (refl, rest.2), rest.3)

-- a place is spelled as the expression that it is
place_spelled : (p : Tree) → IsPlace p → WellBracketed p → spelled (place_elements p) ≡ tokens_of p
place_spelled tree.name is w = refl
place_spelled (tree.index p i) is w =
    spelled_append (place_elements p) (plain token.OpenIndex ∷ expression i token.CloseIndex ∷ [])
    ∙ ap (λ us. us ++ token.OpenIndex ∷ (tokens_of i ++ token.CloseIndex ∷ [])) (place_spelled p w.0 w.2)
place_spelled _ is w = absurd is

-- a statement, and its semicolon
statement_stands : (ts : List Token) (words : Words) (s : Scope) (at : ℕ) (a : Assign) (p x : Tree) → IsPlace p
    → WellBracketed p → AreFrom ts at (spelled (item_elements (assign a p x))) → ItemStands ts words s at (assign a p x)
statement_stands ts words s at a p x is w h =
    let rest = assign_sign a ∷ expression x semicolon ∷ [] in
    let same = place_spelled p is w in
    let place_from : AreFrom ts at (tokens_of p) =
    subst (AreFrom ts at) same (el_front ts at (place_elements p) rest h) in
    let sign_from : AreFrom ts (at + size p) (spelled rest) =
    subst (λ (us : List Token). AreFrom ts (at + length us) (spelled rest)) same
    (el_behind ts at (place_elements p) rest h) in
    let right = next ts (at + size p) (token.Outside (outside.Assign a)) _ sign_from in
    let close_from = behind ts (at + size p + 1) (tokens_of x) _ right in
    let whole = ap length (spelled_append (place_elements p) rest) in
    let parts = length-append (spelled (place_elements p)) (spelled rest) in
    let long = ap length same in
    let last = length-append (tokens_of x) (semicolon ∷ []) in (
      at + size p + 1 + size x,
      omega (arith, whole, parts, long, last),
      record {
        cell = formula_stands ts (look words s) at p place_from;
        assign = here ts (at + size p) (token.Outside (outside.Assign a)) _ sign_from;
        value = x_stands ts (look words s) (at + size p + 1) x _ right;
      },
      here ts (at + size p + 1 + size x) semicolon _ close_from,
    )

mutual
  item_stands : (ts : List Token) (words : Words) (s : Scope) (at d n : ℕ) (i : Item) → ItemFits d n i
      → AreFrom ts at (spelled (item_elements i)) → ItemStands ts words s at i
  item_stands ts words s at d n (block is) fits h =
      let inner = next ts at (token.Outside outside.BraceOpen) _ h in (
        here ts at (token.Outside outside.BraceOpen) _ h,
        items_stand ts words s (at + 1) d n is fits (el_front ts (at + 1) (all_elements is) (ends ∷ []) inner),
        here ts (at + 1 + width (all_elements is)) (token.Outside outside.BraceClose) []
            (el_behind ts (at + 1) (all_elements is) (ends ∷ []) inner),
      )
  item_stands ts words s at d n empty fits h = here ts at semicolon _ h
  item_stands ts words s at d n (assign a p x) fits h =
      statement_stands ts words s at a p x fits.0 fits.1.expression.brackets h
  item_stands ts words s at d n (headed x i) fits h =
      let head = head_stands ts words s at x (el_front ts at (head_elements x) (item_elements i) h) in (
        head.0,
        head.1,
        head.2,
        head.3,
        item_stands ts words (behind_head words s at x) (at + width (head_elements x)) d n i fits.1
            (el_behind ts at (head_elements x) (item_elements i) h),
      )

  items_stand : (ts : List Token) (words : Words) (s : Scope) (at d n : ℕ) (is : Items) → ItemsFit d n is
      → AreFrom ts at (spelled (all_elements is)) → ItemsStand ts words s at is
  items_stand ts words s at d n none fits h = tt
  items_stand ts words s at d n (more i is) fits h = (
    item_stands ts words s at d n i fits.0 (el_front ts at (item_elements i) (all_elements is) h),
    items_stand ts words s (at + width (item_elements i)) d n is fits.1
        (el_behind ts at (item_elements i) (all_elements is) h),
  )

-- the header
extents_stand : (ts : List Token) (words : Words) (s : Scope) (at : ℕ) (xs : List Tree)
    → AreFrom ts at (spelled (extents xs)) → ExtentsStand ts (look words s) at (extents_in words s at xs)
extents_stand ts words s at [] h = tt
extents_stand ts words s at (x ∷ xs) h =
    let inner = next ts at token.OpenIndex _ h in
    let close_from = behind ts (at + 1) (tokens_of x) _ inner in (
      at + 1 + size x,
      here ts at token.OpenIndex _ h,
      x_stands ts (look words s) (at + 1) x _ inner,
      here ts (at + 1 + size x) token.CloseIndex _ close_from,
      extents_stand ts words s (at + 1 + size x + 1) xs (next ts (at + 1 + size x) token.CloseIndex _ close_from),
    )

parameter_stands : (ts : List Token) (words : Words) (s : Scope) (at : ℕ) (p : Parameter)
    → AreFrom ts at (spelled (parameter_elements p)) → ParameterStands ts words s at p
parameter_stands ts words s at number h =
    let name_from = next ts at (token.Outside outside.Int64) _ h in
    (here ts at (token.Outside outside.Int64) _ h, here ts (at + 1) token.Name _ name_from)
parameter_stands ts words s at (array w x xs) h =
    let name_from = next ts at (token.Unsigned w) _ h in (
      here ts at (token.Unsigned w) _ h,
      here ts (at + 1) token.Name _ name_from,
      extents_stand ts words s (at + 1 + 1) (x ∷ xs) (next ts (at + 1) token.Name _ name_from),
    )

parameters_stand : (ts : List Token) (words : Words) (s : Scope) (at : ℕ) (ps : List Parameter)
    → AreFrom ts at (spelled (other_parameters ps)) → ParametersStand ts words s at ps
parameters_stand ts words s at [] h = here ts at token.Close _ h
parameters_stand ts words s at (p ∷ ps) h =
    let inner = next ts at comma _ h in (
      here ts at comma _ h,
      parameter_stands ts words s (at + 1) p (el_front ts (at + 1) (parameter_elements p) (other_parameters ps) inner),
      parameters_stand ts words (behind_parameter words s (at + 1) p) (at + 1 + width (parameter_elements p)) ps
          (el_behind ts (at + 1) (parameter_elements p) (other_parameters ps) inner),
    )

-- declared names, and what stands behind them
names_stand : (ts : List Token) (at k : ℕ) (es : List Element) → AreFrom ts at (spelled (other_names k ++ es))
    → NamesStand ts at k × AreFrom ts (names_end at k + 1) (spelled es)
names_stand ts at zero es h = (here ts at semicolon _ h, next ts at semicolon _ h)
names_stand ts at (suc k) es h =
    let name_from = next ts at comma _ h in
    let rest = names_stand ts (at + 1 + 1) k es (next ts (at + 1) token.Name _ name_from) in
    ((here ts at comma _ h, here ts (at + 1) token.Name _ name_from, rest.0), rest.1)

declared_stand : (ts : List Token) (at : ℕ) (ks : List ℕ) → AreFrom ts at (spelled (declarations ks))
    → DeclaredStand ts at ks
declared_stand ts at [] h = tt
declared_stand ts at (k ∷ ks) h =
    let name_from = next ts at (token.Outside outside.Int64) _ h in
    let rest = names_stand ts (at + 1 + 1) k (declarations ks) (next ts (at + 1) token.Name _ name_from) in (
      here ts at (token.Outside outside.Int64) _ h,
      here ts (at + 1) token.Name _ name_from,
      rest.0,
      declared_stand ts (names_end (at + 1 + 1) k + 1) ks rest.1,
    )

pub kernel_stands : (ts : List Token) (words : Words) (k : Kernel) (d n : ℕ) → Spells d n ts k → KernelStands ts words k
kernel_stands ts words k d n is =
    let first = parameter_elements k.first in
    let others = other_parameters k.others in
    let items = all_elements k.items ++ ends ∷ [] in
    let body = begins ∷ (declarations k.declared ++ items) in
    let all : AreFrom ts 0 (spelled (kernel_elements k)) =
    record {
      each = λ i x e.
          let same : i ≡ 0 + i = omega arith in
          subst (λ j. IsAt ts j x) same (ap (λ us. slice_get us i) is.tokens ∙ e);
    } in
    let name_from = next ts 0 (token.Outside outside.Void) _ all in
    let open_from = next ts 1 token.Name _ name_from in
    let header = next ts 2 token.Open _ open_from in
    let rest = el_behind ts 3 first (others ++ body) header in
    let inner = el_behind ts (others_at k) others body rest in
    let brace = others_at k + width others in
    let declared = next ts brace (token.Outside outside.BraceOpen) _ inner in
    let last = el_behind ts (declared_at k) (declarations k.declared) items declared in
    record {
      void = here ts 0 (token.Outside outside.Void) _ all;
      name = here ts 1 token.Name _ name_from;
      opens = here ts 2 token.Open _ open_from;
      first = parameter_stands ts words no_scope 3 k.first (el_front ts 3 first (others ++ body) header);
      others = parameters_stand ts words (first_scope words k) (others_at k) k.others
          (el_front ts (others_at k) others body rest);
      begins = here ts brace (token.Outside outside.BraceOpen) _ inner;
      declared = declared_stand ts (declared_at k) k.declared
          (el_front ts (declared_at k) (declarations k.declared) items declared);
      items = items_stand ts words (body_scope words k) (items_at k) d n k.items is.fits.items
          (el_front ts (items_at k) (all_elements k.items) (ends ∷ []) last);
      ends = here ts (items_at k + width (all_elements k.items)) (token.Outside outside.BraceClose) []
          (el_behind ts (items_at k) (all_elements k.items) (ends ∷ []) last);
    }
