-- Printed iterators are those of the source: values of forms over parameters, loops of a tree and source iterators
-- (`spread_value`, `turned_value`).
use Rattle.scop_syntax.proofs.Common.{◌≡◌, ◌∙◌, ap, sym, subst, ℕ, ◌+◌, ◌≤◌, List, [], ◌∷◌, ◌++◌, length, take, drop}
use Rattle.scop_syntax.proofs.Common.{append-nil, arith, ℤ, ◌+ℤ◌, ◌*ℤ◌, Some, Option, slice_get, ints, length-drop}
use Rattle.scop_syntax.proofs.Common.{length-take-le, take-append-drop, slice_get-map, Affine, value_of, values_of, dot}
use Rattle.scop_syntax.proofs.Common.{multiples, zeros, dot-sums, dot-multiples, dot-append, dot-past, dot-zeros}
use Rattle.scop_syntax.proofs.Common.{length-zeros, mul_distrib_left, Head, Program, Scope, round, under, Placed}
use Rattle.scop_syntax.proofs.Common.{statements_of, point_of, visit_of, turn_point, Standing, standing, heads_in}
use Rattle.scop_syntax.proofs.Common.{standings_of}
use Rattle.std.specs.Prelude.{option_map}
use Rattle.std.proofs.lemmas.List.{append_assoc, length-append}
use Rattle.c_printer.specs.Forms.{turned, spread}
use Rattle.c_printer.specs.Iterators.{given_value, given_values}
use Rattle.c_printer.specs.Printable.{AreTurns, AreHeads, IsInstance, IsNamed}

-- a form of the source has no coefficient for loops of the tree
spread_value : (cs params loops outer : List ℤ) → length params ≤ length cs
    → dot (spread (length params) (length loops) cs) (params ++ (loops ++ outer)) ≡ dot cs (params ++ outer)
spread_value cs params loops outer h =
    let m = length params in
    let back = drop m cs in
    let l : length (take m cs) ≡ m = length-take-le m cs h in
    let a = dot-append (take m cs) (zeros (length loops) ++ back) params (loops ++ outer) l in
    let b = dot-append (zeros (length loops)) back loops outer (length-zeros (length loops)) in
    let c = dot-zeros (length loops) loops in
    let d = dot-append (take m cs) back params outer l in
    let e = ap (λ (xs : List ℤ). dot xs (params ++ outer)) (take-append-drop m cs) in
    omega (arith, ints, a, b, c, d, e)

-- a form of the tree has none for iterators of the source
turned_value : (cs params loops outer : List ℤ) → length cs ≡ length loops + length params
    → dot (turned (length loops) cs) (params ++ (loops ++ outer)) ≡ dot cs (loops ++ params)
turned_value cs params loops outer h =
    let d = length loops in
    let l : length (take d cs) ≡ d = length-take-le d cs (omega (arith, h)) in
    let k = length-drop d cs in
    let m : length (drop d cs) ≡ length params = omega (arith, h, k) in
    let a = dot-append (drop d cs) (take d cs) params (loops ++ outer) m in
    let b = dot-past (take d cs) loops outer (omega (arith, l)) in
    let c = dot-append (take d cs) (drop d cs) loops params l in
    let e = ap (λ (xs : List ℤ). dot xs (loops ++ params)) (take-append-drop d cs) in
    omega (arith, ints, a, b, c, e)

-- what a constant holds
pub constant_value : (head : Head) (turn : Affine) (params loops outer : List ℤ)
    → length head.first.coefficients ≡ length params + length outer
    → length turn.coefficients ≡ length loops + length params
    → value_of head.first (params ++ outer) +ℤ (head.stride *ℤ value_of turn (loops ++ params))
    ≡ given_value params loops outer head turn
constant_value head turn params loops outer h g =
    let xs = spread (length params) (length loops) head.first.coefficients in
    let ts = turned (length loops) turn.coefficients in
    let point = params ++ (loops ++ outer) in
    let a = dot-sums xs (multiples head.stride ts) point in
    let b = dot-multiples head.stride ts point in
    let c = spread_value head.first.coefficients params loops outer (omega (arith, h)) in
    let d = ap (λ (z : ℤ). head.stride *ℤ z) (turned_value turn.coefficients params loops outer g) in
    let e = mul_distrib_left (dot turn.coefficients (loops ++ params)) turn.constant head.stride in
    omega (arith, ints, a, b, c, d, e)

pub point_of_turn : (head : Head) (turn : Affine) (params loops outer : List ℤ)
    → length head.first.coefficients ≡ length params + length outer
    → length turn.coefficients ≡ length loops + length params
    → turn_point head (params ++ outer) (value_of turn (loops ++ params))
    ≡ (params ++ outer) ++ given_value params loops outer head turn ∷ []
point_of_turn head turn params loops outer h g =
    ap (λ (z : ℤ). (params ++ outer) ++ z ∷ []) (constant_value head turn params loops outer h g)

-- constants behind those before are the point
givens_are_the_point : (scopes : List Scope) (turns : List Affine) (params loops before : List ℤ)
    → AreHeads (length params + length before) (heads_in scopes)
    → AreTurns (length params) (length loops) (heads_in scopes) turns
    → (params ++ before) ++ given_values params loops before (heads_in scopes) turns
    ≡ point_of scopes (params ++ before) (values_of turns (loops ++ params))
givens_are_the_point [] turns params loops before a h = append-nil (params ++ before)
givens_are_the_point (under tests ∷ scopes) turns params loops before a h =
    givens_are_the_point scopes turns params loops before a h
givens_are_the_point (round head ∷ scopes) [] params loops before a h = absurd h
givens_are_the_point (round head ∷ scopes) (turn ∷ turns) params loops before a h =
    let z = given_value params loops before head turn in
    let next = before ++ z ∷ [] in
    let rest = given_values params loops next (heads_in scopes) turns in
    let values = values_of turns (loops ++ params) in
    let l = length-append before (z ∷ []) in
    let moved = append_assoc params before (z ∷ []) in
    sym (append_assoc (params ++ before) (z ∷ []) rest)
    ∙ (ap (λ (t : List ℤ). t ++ rest) moved
    ∙ (givens_are_the_point scopes turns params loops next
    (subst (λ k. AreHeads k (heads_in scopes)) (omega (arith, l)) a.1) h.1
    ∙ ap (λ (t : List ℤ). point_of scopes t values)
    (sym moved ∙ sym (point_of_turn head turn params loops before a.0.entries h.0.entries))))

option_same : (s t : Standing) (o : Option Standing) → o ≡ Some s → o ≡ Some t → s ≡ t
option_same s t o e f = let same : Some s ≡ Some t = sym e ∙ f in cc

pub visit_of_givens : (program : Program) (n : ℕ) (p : Placed) (turns : List Affine) (params loops : List ℤ)
    → IsNamed program → length params ≡ length program.parameters → slice_get (statements_of program) n ≡ Some p
    → IsInstance program (length loops) n turns
    → params ++ given_values params loops [] (heads_in p.scopes) turns
    ≡ (visit_of p params (values_of turns (loops ++ params))).point
visit_of_givens program n p turns params loops named e at i =
    let s = standing (heads_in p.scopes) p.body in
    let placed : slice_get (standings_of program) n ≡ Some s =
    slice_get-map (λ (q : Placed). standing (heads_in q.scopes) q.body) (statements_of program) n
    ∙ ap (option_map (λ (q : Placed). standing (heads_in q.scopes) q.body)) at in
    let same = option_same i.standing s (slice_get (standings_of program) n) i.stands placed in
    let zero_more : length params + 0 ≡ length params = omega arith in
    let heads = subst (λ k. AreHeads k (heads_in p.scopes)) (sym e ∙ sym zero_more) (named.heads n s placed) in
    let turned = subst (λ k. AreTurns k (length loops) (heads_in p.scopes) turns) (sym e)
    (subst (λ (t : Standing). AreTurns (length program.parameters) (length loops) t.heads turns) same i.turned) in
    ap (λ (t : List ℤ). t ++ given_values params loops [] (heads_in p.scopes) turns) (sym (append-nil params))
    ∙ (givens_are_the_point p.scopes turns params loops [] heads turned
    ∙ ap (λ (t : List ℤ). point_of p.scopes t (values_of turns (loops ++ params))) (append-nil params))
