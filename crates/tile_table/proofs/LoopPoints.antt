-- Points within loops: the scopes round a statement, the turns that count, and numbers modulo 2^64.
use Rattle.scop_syntax.proofs.Common.{◌≡◌, ◌∙◌, ap, refl, subst, ℕ, ◌+◌, ◌≤◌, List, [], ◌∷◌, ◌++◌, drop, length, arith}
use Rattle.scop_syntax.proofs.Common.{ℤ, ◌+ℤ◌, ◌*ℤ◌, w64, value_of, Scope, point_of, round, under, Head, turn_point}
use Rattle.scop_syntax.proofs.Common.{heads_in}
use Rattle.std.specs.Int.{int_wrap}
use Rattle.tile_table.specs.Points.{point_in}
use Rattle.tile_table.specs.steps.Same.{AreSame}
use Rattle.tile_table.proofs.Congruences.{lists_same, pushed_same, same_chain, same_wrapped, sum_same, value_same}

-- guards do not move a point
pub point_in_scopes : (scopes : List Scope) (point turns : List ℤ)
    → point_of scopes point turns ≡ point_in (heads_in scopes) point turns
point_in_scopes [] point turns = refl
point_in_scopes (under tests ∷ scopes) point turns = point_in_scopes scopes point turns
point_in_scopes (round head ∷ scopes) point [] = refl
point_in_scopes (round head ∷ scopes) point (turn ∷ turns) =
    point_in_scopes scopes (turn_point head point turn) turns

-- turns past the loops do not count
pub point_by_front : (heads : List Head) (point turns more : List ℤ) → length heads ≤ length turns
    → point_in heads point (turns ++ more) ≡ point_in heads point turns
point_by_front [] point turns more few = refl
point_by_front (head ∷ heads) point [] more few = absurd (omega (arith, few))
point_by_front (head ∷ heads) point (turn ∷ turns) more few =
    point_by_front heads (turn_point head point turn) turns more (omega (arith, few))

-- the same point modulo 2^64 leads to the same
pub point_same : (heads : List Head) (p q turns : List ℤ) → AreSame p q
    → AreSame (point_in heads p turns) (point_in heads q turns)
point_same [] p q turns all = all
point_same (head ∷ heads) p q [] all = all
point_same (head ∷ heads) p q (turn ∷ turns) all =
    point_same heads (turn_point head p turn) (turn_point head q turn) turns
    (pushed_same p q (value_of head.first p +ℤ (head.stride *ℤ turn)) (value_of head.first q +ℤ (head.stride *ℤ turn))
    all (sum_same (value_of head.first p) (value_of head.first q) (head.stride *ℤ turn) (head.stride *ℤ turn)
    (value_same head.first p q all) refl))

-- one turn more of a point that is made turn by turn
pub point_more : (heads : List Head) (turns p whole : List ℤ) (at : ℕ) (head : Head) (turn next : ℤ)
    → drop at heads ≡ head ∷ drop (at + 1) heads → drop at turns ≡ turn ∷ drop (at + 1) turns
    → next ≡ int_wrap w64 (value_of head.first p +ℤ (head.stride *ℤ turn))
    → AreSame (point_in (drop at heads) p (drop at turns)) whole
    → AreSame (point_in (drop (at + 1) heads) (p ++ next ∷ []) (drop (at + 1) turns)) whole
point_more heads turns p whole at head turn next of_heads of_turns is same =
    let exact = value_of head.first p +ℤ (head.stride *ℤ turn) in
    let left = drop (at + 1) heads in
    let behind = drop (at + 1) turns in
    let entered : AreSame (point_in left (turn_point head p turn) behind) whole =
    subst (λ (ts : List ℤ). AreSame (point_in (head ∷ left) p ts) whole) of_turns
    (subst (λ (hs : List Head). AreSame (point_in hs p (drop at turns)) whole) of_heads same) in
    same_chain (point_in left (p ++ next ∷ []) behind) (point_in left (turn_point head p turn) behind) whole
    (point_same left (p ++ next ∷ []) (turn_point head p turn) behind
    (pushed_same p p next exact (lists_same p) (ap (int_wrap w64) is ∙ same_wrapped exact)))
    entered
