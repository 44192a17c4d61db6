-- The source's order has no pair of tiles.
use Rattle.scop_syntax.proofs.Common.{◌≡◌, ℕ, Bool, true, List, [], ◌∷◌, Option, Some, None, ap, sym, refl, ◌∙◌, arith}
use Rattle.scop_syntax.proofs.Common.{length, inl, Visit}
use Rattle.loop_tree.specs.Tiling.{kept}
use Rattle.tile_edges.specs.Counting.{AreEdgesBetween, IsEdge, IsReleaseOf, TileName}

no_edge : (flow : Bool) (visits : List Visit) (first second : TileName) → IsEdge flow kept visits first second → ⊥
no_edge flow visits first second e = e.apart (sym e.holds_earlier.named ∙ e.holds_later.named)

no_edges : (flow : Bool) (visits : List Visit) (pairs : List (TileName × TileName))
    → AreEdgesBetween flow kept visits pairs → length pairs ≡ 0
no_edges flow visits [] are = refl
no_edges flow visits ((a, b) ∷ pairs) are = absurd (no_edge flow visits a b (are.each a b (inl refl)))

pub kept_told : (flow : Bool) (visits : List Visit) (told : Option ℕ) → IsReleaseOf true flow kept visits told
    → told ≡ Some 0
kept_told flow visits None more =
    let none = no_edges flow visits more.pairs more.are in
    let count = more.count in
    absurd (omega (arith, none, count))
kept_told flow visits (Some n) has = ap Some (sym has.0.count ∙ no_edges flow visits has.0.pairs has.0.are)
