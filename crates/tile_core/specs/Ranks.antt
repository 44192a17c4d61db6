-- Where an instance stands in a list of instances.
use Rattle.std.specs.Prelude.{ℕ, zero, suc, ◌+◌, Bool, List, [], ◌∷◌, ◌&&◌, map, nat_eq, Option, Some, None, if◌then◌else◌}
use Rattle.std.specs.Ordering.{int_eq}
use Rattle.std.specs.Cmp.Lexicographic.{pointwise}
use Rattle.scop_syntax.specs.Walk.{Instance}
use Rattle.tile_list.specs.declared.list.Tile.{Tile}

-- whether two instances have the same numbers
abbrev pub is_same : Instance → Instance → Bool
is_same x y = nat_eq x.number y.number && pointwise int_eq x.turns y.turns

-- where an instance stands first in a list; the list's length where it does not
abbrev pub place_in : List Instance → Instance → ℕ
place_in [] x = 0
place_in (y ∷ ys) x = if is_same y x then 0 else suc (place_in ys x)

-- so for an instance that may be none
abbrev pub rank_in : List Instance → Option Instance → ℕ
rank_in xs None = 0
rank_in xs (Some x) = place_in xs x

-- the sizes of tiles
abbrev pub sizes_of : List Tile → List ℕ
sizes_of tiles = map (λ t. t.size) tiles

-- where tile t begins, by the sizes of the tiles
abbrev pub start_at : List ℕ → ℕ → ℕ
start_at sizes zero = 0
start_at [] (suc t) = 0
start_at (s ∷ sizes) (suc t) = s + start_at sizes t
