-- How a walk comes to the place of a tile.
use Rattle.std.specs.Prelude.{◌≡◌, true, ℤ, List, drop}
use Rattle.loop_tree.specs.Bookmarks.{IsBookmarkOf, to_come_from}
use Rattle.loop_tree.specs.SpotView.{IsSpotOf, to_come}
use Rattle.loop_tree.specs.Tree.{Trees}
use Rattle.loop_tree.specs.declared.spot.Spot.{Spot}
use Rattle.tile_list.specs.TilesView.{IsPlaceOf, to_come_at}
use Rattle.tile_list.specs.declared.place.Front.{Front}
use Rattle.tile_list.specs.declared.place.Place.{Place}

-- the spot stands behind an instance, and the steps, where these say it, in front of that one
pub record HasCome (ts : Trees) (params : List ℤ) (front : Front) (spot : Spot) : Type 0 where
  pub spot_is : IsSpotOf ts params spot
  pub steps : front.known ≡ true → IsBookmarkOf ts params front.steps.items
      × (drop 1 (to_come_from ts params front.steps.items) ≡ to_come ts params spot)

-- the place of a tile behind whose first instance the spot stands
abbrev pub IsPlaceBehind : Front → Spot → Place → Type 0
IsPlaceBehind front spot place =
    (ts : Trees) (params : List ℤ) → HasCome ts params front spot
    → IsPlaceOf ts params place × (to_come_at ts params place ≡ to_come ts params spot)
