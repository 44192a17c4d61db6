-- The pairs of tiles by their numbers in a list are those by waves and coordinates.
use Rattle.scop_syntax.proofs.Common.{◌≡◌, ℕ, ℤ, Bool, List, [], Option, Some, None, ap, ap₂, sym, refl, ◌∙◌, subst}
use Rattle.scop_syntax.proofs.Common.{arith, length, map, slice_get, option_map, length-map, slice_get-map, In, Program}
use Rattle.scop_syntax.proofs.Common.{instance_of, Visit, instance, walk_of, in_from_place, in_map, in_map_from}
use Rattle.loop_tree.specs.Plans.{AreInOrder}
use Rattle.loop_tree.specs.Tiling.{Tiling, tile_of, wave_of}
use Rattle.loop_tree.specs.Tree.{Trees}
use Rattle.loop_tree.specs.Walk.{visits}
use Rattle.tile_list.specs.TilesView.{IsTileListOf}
use Rattle.tile_list.specs.declared.list.Tile.{Tile}
use Rattle.tile_list.specs.declared.list.TileList.{TileList}
use Rattle.tile_events.specs.Deal.{tile_at}
use Rattle.tile_edges.specs.Counting.{AreEdgesBetween, HasEdges, HasMoreEdges, IsEdge, IsTileAt, TileName}
use Rattle.tile_edges.specs.Edges.{AreEdgesOf, AreTooMany, Holds, Waits, edges_of}
use Rattle.tile_edges.specs.declared.waiting.TileEdges.{TileEdges}
use Rattle.tile_edges.proofs.FindingTiles.{has_tile_of, one_tile}
use Rattle.tile_edges.proofs.FoundEdges.{AreOnce, in_listed, in_scan, listed_first, listed_in, listed_many, listing}

-- a listed tile by its wave and its coordinates
abbrev name_of : Tiling → Option Tile → TileName
name_of tiling None = ([], [])
name_of tiling (Some tile) = (wave_of tiling (instance_of tile.first), tile_of tiling (instance_of tile.first))

-- an element of a list through a function
from_map : {A B : Type 0} (f : A → B) (xs : List A) (i : ℕ) (y : B) → slice_get (map f xs) i ≡ Some y
    → (x : A) × (slice_get xs i ≡ Some x) × (f x ≡ y)
from_map f xs i y e = by_option (slice_get xs i) refl
  where
    by_option : (o : Option _) → slice_get xs i ≡ o → (x : _) × (slice_get xs i ≡ Some x) × (f x ≡ y)
    by_option None h =
        let k = sym (slice_get-map f xs i ∙ ap (option_map f) h) ∙ e in absurd cc
    by_option (Some x) h =
        let k = sym (slice_get-map f xs i ∙ ap (option_map f) h) ∙ e in (x, h, cc)

module _ (flow : Bool) (program : Program) (params : List ℤ) (ts : Trees) (tiling : Tiling) (list : TileList)
    (is : IsTileListOf ts params tiling list) where
  abbrev walk : List Visit
  walk = walk_of program params

  abbrev name : ℕ → TileName
  name t = name_of tiling (slice_get list.tiles.items t)

  -- the tile that holds a place, by name
  named : (t i : ℕ) → Holds walk tiling list t i → IsTileAt tiling walk i (name t)
  named t i h = record {
    visit = h.visit;
    is = h.is;
    named =
        ap₂ (λ (w c : List ℤ). (w, c)) h.tile.one.wave h.tile.one.tile ∙ ap (name_of tiling) (sym h.tile.is);
  }

  one_name : (t i : ℕ) (tile : TileName) → Holds walk tiling list t i → IsTileAt tiling walk i tile → tile ≡ name t
  unfolding named
  one_name t i tile h k =
      let both : Some h.visit ≡ Some k.visit = sym h.is ∙ k.is in
      let same : h.visit ≡ k.visit = cc in
      sym k.named ∙ (ap (λ v. (wave_of tiling (instance v), tile_of tiling (instance v))) (sym same) ∙ (named t i h).named)

  -- a name is that of one tile
  one_number : (t u : ℕ) (a b : Tile) → slice_get list.tiles.items t ≡ Some a → slice_get list.tiles.items u ≡ Some b
      → name t ≡ name u → t ≡ u
  one_number t u a b at bt e =
      let same : name_of tiling (Some a) ≡ name_of tiling (Some b) =
      ap (name_of tiling) (sym at) ∙ (e ∙ ap (name_of tiling) bt) in
      one_tile ts params tiling list is t u (instance_of a.first)
      (record { tile = a; is = at; one = record { wave = refl; tile = refl } })
      (record {
        tile = b;
        is = bt;
        one = record { wave = ap (λ (k : TileName). k.0) same; tile = ap (λ (k : TileName). k.1) same };
      })

  -- a pair of numbers gives one of names
  edge : (t u : ℕ) → Waits flow program params tiling list t u → IsEdge flow tiling walk (name t) (name u)
  edge t u w = record {
    apart = λ e. w.apart (one_number t u w.first.tile.tile w.second.tile.tile w.first.tile.is w.second.tile.is e);
    earlier = w.earlier;
    later = w.later;
    cover = w.cover;
    holds_earlier = named t w.earlier w.first;
    holds_later = named u w.later w.second;
  }

  abbrev both_names : ℕ × ℕ → TileName × TileName
  both_names p = (name p.0, name p.1)

  -- so do lists of them
  edges_between : (found : List (ℕ × ℕ))
      → ((i j : ℕ) (pair : ℕ × ℕ) → slice_get found i ≡ Some pair → slice_get found j ≡ Some pair → i ≡ j)
      → ((t u : ℕ) → In (t, u) found → Waits flow program params tiling list t u)
      → AreEdgesBetween flow tiling walk (map both_names found)
  edges_between found apart each = record {
    apart = λ i j pair at bt.
        let p = from_map both_names found i pair at in
        let q = from_map both_names found j pair bt in
        let same = p.2 ∙ sym q.2 in
        let v = each p.0.0 p.0.1 (in_from_place found i p.0 p.1) in
        let w = each q.0.0 q.0.1 (in_from_place found j q.0 q.1) in
        let first = one_number p.0.0 q.0.0 v.first.tile.tile w.first.tile.tile v.first.tile.is w.first.tile.is
        (ap (λ (k : TileName × TileName). k.0) same) in
        let second = one_number p.0.1 q.0.1 v.second.tile.tile w.second.tile.tile v.second.tile.is w.second.tile.is
        (ap (λ (k : TileName × TileName). k.1) same) in
        apart i j p.0 p.1 (q.1 ∙ ap Some (ap₂ (λ (x y : ℕ). (x, y)) (sym first) (sym second)));
    each = λ first second i.
        let p = in_map_from both_names (first, second) found i in
        let e = edge p.0.0 p.0.1 (each p.0.0 p.0.1 p.1) in
        subst (λ (k : TileName). IsEdge flow tiling walk k second) (sym (ap (λ (k : TileName × TileName). k.0) p.2))
        (subst (λ (k : TileName). IsEdge flow tiling walk (name p.0.0) k)
        (sym (ap (λ (k : TileName × TileName). k.1) p.2)) e);
  }

  pub counted_more : AreTooMany flow program params tiling list → HasMoreEdges flow tiling walk
  counted_more many = record {
    pairs = map both_names many.found;
    count = length-map many.found both_names ∙ many.count;
    are = edges_between many.found many.apart many.each;
  }

  -- a tile of the list holds each place of the walk
  holder : AreInOrder program params tiling (visits ts params) → (i : ℕ) (tile : TileName)
      → IsTileAt tiling walk i tile → (t : ℕ) × Holds walk tiling list t i
  holder order i tile h =
      let x = instance h.visit in
      let there = in_scan program params tiling (visits ts params) order x
      (in_map instance h.visit walk (in_from_place walk i h.visit h.is)) in
      let t = has_tile_of ts params tiling list is x there in
      (t.0, record { visit = h.visit; is = h.is; tile = t.1 })

  module _ (once : AreOnce) (e : TileEdges) (order : AreInOrder program params tiling (visits ts params))
      (are : AreEdgesOf flow program params tiling list e) where
    abbrev pair : ℕ → ℕ × ℕ
    pair i = (tile_at (edges_of e).start (length list.tiles.items) i, (edges_of e).target i)

    abbrev found : List (ℕ × ℕ)
    found = listing pair 0 (length e.targets.items)

    found_apart : (i j : ℕ) (p : ℕ × ℕ) → slice_get found i ≡ Some p → slice_get found j ≡ Some p → i ≡ j
    found_apart i j p at bt =
        let a = listed_first pair (length e.targets.items) i p at in
        let b = listed_first pair (length e.targets.items) j p bt in
        let same = sym a.1 ∙ b.1 in
        once (length list.tiles.items) (edges_of e) are.rows i j a.0 b.0 (ap (λ (x : ℕ × ℕ). x.0) same)
        (ap (λ (x : ℕ × ℕ). x.1) same)

    found_waits : (t u : ℕ) → In (t, u) found → Waits flow program params tiling list t u
    found_waits t u i =
        let r = listed_in pair 0 (length e.targets.items) (t, u) i in
        let less = r.1 in
        (are.pairs t u).0 (r.0, omega (arith, less), ap (λ (x : ℕ × ℕ). x.0) (sym r.2), ap (λ (x : ℕ × ℕ). x.1) (sym r.2))

    waits_found : (t u : ℕ) → Waits flow program params tiling list t u → In (t, u) found
    waits_found t u w =
        let l = (are.pairs t u).1 w in
        subst (λ p. In p found) (ap₂ (λ (x y : ℕ). (x, y)) l.2 l.3)
        (in_listed pair (length e.targets.items) l.0 l.1)

    pub counted : HasEdges flow tiling walk (length e.targets.items)
    counted = record {
      pairs = map both_names found;
      count = length-map found both_names ∙ listed_many pair 0 (length e.targets.items);
      are = edges_between found found_apart found_waits;
      all = λ first second h.
          let a = holder order h.earlier first h.holds_earlier in
          let b = holder order h.later second h.holds_later in
          let one = one_name a.0 h.earlier first a.1 h.holds_earlier in
          let two = one_name b.0 h.later second b.1 h.holds_later in
          let w : Waits flow program params tiling list a.0 b.0 = record {
            apart = λ k. h.apart (one ∙ (ap name k ∙ sym two));
            earlier = h.earlier;
            later = h.later;
            cover = h.cover;
            first = a.1;
            second = b.1;
          } in
          subst (λ k. In k (map both_names found)) (ap₂ (λ (x y : TileName). (x, y)) (sym one) (sym two))
          (in_map both_names (a.0, b.0) found (waits_found a.0 b.0 w));
    }
