-- The writers of a cell that an access touches conflict with the access's place.
use Rattle.whole_numbers.proofs.Common.{◌≡◌, ℕ, List, Option, Some, None, inl, inr, sym, ◌∙◌, refl, slice_get}
use Rattle.whole_numbers.proofs.Common.{option_and_then, option_map}
use Rattle.scop_syntax.specs.Tree.{Access}
use Rattle.scop_syntax.specs.Walk.{Visit}
use Rattle.scop_syntax.specs.Cells.{Cell, accesses, cell_at, cell_of, PlacesConflict}
use Rattle.scop_syntax.specs.Writers.{last_writer, next_writer, last_of, next_of}
use Rattle.scop_syntax.proofs.Writers.{last_is, next_is, writer_of}

then_from : {A B : Type 0} (f : A → Option B) (o : Option A) (y : B) → option_and_then f o ≡ Some y
    → (x : A) × (o ≡ Some x) × (f x ≡ Some y)
then_from f None y h = absurd cc
then_from f (Some x) y h = (x, refl, h)

map_from : {A B : Type 0} (f : A → B) (o : Option A) (y : B) → option_map f o ≡ Some y
    → (x : A) × (o ≡ Some x) × (f x ≡ y)
map_from f None y h = absurd cc
map_from f (Some x) y h = (x, refl, cc)

-- the visit and the access that touch a cell
touches : (visits : List Visit) (j a : ℕ) (c : Cell) → cell_at visits j a ≡ Some c
    → (v : Visit) × (g : Access) × (slice_get visits j ≡ Some v) × (slice_get (accesses v.body) a ≡ Some g)
    × (cell_of g v.point ≡ c)
touches visits j a c h =
    let v = then_from (λ v. option_map (λ access. cell_of access v.point) (slice_get (accesses v.body) a))
    (slice_get visits j) c h in
    let g = map_from (λ access. cell_of access v.0.point) (slice_get (accesses v.0.body) a) c v.2 in
    (v.0, g.0, v.1, g.1, g.2)

pub last_conflicts : (visits : List Visit) (j a i : ℕ) → last_of visits j a ≡ Some i → PlacesConflict visits i j
last_conflicts visits j a i h =
    let c = then_from (last_writer visits j) (cell_at visits j a) i h in
    let l = last_is visits j c.0 i c.2 in
    let t = touches visits j a c.0 c.1 in
    let w = writer_of (slice_get visits i) c.0 l.wrote in
    record {
      earlier = w.0;
      later = t.0;
      first = 0;
      second = a;
      order = l.before;
      is_earlier = w.1;
      is_later = t.2;
      conflict =
          record {
            first = w.0.body.place;
            second = t.1;
            is_first = refl;
            is_second = t.3;
            writes = inl refl;
            cell = w.2 ∙ sym t.4;
          };
    }

pub next_conflicts : (visits : List Visit) (j a k : ℕ) → next_of visits j a ≡ Some k → PlacesConflict visits j k
next_conflicts visits j a k h =
    let c = then_from (next_writer visits j) (cell_at visits j a) k h in
    let n = next_is visits j c.0 k c.2 in
    let t = touches visits j a c.0 c.1 in
    let w = writer_of (slice_get visits k) c.0 n.wrote in
    record {
      earlier = t.0;
      later = w.0;
      first = a;
      second = 0;
      order = n.behind;
      is_earlier = t.2;
      is_later = w.1;
      conflict =
          record {
            first = t.1;
            second = w.0.body.place;
            is_first = t.3;
            is_second = refl;
            writes = inr refl;
            cell = t.4 ∙ sym w.2;
          };
    }

pub ruleset conflict_laws = (last_conflicts, next_conflicts)
