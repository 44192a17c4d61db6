-- Conflicting places of the walk are visited in their order by a tree that carries out a plan.
use Rattle.scop_syntax.proofs.Common.{◌≡◌, ℕ, ◌+◌, ◌-◌, ◌<◌, ℤ, pos, List, [], ◌∷◌, ◌++◌, length, map, inl, inr, ap}
use Rattle.scop_syntax.proofs.Common.{subst, ◌∙◌, arith, false, slice_get, Some, option_map, length-map, slice_get-map}
use Rattle.scop_syntax.proofs.Common.{slice_get_within, zeros, LexLess-irrefl, LexLess-asym, LexLess-front}
use Rattle.scop_syntax.proofs.Common.{PlacesConflict, conflict_cell, In, Sorted, statements_of, is_marked, Program}
use Rattle.scop_syntax.proofs.Common.{Instance, instance, Visit, walk_of, in_from_place, in_map, nat_cases, place_of}
use Rattle.scop_syntax.proofs.Common.{sorted_places}
use Rattle.std.proofs.lemmas.List.{length-append}
use Rattle.scop_syntax.proofs.Statements.{found_at, placed_number}
use Rattle.loop_tree.specs.Plans.{AreInOrder, CarryOut, Precedes, walked}
use Rattle.loop_tree.specs.Tiling.{Items, Tiling, kept, tiled, item_values, items_at, order_of, tile_of, wave_of}
use Rattle.loop_tree.specs.Tiling.{IsGoodFor, IsInOrder, TileRow, wave_sum}
use Rattle.loop_tree.specs.Tree.{Trees}
use Rattle.loop_tree.specs.Walk.{visits}
use Rattle.planned_trees.specs.Trees.{AreEven, StandInOrder}

-- a statement's wave at turns
abbrev pub wave_at : ℤ → List ℕ → List TileRow → List ℤ → List ℤ
wave_at size ls rs us = map pos ls ++ wave_sum size rs us ∷ []

-- a wave has an entry more than there are leading scalars
pub length_wave : (size : ℤ) (ls : List ℕ) (rs : List TileRow) (us : List ℤ)
    → length (wave_at size ls rs us) ≡ length ls + 1
length_wave size ls rs us =
    length-append (map pos ls) (wave_sum size rs us ∷ []) ∙ ap (λ (n : ℕ). n + 1) (length-map ls pos)

-- a walked instance is one of a statement
pub walked_number : (program : Program) (params : List ℤ) (v : Visit) → In v (walk_of program params)
    → v.number < length (statements_of program)
walked_number program params v i =
    let f = found_at program.body 0 params v i in
    let at = place_of (statements_of program) f.0 f.2 in
    let within = slice_get_within (statements_of program) at.0 f.0 at.1 in
    let number = ap (λ (w : Visit). w.number) f.4 ∙ placed_number program.body 0 at.0 f.0 at.1 in
    omega (arith, within, number)

-- where waves have one length, instances in order stand in the order of tiles
precedes : (size : ℕ) (statements : List Items) (i j : ℕ) (x y : Instance)
    → length (items_at statements x.number).leading ≡ length (items_at statements y.number).leading
    → IsInOrder (tiled size statements) i x j y → Precedes size statements x y
precedes size statements i j x y even (inl less) =
    let plan = tiled size statements in
    let s = items_at statements x.number in
    let t = items_at statements y.number in
    let Rest : Instance → List ℤ = λ z.
    tile_of plan z
    ++ (item_values (items_at statements z.number) z.turns
    ++ (z.turns ++ (zeros (5 - length z.turns) ++ pos z.number ∷ []))) in
    let a = length_wave (pos size) s.leading s.band x.turns in
    let b = length_wave (pos size) t.leading t.band y.turns in
    LexLess-front (wave_of plan x) (wave_of plan y) (Rest x) (Rest y) (omega (arith, a, b, even)) less
precedes size statements i j x y even (inr (tile, before)) = before

-- two elements of a list in order stand in their order
sorted_stand : (R : Instance → Instance → Type 0) (xs : List Instance) → ((x : Instance) → R x x → ⊥)
    → ((x y : Instance) → R x y → R y x → ⊥) → Sorted R xs → (x y : Instance) → In x xs → In y xs → R x y
    → StandInOrder xs x y
sorted_stand R xs irreflexive asymmetric sorted x y i j less =
    let a = place_of xs x i in
    let b = place_of xs y j in
    nat_cases a.0 b.0 (λ l. (a.0, b.0, l, a.1, b.1))
    (λ e. let same : x ≡ y = one a.0 b.0 e a.1 b.1 in absurd (irreflexive y (subst (λ z. R z y) same less)))
    (λ l. absurd (asymmetric x y less (sorted_places R xs sorted b.0 a.0 y x b.1 a.1 l)))
  where
    one : (a b : ℕ) → a ≡ b → slice_get xs a ≡ Some x → slice_get xs b ≡ Some y → x ≡ y
    one a b e g h = cc

-- a place of the walk as one of its instances
instance_there : (program : Program) (params : List ℤ) (k : ℕ) (v : Visit)
    → slice_get (walk_of program params) k ≡ Some v → slice_get (walked program params) k ≡ Some (instance v)
instance_there program params k v h =
    slice_get-map instance (walk_of program params) k ∙ ap (option_map instance) h

-- what is listed in the plan's order has conflicting places in theirs
listed : (program : Program) (params : List ℤ) (marked : List ℕ) (plan : Tiling) (xs : List Instance)
    → AreEven program plan → IsGoodFor program params marked plan → AreInOrder program params plan xs → (i j : ℕ)
    (c : PlacesConflict (walk_of program params) i j) → is_marked marked (conflict_cell c).array ≡ false
    → StandInOrder xs (instance c.earlier) (instance c.later)
listed program params marked kept xs even good same i j c free = (
  i,
  j,
  c.order,
  ap (λ ys. slice_get ys i) same ∙ instance_there program params i c.earlier c.is_earlier,
  ap (λ ys. slice_get ys j) same ∙ instance_there program params j c.later c.is_later,
)
listed program params marked (tiled size statements) xs even good (sorted, all) i j c free =
    let v = c.earlier in
    let w = c.later in
    let first = in_from_place (walk_of program params) i v c.is_earlier in
    let second = in_from_place (walk_of program params) j w c.is_later in
    let alike = even v.number w.number (walked_number program params v first) (walked_number program params w second) in
    sorted_stand (Precedes size statements) xs (λ x. LexLess-irrefl (order_of size statements x))
    (λ x y. LexLess-asym (order_of size statements x) (order_of size statements y)) sorted (instance v) (instance w)
    ((all (instance v)).1 (in_map instance v (walk_of program params) first))
    ((all (instance w)).1 (in_map instance w (walk_of program params) second))
    (precedes size statements i j (instance v) (instance w) alike.0 (good i j c free))

pub conflicts_in_order : (program : Program) (params : List ℤ) (marked : List ℕ) (plan : Tiling) (ts : Trees)
    → AreEven program plan → CarryOut program params marked plan ts → (i j : ℕ)
    (c : PlacesConflict (walk_of program params) i j) → is_marked marked (conflict_cell c).array ≡ false
    → StandInOrder (visits ts params) (instance c.earlier) (instance c.later)
conflicts_in_order program params marked plan ts even carry i j c free =
    listed program params marked plan (visits ts params) even carry.good carry.exact i j c free
