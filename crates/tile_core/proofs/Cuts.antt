-- The tiles of a scan by where each begins.
use Rattle.scop_syntax.proofs.Common.{◌≡◌, ℕ, zero, suc, ◌+◌, ◌-◌, ◌≤◌, ◌<◌, List, [], ◌∷◌, length, map, take, get_or}
use Rattle.scop_syntax.proofs.Common.{Some, inl, inr, ap, subst, sym, refl, ◌∙◌, arith, slice_get, slice_index_or}
use Rattle.scop_syntax.proofs.Common.{slice_get_within, slice_get-get_or, LexLess, In, Instance, in_from_place}
use Rattle.scop_syntax.proofs.Common.{nat_cases, sorted_places}
use Rattle.std.proofs.lemmas.List.{length-append}
use Rattle.loop_tree.specs.Tiling.{Tiling, wave_of}
use Rattle.tile_list.specs.Tiles.{AreTiles, AreWaves, InOneTile, PartBefore, TileBefore, joined, start_of}
use Rattle.tile_core.specs.Ranks.{start_at}

-- instance x of the scan stands at place r, in tile t of the first n
pub record IsInTile (xs : List Instance) (n : ℕ) (start : ℕ → ℕ) (t r : ℕ) (x : Instance) : Type 0 where
  pub tile : t < n
  pub from : start t ≤ r
  pub to : r < start (suc t)
  pub there : slice_get xs r ≡ Some x

-- a scan cut into n tiles where each starts, with the numbers of their waves
pub record IsCut (tiling : Tiling) (xs : List Instance) (n : ℕ) (start wave : ℕ → ℕ) : Type 0 where
  pub first : start 0 ≡ 0
  pub last : start n ≡ length xs
  pub rises : (t : ℕ) → t < n → start t ≤ start (suc t)
  pub found : (r : ℕ) (x : Instance) → slice_get xs r ≡ Some x → (t : ℕ) × IsInTile xs n start t r x
  pub one : (t r s : ℕ) (x y : Instance) → IsInTile xs n start t r x → IsInTile xs n start t s y → InOneTile tiling x y
  pub rise : (t u r s : ℕ) (x y : Instance) → IsInTile xs n start t r x → IsInTile xs n start u s y → t < u
      → TileBefore tiling x y
  pub by_wave : (t u : ℕ) → t < u → u < n → wave t ≤ wave u
  pub waves : (t u r s : ℕ) (x y : Instance) → IsInTile xs n start t r x → IsInTile xs n start u s y → t < u
      → wave t ≡ wave u → wave_of tiling x ≡ wave_of tiling y

-- instances of a tile stand from its start on
abbrev pub PartsStand : Type 0
PartsStand = (tiling : Tiling) (xs : List Instance) (parts : List (List Instance)) → AreTiles tiling xs parts
    → (t k : ℕ) → t < length parts → k < length (slice_index_or parts t [])
    → slice_get xs (start_of parts t + k) ≡ slice_get (slice_index_or parts t []) k

-- the laws of tiles
pub record TileLaws : Type 0 where
  pub next : (parts : List (List Instance)) (t : ℕ) → t < length parts
      → start_of parts (suc t) ≡ start_of parts t + length (slice_index_or parts t [])
  pub last : (tiling : Tiling) (xs : List Instance) (parts : List (List Instance)) → AreTiles tiling xs parts
      → start_of parts (length parts) ≡ length xs
  pub at : PartsStand
  pub less : (tiling : Tiling) (firsts : List Instance) (numbers : List ℕ) → AreWaves tiling firsts numbers
      → (t u m n : ℕ) (x y : Instance) → slice_get firsts t ≡ Some x → slice_get firsts u ≡ Some y
      → slice_get numbers t ≡ Some m → slice_get numbers u ≡ Some n
      → LexLess (wave_of tiling x) (wave_of tiling y) → m < n
  pub rise : (tiling : Tiling) (firsts : List Instance) (numbers : List ℕ) → AreWaves tiling firsts numbers
      → (t u m n : ℕ) → t ≤ u → slice_get numbers t ≡ Some m → slice_get numbers u ≡ Some n → m ≤ n

-- no tile begins before an earlier one
pub starts_rise : (start : ℕ → ℕ) (n : ℕ) → ((t : ℕ) → t < n → start t ≤ start (suc t)) → (t u : ℕ) → t ≤ u → u ≤ n
    → start t ≤ start u
starts_rise start n rises t zero l m =
    let e = ap start (let q : t ≡ 0 = omega (arith, l) in q) in omega (arith, e)
starts_rise start n rises t (suc u) l m =
    nat_cases t (suc u)
    (λ less. let a = starts_rise start n rises t u (omega (arith, less)) (omega (arith, m)) in
    let b = rises u (omega (arith, m)) in
    omega (arith, a, b))
    (λ e. let f = ap start e in omega (arith, f)) (λ more. absurd (omega (arith, more, l)))

-- a place lies in one of the tiles
between : (start : ℕ → ℕ) (n r : ℕ) → start 0 ≤ r → r < start n
    → (t : ℕ) × (t < n) × (start t ≤ r) × (r < start (suc t))
between start zero r from to = absurd (omega (arith, from, to))
between start (suc m) r from to =
    nat_cases r (start m)
    (λ l. let b = between start m r from l in let less = b.1 in (b.0, omega (arith, less), b.2, b.3))
    (λ e. (m, omega arith, omega (arith, e), to)) (λ l. (m, omega arith, omega (arith, l), to))

-- sizes added up tell where parts start
pub sum_start : (parts : List (List Instance)) (t : ℕ) → start_at (map length parts) t ≡ start_of parts t
sum_start [] zero = refl
sum_start [] (suc t) = refl
sum_start (p ∷ ps) zero = refl
sum_start (p ∷ ps) (suc t) = ap (λ n. length p + n) (sum_start ps t) ∙ sym (length-append p (joined (take t ps)))

-- the parts with their first instances and the numbers of their waves
module _ (laws : TileLaws) (tiling : Tiling) (xs firsts : List Instance) (parts : List (List Instance))
    (numbers : List ℕ) (cut : AreTiles tiling xs parts)
    (heads : (t : ℕ) (p : List Instance) → slice_get parts t ≡ Some p
    → (x : Instance) × (slice_get p 0 ≡ Some x) × (slice_get firsts t ≡ Some x))
    (many : length numbers ≡ length parts) (are : AreWaves tiling firsts numbers) where
  abbrev starts : ℕ → ℕ
  starts t = start_at (map length parts) t

  abbrev numbered : ℕ → ℕ
  numbered t = get_or numbers t 0

  abbrev part : ℕ → List Instance
  part t = get_or parts t []

  start_next : (t : ℕ) → t < length parts → starts (suc t) ≡ starts t + length (part t)
  start_next t l =
      let a = sum_start parts t in
      let b = sum_start parts (suc t) in
      let n = laws.next parts t l in
      omega (arith, a, b, n)

  start_last : starts (length parts) ≡ length xs
  start_last = sum_start parts (length parts) ∙ laws.last tiling xs parts cut

  in_part : (t r : ℕ) (x : Instance) → IsInTile xs (length parts) starts t r x → In x (part t)
  in_part t r x is =
      let a = sum_start parts t in
      let n = start_next t is.tile in
      let from = is.from in
      let to = is.to in
      let k = r - start_of parts t in
      let at = laws.at tiling xs parts cut t k is.tile (omega (arith, a, n, from, to)) in
      let same : start_of parts t + k ≡ r = omega (arith, a, from) in
      in_from_place (part t) k x (sym at ∙ (ap (slice_get xs) same ∙ is.there))

  part_there : (t : ℕ) → t < length parts → slice_get parts t ≡ Some (part t)
  part_there t l = slice_get-get_or parts t [] l

  head_of : (t r : ℕ) (x : Instance) → IsInTile xs (length parts) starts t r x
      → (h : Instance) × (slice_get firsts t ≡ Some h) × (wave_of tiling x ≡ wave_of tiling h)
  head_of t r x is =
      let there = part_there t is.tile in
      let h = heads t (part t) there in (
        h.0,
        h.2,
        (cut.one (part t) (in_from_place parts t (part t) there) x h.0 (in_part t r x is)
            (in_from_place (part t) 0 h.0 h.1)).wave,
      )

  number_at : (t : ℕ) → t < length parts → slice_get numbers t ≡ Some (numbered t)
  number_at t l = slice_get-get_or numbers t 0 (omega (arith, many, l))

  before : (t u r s : ℕ) (x y : Instance) → IsInTile xs (length parts) starts t r x
      → IsInTile xs (length parts) starts u s y → t < u → TileBefore tiling x y
  before t u r s x y a b l =
      sorted_places (PartBefore tiling) parts cut.rise t u (part t) (part u) (part_there t a.tile)
      (part_there u b.tile) l
      x y (in_part t r x a) (in_part u s y b)

  pub cut_is : IsCut tiling xs (length parts) starts numbered
  cut_is = record {
    first = sum_start parts 0;
    last = start_last;
    rises = λ t l. let n = start_next t l in omega (arith, n);
    found = λ r x there.
        let within = slice_get_within xs r x there in
        let last = start_last in
        let first = sum_start parts 0 in
        let b = between starts (length parts) r (omega (arith, first)) (omega (arith, within, last)) in
        (b.0, record { tile = b.1; from = b.2; to = b.3; there = there });
    one = λ t r s x y a b.
        cut.one (part t) (in_from_place parts t (part t) (part_there t a.tile)) x y (in_part t r x a) (in_part t s y b);
    rise = before;
    by_wave = λ t u l m.
        laws.rise tiling firsts numbers are t u (numbered t) (numbered u) (omega (arith, l))
        (number_at t (omega (arith, l, m))) (number_at u m);
    waves = λ t u r s x y a b l e. one_wave t u r s x y a b e (before t u r s x y a b l);
  }
    where
      one_wave : (t u r s : ℕ) (x y : Instance) → IsInTile xs (length parts) starts t r x
          → IsInTile xs (length parts) starts u s y → numbered t ≡ numbered u → TileBefore tiling x y
          → wave_of tiling x ≡ wave_of tiling y
      one_wave t u r s x y a b e (inr h) = h.0
      one_wave t u r s x y a b e (inl h) =
          let p = head_of t r x a in
          let q = head_of u s y b in
          let less = laws.less tiling firsts numbers are t u (numbered t) (numbered u) p.0 q.0 p.1 q.1
          (number_at t a.tile) (number_at u b.tile)
          (subst (λ z. LexLess z (wave_of tiling q.0)) p.2 (subst (LexLess (wave_of tiling x)) q.2 h)) in
          absurd (omega (arith, less, e))
