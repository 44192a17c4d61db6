-- What a cell holds where some places are done, in the words of the walk's own execution.
use Rattle.scop_syntax.proofs.Common.{◌≡◌, ◌≢◌, ℕ, zero, suc, ◌<◌, ◌&&◌, Bool, true, false, List, length, Some, ap, sym}
use Rattle.scop_syntax.proofs.Common.{refl, ◌∙◌, subst, arith, drop, map, slice_get, nat_eq, if◌then◌else◌, eq-eqb}
use Rattle.scop_syntax.proofs.Common.{ne_eqb, slice_get_within, Cell, cell_of, reads, written, AreInside, IsCell}
use Rattle.scop_syntax.proofs.Common.{IsShaped, before_place, cell_number, held, value_stored_by, AreMarked, added_by}
use Rattle.scop_syntax.proofs.Common.{is_marked, Access, stored_by, Visit, nat_cases, written_inside}
use Rattle.scop_syntax.proofs.Writers.{visit_at}
use Rattle.tile_events.specs.DonePlaces.{HasNoWriter, IsLastWriter}
use Rattle.tile_events.specs.Flat.{IsWalk, value_by, written_by}
use Rattle.tile_events.specs.Plan.{Plan, stored, values_read, words_of}
use Rattle.tile_events.proofs.Flat.{AreApart, flat_values}

-- a place is passed over that is not done or writes another cell
passed_over : (b : Bool) (m c : ℕ) → (b ≡ true → m ≢ c) → (b && nat_eq m c) ≡ false
passed_over true m c h = ne_eqb m c (h refl)
passed_over false m c h = refl

module _ (p : Plan) (done : ℕ → Bool) (c : ℕ) where
  -- where no place below n is done and writes the cell, it holds what it held at first
  none_holds : (n : ℕ) → ((j : ℕ) → j < n → done j ≡ true → p.written j ≢ c) → words_of p done n c ≡ p.initial c
  none_holds zero h = refl
  none_holds (suc n) h =
      rw (passed_over (done n) (p.written n) c (h n (omega arith))) (none_holds n (λ j l. h j (omega (arith, l))))

  -- a cell that is stored to holds what the last done place that writes it stores
  last_holds : (i n : ℕ) → p.adds c ≡ false → done i ≡ true → p.written i ≡ c → i < n
      → ((j : ℕ) → i < j → j < n → done j ≡ true → p.written j ≢ c) → words_of p done n c ≡ stored p i
  last_holds i zero stores is writes l h = absurd (omega (arith, l))
  last_holds i (suc n) stores is writes l h = nat_cases i n
      (λ a. rw (passed_over (done n) (p.written n) c (h n a (omega arith)))
      (last_holds i n stores is writes a (λ j m k. h j m (omega (arith, k)))))
      (λ a. subst (λ (m : ℕ). words_of p done (suc m) c ≡ stored p i) a
      (rw (is, eq-eqb (p.written i) c writes, stores) refl))
      (λ a. absurd (omega (arith, a, l)))

module _ (es contents : List (List ℕ)) (marked : List ℕ) (visits : List Visit) (p : Plan) (done : ℕ → Bool)
    (apart : AreApart es) (walk : IsWalk es contents marked visits p) (inside : AreInside es visits) (c : Cell) (is : IsCell es c) where
  -- a place that writes the cell's number writes the cell
  other_cell : (j : ℕ) → j < length visits
      → ((w : Visit) → slice_get visits j ≡ Some w → written w ≢ c) → p.written j ≢ cell_number es c
  other_cell j l h e =
      let w = visit_at visits j l in
      h w.0 w.1 (apart (written w.0) c (written_inside es visits j w.0 inside w.1) is
      (sym (walk.written j ∙ ap (written_by es) w.1) ∙ e))

  pub holds_at_first : HasNoWriter visits done c
      → words_of p done (length visits) (cell_number es c) ≡ held es contents c
  holds_at_first none =
      none_holds p done (cell_number es c) (length visits)
      (λ j l over. other_cell j l (λ w found. none j w found over))
      ∙ walk.initial c is

  -- what stores gives its cell the value of the walk's own execution
  gives_stored : (b : Bool) (v : Visit) (held_there : Access → ℕ) → b ≡ false
      → (if b then added_by v.body.right v.point (map held_there (if b then drop 1 (reads v.body) else reads v.body))
      else stored_by v.body.right v.point (map held_there (if b then drop 1 (reads v.body) else reads v.body)))
      ≡ stored_by v.body.right v.point (map held_there (reads v.body))
  gives_stored b v held_there e = rw e refl

  pub holds_the_last : AreMarked marked visits → IsShaped es contents → is_marked marked c.array ≡ false
      → (i : ℕ) (v : Visit) → IsLastWriter visits done c i v
      → words_of p done (length visits) (cell_number es c)
      ≡ value_stored_by es (before_place es contents visits i) v.body v.point
  holds_the_last marks shape plain i v last =
      let within = slice_get_within visits i v last.there in
      last_holds p done (cell_number es c) i (length visits) (walk.adds c is ∙ plain) last.over
      (walk.written i ∙ ap (written_by es) last.there ∙ ap (cell_number es) last.writes) within
      (λ j l k over. other_cell j k (λ w found. last.last j w l found over))
      ∙ (walk.value i (values_read p i)
      ∙ (ap (λ o. value_by marked o (values_read p i)) last.there
      ∙ (ap (value_by marked (Some v)) (flat_values es contents marked visits p apart walk marks shape inside
      i v last.there (omega (arith, within)))
      ∙ gives_stored (is_marked marked v.body.place.array) v
      (λ access. held es (before_place es contents visits i) (cell_of access v.point))
      (ap (λ (d : Cell). is_marked marked d.array) last.writes ∙ plain))))
