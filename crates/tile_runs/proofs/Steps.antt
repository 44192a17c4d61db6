-- What each event of the only worker leaves.
use Rattle.scop_syntax.proofs.Common.{◌≡◌, ◌∙◌, ◌+◌, Bool, true, false, ℕ, zero, suc, ◌<◌, ◌≤◌, [], ◌∷◌, length, set}
use Rattle.scop_syntax.proofs.Common.{ap, sym, subst, arith, nat_eq, nat_lt, nat_le, ◌&&◌, if◌then◌else◌, le-leb}
use Rattle.scop_syntax.proofs.Common.{lt-ltb, some, some-injective, some-ne-none, get_elem?, nat_cases}
use Rattle.tile_events.specs.Core.{Event, Seen, State, Worker, acts, claim, holding, idle}
use Rattle.tile_events.specs.Core.{is_counted, open_tile, put, release, step, step_of, working, needed_by, seen_by}
use Rattle.tile_events.specs.Opening.{IsQuiet}
use Rattle.tile_events.specs.Plan.{Plan}
use Rattle.tile_events.specs.Sound.{Holds, IsFinished}
use Rattle.tile_core.specs.Acts.{DoesStretch}
use Rattle.tile_core.proofs.Acts.{stretch_run}
use Rattle.tile_core.proofs.Gates.{IsRelease}
use Rattle.tile_runs.specs.steps.Alone.{IsAlone}

if_so : {A : Type 0} (b : Bool) (x y z : A) → b ≡ true → (if b then x else y) ≡ z → x ≡ z
if_so true x y z e h = h
if_so false x y z e h = absurd cc

-- the event is that of the worker
alone_acts : (p : Plan) (s : State) (c f : ℕ) (w : Worker) (e : Event) (x : State × Seen) → IsAlone s c f w
    → step p s 0 e ≡ x → acts p s 0 w e ≡ x
alone_acts p s c f w e x a h = sym (ap (λ ws. step_of p s 0 (get_elem? ws 0) e) a.alone) ∙ h

-- the worker stands elsewhere
alone_put : (s : State) (c f : ℕ) (w v : Worker) → IsAlone s c f w → put s 0 v ≡ v ∷ []
alone_put s c f w v a = ap (λ ws. set ws 0 v) a.alone

pub claims_alone : (p : Plan) (s d : State) (seen : Seen) (t : ℕ) → t < p.tiles → step p s 0 claim ≡ (d, seen)
    → IsAlone s t t idle → IsAlone d (suc t) t (holding t)
claims_alone p s d seen t less h a =
    let c = a.claims_are in
    let left : nat_lt s.claims p.tiles ≡ true = lt-ltb s.claims p.tiles (omega (arith, c, less)) in
    let new = if_so (nat_lt s.claims p.tiles) _ _ (d, seen) left (alone_acts p s t t idle claim (d, seen) a h) in
    subst (λ (x : State). IsAlone x (suc t) t (holding t)) (ap (λ x. x.0) new) (record {
      claims_are = ap suc c;
      finished_are = a.finished_are;
      alone = alone_put s t t idle (holding s.claims) a ∙ ap (λ n. holding n ∷ []) c;
    })

-- the tiles before the offset of a wave lie in earlier waves
abbrev OffsetsAreEarly : Plan → Type 0
OffsetsAreEarly p = (w t : ℕ) → t < p.tiles → t < p.offset w → p.wave t < w

-- no more tiles lie in earlier waves than stand before the tile
pub few_before : (p : Plan) (t : ℕ) → OffsetsAreEarly p → t < p.tiles → p.offset (p.wave t) ≤ t
few_before p t early less = nat_cases t (p.offset (p.wave t))
    (λ l. absurd (let e = early (p.wave t) t less l in omega (arith, e)))
    (λ s. omega (arith, s)) (λ l. omega (arith, l))

pub opens_alone : (p : Plan) (s d : State) (seen : Seen) (t : ℕ) → needed_by p.gate p t ≤ seen_by p.gate s t
    → step p s 0 open_tile ≡ (d, seen) → IsAlone s (suc t) t (holding t) → IsAlone d (suc t) t (working t 0 [])
opens_alone p s d seen t more h a =
    let enough : nat_le (needed_by p.gate p t) (seen_by p.gate s t) ≡ true =
    le-leb (needed_by p.gate p t) (seen_by p.gate s t) more in
    let new = if_so (nat_le (needed_by p.gate p t) (seen_by p.gate s t)) _ _ (d, seen) enough
    (alone_acts p s (suc t) t (holding t) open_tile (d, seen) a h) in
    subst (λ (x : State). IsAlone x (suc t) t (working t 0 [])) (ap (λ x. x.0) new) (record {
      claims_are = a.claims_are;
      finished_are = a.finished_are;
      alone = alone_put s (suc t) t (holding t) (working t 0 []) a;
    })

-- the tiles before the one that it holds are finished
pub finished_before : (s : State) (t u : ℕ) → u < t → IsAlone s (suc t) t (holding t) → IsFinished s u
finished_before s t u less a =
    let c = a.claims_are in record {
      claimed = omega (arith, c, less);
      free = λ i w here. none i w (sym (ap (λ ws. get_elem? ws i) a.alone) ∙ here);
    }
  where
    none : (i : ℕ) (w : Worker) → get_elem? (holding t ∷ []) i ≡ some w → Holds w u → ⊥
    none zero w here holds =
        let same : t ≡ u = subst (λ (v : Worker). Holds v u) (sym (some-injective (holding t) w here)) holds in
        omega (arith, same, less)
    none (suc i) w here holds = absurd (some-ne-none w (sym here))

-- the worker alone is the first
pub at_first : (s : State) (c f : ℕ) (w : Worker) → IsAlone s c f w → get_elem? s.workers 0 ≡ some w
at_first s c f w a = ap (λ ws. get_elem? ws 0) a.alone

-- n instances of its tile
pub stretch_alone : (p q : Plan) (s d : State) (t k n : ℕ) → is_counted p.gate ≡ false
    → DoesStretch p q s 0 t k n d → IsAlone s (suc t) t (working t k []) → IsAlone d (suc t) t (working t (k + n) [])
stretch_alone p q s d t k n plain does a =
    subst (λ (x : State). IsAlone x (suc t) t (working t (k + n) []))
    (sym (does.alone ∙ stretch_run p s 0 t k n (at_first s (suc t) t (working t k []) a)
    (λ m l adds. plain) does.within)) (record {
      claims_are = a.claims_are;
      finished_are = a.finished_are;
      alone = alone_put s (suc t) t (working t k []) (working t (k + n) []) a;
    })

-- a release behind the instances of its tile
pub releases_alone : (p : Plan) (s d : State) (seen : Seen) (t k : ℕ) → k < p.size t → IsRelease p (p.place t k)
    → step p s 0 release ≡ (d, seen) → IsAlone s (suc t) t (working t k []) → IsAlone d (suc t) t (working t (suc k) [])
releases_alone p s d seen t k less is h a =
    let j : ℕ = p.place t k in
    let left : nat_lt k (p.size t) ≡ true = lt-ltb k (p.size t) less in
    let last : (nat_eq 0 (length (p.read j)) && (p.adds (p.written j) && is_counted p.gate)) ≡ true =
    ap (λ xs. nat_eq 0 (length xs) && (p.adds (p.written j) && is_counted p.gate)) is.read
    ∙ (ap (λ b. b && is_counted p.gate) is.adds ∙ is.counted) in
    let one = if_so (nat_lt k (p.size t)) _ _ (d, seen) left
    (alone_acts p s (suc t) t (working t k []) release (d, seen) a h) in
    let new = if_so (nat_eq 0 (length (p.read j)) && (p.adds (p.written j) && is_counted p.gate)) _ _ (d, seen) last one in
    subst (λ (x : State). IsAlone x (suc t) t (working t (suc k) [])) (ap (λ x. x.0) new) (record {
      claims_are = a.claims_are;
      finished_are = a.finished_are;
      alone = alone_put s (suc t) t (working t k []) (working t (suc k) []) a;
    })

-- where all tiles are claimed and the worker is idle the run is quiet
pub quiet_alone : (p : Plan) (s : State) (t : ℕ) → p.tiles ≤ t → IsAlone s t t idle → IsQuiet p s
quiet_alone p s t all a =
    let c = a.claims_are in record {
      out = omega (arith, c, all);
      free = λ i u w here. none i u w (sym (ap (λ ws. get_elem? ws i) a.alone) ∙ here);
    }
  where
    none : (i u : ℕ) (w : Worker) → get_elem? (idle ∷ []) i ≡ some w → Holds w u → ⊥
    none zero u w here holds = subst (λ (v : Worker). Holds v u → ⊥) (some-injective idle w here) (λ h. h) holds
    none (suc i) u w here holds = absurd (some-ne-none w (sym here))
