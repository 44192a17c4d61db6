-- The next instance of a worker in an opened tile is ready: what it touches before it is done, what comes after it not.
use Rattle.scop_syntax.proofs.Common.{◌≡◌, ℕ, ◌<◌, ◌≤◌, ⊎_elim, Bool, true, List, [], ◌∷◌, sym, refl, ◌∙◌, subst, arith}
use Rattle.scop_syntax.proofs.Common.{nat_lt, if◌then◌else◌, eq-eqb, ltb-true, lt-ltb, false_from_ne_true, and_parts}
use Rattle.scop_syntax.proofs.Common.{some, some-injective, get_elem?, nat_cases}
use Rattle.tile_events.specs.Plan.{Plan, Gate, waves, counters, Awaits, Ordered, Through, GoodPlan, IsDealt}
use Rattle.tile_events.specs.Core.{Worker, holding, working, State}
use Rattle.tile_events.specs.Sound.{passed, all_passed, is_done, IsFinished, IsBegun, AreOpened, Sound}
use Rattle.tile_events.specs.steps.Ready.{IsReady}
use Rattle.tile_events.specs.steps.Changes.{Waits}
use Rattle.tile_events.proofs.Workers.{passed_free, passed_holding, all_passed_at, all_passed_from, all_passed_less}

-- who has a place done has its tile opened
pub is_begun_of_done : (p : Plan) (s : State) (i : ℕ) → is_done p s i ≡ true → IsBegun s (p.tile i)
is_begun_of_done p s i e =
    let b = and_parts (nat_lt (p.tile i) s.claims) (all_passed s.workers (p.tile i) (p.position i)) e in
    record {
      claimed = ltb-true (p.tile i) s.claims b.0;
      awake = λ id h. passed_holding (p.tile i) (p.tile i) (p.position i)
          (all_passed_at s.workers (p.tile i) (p.position i) id (holding (p.tile i)) b.1 h) refl;
    }

begun_of_working : (p : Plan) (s : State) (id t k : ℕ) (xs : List ℕ) → Sound p s
    → get_elem? s.workers id ≡ some (working t k xs) → IsBegun s t
begun_of_working p s id t k xs sound here = record {
  claimed = (sound.below id t (working t k xs) here refl).0;
  awake = λ i e. let same = sound.apart i id t (holding t) (working t k xs) e here refl refl in
      let f : get_elem? s.workers id ≡ some (holding t) =
      subst (λ (j : ℕ). get_elem? s.workers j ≡ some (holding t)) same e in
      subst (λ x. Waits x t) (some-injective (holding t) (working t k xs) (sym f ∙ here)) refl;
}

pub done_from : (p : Plan) (s : State) (i : ℕ) → p.tile i < s.claims
    → ((id : ℕ) (w : Worker) → get_elem? s.workers id ≡ some w → passed w (p.tile i) (p.position i) ≡ true)
    → is_done p s i ≡ true
done_from p s i less h = rw (lt-ltb (p.tile i) s.claims less) (all_passed_from s.workers (p.tile i) (p.position i) h)

pub passed_at : (t u n k : ℕ) (xs : List ℕ) → t ≡ u → k < n → passed (working t n xs) u k ≡ true
passed_at t u n k xs e less = rw (eq-eqb t u e) (lt-ltb k n less)

passed_here : (t u n k : ℕ) (xs : List ℕ) → t ≡ u → passed (working t n xs) u k ≡ true → k < n
passed_here t u n k xs e h =
    ltb-true k n (subst (λ (b : Bool). (if b then nat_lt k n else true) ≡ true) (eq-eqb t u e) h)

-- a place is done where one that does not come before it in its tile is done
pub done_less : (p : Plan) (s : State) (i r : ℕ) → p.tile r ≡ p.tile i → p.position i ≤ p.position r
    → is_done p s r ≡ true → is_done p s i ≡ true
done_less p s i r same less done =
    let b = and_parts (nat_lt (p.tile r) s.claims) (all_passed s.workers (p.tile r) (p.position r)) done in
    let c : p.tile i < s.claims = subst (λ (t : ℕ). t < s.claims) same (ltb-true (p.tile r) s.claims b.0) in
    let d : all_passed s.workers (p.tile i) (p.position r) ≡ true =
    subst (λ (t : ℕ). all_passed s.workers t (p.position r) ≡ true) same b.1 in
    rw (lt-ltb (p.tile i) s.claims c) (all_passed_less s.workers (p.tile i) (p.position i) (p.position r) less d)

-- all places of a finished tile are done
pub done_of_finished : (p : Plan) (s : State) (i : ℕ) → IsFinished s (p.tile i) → is_done p s i ≡ true
done_of_finished p s i f =
    done_from p s i f.claimed (λ m w e. passed_free w (p.tile i) (p.position i) (f.free m w e))

-- what a begun tile has waited for is done
awaited : (g : Gate) (p : Plan) (s : State) (u r : ℕ) → IsDealt p → AreOpened g p s → r < p.places → u < p.tiles
    → IsBegun s u → Awaits g p u r → is_done p s r ≡ true
awaited waves p s u r deal opened less within begun a =
    done_of_finished p s r (opened (p.tile r) u (deal.tile r less) within begun a)
awaited (counters cell needs) p s u r deal opened less within begun a = opened r u less within begun a

-- a place of which the other waits is done where that other's tile is begun
link_done : (p : Plan) (s : State) (i u : ℕ) → IsDealt p → Sound p s → u < p.tiles → IsBegun s u
    → (r : ℕ) × (r < p.places) × (p.tile r ≡ p.tile i) × (p.position i ≤ p.position r) × Awaits p.gate p u r
    → is_done p s i ≡ true
link_done p s i u deal sound within begun l =
    done_less p s i l.0 l.2 l.3 (awaited p.gate p s u l.0 deal sound.opened l.1 within begun l.4)

-- before a place that is done, those are done that are ordered before it
done_back : (p : Plan) (s : State) (i k : ℕ) → IsDealt p → Sound p s → k < p.places → Ordered p i k
    → is_done p s k ≡ true → is_done p s i ≡ true
done_back p s i k deal sound less o done = ⊎_elim
    (λ (o : (p.tile i ≡ p.tile k) × (p.position i < p.position k)).
    let l = o.1 in done_less p s i k (sym o.0) (omega (arith, l)) done)
    (λ o. link_done p s i (p.tile k) deal sound (deal.tile k less) (is_begun_of_done p s k done) o)
    o

through_back : (p : Plan) (s : State) (ks : List ℕ) (i j : ℕ) → IsDealt p → Sound p s → j < p.places → Through p ks i j
    → is_done p s j ≡ true → is_done p s i ≡ true
through_back p s [] i j deal sound less o done = done_back p s i j deal sound less o done
through_back p s (k ∷ ks) i j deal sound less o done =
    done_back p s i k deal sound o.0 o.1 (through_back p s ks k j deal sound less o.2 done)

-- what worker id is to do next in tile t, its instance k, is ready
ready : (p : Plan) (s : State) (id t k j : ℕ) (xs : List ℕ) → GoodPlan p → IsDealt p → Sound p s
    → get_elem? s.workers id ≡ some (working t k xs)
    → j < p.places → p.tile j ≡ t → p.position j ≡ k → IsReady p (is_done p s) j
ready p s id t k j xs good deal sound here less is_t is_k = record {
  earlier = λ i before touch. let c = good.ordered i j before less touch in to_next c.0 i c.1;
  later = λ i after within touch. false_from_ne_true (is_done p s i) (λ e.
      let c = good.ordered j i after within touch in
      not_done (through_back p s c.0 j i deal sound within c.1 e));
  itself = false_from_ne_true (is_done p s j) not_done;
}
  where
    not_done : is_done p s j ≡ true → ⊥
    not_done e =
        let b = and_parts (nat_lt (p.tile j) s.claims) (all_passed s.workers (p.tile j) (p.position j)) e in
        let l = passed_here t (p.tile j) k (p.position j) xs (sym is_t)
        (all_passed_at s.workers (p.tile j) (p.position j) id (working t k xs) b.1 here) in
        omega (arith, l, is_k)

    at_next : (i : ℕ) → Ordered p i j → is_done p s i ≡ true
    at_next i o = ⊎_elim
        (λ (o : (p.tile i ≡ p.tile j) × (p.position i < p.position j)).
        let same : t ≡ p.tile i = sym (o.0 ∙ is_t) in
        let early = o.1 in
        done_from p s i (subst (λ (u : ℕ). u < s.claims) same (sound.below id t (working t k xs) here refl).0)
        (λ m w e. nat_cases m id
        (λ l. passed_free w (p.tile i) (p.position i)
        (λ h. let z = sound.apart m id (p.tile i) w (working t k xs) e here h same in omega (arith, l, z)))
        (λ z. let f : get_elem? s.workers id ≡ some w = subst (λ (q : ℕ). get_elem? s.workers q ≡ some w) z e in
        subst (λ x. passed x (p.tile i) (p.position i) ≡ true) (some-injective (working t k xs) w (sym here ∙ f))
        (passed_at t (p.tile i) k (p.position i) xs same (omega (arith, early, is_k))))
        (λ l. passed_free w (p.tile i) (p.position i)
        (λ h. let z = sound.apart m id (p.tile i) w (working t k xs) e here h same in omega (arith, l, z)))))
        (λ o. link_done p s i (p.tile j) deal sound (deal.tile j less)
        (subst (IsBegun s) (sym is_t) (begun_of_working p s id t k xs sound here)) o)
        o

    to_next : (ks : List ℕ) (i : ℕ) → Through p ks i j → is_done p s i ≡ true
    to_next [] i o = at_next i o
    to_next (m ∷ ks) i o = done_back p s i m deal sound o.0 o.1 (to_next ks m o.2)

pub ready_next : (p : Plan) (s : State) (id t k : ℕ) (xs : List ℕ) → GoodPlan p → IsDealt p → Sound p s
    → get_elem? s.workers id ≡ some (working t k xs) → k < p.size t → IsReady p (is_done p s) (p.place t k)
ready_next p s id t k xs good deal sound here less =
    let b = (sound.below id t (working t k xs) here refl).1 in
    ready p s id t k (p.place t k) xs good deal sound here (deal.place t k b less) (deal.its_tile t k b less)
    (deal.its_position t k b less)
