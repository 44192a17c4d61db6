-- What steps, cuts and joins of seats do to their clocks, and what clocks tell.
use Rattle.scop_syntax.proofs.Common.{◌≡◌, ℕ, zero, suc, ◌+◌, ◌<◌, ◌≤◌, ◌≢◌, ◌⊎◌, ⊎_elim, inl, inr, Bool, true, false}
use Rattle.scop_syntax.proofs.Common.{List, [], ◌∷◌, ◌++◌, set, ap, sym, refl, ◌∙◌, subst, arith, nat_lt, slice_index}
use Rattle.scop_syntax.proofs.Common.{slice_set, if◌then◌else◌, ltb-true, ltb-false, some, some-injective, get_elem?}
use Rattle.scop_syntax.proofs.Common.{nat_cases}
use Rattle.atomic_table.proofs.Lists.{at_set, at_snoc, at_longer, set_else}
use Rattle.tile_events.specs.Plan.{Plan}
use Rattle.tile_events.specs.Sound.{total}
use Rattle.tile_events.specs.Opening.{AreOpeningWords}
use Rattle.tile_events.specs.Rule.{AreTimed, steps_in, later, both_clocks, unmoved, ticked, missed}
use Rattle.tile_events.specs.declared.clock.Clock.{Clock}
use Rattle.tile_events.proofs.Workers.{total_set, total_last, set_at}

same_or : {P : Type 0} (i j : ℕ) → (i ≡ j → P) → (i ≢ j → P) → P
same_or i j f g = nat_cases i j (λ l. g (λ e. omega (arith, e, l))) f (λ l. g (λ e. omega (arith, e, l)))

-- the later of two clocks has the greater stamp, and is one of the two
later_is : (c d : Clock) → ((later c d ≡ d) × (c.stamp < d.stamp)) ⊎ ((later c d ≡ c) × (d.stamp ≤ c.stamp))
later_is c d = by_test (nat_lt c.stamp d.stamp) refl
  where
    by_test : (b : Bool) → nat_lt c.stamp d.stamp ≡ b
        → ((later c d ≡ d) × (c.stamp < d.stamp)) ⊎ ((later c d ≡ c) × (d.stamp ≤ c.stamp))
    by_test true e = inl (ap (λ (b : Bool). if b then d else c) e, ltb-true c.stamp d.stamp e)
    by_test false e = inr (ap (λ (b : Bool). if b then d else c) e, ltb-false c.stamp d.stamp e)

-- a clock has gone on by one step, which left so much in the word
pub record Goes (c d : Clock) (stamp word left : ℕ) : Type 0 where
  pub steps : d.steps ≡ suc c.steps
  pub stamp_is : d.stamp ≡ stamp
  pub word_is : d.word ≡ word
  pub left_is : d.left ≡ left

pub goes : (c d : Clock) (stamp word left : ℕ) → d ≡ ticked c stamp word left → Goes c d stamp word left
goes c d stamp word left e = record {
  steps = ap (λ k. k.steps) e;
  stamp_is = ap (λ k. k.stamp) e;
  word_is = ap (λ k. k.word) e;
  left_is = ap (λ k. k.left) e;
}

pub goes_missed : (c d : Clock) (stamp word left : ℕ) → d ≡ missed c stamp word left → Goes c d stamp word left
goes_missed c d stamp word left e = record {
  steps = ap (λ k. k.steps) e;
  stamp_is = ap (λ k. k.stamp) e;
  word_is = ap (λ k. k.word) e;
  left_is = ap (λ k. k.left) e;
}

-- both in one have the stamp of the later step, and what it left
joined_stamp : (c d : Clock) (t : ℕ) → c.stamp ≤ t → d.stamp ≤ t → (c.stamp ≡ t) ⊎ (d.stamp ≡ t)
    → (later c d).stamp ≡ t
joined_stamp c d t on_c on_d is = ⊎_elim
    (λ l. ap (λ k. k.stamp) l.0 ∙ ⊎_elim (λ a. let x = l.1 in absurd (omega (arith, x, a, on_d))) (λ a. a) is)
    (λ l. ap (λ k. k.stamp) l.0 ∙ ⊎_elim (λ a. a) (λ a. let x = l.1 in omega (arith, x, a, on_c)) is)
    (later_is c d)

joined_until : (c d : Clock) (t : ℕ) → c.stamp ≤ t → d.stamp ≤ t → (later c d).stamp ≤ t
joined_until c d t on_c on_d = ⊎_elim
    (λ l. subst (λ k. k.stamp ≤ t) (sym l.0) on_d)
    (λ l. subst (λ k. k.stamp ≤ t) (sym l.0) on_c)
    (later_is c d)

joined_left : (words : List ℕ) (c d : Clock) (t : ℕ) → (later c d).stamp ≡ t
    → (c.stamp ≡ t → slice_index words c.word ≡ c.left) → (d.stamp ≡ t → slice_index words d.word ≡ d.left)
    → slice_index words (later c d).word ≡ (later c d).left
joined_left words c d t is of_c of_d = ⊎_elim
    (λ l. subst (λ k. slice_index words k.word ≡ k.left) (sym l.0) (of_d (sym (ap (λ k. k.stamp) l.0) ∙ is)))
    (λ l. subst (λ k. slice_index words k.word ≡ k.left) (sym l.0) (of_c (sym (ap (λ k. k.stamp) l.0) ∙ is)))
    (later_is c d)

total_none : {A : Type 0} (f : A → ℕ) (ws : List A) → ((i : ℕ) (w : A) → get_elem? ws i ≡ some w → f w ≡ 0)
    → total f ws ≡ 0
total_none f [] h = refl
total_none f (w ∷ ws) h =
    let a = h 0 w refl in
    let ih = total_none f ws (λ i u e. h (suc i) u e) in
    omega (arith, a, ih)

module _ {V : Type 0} (parts : V → ℕ) (clock : V → Clock) (p : Plan) where
  abbrev steps_of : V → ℕ
  steps_of v = (clock v).steps

  -- one step of seat id, which sets this word
  pub timed_step : (words : List ℕ) (views : List V) (id i n : ℕ) (v w : V) → AreTimed parts clock p words views
      → get_elem? views id ≡ some v → 0 < parts w → slice_index (slice_set words i n) i ≡ n
      → Goes (clock v) (clock w) (suc (steps_in parts clock views)) i n
      → AreTimed parts clock p (slice_set words i n) (set views id w)
  timed_step words views id i n v w h here some_parts set_there on =
      let steps = on.steps in
      let stamp = on.stamp_is in
      let t = total_set steps_of views id v w here in
      let total_is : steps_in parts clock (set views id w) ≡ suc (steps_in parts clock views) =
      omega (arith, t, steps) in record {
        until = λ j u e. ⊎_elim
            (λ (a : (j ≡ id) × (w ≡ u)). subst (λ y. (clock y).stamp ≤ steps_in parts clock (set views id w)) a.1
            (omega (arith, stamp, total_is)))
            (λ (a : (j ≢ id) × (get_elem? views j ≡ some u)). let o = h.until j u a.1 in omega (arith, o, total_is))
            (at_set views id j w u e);
        last = λ q. (id, w, set_at views id v w here, stamp ∙ sym total_is);
        left = λ j u e q is. ⊎_elim
            (λ (a : (j ≡ id) × (w ≡ u)). subst (λ y. slice_index (slice_set words i n) (clock y).word ≡ (clock y).left)
            a.1
            (ap (λ (k : ℕ). slice_index (slice_set words i n) k) on.word_is ∙ (set_there ∙ sym on.left_is)))
            (λ (a : (j ≢ id) × (get_elem? views j ≡ some u)). let o = h.until j u a.1 in
            absurd (omega (arith, o, total_is, is)))
            (at_set views id j w u e);
        nobody = λ j u e none. ⊎_elim
            (λ (a : (j ≡ id) × (w ≡ u)). let f = ap parts a.1 in absurd (omega (arith, f, none, some_parts)))
            (λ (a : (j ≢ id) × (get_elem? views j ≡ some u)). h.nobody j u a.1 none)
            (at_set views id j w u e);
        first = λ q. absurd (omega (arith, q, total_is));
      }

  -- a seat that is cut off has made no step
  pub timed_split : (words : List ℕ) (views : List V) (id : ℕ) (v left right : V)
      → AreTimed parts clock p words views → get_elem? views id ≡ some v → 0 < parts left
      → clock left ≡ clock v → clock right ≡ unmoved
      → AreTimed parts clock p words (set views id left ++ right ∷ [])
  timed_split words views id v left right h here some_parts same new =
      let all : List V = set views id left ++ right ∷ [] in
      let t = total_set steps_of views id v left here in
      let u = total_last steps_of (set views id left) right in
      let a = ap (λ c. c.steps) same in
      let b = ap (λ c. c.steps) new in
      let total_is : steps_in parts clock all ≡ steps_in parts clock views = omega (arith, t, u, a, b) in
      let at : (P : V → Type 0) (j : ℕ) (u : V) → get_elem? all j ≡ some u
      → P right → (j ≡ id → P left) → (get_elem? views j ≡ some u → P u) → P u =
      λ P j u e on_right on_left on_old. ⊎_elim
      (λ e. ⊎_elim
      (λ (a : (j ≡ id) × (left ≡ u)). subst P a.1 (on_left a.0))
      (λ (a : (j ≢ id) × (get_elem? views j ≡ some u)). on_old a.1)
      (at_set views id j left u e))
      (λ (a : right ≡ u). subst P a on_right)
      (at_snoc (set views id left) right u j e) in record {
        until = λ j u e. at (λ y. (clock y).stamp ≤ steps_in parts clock all) j u e
            (let s = ap (λ c. c.stamp) new in omega (arith, s))
            (λ i. let s = ap (λ c. c.stamp) same in let o = h.until id v here in omega (arith, s, o, total_is))
            (λ old. let o = h.until j u old in omega (arith, o, total_is));
        last = λ q. let l = h.last (omega (arith, q, total_is)) in
            nat_cases l.0 id
            (λ less. (
              l.0,
              l.1,
              at_longer _ _ l.0 l.1
                  (set_else views id l.0 left (λ e. omega (arith, e, less)) ∙ l.2),
              l.3 ∙ sym total_is,
            ))
            (λ e. (
              id,
              left,
              at_longer _ _ id left (set_at views id v left here),
              ap (λ c. c.stamp) same ∙ (ap (λ y. (clock y).stamp) (some-injective v l.1
                  (sym here ∙ subst (λ (k : ℕ). get_elem? views k ≡ some l.1) e l.2)) ∙ (l.3 ∙ sym total_is)),
            ))
            (λ more. (
              l.0,
              l.1,
              at_longer _ _ l.0 l.1
                  (set_else views id l.0 left (λ e. omega (arith, e, more)) ∙ l.2),
              l.3 ∙ sym total_is,
            ));
        left = λ j u e q. at (λ y. (clock y).stamp ≡ steps_in parts clock all
            → slice_index words (clock y).word ≡ (clock y).left) j u e
            (λ is. let s = ap (λ c. c.stamp) new in absurd (omega (arith, s, is, q)))
            (λ i is. let o = h.left id v here (omega (arith, q, total_is))
            (sym (ap (λ c. c.stamp) same) ∙ (is ∙ total_is)) in
            subst (λ c. slice_index words c.word ≡ c.left) (sym same) o)
            (λ old is. h.left j u old (omega (arith, q, total_is)) (is ∙ total_is));
        nobody = λ j u e. at (λ y. parts y ≡ 0 → (clock y).steps ≡ 0) j u e
            (λ none. b)
            (λ i none. absurd (omega (arith, none, some_parts)))
            (λ old none. h.nobody j u old none);
        first = λ q. h.first (sym total_is ∙ q);
      }

  -- a seat that takes in another has made the steps of both
  pub timed_join : (words : List ℕ) (views : List V) (id : ℕ) (v : V) (other : ℕ) (u both spent : V)
      → AreTimed parts clock p words views → get_elem? views id ≡ some v → other ≢ id
      → get_elem? views other ≡ some u → parts both ≡ parts v + parts u
      → clock both ≡ both_clocks (clock v) (clock u) → clock spent ≡ unmoved
      → AreTimed parts clock p words (set (set views id both) other spent)
  timed_join words views id v other u both spent h here apart there sum joined new =
      let vs : List V = set views id both in
      let all : List V = set vs other spent in
      let there_still : get_elem? vs other ≡ some u = set_else views id other both apart ∙ there in
      let t = total_set steps_of views id v both here in
      let r = total_set steps_of vs other u spent there_still in
      let a = ap (λ c. c.steps) joined in
      let b = ap (λ c. c.steps) new in
      let total_is : steps_in parts clock all ≡ steps_in parts clock views = omega (arith, t, r, a, b) in
      let stamp_is : (clock both).stamp ≡ (later (clock v) (clock u)).stamp = ap (λ c. c.stamp) joined in
      let on_v = h.until id v here in
      let on_u = h.until other u there in
      let at : (P : V → Type 0) (j : ℕ) (y : V) → get_elem? all j ≡ some y → P spent → P both
      → (get_elem? views j ≡ some y → P y) → P y =
      λ P j y e on_spent on_both on_old. ⊎_elim
      (λ (a : (j ≡ other) × (spent ≡ y)). subst P a.1 on_spent)
      (λ (a : (j ≢ other) × (get_elem? vs j ≡ some y)). ⊎_elim
      (λ (c : (j ≡ id) × (both ≡ y)). subst P c.1 on_both)
      (λ (c : (j ≢ id) × (get_elem? views j ≡ some y)). on_old c.1)
      (at_set views id j both y a.1))
      (at_set vs other j spent y e) in
      let both_at : get_elem? all id ≡ some both =
      set_else vs other id spent (λ e. apart (sym e)) ∙ set_at views id v both here in record {
        until = λ j y e. at (λ y. (clock y).stamp ≤ steps_in parts clock all) j y e
            (let s = ap (λ c. c.stamp) new in omega (arith, s))
            (let o = joined_until (clock v) (clock u) (steps_in parts clock views) on_v on_u in
            omega (arith, o, stamp_is, total_is))
            (λ old. let o = h.until j y old in omega (arith, o, total_is));
        last = λ q. let l = h.last (omega (arith, q, total_is)) in
            let by_both : ((clock v).stamp ≡ steps_in parts clock views)
            ⊎ ((clock u).stamp ≡ steps_in parts clock views)
            → (i : ℕ) × (y : V) × (get_elem? all i ≡ some y) × ((clock y).stamp ≡ steps_in parts clock all) =
            λ is. (
              id,
              both,
              both_at,
              stamp_is ∙ (joined_stamp (clock v) (clock u) (steps_in parts clock views) on_v on_u is ∙ sym total_is),
            ) in
            let by_old : l.0 ≢ id → l.0 ≢ other
            → (i : ℕ) × (y : V) × (get_elem? all i ≡ some y) × ((clock y).stamp ≡ steps_in parts clock all) =
            λ no_id no_other. (
              l.0,
              l.1,
              set_else vs other l.0 spent no_other ∙ (set_else views id l.0 both no_id ∙ l.2),
              l.3 ∙ sym total_is,
            ) in
            same_or l.0 id
            (λ e. by_both (inl (ap (λ y. (clock y).stamp) (some-injective v l.1
            (sym here ∙ subst (λ (k : ℕ). get_elem? views k ≡ some l.1) e l.2)) ∙ l.3)))
            (λ no_id. same_or l.0 other
            (λ e. by_both (inr (ap (λ y. (clock y).stamp) (some-injective u l.1
            (sym there ∙ subst (λ (k : ℕ). get_elem? views k ≡ some l.1) e l.2)) ∙ l.3)))
            (λ no_other. by_old no_id no_other));
        left = λ j y e q. at (λ y. (clock y).stamp ≡ steps_in parts clock all
            → slice_index words (clock y).word ≡ (clock y).left) j y e
            (λ is. let s = ap (λ c. c.stamp) new in absurd (omega (arith, s, is, q)))
            (λ is. ap (λ (k : ℕ). slice_index words k) (ap (λ c. c.word) joined)
            ∙ (joined_left words (clock v) (clock u) (steps_in parts clock views) (sym stamp_is ∙ (is ∙ total_is))
            (h.left id v here (omega (arith, q, total_is))) (h.left other u there (omega (arith, q, total_is)))
            ∙ sym (ap (λ c. c.left) joined)))
            (λ old is. h.left j y old (omega (arith, q, total_is)) (is ∙ total_is));
        nobody = λ j y e. at (λ y. parts y ≡ 0 → (clock y).steps ≡ 0) j y e
            (λ none. b)
            (λ none. let x = h.nobody id v here (omega (arith, none, sum)) in
            let z = h.nobody other u there (omega (arith, none, sum)) in omega (arith, a, x, z))
            (λ old none. h.nobody j y old none);
        first = λ q. h.first (sym total_is ∙ q);
      }

  -- the last step that was made is known
  pub step_seen : (was words : List ℕ) (views after : List V) (id : ℕ) (v w : V) → AreTimed parts clock p was views
      → AreTimed parts clock p words after → get_elem? views id ≡ some v → after ≡ set views id w
      → (clock w).steps ≡ suc (clock v).steps → slice_index words (clock w).word ≡ (clock w).left
  step_seen was words views after id v w h g here is steps =
      let t = total_set steps_of views id v w here in
      let total_is : steps_in parts clock after ≡ suc (steps_in parts clock views) =
      ap (steps_in parts clock) is ∙ omega (arith, t, steps) in
      let l = g.last (omega (arith, total_is)) in
      let stamp : (clock w).stamp ≡ steps_in parts clock after = ⊎_elim
      (λ (a : (l.0 ≡ id) × (w ≡ l.1)). ap (λ y. (clock y).stamp) a.1 ∙ l.3)
      (λ (a : (l.0 ≢ id) × (get_elem? views l.0 ≡ some l.1)). let o = h.until l.0 l.1 a.1 in
      let e = l.3 in
      absurd (omega (arith, o, e, total_is)))
      (at_set views id l.0 w l.1 (subst (λ vs. get_elem? vs l.0 ≡ some l.1) is l.2)) in
      g.left id w (subst (λ vs. get_elem? vs id ≡ some w) (sym is) (set_at views id v w here))
      (omega (arith, total_is)) stamp

  -- where nobody who stands for somebody has made a step, nobody has
  pub none_made : (words : List ℕ) (views : List V) → AreTimed parts clock p words views
      → ((i : ℕ) (v : V) → get_elem? views i ≡ some v → 0 < parts v → (clock v).steps ≡ 0)
      → AreOpeningWords p words
  none_made words views h still = h.first (total_none steps_of views (λ i v e. some_or_none (parts v)
      (λ none. h.nobody i v e none) (λ some. still i v e some)))
    where
      some_or_none : {P : Type 0} (n : ℕ) → (n ≡ 0 → P) → (0 < n → P) → P
      some_or_none zero f g = f refl
      some_or_none (suc n) f g = g (omega arith)
