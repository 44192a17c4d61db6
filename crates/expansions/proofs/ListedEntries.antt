-- Entries of statements: one more is listed, and what is found by its turns.
use Rattle.scop_syntax.proofs.Common.{◌≡◌, ◌≢◌, ◌⊎◌, ◌<◌, ◌+◌, ℕ, zero, suc, inl, inr, ⊎_elim, ℤ, pos, List, [], ◌∷◌}
use Rattle.scop_syntax.proofs.Common.{◌++◌, Some, ap, ap₂, sym, refl, ◌∙◌, subst, arith, length, map, get_or, slice_get}
use Rattle.scop_syntax.proofs.Common.{slice_set, get_or-set_same, get_or-map, get_or-set_other, length-map, map-set}
use Rattle.scop_syntax.proofs.Common.{get_or_from_slice_get, slice_get_within, In, Placed, Runs, Scope, loops_in}
use Rattle.scop_syntax.proofs.Common.{statements_of, visit_of, Program, Instance, Visit, instance, walk_of, in_append}
use Rattle.scop_syntax.proofs.Common.{in_from_place, in_map_from, nat_cases, one_instance}
use Rattle.std.proofs.lemmas.List.{length-append}
use Rattle.loop_tree.specs.Plans.{walked}
use Rattle.expansions.specs.Expansions.{ArePlacesIn}
use Rattle.expansions.specs.steps.Listing.{AreListed, AreTurns, HasEntry, IsIndexOf, IsPlaceIn, entries_in}
use Rattle.expansions.specs.declared.listing.Entry.{Entry}
use Rattle.expansions.specs.declared.listing.Listed.{Listed}
use Rattle.expansions.proofs.Firsts.{at_back, at_front}

-- a turn more is kept
pub turns_more : (turns : List ℤ) (kept : List ℕ) (k turn : ℕ) → k < length kept
    → pos turn ≡ get_or turns k (pos 0) → AreTurns k turns kept → AreTurns (k + 1) turns (slice_set kept k turn)
turns_more turns kept k turn inside is are a less = nat_cases a k
    (λ l. are a l ∙ ap pos (sym (get_or-set_other kept k a turn 0 (λ e. absurd (omega (arith, e, l))))))
    (λ e. ap (λ (b : ℕ). get_or turns b (pos 0)) e
    ∙ (sym is
    ∙ (ap pos (sym (get_or-set_same kept k turn 0 inside))
    ∙ ap (λ (b : ℕ). pos (get_or (slice_set kept k turn) b 0)) (sym e))))
    (λ l. absurd (omega (arith, l, less)))

-- one more is the same
pub turns_on : (turns : List ℤ) (kept : List ℕ) (k : ℕ) → get_or turns k (pos 0) ≡ pos (get_or kept k 0)
    → AreTurns k turns kept → AreTurns (k + 1) turns kept
turns_on turns kept k is are a less = nat_cases a k (are a)
    (λ e. ap (λ (b : ℕ). get_or turns b (pos 0)) e ∙ (is ∙ ap (λ (b : ℕ). pos (get_or kept b 0)) (sym e)))
    (λ l. absurd (omega (arith, l, less)))

-- lists with the same kept turns are one
same_turns : (xs ys : List ℤ) → length xs ≡ length ys
    → ((a : ℕ) → a < length xs → get_or xs a (pos 0) ≡ get_or ys a (pos 0)) → xs ≡ ys
same_turns [] [] e h = refl
same_turns [] (y ∷ ys) e h = absurd (omega (arith, e))
same_turns (x ∷ xs) [] e h = absurd (omega (arith, e))
same_turns (x ∷ xs) (y ∷ ys) e h =
    ap₂ (λ (z : ℤ) (zs : List ℤ). z ∷ zs) (h 0 (omega arith))
    (same_turns xs ys (omega (arith, e)) (λ a less. h (suc a) (omega (arith, less))))

-- the laws of walks and statements
pub record PlaceLaws : Type 0 where
  pub found : (program : Program) (params : List ℤ) (v : Visit) → In v (walk_of program params)
      → (p : Placed) × (xs : List ℤ) × In p (statements_of program) × Runs p.scopes params xs
      × (v ≡ visit_of p params xs)
  pub turns : (scopes : List Scope) (params xs : List ℤ) → Runs scopes params xs → length xs ≡ loops_in scopes
  pub same : (program : Program) (p q : Placed) → In p (statements_of program) → In q (statements_of program)
      → p.number ≡ q.number → p ≡ q

module _ (laws : PlaceLaws) (program : Program) (params : List ℤ) where
  -- instances of one statement have as many turns
  as_long : (x y : Instance) → In x (walked program params) → In y (walked program params) → x.number ≡ y.number
      → length x.turns ≡ length y.turns
  as_long x y ix iy e =
      let v = in_map_from instance x (walk_of program params) ix in
      let w = in_map_from instance y (walk_of program params) iy in
      let a = laws.found program params v.0 v.1 in
      let b = laws.found program params w.0 w.1 in
      let p = a.0 in
      let q = b.0 in
      let first : x ≡ instance (visit_of p params a.1) = v.2 ∙ ap instance a.4 in
      let second : y ≡ instance (visit_of q params b.1) = w.2 ∙ ap instance b.4 in
      let number : p.number ≡ q.number =
      sym (ap (λ (i : Instance). i.number) first) ∙ (e ∙ ap (λ (i : Instance). i.number) second) in
      let one = laws.same program p q a.2 b.2 number in
      ap (λ (i : Instance). length i.turns) first
      ∙ (laws.turns p.scopes params a.1 a.3
      ∙ (ap (λ (r : Placed). loops_in r.scopes) one
      ∙ (sym (laws.turns q.scopes params b.1 b.3) ∙ sym (ap (λ (i : Instance). length i.turns) second))))

  -- the place that was found is the instance's own
  pub found_place : (x : Instance) (lists : List Listed) (place : ℕ) → AreListed (walked program params) lists
      → In x (walked program params) → IsPlaceIn (entries_in lists x.number) x.turns place
      → slice_get (walked program params) place ≡ Some x
  found_place x lists place are ix is =
      let has = are x.number is.entry is.there in
      let y = has.held in
      let long = as_long x y ix (in_from_place (walked program params) is.entry.place y has.at) (sym has.number) in
      let turns : x.turns ≡ y.turns = same_turns x.turns y.turns long
      (λ a less. is.are a less ∙ sym (has.turns a (omega (arith, less, long)))) in
      let same : y ≡ x = one_instance y x has.number (sym turns) in
      ap (slice_get (walked program params)) (sym is.place_is) ∙ (has.at ∙ ap Some same)

abbrev seen : Listed → List Entry
seen l = l.entries.items

-- the entries of statements where one list was replaced
entries_there : (lists : List Listed) (n : ℕ) (new : Listed) → n < length lists
    → entries_in (slice_set lists n new) n ≡ new.entries.items
entries_there lists n new inside =
    let long = length-map lists seen in
    ap (λ (rows : List (List Entry)). get_or rows n []) (map-set seen lists n new)
    ∙ get_or-set_same (map seen lists) n (seen new) [] (omega (arith, inside, long))

entries_other : (lists : List Listed) (n s : ℕ) (new : Listed) → s ≢ n
    → entries_in (slice_set lists n new) s ≡ entries_in lists s
entries_other lists n s new ne =
    ap (λ (rows : List (List Entry)). get_or rows s []) (map-set seen lists n new)
    ∙ get_or-set_other (map seen lists) n s (seen new) [] ne

pub entries_own : (lists : List Listed) (n : ℕ) (old : Listed) → n < length lists → old ≡ get_or lists n old
    → entries_in lists n ≡ old.entries.items
entries_own lists n old inside is = get_or-map seen lists n old [] inside ∙ ap seen (sym is)

-- a list that stays the same
pub entries_same : (lists : List Listed) (n : ℕ) (old new : Listed) → n < length lists → old ≡ get_or lists n old
    → new.entries.items ≡ old.entries.items → (s : ℕ) → entries_in (slice_set lists n new) s ≡ entries_in lists s
entries_same lists n old new inside is same s = nat_cases s n
    (λ l. entries_other lists n s new (λ e. absurd (omega (arith, e, l))))
    (λ e. ap (entries_in (slice_set lists n new)) e
    ∙ (entries_there lists n new inside
    ∙ (same
    ∙ (sym (entries_own lists n old inside is) ∙ ap (entries_in lists) (sym e)))))
    (λ l. entries_other lists n s new (λ e. absurd (omega (arith, e, l))))

-- an empty list more
pub entries_more : (lists : List Listed) (empty : Listed) (s : ℕ) → empty.entries.items ≡ []
    → entries_in (lists ++ empty ∷ []) s ≡ entries_in lists s
entries_more [] empty zero none = none
entries_more [] empty (suc s) none = refl
entries_more (l ∷ lists) empty zero none = refl
entries_more (l ∷ lists) empty (suc s) none = entries_more lists empty s none

-- lists with the same entries
pub listed_same : (walk : List Instance) (a b : List Listed) → ((s : ℕ) → entries_in b s ≡ entries_in a s)
    → AreListed walk a → AreListed walk b
listed_same walk a b same are s e i = are s e (subst (λ es. In e es) (same s) i)

-- the place of an entry that was found
pub place_in : (entries : List Entry) (turns : List ℤ) (index : ℕ) (e : Entry) → IsIndexOf entries turns index
    → e ≡ get_or entries index e → IsPlaceIn entries turns e.place
place_in entries turns index e is told =
    let same : e ≡ is.entry = told ∙ get_or_from_slice_get entries index is.entry e is.at in record {
      entry = is.entry;
      there = in_from_place entries index is.entry is.at;
      are = is.are;
      place_is = ap (λ (f : Entry). f.place) (sym same);
    }

pub index_within : (entries : List Entry) (turns : List ℤ) (index : ℕ) → IsIndexOf entries turns index
    → index < length entries
index_within entries turns index is = slice_get_within entries index is.entry is.at

-- an instance more is listed
pub listed_more : (walk : List Instance) (x : Instance) (lists : List Listed) (old new : Listed) (e : Entry) (n : ℕ)
    → n ≡ x.number → n < length lists → old ≡ get_or lists n old
    → new.entries.items ≡ old.entries.items ++ e ∷ [] → slice_get walk e.place ≡ Some x
    → AreTurns (length x.turns) x.turns e.turns → AreListed walk lists → AreListed walk (slice_set lists n new)
listed_more walk x lists old new e n number inside is more at turns are s f i = nat_cases s n
    (λ l. are s f (subst (λ es. In f es) (entries_other lists n s new (λ k. absurd (omega (arith, k, l)))) i))
    (λ same. subst (λ k. HasEntry walk k f) (sym same)
    (here (in_append f (entries_in lists n) (e ∷ []) (subst (λ es. In f es) whole
    (subst (λ k. In f (entries_in (slice_set lists n new) k)) same i)))))
    (λ l. are s f (subst (λ es. In f es) (entries_other lists n s new (λ k. absurd (omega (arith, k, l)))) i))
  where
    whole : entries_in (slice_set lists n new) n ≡ entries_in lists n ++ e ∷ []
    whole =
        entries_there lists n new inside
        ∙ (more ∙ ap (λ (es : List Entry). es ++ e ∷ []) (sym (entries_own lists n old inside is)))

    here : In f (entries_in lists n) ⊎ In f (e ∷ []) → HasEntry walk n f
    here (inl j) = are n f j
    here (inr (inl same)) = subst (HasEntry walk n) (sym same) (record {
      held = x;
      at = at;
      number = sym number;
      turns = turns;
    })
    here (inr (inr none)) = absurd none

-- no list has an entry
pub none_listed : (walk : List Instance) (lists : List Listed) → lists ≡ [] → AreListed walk lists
none_listed walk lists none s e i = absurd (subst (λ (ls : List Listed). In e (entries_in ls s)) none i)

-- a visit more has its place
pub placed_more : (walk done : List Instance) (places : List ℕ) (x : Instance) (j : ℕ) → slice_get walk j ≡ Some x
    → ArePlacesIn walk done places → ArePlacesIn walk (done ++ x ∷ []) (places ++ j ∷ [])
placed_more walk done places x j at are =
    let count = are.count in
    let long = length-append done (x ∷ []) in
    let more = length-append places (j ∷ []) in
    record {
      count = omega (arith, count, long, more);
      each = λ r y told. by_end r y (split_last done x r y told);
    }
  where
    by_end : (r : ℕ) (y : Instance) → (slice_get done r ≡ Some y) ⊎ ((r ≡ length done) × (y ≡ x))
        → (k : ℕ) × (slice_get (places ++ j ∷ []) r ≡ Some k) × (slice_get walk k ≡ Some y)
    by_end r y (inl old) =
        let p = are.each r y old in (p.0, at_front places (j ∷ []) r p.0 p.1, p.2)
    by_end r y (inr (last, same)) =
        let count = are.count in
        let here : r ≡ length places + 0 = omega (arith, last, count) in (
          j,
          ap (λ (k : ℕ). slice_get (places ++ j ∷ []) k) here ∙ at_back places (j ∷ []) 0,
          at ∙ ap Some (sym same),
        )

    split_last : (xs : List Instance) (q : Instance) (i : ℕ) (r : Instance) → slice_get (xs ++ q ∷ []) i ≡ Some r
        → (slice_get xs i ≡ Some r) ⊎ ((i ≡ length xs) × (r ≡ q))
    split_last [] q zero r h = inr (refl, cc)
    split_last [] q (suc i) r h = absurd cc
    split_last (b ∷ xs) q zero r h = inl h
    split_last (b ∷ xs) q (suc i) r h =
        ⊎_elim (λ k. inl k) (λ k. let same = k.0 in inr (omega (arith, same), k.1)) (split_last xs q i r h)

-- before all visits
pub none_placed : (walk : List Instance) (places : List ℕ) → places ≡ [] → ArePlacesIn walk [] places
none_placed walk places none = record {
  count = ap (λ (xs : List ℕ). length xs) none;
  each = λ r x told. let within = slice_get_within [] r x told in absurd (omega (arith, within));
}
