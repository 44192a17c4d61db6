-- Orders that keep conflicts end with the same contents.
use Rattle.whole_numbers.proofs.Common.{◌≡◌, ℕ, List, [], ◌∷◌, ◌++◌, Some, inl, inr, ap, subst, sym, ◌∙◌, refl, arith}
use Rattle.whole_numbers.proofs.Common.{◌≢◌, ◌↔◌, slice_get}
use Rattle.scop_syntax.specs.Cells.{written}
use Rattle.scop_syntax.specs.Execution.{AreInside, IsShaped, performed, performed_all}
use Rattle.scop_syntax.specs.Execution.{value_stored_by}
use Rattle.scop_syntax.specs.Members.{In}
use Rattle.scop_syntax.specs.Walk.{Visit}
use Rattle.scop_syntax.proofs.Members.{in_back}
use Rattle.scop_syntax.proofs.Memory.{shape_stored}
use Rattle.scop_syntax.specs.ConflictOrders.{AreDistinct, IsOrderOf, KeepsConflicts, StandsBefore}
use Rattle.scop_syntax.proofs.Commutation.{Meet, visits_commute}
use Rattle.scop_syntax.proofs.Precedence.{distinct_less, front_stands, in_less, in_more, later_in, parted}
use Rattle.scop_syntax.proofs.Precedence.{places_of, stands_more, stands_once, earlier_in}
use Rattle.scop_syntax.proofs.SortedLists.{sorted_by_places}

-- an order of visits that keeps their conflicts
record IsKept (es : List (List ℕ)) (vs order : List Visit) : Type 0 where
  pub inside : AreInside es vs
  pub distinct : AreDistinct vs
  pub once : AreDistinct order
  pub same : (v : Visit) → In v order ↔ In v vs
  pub keeps : (v w : Visit) → Meet v w → StandsBefore vs v w → StandsBefore order v w

-- a visit moved to the front of others that do not conflict with it
moved : (es rows : List (List ℕ)) (front : List Visit) (y : Visit) (back : List Visit) → IsShaped es rows
    → AreInside es (front ++ y ∷ back) → ((v : Visit) → In v front → Meet v y → ⊥)
    → performed_all es rows (front ++ y ∷ back) ≡ performed_all es (performed es rows y) (front ++ back)
moved es rows [] y back shape inside apart = refl
moved es rows (v ∷ front) y back shape inside apart =
    moved es (performed es rows v) front y back
    (shape_stored es rows (written v) (value_stored_by es rows v.body v.point) shape) (λ w h. inside w (inr h))
    (λ w h. apart w (inr h))
    ∙ ap (λ r. performed_all es r (front ++ back))
    (visits_commute es rows v y shape (inside v (inl refl)) (inside y (inr (in_back y front (y ∷ back) (inl refl))))
    (apart v (inl refl)))

-- the first of an order conflicts with no visit before it
first_is_free : (es : List (List ℕ)) (front : List Visit) (y : Visit) (back order : List Visit)
    → IsKept es (front ++ y ∷ back) (y ∷ order) → (v : Visit) → In v front → Meet v y → ⊥
first_is_free es front y back order k v h meet =
    elim (k.keeps v y meet (front_stands front y back v h)) [
      | inl s ↦ k.once.0 y s.1 refl
      | inr s ↦ k.once.0 y (later_in order v y s) refl
    ]

-- the rest of the order keeps the conflicts of the others
rest_is_kept : (es : List (List ℕ)) (front : List Visit) (y : Visit) (back order : List Visit)
    → IsKept es (front ++ y ∷ back) (y ∷ order) → IsKept es (front ++ back) order
rest_is_kept es front y back order k =
    record {
      inside = λ v h. k.inside v (in_more front y back v h);
      distinct = distinct_less front y back k.distinct;
      once = k.once.1;
      same = λ v. (
        λ h. elim (in_less front y back v ((k.same v).0 (inr h))) [
          | inl e ↦ absurd (k.once.0 v h (sym e))
          | inr g ↦ g
        ],
        λ h. elim ((k.same v).1 (in_more front y back v h)) [
          | inl e ↦ absurd (stands_once front y back k.distinct (subst (λ u. In u (front ++ back)) e h))
          | inr g ↦ g
        ],
      );
      keeps = λ v w meet s. elim (k.keeps v w meet (stands_more front y back v w s)) [
        | inl t ↦ absurd (stands_once front y back k.distinct
            (subst (λ u. In u (front ++ back)) t.0 (earlier_in (front ++ back) v w s)))
        | inr t ↦ t
      ];
    }

none_left : (vs : List Visit) → ((v : Visit) → In v [] ↔ In v vs) → vs ≡ []
none_left [] same = refl
none_left (v ∷ vs) same = absurd ((same v).1 (inl refl))

ends_alike : (es rows : List (List ℕ)) (vs order : List Visit) → IsShaped es rows → IsKept es vs order
    → performed_all es rows order ≡ performed_all es rows vs
ends_alike es rows vs [] shape k = ap (performed_all es rows) (sym (none_left vs k.same))
ends_alike es rows vs (y ∷ order) shape k =
    let p = parted vs y ((k.same y).0 (inl refl)) in
    let q = subst (λ us. IsKept es us (y ∷ order)) p.2 k in
    ends_alike es (performed es rows y) (p.0 ++ p.1) order
    (shape_stored es rows (written y) (value_stored_by es rows y.body y.point) shape)
    (rest_is_kept es p.0 y p.1 order q)
    ∙ (sym (moved es rows p.0 y p.1 shape q.inside (first_is_free es p.0 y p.1 order q))
    ∙ ap (performed_all es rows) (sym p.2))

pub orders_end_alike : (es rows : List (List ℕ)) (vs order : List Visit) → IsShaped es rows → AreInside es vs
    → AreDistinct vs → IsOrderOf order vs → KeepsConflicts vs order
    → performed_all es rows order ≡ performed_all es rows vs
orders_end_alike es rows vs order shape inside distinct is keeps =
    ends_alike es rows vs order shape (record {
      inside = inside;
      distinct = distinct;
      once = is.once;
      same = is.same;
      keeps = λ v w meet s.
          let p = places_of vs v w s in
          keeps p.0 p.1 (record {
            earlier = v;
            later = w;
            first = meet.0;
            second = meet.1;
            order = p.2;
            is_earlier = p.3;
            is_later = p.4;
            conflict = meet.2;
          });
    })

-- the visits of a walk in which each instance stands at one place are distinct
pub distinct_by_places : (vs : List Visit) → ((i j : ℕ) (v w : Visit) → slice_get vs i ≡ Some v
    → slice_get vs j ≡ Some w → v.number ≡ w.number → v.turns ≡ w.turns → i ≡ j) → AreDistinct vs
distinct_by_places vs one =
    sorted_by_places (λ (v w : Visit). v ≢ w) vs (λ i j v w less a b e.
    let same = one i j v w a b (ap (λ (u : Visit). u.number) e) (ap (λ (u : Visit). u.turns) e) in
    absurd (omega arith))
