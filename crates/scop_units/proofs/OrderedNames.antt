-- Names that are kept in order: one stands among them where it is the name put in last, or stood there before.
use Rattle.scop_syntax.proofs.Common.{◌≡◌, Bool, true, false, ◌||◌, List, [], ◌∷◌, refl, sym, ap, ◌∙◌, list_any}
use Rattle.scop_syntax.proofs.Common.{Ordering, Less, Greater}
use Rattle.std.proofs.Common.{bytes_eq}
use Rattle.std.proofs.Common.{Equal}
use Rattle.std.specs.Ordering.{is_eq, match_ordering, nat_cmp}
use Rattle.std.specs.Cmp.Lexicographic.{slice_cmp}
use Rattle.std.proofs.lemmas.Cmp.{nat_list_eq_equiv}
use Rattle.std.proofs.lemmas.Map.Text.{is_eq-slice_cmp}
use Rattle.std.specs.BTreeSet.{insert_key}
use Rattle.std.proofs.lemmas.Map.Lookups.{exact_bytes}
use Rattle.scop_lexer.specs.Bytes.{Text}

twice : (a b : Bool) → (a || b) ≡ (a || (a || b))
twice true b = refl
twice false b = refl

turned : (a b c : Bool) → (a || (b || c)) ≡ (b || (a || c))
turned true true c = refl
turned true false c = refl
turned false b c = refl

module _ {A : Type 0} (name : A → Text) where
  abbrev among : List A → Text → Bool
  among ks = λ w. list_any (λ k. bytes_eq (name k) w) ks

  -- the order finds it
  pub among_found : (w : Text) (ks : List A)
      → list_any (λ k. is_eq (slice_cmp nat_cmp w (name k))) ks ≡ among ks w
  among_found w ks =
      λ i. list_any (λ k. (is_eq-slice_cmp w (name k) ∙ nat_list_eq_equiv.symm w (name k)) i) ks

  abbrev in_order : A → A → Ordering
  in_order x y = slice_cmp nat_cmp (name x) (name y)

  more_by : (k x : A) (xs : List A) (w : Text) (o : Ordering) → in_order k x ≡ o
      → among (insert_key in_order xs k) w ≡ (bytes_eq (name k) w || among xs w)
      → among (match_ordering o (k ∷ x ∷ xs) (x ∷ xs) (x ∷ insert_key in_order xs k)) w
      ≡ (bytes_eq (name k) w || among (x ∷ xs) w)
  more_by k x xs w Less e more = refl
  more_by k x xs w Equal e more =
      twice (bytes_eq (name x) w) (among xs w)
      ∙ ap (λ (v : Text). bytes_eq v w || among (x ∷ xs) w) (sym (exact_bytes (name k) (name x) e))
  more_by k x xs w Greater e more =
      ap (λ (b : Bool). bytes_eq (name x) w || b) more ∙ turned (bytes_eq (name x) w) (bytes_eq (name k) w) (among xs w)

  among_more : (k : A) (ks : List A) (w : Text)
      → among (insert_key in_order ks k) w ≡ (bytes_eq (name k) w || among ks w)
  among_more k [] w = refl
  among_more k (x ∷ xs) w = more_by k x xs w (in_order k x) refl (among_more k xs w)

  -- one name more
  pub among_inserted : (k : A) (old new : List A) → new ≡ insert_key in_order old k
      → among new ≡ (λ w. bytes_eq (name k) w || among old w)
  among_inserted k old new e = λ i w. (ap (λ (ks : List A). among ks w) e ∙ among_more k old w) i
