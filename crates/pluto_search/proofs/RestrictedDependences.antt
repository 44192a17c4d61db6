-- Dependence by dependence: restricted, asked, dropped.
use Rattle.scop_syntax.proofs.Common.{◌≡◌, ℕ, suc, ◌+◌, ◌<◌, List, [], ◌∷◌, ◌++◌, refl, sym, ◌∙◌, ap, subst, inl}
use Rattle.scop_syntax.proofs.Common.{inr, arith, length, map, All, drop, append_assoc, add-one, drop-cons}
use Rattle.scop_syntax.proofs.Common.{slice_index_or, length-map, get_or-map, All-cons, In}
use Rattle.std.proofs.lemmas.List.{append-nil}
use Rattle.iteration_domains.specs.Dependence.{Dependence, IsDependence}
use Rattle.schedule_rows.specs.Items.{Row, Marked}
use Rattle.schedule_rows.specs.Dependences.{IsEmptyDep, equal_at}
use Rattle.schedule_rows.specs.Next.{restricted, Restricts}
use Rattle.pluto_systems.specs.Posing.{IsBetween}
use Rattle.pluto_search.specs.steps.Sizes.{CanTell}
use Rattle.pluto_search.specs.Searching.{AreBetween}

-- what is asked of the rest goes behind what is kept
abbrev pub Leads : ℕ → List Marked → List Dependence → List Dependence → List Dependence → Type 0
Leads m rows rest kept deps = (more : List Dependence) → Restricts m rows rest more
    → Restricts m rows deps (kept ++ more)

pub dropped : (m : ℕ) (rows : List Marked) (d : Dependence) (rest kept deps : List Dependence)
    → IsEmptyDep m (restricted m rows d) → Leads m rows (d ∷ rest) kept deps → Leads m rows rest kept deps
dropped m rows d rest kept deps e h more r = h more (inl (e, r))

pub held_back : (m : ℕ) (rows : List Marked) (d e : Dependence) (rest kept deps : List Dependence)
    → e ≡ restricted m rows d → (IsEmptyDep m (restricted m rows d) → ⊥)
    → Leads m rows (d ∷ rest) kept deps → Leads m rows rest (kept ++ e ∷ []) deps
held_back m rows d e rest kept deps is some h more r =
    subst (λ (z : List Dependence). Restricts m rows deps z) (sym (append_assoc kept (e ∷ []) more))
    (h (e ∷ more) (inr (more, some, r, ap (λ (z : Dependence). z ∷ more) is)))

pub leads_last : (m : ℕ) (rows : List Marked) (kept deps : List Dependence) → Leads m rows [] kept deps
    → Restricts m rows deps kept
leads_last m rows kept deps h =
    subst (λ (l : List Dependence). Restricts m rows deps l) (append-nil kept) (h [] refl)

-- the next one
pub next_of : {X : Type 0} (xs : List X) (i : ℕ) (x : X) (d : X) → i < length xs → x ≡ slice_index_or xs i d
    → drop i xs ≡ x ∷ drop (i + 1) xs
next_of xs i x d h e =
    drop-cons xs i d h ∙ (ap (λ (z : _). z ∷ drop (suc i) xs) (sym e) ∙ ap (λ (n : ℕ). x ∷ drop n xs) (sym (add-one i)))

-- a restricted dependence is told by the same rows
tell_more : (m : ℕ) (r q : Row) (d : Dependence) → CanTell m r d → CanTell m r (equal_at m q d)
tell_more m r q d h =
    record {
      source = h.source;
      target = h.target;
      source_loops = h.source_loops;
      target_loops = h.target_loops;
      parameters = h.parameters;
      turns = h.turns;
      source_counts = h.source_counts;
      source_shift = h.source_shift;
      target_shift = h.target_shift;
    }

pub all_tell_more : (m : ℕ) (rows : List Marked) (q : Row) (d : Dependence) → All (λ r. CanTell m r.row d) rows
    → All (λ r. CanTell m r.row (equal_at m q d)) rows
all_tell_more m rows q d h k e l = tell_more m (slice_index_or rows k e).row q d (h k e l)

-- what is kept stands between the same statements
restricted_between : (m : ℕ) (loops : List ℕ) (rows : List Marked) (d : Dependence) → IsBetween m loops d
    × IsDependence d
    → IsBetween m loops (restricted m rows d) × IsDependence (restricted m rows d)
restricted_between m loops [] d h = h
restricted_between m loops (r ∷ rows) d h =
    restricted_between m loops rows (equal_at m r.row d) (
      record {
        source = h.0.source;
        target = h.0.target;
        source_loops = h.0.source_loops;
        target_loops = h.0.target_loops;
        parameters = h.0.parameters;
      },
      record { turns = h.1.turns; one = h.1.one },
    )

pub restricts_between : (m : ℕ) (loops : List ℕ) (rows : List Marked) (ds kept : List Dependence)
    → AreBetween m loops ds → Restricts m rows ds kept → AreBetween m loops kept
restricts_between m loops rows [] kept h r d i = absurd (subst (λ (l : List Dependence). In d l) r i)
restricts_between m loops rows (c ∷ ds) kept h (inl r) d i =
    restricts_between m loops rows ds kept (λ e j. h e (inr j)) r.1 d i
restricts_between m loops rows (c ∷ ds) kept h (inr r) d i =
    elim (subst (λ (l : List Dependence). In d l) r.3 i) [
      | inl e ↦ subst (λ (z : Dependence). IsBetween m loops z × IsDependence z) (sym e)
          (restricted_between m loops rows c (h c (inl refl)))
      | inr j ↦ restricts_between m loops rows ds r.0 (λ e k. h e (inr k)) r.2 d j
    ]

-- one more of which P holds, in front of the rest
pub all_next : {X : Type 0} (P : X → Type 0) (xs : List X) (i : ℕ) (d : X) → i < length xs → P (slice_index_or xs i d)
    → All P (drop (i + 1) xs) → All P (drop i xs)
all_next P xs i d l p h =
    subst (All P) (sym (next_of xs i (slice_index_or xs i d) d l refl))
    (All-cons P (slice_index_or xs i d) (drop (i + 1) xs) p h)

-- the next of a list that is made from another entry by entry
pub mapped_next : {X Y : Type 0} (f : X → Y) (xs : List X) (i : ℕ) (x : X) → i < length xs → x ≡ slice_index_or xs i x
    → drop i (map f xs) ≡ f x ∷ drop (i + 1) (map f xs)
mapped_next f xs i x l e =
    let n = length-map xs f in
    next_of (map f xs) i (f x) (f x) (omega arith) (ap f e ∙ sym (get_or-map f xs i x (f x) l))

pub restricted_parameters : (m : ℕ) (rows : List Marked) (d : Dependence)
    → (restricted m rows d).system.parameters ≡ d.system.parameters
restricted_parameters m [] d = refl
restricted_parameters m (r ∷ rows) d = restricted_parameters m rows (equal_at m r.row d)
