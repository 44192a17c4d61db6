-- Rows put one behind another, with where each begins, and how often a number is among them.
use Rattle.scop_syntax.proofs.Common.{◌≡◌, ◌<◌, ◌≤◌, ◌+◌, ℕ, zero, suc, Bool, true, false, List, [], ◌∷◌, ◌++◌, ap, sym}
use Rattle.scop_syntax.proofs.Common.{refl, ◌∙◌, arith, length, map, get_or, drop, slice_set, nat_eq, if◌then◌else◌}
use Rattle.scop_syntax.proofs.Common.{eqb-true, eqb-false, get_or-set_same, get_or-set_other}
use Rattle.std.proofs.lemmas.List.{length-append, append_assoc, append-nil}
use Rattle.tile_events.specs.Plan.{count_of}
use Rattle.tile_edges.specs.steps.Rows.{joined, starts_from}

-- the row that comes next
drop_next : {A : Type 0} (f : A → List ℕ) (rows : List A) (k : ℕ) (row : A) → k < length rows
    → row ≡ get_or rows k row → drop k (map f rows) ≡ f row ∷ drop (suc k) (map f rows)
drop_next f [] k row inside is = absurd (omega (arith, inside))
drop_next f (x ∷ rows) zero row inside is = ap (λ y. f y ∷ map f rows) (sym is)
drop_next f (x ∷ rows) (suc k) row inside is = drop_next f rows k row (omega (arith, inside)) is

pub drop_seen : {A : Type 0} (f : A → List ℕ) (rows : List A) (k : ℕ) (row : A) → k < length rows
    → row ≡ get_or rows k row → drop k (map f rows) ≡ f row ∷ drop (k + 1) (map f rows)
drop_seen f rows k row inside is =
    let next : suc k ≡ k + 1 = omega arith in
    drop_next f rows k row inside is ∙ ap (λ (n : ℕ). f row ∷ drop n (map f rows)) next

pub starts_more : (starts targets starts_then targets_then row : List ℕ) (rest rows : List (List ℕ)) (n : ℕ)
    (whole : List ℕ) → rest ≡ row ∷ rows → n ≡ length targets → starts_then ≡ starts ++ n ∷ []
    → targets_then ≡ targets ++ row → starts ++ starts_from (length targets) rest ≡ whole
    → starts_then ++ starts_from (length targets_then) rows ≡ whole
starts_more starts targets starts_then targets_then row rest rows n whole cut many e f is =
    let long : length targets_then ≡ length targets + length row = ap length f ∙ length-append targets row in
    ap (λ (xs : List ℕ). xs ++ starts_from (length targets_then) rows) e
    ∙ (append_assoc starts (n ∷ []) (starts_from (length targets_then) rows)
    ∙ (ap (λ (m : ℕ). starts ++ m ∷ starts_from (length targets_then) rows) many
    ∙ (ap (λ (m : ℕ). starts ++ length targets ∷ starts_from m rows) long
    ∙ (ap (λ (rs : List (List ℕ)). starts ++ starts_from (length targets) rs) (sym cut) ∙ is))))

pub targets_more : (targets targets_then row : List ℕ) (rest rows : List (List ℕ)) (whole : List ℕ)
    → rest ≡ row ∷ rows → targets_then ≡ targets ++ row → targets ++ joined rest ≡ whole
    → targets_then ++ joined rows ≡ whole
targets_more targets targets_then row rest rows whole cut f is =
    ap (λ (xs : List ℕ). xs ++ joined rows) f
    ∙ (append_assoc targets row (joined rows)
    ∙ (ap (λ (rs : List (List ℕ)). targets ++ joined rs) (sym cut) ∙ is))

pub starts_end : (starts targets starts_then : List ℕ) (rest : List (List ℕ)) (n : ℕ) (whole : List ℕ) → rest ≡ []
    → n ≡ length targets → starts_then ≡ starts ++ n ∷ [] → starts ++ starts_from (length targets) rest ≡ whole
    → starts_then ≡ whole
starts_end starts targets starts_then rest n whole none many e is =
    e ∙ (ap (λ (m : ℕ). starts ++ m ∷ []) many
    ∙ (ap (λ (rs : List (List ℕ)). starts ++ starts_from (length targets) rs) (sym none) ∙ is))

pub targets_end : (targets : List ℕ) (rest : List (List ℕ)) (whole : List ℕ) → rest ≡ []
    → targets ++ joined rest ≡ whole → targets ≡ whole
targets_end targets rest whole none is =
    sym (append-nil targets) ∙ (ap (λ (rs : List (List ℕ)). targets ++ joined rs) (sym none) ∙ is)

pub nothing_left : {A : Type 0} (xs : List A) (k : ℕ) → length xs ≤ k → drop k xs ≡ []
nothing_left [] zero past = refl
nothing_left [] (suc k) past = refl
nothing_left (x ∷ xs) zero past = absurd (omega (arith, past))
nothing_left (x ∷ xs) (suc k) past = nothing_left xs k (omega (arith, past))

-- one target more is counted
pub counted_more : (targets counts counts_then : List ℕ) (at tiles : ℕ) → get_or targets at 0 < length counts
    → counts_then ≡ slice_set counts (get_or targets at 0) (get_or counts (get_or targets at 0) 0 + 1)
    → ((u : ℕ) → u < tiles → get_or counts u 0 ≡ count_of (λ i. nat_eq (get_or targets i 0) u) at)
    → (u : ℕ) → u < tiles → get_or counts_then u 0 ≡ count_of (λ i. nat_eq (get_or targets i 0) u) (at + 1)
counted_more targets counts counts_then at tiles inside e are u less =
    let next : at + 1 ≡ suc at = omega arith in
    ap (λ (xs : List ℕ). get_or xs u 0) e
    ∙ (by_test (nat_eq (get_or targets at 0) u) refl
    ∙ ap (count_of (λ i. nat_eq (get_or targets i 0) u)) (sym next))
  where
    t : ℕ
    t = get_or targets at 0

    by_test : (b : Bool) → nat_eq t u ≡ b
        → get_or (slice_set counts t (get_or counts t 0 + 1)) u 0
        ≡ (if nat_eq t u
        then suc (count_of (λ i. nat_eq (get_or targets i 0) u) at)
        else count_of (λ i. nat_eq (get_or targets i 0) u) at)
    by_test true same =
        let old = are u less in
        let one = eqb-true t u same in
        let here = ap (λ (k : ℕ). get_or (slice_set counts t (get_or counts t 0 + 1)) k 0) (sym one)
        ∙ get_or-set_same counts t (get_or counts t 0 + 1) 0 inside in
        let this = ap (λ (k : ℕ). get_or counts k 0) one in
        rw same (omega (arith, here, old, this))
    by_test false other =
        rw other (get_or-set_other counts t u (get_or counts t 0 + 1) 0 (λ k. eqb-false t u other (sym k)) ∙ are u less)
