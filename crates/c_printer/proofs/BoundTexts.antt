-- Bounds put together, the places of statements.
use Rattle.scop_syntax.proofs.Common.{◌≡◌, ◌∙◌, ap, ap₂, sym, refl, ℕ, zero, suc, ◌^◌, ◌<◌, ◌≤◌, List, [], ◌∷◌, ◌++◌}
use Rattle.scop_syntax.proofs.Common.{length, append-nil, arith, Bool, true, false, nat_lt, if◌then◌else◌, Option, Some}
use Rattle.scop_syntax.proofs.Common.{None, codes, remove, slice_get, slice_index_or, ltb-true, Program, standings_of}
use Rattle.std.proofs.lemmas.List.{append_assoc}
use Rattle.scop_lexer.specs.Bytes.{Text}
use Rattle.loop_tree.specs.Tree.{Bound, Bounds, only, besides, bounds_of}
use Rattle.form_text.specs.Reading.{strip, when, number_in_front, behind_digits}
use Rattle.form_text.specs.View.{saturated}
use Rattle.c_printer.specs.Nodes.{repeated}
use Rattle.c_printer.specs.Reading.{body_at, instance_at, read_instance}
use Rattle.c_printer.specs.steps.Reading.{all_bounds, closed_bounds, place_of, with_bound}
use Rattle.c_printer.proofs.ReadSteps.{deeper, strip_both}

-- a text so many times and once more
repeated_last : (text : Text) (n : ℕ) → repeated text n ++ text ≡ text ++ repeated text n
repeated_last text zero = sym (append-nil text)
repeated_last text (suc n) =
    append_assoc text (repeated text n) text ∙ ap (λ (t : Text). text ++ t) (repeated_last text n)

strip_last : (piece text : Text) (n : ℕ)
    → strip (repeated piece (suc n)) text ≡ when (strip (repeated piece n) text) (strip piece)
strip_last piece text n =
    ap (λ (t : Text). strip t text) (sym (repeated_last piece n)) ∙ strip_both (repeated piece n) piece text

-- the parentheses behind a last bound close the choices
closed_told : (bs : List Bound) (xs : Bounds) (text : Text) → closed_bounds bs (Some (xs, text))
    ≡ when (strip (repeated (codes ")") (length bs)) text) (λ u. Some (all_bounds bs xs, u))
closed_told [] xs text = refl
closed_told (b ∷ bs) xs text =
    let inner = strip (repeated (codes ")") (length bs)) text in
    let ys = all_bounds bs xs in
    let said : Text → Option (Bounds × Text) = λ u. Some (besides b ys, u) in
    ap (with_bound b) (closed_told bs xs text)
    ∙ (sym (deeper inner (λ u. Some (ys, u))
    (λ (r : Bounds × Text). when (strip (codes ")") r.1) (λ u. Some (besides b r.0, u)))
    (λ u. when (strip (codes ")") u) said) (λ u. refl))
    ∙ (deeper inner (strip (codes ")")) said (λ u. when (strip (codes ")") u) said) (λ u. refl)
    ∙ ap (λ o. when o said) (sym (strip_last (codes ")") text (length bs)))))

pub closing_some : (bs : List Bound) (xs ys : Bounds) (text rest : Text) (n : ℕ) → n ≡ length bs
    → Some rest ≡ strip (repeated (codes ")") n) text → ys ≡ all_bounds bs xs
    → Some (ys, rest) ≡ closed_bounds bs (Some (xs, text))
closing_some bs xs ys text rest n count e told =
    let goes : Text → Option (Bounds × Text) = λ u. Some (all_bounds bs xs, u) in
    ap (λ (b : Bounds). Some (b, rest)) told
    ∙ (ap (λ (o : Option Text). when o goes) (e ∙ ap (λ k. strip (repeated (codes ")") k) text) count)
    ∙ sym (closed_told bs xs text))

pub closing_none : (bs : List Bound) (xs : Bounds) (text : Text) (n : ℕ) → n ≡ length bs
    → None ≡ strip (repeated (codes ")") n) text → None ≡ closed_bounds bs (Some (xs, text))
closing_none bs xs text n count e =
    let goes : Text → Option (Bounds × Text) = λ u. Some (all_bounds bs xs, u) in
    ap (λ (o : Option Text). when o goes) (e ∙ ap (λ k. strip (repeated (codes ")") k) text) count)
    ∙ sym (closed_told bs xs text)

-- the first bound, and those behind it with a last one
all_told : (b last : Bound) (bs : List Bound)
    → bounds_of b (bs ++ last ∷ []) ≡ besides b (all_bounds bs (only last))
all_told b last [] = refl
all_told b last (c ∷ bs) = ap (besides b) (all_told c last bs)

pub all_of_first : (bs rest next : List Bound) (b last : Bound) → 1 ≤ length bs → b ≡ slice_index_or bs 0 b
    → rest ≡ remove bs 0 → next ≡ rest ++ last ∷ [] → bounds_of b next ≡ all_bounds bs (only last)
all_of_first [] rest next b last some first others pushed = absurd (omega (arith, some))
all_of_first (c ∷ bs) rest next b last some first others pushed =
    ap₂ bounds_of first (pushed ∙ ap (λ (t : List Bound). t ++ last ∷ []) others) ∙ all_told c last bs

-- the place of a statement, if its number is one
place_told : (n k : ℕ) → Some k ≡ place_of n → n ≡ suc k
place_told zero k e = absurd (let p : ◌≡◌ {A = Option ℕ} (Some k) None = e in cc)
place_told (suc n) k e = ap suc (sym (either (nat_lt n (2 ^ 64)) e))
  where
    either : (t : Bool) → Some k ≡ (if t then Some n else None) → k ≡ n
    either true h = let p : ◌≡◌ {A = Option ℕ} (Some k) (Some n) = h in cc
    either false h = absurd (let p : ◌≡◌ {A = Option ℕ} (Some k) None = h in cc)

place_small : (n k : ℕ) → Some k ≡ place_of n → k < 2 ^ 64
place_small zero k e = absurd (let p : ◌≡◌ {A = Option ℕ} (Some k) None = e in cc)
place_small (suc n) k e =
    let same = place_told (suc n) k e in
    let low = either (nat_lt n (2 ^ 64)) refl e in
    omega (arith, same, low)
  where
    either : (t : Bool) → nat_lt n (2 ^ 64) ≡ t → Some k ≡ (if t then Some n else None) → n < 2 ^ 64
    either true l h = ltb-true n (2 ^ 64) l
    either false l h = absurd (let p : ◌≡◌ {A = Option ℕ} (Some k) None = h in cc)

pub place_is : (text : Text) (m k : ℕ) → m ≡ saturated (number_in_front 0 text) → Some k ≡ place_of m
    → number_in_front 0 text ≡ suc k
place_is text m k e place =
    let same = place_told m k place in
    let low = place_small m k place in
    omega (arith, e, same, low)

-- the instance of a number in front of a text
pub placed : (program : Program) (names : List Text) (loops : ℕ) (text counted : Text) (m k : ℕ)
    → m ≡ saturated (number_in_front 0 text) → counted ≡ behind_digits text → Some k ≡ place_of m
    → when (strip (codes " */ ") counted) (λ t. body_at program names loops k t (slice_get (standings_of program) k))
    ≡ read_instance program names loops text
unfolding read_instance
placed program names loops text counted m k e behind place =
    ap₂ (λ (n : ℕ) (t : Text). instance_at program names loops n t) (sym (place_is text m k e place)) behind
