-- The rows of a path and the equalities of a leaf, put one behind another.
use Rattle.dataflow.proofs.Common.{◌≡◌, ℕ, suc, ◌+◌, ◌<◌, ◌≤◌, pos, List, [], ◌∷◌, ◌++◌, length, drop, ap, subst, sym}
use Rattle.dataflow.proofs.Common.{◌∙◌, refl, arith, get_or, add-one, drop-cons, All, All-get_or, Affine, all_unmapped}
use Rattle.dataflow.proofs.Common.{Turn, up, down, bound, binds_in, AreOver, turn_held, turns_held, placed_numbers}
use Rattle.dataflow.proofs.Common.{path_rows, turn_equality, turn_equalities, AreFree}
use Rattle.scop_syntax.proofs.Common.{append_assoc, drop_all}
use Rattle.std.proofs.lemmas.List.{append-nil}
use Rattle.quast_trees.specs.declared.paths.Turn.{Turn as Held}
use Rattle.dataflow.specs.declared.leaf_rows.Layout.{Layout}

-- something passed and what is passed behind it
binds-next : (t : Turn) (ts : List Turn) → binds_in (t ∷ ts) ≡ binds_in (t ∷ []) + binds_in ts
binds-next (up f) ts = omega arith
binds-next (down f) ts = omega arith
binds-next (bound f d) ts = omega arith

rows-next : (l : Layout) (k : ℕ) (t : Turn) (ts : List Turn)
    → path_rows l k (t ∷ ts) ≡ path_rows l k (t ∷ []) ++ path_rows l (k + binds_in (t ∷ [])) ts
rows-next l k (up f) ts =
    let same : k + 0 ≡ k = omega arith in ap (λ i. path_rows l k (up f ∷ []) ++ path_rows l i ts) (sym same)
rows-next l k (down f) ts =
    let same : k + 0 ≡ k = omega arith in ap (λ i. path_rows l k (down f ∷ []) ++ path_rows l i ts) (sym same)
rows-next l k (bound f d) ts =
    let same : k + 1 ≡ suc k = omega arith in
    ap (λ i. path_rows l k (bound f d ∷ []) ++ path_rows l i ts) (sym same)

over-first : (n : ℕ) (t : Turn) (ts : List Turn) → AreOver n (t ∷ ts) → AreOver n (t ∷ [])
over-first n (up f) ts h = (h.0, tt)
over-first n (down f) ts h = (h.0, tt)
over-first n (bound f d) ts h = (h.0, h.1, tt)

over-rest : (n : ℕ) (t : Turn) (ts : List Turn) → AreOver n (t ∷ ts) → AreOver (n + binds_in (t ∷ [])) ts
over-rest n (up f) ts h = let same : n + 0 ≡ n = omega arith in subst (λ i. AreOver i ts) (sym same) h.1
over-rest n (down f) ts h = let same : n + 0 ≡ n = omega arith in subst (λ i. AreOver i ts) (sym same) h.1
over-rest n (bound f d) ts h = let same : n + 1 ≡ suc n = omega arith in subst (λ i. AreOver i ts) (sym same) h.2

-- of the rows of a path those of the first i turns are there, of which k are binds
pub record PathSoFar (l : Layout) (start : List Affine) (ts : List Held) (i k : ℕ) (out : List Affine) : Type 0 where
  pub rows : out ++ path_rows l k (turns_held (drop i ts)) ≡ start ++ path_rows l 0 (turns_held ts)
  pub over : AreOver (l.parameters + l.turns + k) (turns_held (drop i ts))
  pub binds : k + binds_in (turns_held (drop i ts)) ≡ l.binds

pub path_starts : (l : Layout) (start : List Affine) (ts : List Held)
    → AreOver (l.parameters + l.turns) (turns_held ts) → binds_in (turns_held ts) ≡ l.binds
    → PathSoFar l start ts 0 0 start
path_starts l start ts over binds =
    let same : l.parameters + l.turns + 0 ≡ l.parameters + l.turns = omega arith in
    record { rows = refl; over = subst (λ n. AreOver n (turns_held ts)) (sym same) over; binds = omega (arith, binds) }

turns_at : (ts : List Held) (i : ℕ) (x : Held) → x ≡ get_or ts i x → i < length ts
    → turns_held (drop i ts) ≡ turn_held x ∷ turns_held (drop (i + 1) ts)
turns_at ts i x is h =
    let first : drop i ts ≡ get_or ts i x ∷ drop (i + 1) ts = rw (add-one, drop-cons ts i x h) refl in
    ap turns_held (first ∙ ap (λ (y : Held). y ∷ drop (i + 1) ts) (sym is))

pub next_over : (l : Layout) (start : List Affine) (ts : List Held) (i k : ℕ) (out : List Affine) (x : Held)
    → x ≡ get_or ts i x → i < length ts → PathSoFar l start ts i k out
    → AreOver (l.parameters + l.turns + k) (turn_held x ∷ [])
next_over l start ts i k out x is h so_far =
    over-first (l.parameters + l.turns + k) (turn_held x) (turns_held (drop (i + 1) ts))
    (subst (AreOver (l.parameters + l.turns + k)) (turns_at ts i x is h) so_far.over)

pub next_binds : (l : Layout) (start : List Affine) (ts : List Held) (i k : ℕ) (out : List Affine) (x : Held)
    → x ≡ get_or ts i x → i < length ts → PathSoFar l start ts i k out
    → k + binds_in (turn_held x ∷ []) ≤ l.binds
next_binds l start ts i k out x is h so_far =
    let a = ap binds_in (turns_at ts i x is h) in
    let b = binds-next (turn_held x) (turns_held (drop (i + 1) ts)) in
    let c = so_far.binds in
    omega arith

pub path_more : (l : Layout) (start : List Affine) (ts : List Held) (i k : ℕ) (out next : List Affine) (x : Held)
    (b : ℕ) → x ≡ get_or ts i x → i < length ts → PathSoFar l start ts i k out
    → next ≡ out ++ path_rows l k (turn_held x ∷ []) → b ≡ binds_in (turn_held x ∷ [])
    → PathSoFar l start ts (i + 1) (k + b) next
path_more l start ts i k out next x b is h so_far put count =
    let t = turn_held x in
    let rest = turns_held (drop (i + 1) ts) in
    let here = turns_at ts i x is h in
    let n = l.parameters + l.turns in
    let split : path_rows l k (turns_held (drop i ts)) ≡ path_rows l k (t ∷ []) ++ path_rows l (k + b) rest =
    ap (path_rows l k) here
    ∙ (rows-next l k t rest ∙ ap (λ j. path_rows l k (t ∷ []) ++ path_rows l (k + j) rest) (sym count)) in
    let wider : n + k + binds_in (t ∷ []) ≡ n + (k + b) = omega (arith, count) in
    record {
      rows = ap (λ (xs : List Affine). xs ++ path_rows l (k + b) rest) put
          ∙ (append_assoc out (path_rows l k (t ∷ [])) (path_rows l (k + b) rest)
          ∙ (ap (λ (xs : List Affine). out ++ xs) (sym split) ∙ so_far.rows));
      over = subst (λ j. AreOver j rest) wider (over-rest (n + k) t rest (subst (AreOver (n + k)) here so_far.over));
      binds = let a = ap binds_in here in let d = binds-next t rest in let c = so_far.binds in
          omega (arith, a, d, c, count);
    }

pub path_ends : (l : Layout) (start : List Affine) (ts : List Held) (i k : ℕ) (out : List Affine) → length ts ≤ i
    → PathSoFar l start ts i k out → out ≡ start ++ path_rows l 0 (turns_held ts)
path_ends l start ts i k out past so_far =
    let none : out ++ path_rows l k (turns_held (drop i ts)) ≡ out = rw (drop_all i ts past) (append-nil out) in
    sym none ∙ so_far.rows

-- what all turns have, one of them has
pub turn_has : (P : Turn → Type 0) (ts : List Held) (i : ℕ) (x : Held) → All P (turns_held ts) → x ≡ get_or ts i x
    → i < length ts → P (turn_held x)
turn_has P ts i x all is h = subst (λ y. P (turn_held y)) (sym is) (at ts i all h)
  where
    at : (ts : List Held) (i : ℕ) → All P (turns_held ts) → i < length ts → P (turn_held (get_or ts i x))
    at ts i all h = All-get_or (λ y. P (turn_held y)) ts i x h (all_unmapped P turn_held ts all)

-- the equalities of the writer's turns
pub equality_more : (l : Layout) (j : ℕ) (fs : List Affine) (i : ℕ) (f : Affine) (out next whole : List Affine)
    → f ≡ get_or fs i f → i < length fs → out ++ turn_equalities l (j + i) (drop i fs) ≡ whole
    → next ≡ out ++ turn_equality l (j + i) f ∷ []
    → next ++ turn_equalities l (j + (i + 1)) (drop (i + 1) fs) ≡ whole
equality_more l j fs i f out next whole is h so_far put =
    let rest = turn_equalities l (j + (i + 1)) (drop (i + 1) fs) in
    let first : drop i fs ≡ get_or fs i f ∷ drop (i + 1) fs = rw (add-one, drop-cons fs i f h) refl in
    let here : drop i fs ≡ f ∷ drop (i + 1) fs = first ∙ ap (λ (g : Affine). g ∷ drop (i + 1) fs) (sym is) in
    let place : suc (j + i) ≡ j + (i + 1) = omega arith in
    let split : turn_equalities l (j + i) (drop i fs) ≡ turn_equality l (j + i) f ∷ rest =
    ap (turn_equalities l (j + i)) here
    ∙ ap (λ k. turn_equality l (j + i) f ∷ turn_equalities l k (drop (i + 1) fs)) place in
    ap (λ (xs : List Affine). xs ++ rest) put
    ∙ (append_assoc out (turn_equality l (j + i) f ∷ []) rest
    ∙ (ap (λ (xs : List Affine). out ++ xs) (sym split) ∙ so_far))

pub equality_end : (l : Layout) (j : ℕ) (fs : List Affine) (i : ℕ) (out whole : List Affine) → length fs ≤ i
    → out ++ turn_equalities l (j + i) (drop i fs) ≡ whole → out ≡ whole
equality_end l j fs i out whole past so_far =
    let none : out ++ turn_equalities l (j + i) (drop i fs) ≡ out = rw (drop_all i fs past) (append-nil out) in
    sym none ∙ so_far

pub free_at : (l : Layout) (j n i : ℕ) → i < n → AreFree l j n → AreFree l (j + i) 1
free_at l j n i h free = λ cs k size less.
    let place : j + i + k ≡ j + i = omega (arith, less) in
    ap (λ p. get_or (placed_numbers l cs) p (pos 0)) place ∙ free cs i size h
