-- Rows that hold at each key of a node's sets: where one does not, no set has a key.
use Rattle.scop_syntax.proofs.Common.{◌≡◌, ℕ, ◌+◌, ◌<◌, ℤ, pos, List, [], ◌∷◌, ◌++◌, length, take, get_or, ◌⊎◌, inl, inr}
use Rattle.scop_syntax.proofs.Common.{subst, sym, ap, ◌∙◌, All, ◌≤ℤ◌, Affine, complement, value_of}
use Rattle.integer_sets.specs.Scanned.{Scanned}
use Rattle.plain_scan.specs.Sets.{IsKeyOf, Keys}
use Rattle.plain_scan.specs.steps.Serving.{AllAtLeast}
use Rattle.plain_scan.specs.Hulls.{sets_in}
use Rattle.plain_scan.specs.declared.set_outline.Outline.{Outline}
use Rattle.plain_scan.proofs.CodeBounds.{take_next}
use Rattle.plain_scan.proofs.Pieces.{all_append}
use Rattle.plain_scan.proofs.WholeScans.{sets_more}
use Rattle.split_scan.specs.steps.Questions.{IsVoid}
use Rattle.split_scan.specs.steps.Parts.{Implies}
use Rattle.split_scan.specs.steps.Narrowing.{HasNoKey, HoldAtKeys}
use Rattle.split_scan.proofs.NodeParts.{implied_at, one_side}

-- a key of sets, or of the one behind them
last_key : (sets : List Scanned) (s : Scanned) (params r : List ℤ) → Keys (sets ++ s ∷ []) params r
    → Keys sets params r ⊎ IsKeyOf params s r
last_key [] s params r (inl h) = inr h
last_key [] s params r (inr h) = absurd h
last_key (t ∷ sets) s params r (inl h) = inl (inl h)
last_key (t ∷ sets) s params r (inr h) = elim (last_key sets s params r h) [
  | inl g ↦ inl (inr g)
  | inr g ↦ inr g
]

-- a set more without a key
none_more : (m : ℕ) (inside : List Affine) (sets : List Scanned) (s : Scanned) (rows cuts : List Affine)
    → IsVoid m inside (cuts ++ rows) → All (Implies m s) rows → HasNoKey m inside sets cuts
    → HasNoKey m inside (sets ++ s ∷ []) cuts
none_more m inside sets s rows cuts void implies before params outer x at hold r key =
    by_set (last_key sets s params (outer ++ x ∷ r) key)
  where
    by_set : Keys sets params (outer ++ x ∷ r) ⊎ IsKeyOf params s (outer ++ x ∷ r) → ⊥
    by_set (inl h) = before params outer x at hold r h
    by_set (inr h) =
        void params outer x at (all_append cuts rows (outer ++ x ∷ params) hold
        (implied_at m s rows implies params outer r x at.parameters at.size h))

pub none_next : (m : ℕ) (inside : List Affine) (os : List Outline) (i : ℕ) (o : Outline) (rows cuts : List Affine)
    → o ≡ get_or os i o → i < length os → IsVoid m inside (cuts ++ rows) → All (Implies m o.set.now) rows
    → HasNoKey m inside (sets_in (take i os)) cuts → HasNoKey m inside (sets_in (take (i + 1) os)) cuts
none_next m inside os i o rows cuts is within void implies before =
    subst (λ ss. HasNoKey m inside ss cuts)
    (sym (ap sets_in (take_next os i o is within) ∙ sets_more (take i os) o))
    (none_more m inside (sets_in (take i os)) o.set.now rows cuts void implies before)

-- a row more: beyond it no set has a key
pub hold_more : (m : ℕ) (inside : List Affine) (sets : List Scanned) (row : Affine) (cuts more beyond : List Affine)
    → more ≡ cuts ++ row ∷ [] → beyond ≡ complement row ∷ [] → HasNoKey m inside sets beyond
    → HoldAtKeys m inside sets cuts → HoldAtKeys m inside sets more
hold_more m inside sets row cuts more beyond is far none hold params outer x at r key =
    subst (λ fs. AllAtLeast fs point) (sym is) (all_append cuts (row ∷ []) point (hold params outer x at r key)
    (by_side (one_side row point), tt))
  where
    point : List ℤ
    point = outer ++ x ∷ params

    by_side : (pos 0 ≤ℤ value_of row point) ⊎ (pos 0 ≤ℤ value_of (complement row) point) → pos 0 ≤ℤ value_of row point
    by_side (inl h) = h
    by_side (inr h) =
        absurd (none params outer x at (subst (λ fs. AllAtLeast fs point) (sym far) (h, tt)) r key)
