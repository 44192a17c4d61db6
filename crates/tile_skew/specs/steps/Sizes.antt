-- Items whose rows have a coefficient for each turn.
use Rattle.std.specs.Prelude.{◌≡◌, ℕ, suc, ◌*◌, ◌^◌, ◌<◌, ◌≤◌, List, [], ◌∷◌, length, All, ⊤}
use Rattle.whole_numbers.specs.Affine.{Affine}
use Rattle.affine_forms.specs.Parts.{variables_of}
use Rattle.iteration_domains.specs.Sizes.{form_size}
use Rattle.loop_tree.specs.Tiling.{TileRow, Item, row, scalar, Items}
use Rattle.tile_skew.specs.declared.layout.Layout.{Layout}
use Rattle.tile_skew.specs.ScanSets.{width}

-- the rows of a band
abbrev pub AreRowsOver : ℕ → List TileRow → Type 0
AreRowsOver n [] = ⊤
AreRowsOver n (r ∷ rs) = (length r.form.coefficients ≡ n) × AreRowsOver n rs

-- the rows among items
abbrev pub AreItemsOver : ℕ → List Item → Type 0
AreItemsOver n [] = ⊤
AreItemsOver n (row f ∷ items) = (length f.coefficients ≡ n) × AreItemsOver n items
AreItemsOver n (scalar k ∷ items) = ⊤ × AreItemsOver n items

-- all rows of a statement
pub record AreOver (n : ℕ) (s : Items) : Type 0 where
  pub band : AreRowsOver n s.band
  pub behind : AreItemsOver n s.behind

-- a form over n turns, with small numbers
abbrev pub FitsTurns : ℕ → Affine → Type 0
FitsTurns n f = (length f.coefficients ≡ n) × (form_size f ≤ 4096 * suc n)

-- a form over all variables of a scan set, with numbers that can be multiplied and added
abbrev pub FitsWidth : Layout → Affine → Type 0
FitsWidth l f = (variables_of f ≡ width l) × (form_size f ≤ 2 ^ 99)

-- an item of a statement with n turns
abbrev pub FitsItem : ℕ → Item → Type 0
FitsItem n i = (f : Affine) → i ≡ row f → FitsTurns n f

-- a statement's items: rows over n turns, with small numbers
pub record FitItems (n : ℕ) (s : Items) : Type 0 where
  pub band : All (λ r. FitsTurns n r.form) s.band
  pub behind : All (FitsItem n) s.behind

-- an item whose scalar is below n
abbrev pub IsLow : ℕ → Item → Type 0
IsLow n (row f) = ⊤
IsLow n (scalar k) = k < n

-- items that fit, a few of them in the first band, and scalars below 32
pub record AreModest (n : ℕ) (s : Items) : Type 0 where
  pub few : length s.band ≤ 5
  pub leading : All (λ k. k < 32) s.leading
  pub fit : FitItems n s
  pub low : All (IsLow 32) s.behind
