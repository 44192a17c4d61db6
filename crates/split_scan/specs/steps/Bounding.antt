-- The rows of a hull that bound the loop's value.
use Rattle.std.specs.Prelude.{◌≡◌, ℕ, ℤ, pos, negsuc, List, ◌∷◌, All}
use Rattle.whole_numbers.specs.Affine.{Affine}
use Rattle.fm_projection.specs.Alone.{place_form}
use Rattle.plain_scan.specs.declared.set_outline.Outline.{Outline}
use Rattle.plain_scan.specs.Hulls.{AreHullRows}
use Rattle.split_scan.specs.steps.Questions.{IsCut}

-- rows of n variables that bound the one at place m and hold at each of the sets, its two numbers first
pub record AreBars (depth m n : ℕ) (outlines : List Outline) (fs : List Affine) : Type 0 where
  pub low : ℤ
  pub high : ℤ
  pub others : List Affine
  pub is : fs ≡ place_form n m (pos 1) low ∷ place_form n m (negsuc 0) high ∷ others
  pub cuts : All (IsCut m n) fs
  pub rows : AreHullRows depth n outlines fs
