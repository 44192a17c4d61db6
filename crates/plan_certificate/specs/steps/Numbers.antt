-- The new numbers of rows, as a list of those of the lines so far.
use Rattle.std.specs.Prelude.{ℕ, ◌-◌, nat_le, Bool, true, false, if◌then◌else◌, List, [], ◌∷◌, slice_index_or}
use Rattle.plan_check.specs.declared.lines.Term.{Term}

-- the new number of a row, rows of a goal having their own
abbrev pub number_in : ℕ → List ℕ → ℕ → ℕ
number_in rows numbers row = if nat_le row rows then row else slice_index_or numbers (row - rows - 1) row

-- one thing, if it is marked
abbrev pub one_if : {A : Type 0} → Bool → A → List A
one_if true x = x ∷ []
one_if false x = []

-- how many lines stand before a marked line, and before another
abbrev pub number_of : Bool → ℕ → ℕ → ℕ
number_of true kept all = kept
number_of false kept all = all

-- a term with its row's new number
abbrev pub term_in : (ℕ → ℕ) → Term → Term
term_in at t = record { row = at t.row; factor = t.factor }
