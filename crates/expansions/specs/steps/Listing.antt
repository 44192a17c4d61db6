-- Instances listed by statement, each with its place.
use Rattle.std.specs.Prelude.{◌≡◌, ◌<◌, ℕ, ℤ, pos, List, [], ◌∷◌, ◌++◌, length, map, get_or, slice_get, Some}
use Rattle.scop_syntax.specs.Members.{In}
use Rattle.scop_syntax.specs.Walk.{Instance}
use Rattle.expansions.specs.declared.listing.Entry.{Entry}
use Rattle.expansions.specs.declared.listing.Listed.{Listed}

-- the first n of the turns are the numbers kept
abbrev pub AreTurns : ℕ → List ℤ → List ℕ → Type 0
AreTurns n turns kept = (a : ℕ) → a < n → get_or turns a (pos 0) ≡ pos (get_or kept a 0)

-- the entry at this index has these turns
pub record IsIndexOf (entries : List Entry) (turns : List ℤ) (index : ℕ) : Type 0 where
  pub entry : Entry
  pub at : slice_get entries index ≡ Some entry
  pub are : AreTurns (length turns) turns entry.turns

-- the place is that of an entry with these turns
pub record IsPlaceIn (entries : List Entry) (turns : List ℤ) (place : ℕ) : Type 0 where
  pub entry : Entry
  pub there : In entry entries
  pub are : AreTurns (length turns) turns entry.turns
  pub place_is : entry.place ≡ place

-- the place of such an entry was put behind others
pub record HasPut (entries : List Entry) (turns : List ℤ) (before after : List ℕ) : Type 0 where
  pub place : ℕ
  pub found : IsPlaceIn entries turns place
  pub put : after ≡ before ++ place ∷ []

-- the entries of a statement
abbrev pub entries_in : List Listed → ℕ → List Entry
entries_in lists s = get_or (map (λ l. l.entries.items) lists) s []

-- the entry is that of an instance of the statement, which stands at its place
pub record HasEntry (walked : List Instance) (s : ℕ) (e : Entry) : Type 0 where
  pub held : Instance
  pub at : slice_get walked e.place ≡ Some held
  pub number : held.number ≡ s
  pub turns : AreTurns (length held.turns) held.turns e.turns

-- so are all that are listed
abbrev pub AreListed : List Instance → List Listed → Type 0
AreListed walked lists = (s : ℕ) (e : Entry) → In e (entries_in lists s) → HasEntry walked s e
