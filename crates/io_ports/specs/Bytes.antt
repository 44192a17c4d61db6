-- What calls do to the bytes that a source or a sink tells; of bytes that are not told nothing is said.
use Rattle.std.specs.Prelude.{◌≡◌, ℕ, ◌<◌, List, ◌++◌, length, ⊤, Option, None, Some}

-- these are all the bytes that were told to be left
abbrev pub IsAllOf : Option (List ℕ) → List ℕ → Type 0
IsAllOf None bytes = ⊤
IsAllOf (Some left) bytes = left ≡ bytes

-- more bytes than the limit are told to be left
abbrev pub IsLonger : Option (List ℕ) → ℕ → Type 0
IsLonger None limit = ⊤
IsLonger (Some left) limit = limit < length left

-- told bytes grew by a front of the text
abbrev pub GainsFront : Option (List ℕ) → Option (List ℕ) → List ℕ → Type 0
GainsFront None new text = ⊤
GainsFront (Some old) None text = ⊥
GainsFront (Some old) (Some new) text = (front : List ℕ) × (rest : List ℕ) × (text ≡ front ++ rest)
    × (new ≡ old ++ front)

-- told bytes grew by a front of what was pending before them and a text, and the rest is pending now
abbrev pub SendsFront : Option (List ℕ) → List ℕ → Option (List ℕ) → List ℕ → List ℕ → Type 0
SendsFront None pending new rest text = ⊤
SendsFront (Some old) pending None rest text = ⊥
SendsFront (Some old) pending (Some new) rest text =
    (front : List ℕ) × (new ≡ old ++ front) × (front ++ rest ≡ pending ++ text)
