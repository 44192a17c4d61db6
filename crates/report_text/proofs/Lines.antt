-- The parts of a line, one by one, and the texts that lines are made of.
use Rattle.scop_syntax.proofs.Common.{◌≡◌, ℕ, ◌+◌, ◌<◌, List, [], ◌++◌, length, drop, get_or, ap, refl, add-one}
use Rattle.scop_syntax.proofs.Common.{drop-cons, append_assoc, append-nil, subst, Result, decimal}
use Rattle.io_ports.specs.Writes.{SinkShows, Puts}
use Rattle.report_text.specs.declared.parts.Part.{Part}
use Rattle.report_text.specs.declared.pieces.Piece.{Piece}
use Rattle.report_text.specs.steps.Pieces.{piece_text, pieces_text}
use Rattle.report_text.specs.steps.Parts.{part_text, parts_text}
use Rattle.report_text.specs.StatusText.{named, numbered}

-- what is put, as a text that is the same
pub puts_as : {E : Type 0} (old : SinkShows) (pending : List ℕ) (new : SinkShows) (rest text other : List ℕ)
    (result : Result (Unit {0}) E) → text ≡ other → Puts old pending new rest text result
    → Puts old pending new rest other result
puts_as old pending new rest text other result same put =
    subst (λ t. Puts old pending new rest t result) same put

-- the part at a place, and those behind it
pub parts_next : (parts : List Part) (i : ℕ) (d : Part) → i < length parts
    → part_text (get_or parts i d) ++ parts_text (drop (i + 1) parts) ≡ parts_text (drop i parts)
parts_next parts i d less = rw (add-one, drop-cons parts i d) refl

-- the piece at a place, and those behind it
pub pieces_next : (pieces : List Piece) (i : ℕ) (d : Piece) → i < length pieces
    → piece_text (get_or pieces i d) ++ pieces_text (drop (i + 1) pieces) ≡ pieces_text (drop i pieces)
pieces_next pieces i d less = rw (add-one, drop-cons pieces i d) refl

-- a number between two texts
pub numbered_is : (front end : List ℕ) (n : ℕ) → front ++ (decimal n ++ (end ++ [])) ≡ numbered front n end
unfolding numbered
numbered_is front end n = ap (λ t. front ++ (decimal n ++ t)) (append-nil end)

-- a name between two texts
pub named_is : (front name end : List ℕ) → front ++ (name ++ (end ++ [])) ≡ named front name end
unfolding named
named_is front name end = ap (λ t. front ++ (name ++ t)) (append-nil end)

-- a name that is the decimal of a number
pub total_is : (front end : List ℕ) (n : ℕ) → named front (decimal n) end ≡ numbered front n end
unfolding named numbered
total_is front end n = refl

-- the line of a refusal
pub refusal_is : (kind a b c : List ℕ) (line column : ℕ)
    → kind ++ (a ++ (decimal line ++ (b ++ (decimal column ++ (c ++ [])))))
    ≡ kind ++ (numbered a line b ++ numbered [] column c)
unfolding numbered
refusal_is kind a b c line column = simp (append_assoc, append-nil) refl

-- the line of an extent
pub extent_is : (front name a b value end : List ℕ) (n : ℕ)
    → front ++ (name ++ (a ++ (decimal n ++ (b ++ (value ++ (end ++ []))))))
    ≡ (named front name [] ++ numbered a n b) ++ (value ++ end)
unfolding named numbered
extent_is front name a b value end n = simp (append_assoc, append-nil) refl

-- the line of a count
pub count_is : (a b c end : List ℕ) (i j k : ℕ)
    → a ++ (decimal i ++ (b ++ (decimal j ++ (c ++ (decimal k ++ (end ++ []))))))
    ≡ (numbered a i [] ++ numbered b j []) ++ numbered c k end
unfolding numbered
count_is a b c end i j k = simp (append_assoc, append-nil) refl

-- the line of a subscript
pub outside_is : (a b c d value e end : List ℕ) (i j k n : ℕ)
    → a ++ (decimal i ++ (b ++ (decimal j ++ (c ++ (decimal k ++ (d ++ (value ++ (e ++ (decimal n ++ (end ++ []))))))))))
    ≡ (numbered a i [] ++ numbered b j []) ++ (numbered c k d ++ (value ++ numbered e n end))
unfolding numbered
outside_is a b c d value e end i j k n = simp (append_assoc, append-nil) refl
