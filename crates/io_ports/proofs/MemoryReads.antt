-- How a read of bytes in memory splits what is left.
use Rattle.std.proofs.Common.{◌≡◌, ◌∙◌, sym, ap, ℕ, ◌+◌, ◌≤◌, List, ◌++◌, length, take, drop}
use Rattle.std.proofs.lemmas.List.{take-append-drop, drop-drop, length-take-le}

-- the bytes put at the buffer's front are the first of those left, and the others stay
pub gives_front : (bytes rest buffer : List ℕ) (place count : ℕ) → rest ≡ drop place bytes → count ≤ length rest
    → take (length (take count rest)) buffer ≡ take count rest
    → drop place bytes ≡ take count buffer ++ drop (place + count) bytes
gives_front bytes rest buffer place count same within put =
    let front : take count buffer ≡ take count rest =
    ap (λ n. take n buffer) (sym (length-take-le count rest within)) ∙ put in
    sym same ∙ (sym (take-append-drop count rest) ∙ (ap (λ t. t ++ drop count rest) (sym front)
    ∙ ap (λ t. take count buffer ++ t) (ap (drop count) same ∙ drop-drop count place bytes)))
