-- What stands in the last line of a text, one byte further; a line that begins with `#`.
use Rattle.std.proofs.Common.{◌≡◌, ◌∙◌, sym, ap, refl, ℕ, ◌+◌, ◌-◌, ◌<◌, ◌≤◌, Bool, true, ◌&&◌, ◌||◌, [], ◌∷◌, ◌++◌}
use Rattle.std.proofs.Common.{length, take, get_or, arith, ◌==◌}
use Rattle.std.specs.List.{prefix_len}
use Rattle.std.proofs.lemmas.List.{take_more}
use Rattle.scop_lexer.specs.Bytes.{Text, is_blank, is_in_line, is_fresh, is_fresh_behind}

-- one byte more
fresh-push : (start : Bool) (text : Text) (b : ℕ) → is_fresh_behind start (text ++ b ∷ []) ≡
    (b == 10 || (is_fresh_behind start text && is_blank b))
fresh-push start [] b = refl
fresh-push start (a ∷ text) b = fresh-push (a == 10 || (start && is_blank a)) text b

-- the last byte of what stands in front of a place
pub fresh_more : (text : Text) (at : ℕ) → 0 < at → at ≤ length text
    → is_fresh (take at text) ≡ (get_or text (at - 1) 0 == 10 ||
    (is_fresh (take (at - 1) text) && is_blank (get_or text (at - 1) 0)))
fresh_more text at some within =
    let same : (at - 1) + 1 ≡ at = omega arith in
    let lt : at - 1 < length text = omega arith in
    ap (λ (n : ℕ). is_fresh (take n text)) (sym same)
    ∙ (ap is_fresh (take_more text (at - 1) 0 lt) ∙ fresh-push true (take (at - 1) text) (get_or text (at - 1) 0))

-- a byte other than a line feed stands on the line that it begins
pub byte_in_line : (b : ℕ) (bs : Text) → is_in_line b ≡ true → 1 ≤ prefix_len is_in_line (b ∷ bs)
byte_in_line b bs h = rw h (omega arith)
