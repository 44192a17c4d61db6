-- Where a comment ends, and whether the comments of a line do: one byte further.
use Rattle.std.proofs.Common.{◌≡◌, ◌∙◌, ap, refl, ℕ, suc, ◌+◌, ◌<◌, ◌≤◌, Bool, true, false, not, if◌then◌else◌, [], ◌∷◌}
use Rattle.std.proofs.Common.{length, drop, get_or, add-one, drop-cons, drop-drop, get_or-drop, arith, length-drop}
use Rattle.std.proofs.Common.{Option, Some, None, option_map}
use Rattle.scop_lexer.specs.Bytes.{Text}
use Rattle.scop_lexer.specs.Gaps.{close, are_closed, turns}

-- a count that stands further back
abbrev pub shifted : ℕ → Option ℕ → Option ℕ
shifted at (Some n) = Some (at + n)
shifted at None = None

-- one byte further back
shifted-suc : (at : ℕ) (found : Option ℕ) → shifted at (option_map suc found) ≡ shifted (at + 1) found
shifted-suc at (Some n) = ap Some (omega arith)
shifted-suc at None = refl

-- the byte at a place, and those behind it
one-at : (text : Text) (at : ℕ) → at < length text → drop at text ≡ get_or text at 0 ∷ drop (at + 1) text
one-at text at within = rw add-one (drop-cons text at 0 within)

-- the byte behind a place
next-at : (text : Text) (at : ℕ) → get_or (drop (at + 1) text) 0 0 ≡ get_or text (at + 1) 0
next-at text at = get_or-drop (at + 1) text 0 0 ∙ ap (λ n. get_or text n 0) (omega arith)

-- a text that begins with one byte more
close-cons : (a : ℕ) (bs : Text) → 1 ≤ length bs
    → close (a ∷ bs) ≡ (if turns true a (get_or bs 0 0) then Some 2 else option_map suc (close bs))
close-cons a [] h = absurd (omega (arith, h))
close-cons a (b ∷ bs) h = refl

-- a comment ends at the place, or is looked for behind it
close-at : (text : Text) (at : ℕ) → at + 1 < length text
    → close (drop at text) ≡ (if turns true (get_or text at 0) (get_or text (at + 1) 0) then Some 2
    else option_map suc (close (drop (at + 1) text)))
close-at text at within =
    let h : 1 ≤ length (drop (at + 1) text) = omega (arith, length-drop (at + 1) text, within) in
    let cons = close-cons (get_or text at 0) (drop (at + 1) text) h in
    let lt : at < length text = omega (arith, within) in
    ap close (one-at text at lt)
    ∙ (cons ∙ ap (λ b. if turns true (get_or text at 0) b then Some 2
    else option_map suc (close (drop (at + 1) text))) (next-at text at))

-- it ends there
pub close-here : (text : Text) (at : ℕ) → at + 1 < length text
    → turns true (get_or text at 0) (get_or text (at + 1) 0) ≡ true
    → shifted at (close (drop at text)) ≡ Some (at + 2)
close-here text at within ends =
    let found : close (drop at text) ≡ Some 2 = close-at text at within ∙ rw ends refl in
    ap (shifted at) found

-- it does not
pub close-next : (text : Text) (at : ℕ) → at + 1 < length text
    → turns true (get_or text at 0) (get_or text (at + 1) 0) ≡ false
    → shifted at (close (drop at text)) ≡ shifted (at + 1) (close (drop (at + 1) text))
close-next text at within other =
    let found : close (drop at text) ≡ option_map suc (close (drop (at + 1) text)) =
    close-at text at within ∙ rw other refl in
    ap (shifted at) found ∙ shifted-suc at (close (drop (at + 1) text))

-- no comment ends in fewer than two bytes
close-small : (text : Text) → length text ≤ 1 → close text ≡ None
close-small [] h = refl
close-small (a ∷ []) h = refl
close-small (a ∷ b ∷ bs) h = absurd (omega (arith, h))

-- nor in those from a place on
pub close-short : (text : Text) (at : ℕ) → length text ≤ at + 1 → close (drop at text) ≡ None
close-short text at short = close-small (drop at text) (omega (arith, length-drop at text))

-- the state of a line that begins with one byte more
closed-cons : (inside : Bool) (a : ℕ) (bs : Text)
    → are_closed inside (a ∷ bs) ≡ (if turns inside a (get_or bs 0 0) then are_closed (not inside) (drop 1 bs)
    else are_closed inside bs)
closed-cons true a [] = grind arith
closed-cons false a [] = grind arith
closed-cons inside a (b ∷ bs) = refl

-- the state one byte further, or two
pub closed-at : (inside : Bool) (line : Text) (at : ℕ) → at < length line
    → are_closed inside (drop at line)
    ≡ (if turns inside (get_or line at 0) (get_or line (at + 1) 0)
    then are_closed (not inside) (drop (at + 2) line) else are_closed inside (drop (at + 1) line))
closed-at inside line at within =
    let cons = closed-cons inside (get_or line at 0) (drop (at + 1) line) in
    let two : drop 1 (drop (at + 1) line) ≡ drop (at + 2) line =
    drop-drop 1 (at + 1) line ∙ ap (λ n. drop n line) (omega arith) in
    ap (are_closed inside) (one-at line at within)
    ∙ (cons
    ∙ (ap (λ b. if turns inside (get_or line at 0) b then are_closed (not inside) (drop 1 (drop (at + 1) line))
    else are_closed inside (drop (at + 1) line)) (next-at line at)
    ∙ ap (λ t. if turns inside (get_or line at 0) (get_or line (at + 1) 0) then are_closed (not inside) t
    else are_closed inside (drop (at + 1) line)) two))
