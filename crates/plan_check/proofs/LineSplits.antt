-- The first line of a text, and those behind its line feed.
use Rattle.scop_syntax.proofs.Common.{◌≡◌, ◌∙◌, sym, ap, subst, ℕ, ◌+◌, ◌<◌, ◌≤◌, List, [], ◌∷◌, length, take, drop}
use Rattle.scop_syntax.proofs.Common.{arith, slice_split, position_or_len, length-drop, length-take-le}
use Rattle.scop_lexer.specs.Bytes.{Text}
use Rattle.data_lines.proofs.PartLemmas.{first_part, parts_behind}
use Rattle.plan_check.specs.Text.{is_line_feed, lines_of, without_end}

parts_split : (line rest : Text) (whole : List Text) → whole ≡ line ∷ parts_behind is_line_feed rest
    → 0 < length line + length rest → without_end whole ≡ line ∷ lines_of (drop 1 rest)
parts_split [] [] whole e h = absurd (omega (arith, h))
parts_split [] (c ∷ rest) whole e h =
    ap without_end e
    ∙ (ap (λ (ls : List Text). without_end ([] ∷ ls)) (first_part is_line_feed rest)
    ∙ ap (λ (ls : List Text). [] ∷ without_end ls) (sym (first_part is_line_feed rest)))
parts_split (b ∷ bs) [] whole e h = ap without_end e
parts_split (b ∷ bs) (c ∷ rest) whole e h =
    ap without_end e
    ∙ (ap (λ (ls : List Text). without_end ((b ∷ bs) ∷ ls)) (first_part is_line_feed rest)
    ∙ ap (λ (ls : List Text). (b ∷ bs) ∷ without_end ls) (sym (first_part is_line_feed rest)))

pub line_split : (text : Text) (n : ℕ) → n ≡ position_or_len is_line_feed text → n ≤ length text → 0 < length text
    → lines_of text ≡ take n text ∷ lines_of (drop 1 (drop n text))
line_split text n is within some =
    parts_split (take n text) (drop n text) (slice_split is_line_feed text)
    (subst (λ k. slice_split is_line_feed text ≡ take k text ∷ parts_behind is_line_feed (drop k text)) (sym is)
    (first_part is_line_feed text))
    (let front = length-take-le n text within in
    let back = length-drop n text in
    omega (arith, front, back, within, some))
