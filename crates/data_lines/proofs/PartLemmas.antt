-- The first part of a text that is cut at some bytes, and those behind it; its next word.
use Rattle.scop_syntax.proofs.Common.{◌≡◌, ◌∙◌, sym, ap, refl, ℕ, suc, ◌+◌, ◌<◌, Bool, true, false, not, List, [], ◌∷◌}
use Rattle.scop_syntax.proofs.Common.{length, take, drop, arith, slice_split, filter, position_or_len, prefix_len, cond}
use Rattle.std.specs.List.{onto_first}
use Rattle.scop_lexer.specs.Bytes.{Text, is_blank}
use Rattle.data_lines.specs.Words.{is_line_feed, lines_of, not_empty, words_of, unindented}

-- the parts behind a first one
abbrev pub parts_behind : (ℕ → Bool) → Text → List Text
parts_behind p [] = []
parts_behind p (b ∷ bs) = slice_split p bs

-- the first byte cuts or not
parts_step : (p : ℕ → Bool) (b : ℕ) (bs : Text) (k m : ℕ) (cuts : Bool) → m ≡ suc k
    → slice_split p bs ≡ take k bs ∷ parts_behind p (drop k bs)
    → (let n = cond (not cuts) m 0 in cond cuts ([] ∷ slice_split p bs) (onto_first b (slice_split p bs)) ≡ take n
    (b ∷ bs) ∷ parts_behind p (drop n (b ∷ bs)))
parts_step p b bs k m true more rest = refl
parts_step p b bs k m false more rest = rw more (ap (onto_first b) rest)

pub first_part : (p : ℕ → Bool) (text : Text)
    → slice_split p text ≡ take (position_or_len p text) text ∷ parts_behind p (drop (position_or_len p text) text)
first_part p [] = refl
first_part p (b ∷ bs) = parts_step p b bs (position_or_len p bs) (1 + position_or_len p bs) (p b) (omega arith)
    (first_part p bs)

-- the lines of a text: its first, and those behind the line feed
pub only_line : (text : Text) (n : ℕ) → n ≡ position_or_len is_line_feed text → drop n text ≡ []
    → lines_of text ≡ take n text ∷ []
only_line text n is none = first_part is_line_feed text
    ∙ (ap (λ k. take k text ∷ parts_behind is_line_feed (drop k text)) (sym is)
    ∙ ap (λ t. take n text ∷ parts_behind is_line_feed t) none)

pub next_line : (text : Text) (n : ℕ) (b : ℕ) (next : Text) → n ≡ position_or_len is_line_feed text
    → drop n text ≡ b ∷ next → lines_of text ≡ take n text ∷ lines_of next
next_line text n b next is more = first_part is_line_feed text
    ∙ (ap (λ k. take k text ∷ parts_behind is_line_feed (drop k text)) (sym is)
    ∙ ap (λ t. take n text ∷ parts_behind is_line_feed t) more)

-- the words of a text without the blanks in front of it
blanks_step : (b : ℕ) (bs : Text) (k m : ℕ) (blank : Bool) → m ≡ suc k → is_blank b ≡ blank
    → words_of (drop k bs) ≡ words_of bs
    → words_of (drop (cond blank m 0) (b ∷ bs)) ≡ words_of (b ∷ bs)
blanks_step b bs k m true more is rest = rw (more, is) rest
blanks_step b bs k m false more is rest = refl

pub words-unindented : (text : Text) → words_of (unindented text) ≡ words_of text
words-unindented [] = refl
words-unindented (b ∷ bs) = blanks_step b bs (prefix_len is_blank bs) (1 + prefix_len is_blank bs) (is_blank b)
    (omega arith) refl (words-unindented bs)

-- the parts behind a first one have the words of the text behind it
behind_step : (b : ℕ) (bs : Text) (k m : ℕ) (blank : Bool) → m ≡ suc k → is_blank b ≡ blank
    → filter not_empty (parts_behind is_blank (drop k bs)) ≡ words_of (drop k bs)
    → (let n = cond (not blank) m 0 in filter not_empty (parts_behind is_blank (drop n (b ∷ bs))) ≡ words_of
    (drop n (b ∷ bs)))
behind_step b bs k m true more is rest = rw is refl
behind_step b bs k m false more is rest = rw more rest

words-behind : (text : Text) → (let n = position_or_len is_blank text in
    filter not_empty (parts_behind is_blank (drop n text)) ≡ words_of (drop n text))
words-behind [] = refl
words-behind (b ∷ bs) = behind_step b bs (position_or_len is_blank bs) (1 + position_or_len is_blank bs)
    (is_blank b) (omega arith) refl (words-behind bs)

-- a first part that has bytes is the first word
with_part : (part : Text) (parts : List Text) → 0 < length part
    → filter not_empty (part ∷ parts) ≡ part ∷ filter not_empty parts
with_part [] parts some = absurd (omega arith)
with_part (b ∷ bs) parts some = refl

pub next_word : (text : Text) (n : ℕ) → n ≡ position_or_len is_blank text → 0 < length (take n text)
    → words_of text ≡ take n text ∷ words_of (drop n text)
next_word text n is some =
    let first : words_of text ≡ filter not_empty (take n text ∷ parts_behind is_blank (drop n text)) =
    ap (filter not_empty) (first_part is_blank text
    ∙ ap (λ k. take k text ∷ parts_behind is_blank (drop k text)) (sym is)) in
    let behind : filter not_empty (parts_behind is_blank (drop n text)) ≡ words_of (drop n text) =
    ap (λ k. filter not_empty (parts_behind is_blank (drop k text))) is
    ∙ (words-behind text ∙ ap (λ k. words_of (drop k text)) (sym is)) in
    first ∙ (with_part (take n text) (parts_behind is_blank (drop n text)) some ∙ ap (λ ws. take n text ∷ ws) behind)

-- no word is left where no byte other than a blank is
unindented_step : (b : ℕ) (bs : Text) (k m : ℕ) (blank : Bool) → m ≡ suc k → is_blank b ≡ blank
    → (position_or_len is_blank (drop k bs) ≡ 0 → drop k bs ≡ [])
    → (let t = drop (cond blank m 0) (b ∷ bs) in position_or_len is_blank t ≡ 0 → t ≡ [])
unindented_step b bs k m true more is rest = rw more rest
unindented_step b bs k m false more is rest = λ h. let some : 1 + position_or_len is_blank bs ≡ 0 = rw is at h in
    absurd (omega (arith, some))

pub none_left : (text : Text) → position_or_len is_blank (unindented text) ≡ 0 → unindented text ≡ []
none_left [] h = refl
none_left (b ∷ bs) h = unindented_step b bs (prefix_len is_blank bs) (1 + prefix_len is_blank bs) (is_blank b)
    (omega arith) refl (none_left bs) h

-- a text has a first line, whatever stands behind it
pub some_line : (text : Text) (n : ℕ) → n ≡ position_or_len is_line_feed text
    → lines_of text ≡ take n text ∷ parts_behind is_line_feed (drop n text)
some_line text n is = first_part is_line_feed text
    ∙ ap (λ k. take k text ∷ parts_behind is_line_feed (drop k text)) (sym is)

-- the text behind nothing
pub nothing_left : (text : Text) → length text ≡ 0 → text ≡ []
nothing_left [] none = refl
nothing_left (b ∷ bs) none = absurd (omega (arith, none))
