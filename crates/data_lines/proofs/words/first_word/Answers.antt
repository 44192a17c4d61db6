-- What stands in front of the next blank is the first word, or nothing is left.
use Rattle.scop_syntax.proofs.Common.{◌≡◌, ◌<◌, ◌∙◌, sym, ap, subst, length, take, drop, ◌∷◌, arith, position_or_len}
use Rattle.scop_syntax.proofs.Common.{rules}
use Rattle.std.proofs.Common.{length-take-le}
use Rattle.scop_lexer.specs.Bytes.{is_blank}
use Rattle.data_lines.specs.Words.{words_of, unindented}
use Rattle.data_lines.proofs.PartLemmas.{words-unindented, none_left, next_word}
use Rattle.data_lines.proofs.words.first_word.Goals as goal

pub returns-then-is_empty-clause-none : goal.returns-then-is_empty-clause-none
returns-then-is_empty-clause-none c = λ none.
    let line = c.args.line.now in
    let text = c.unindented-text.result.now in
    let n = c.word_len.result in
    let same : text ≡ unindented line = c.unindented-text.ensures.value in
    let empty : length c.split_at.result.0.now ≡ 0 = search rules in
    let zero : n ≡ 0 = omega (
      arith,
      empty,
      ap length c.split_at.ensures.front,
      length-take-le n text
          c.word_len.ensures.within,
    ) in
    let left = none_left line (sym (ap (λ t. position_or_len is_blank t) same)
    ∙ (sym c.word_len.ensures.value ∙ zero)) in
    sym (words-unindented line) ∙ ap words_of left

pub returns-clause-some : goal.returns-clause-some
returns-clause-some c =
    let line = c.args.line.now in
    let text = c.unindented-text.result.now in
    let n = c.word_len.result in
    let same : text ≡ unindented line = c.unindented-text.ensures.value in
    let front : c.split_at.result.0.now ≡ take n text = c.split_at.ensures.front in
    let some : 0 < length c.split_at.result.0.now = search rules in
    let word : words_of text ≡ take n text ∷ words_of (drop n text) = next_word text n c.word_len.ensures.value
    (subst (λ t. 0 < length t) front some) in
    sym (words-unindented line) ∙ (sym (ap words_of same)
    ∙ (word ∙ (ap (λ t. t ∷ words_of (drop n text)) (sym front)
    ∙ ap (λ t. c.split_at.result.0.now ∷ words_of t) (sym c.split_at.ensures.back))))
