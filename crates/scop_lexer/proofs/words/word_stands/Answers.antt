use Rattle.std.proofs.Common.{length, refl}
use Rattle.std.proofs.lemmas.Bool.{lt-leb, le-leb}
use Rattle.scop_lexer.proofs.words.word_stands.Goals as goal

pub returns-then-word-gt-LONGEST_NAME : goal.returns-then-word-gt-LONGEST_NAME
returns-then-word-gt-LONGEST_NAME c =
    rw (lt-leb (length c.args.word.now) 63 c.if-word-gt-LONGEST_NAME.true) refl

pub returns : goal.returns
returns c = rw (le-leb (length c.args.word.now) 63 c.if-word-gt-LONGEST_NAME.false, c.kind_of_word.ensures) refl
