use Rattle.std.proofs.Common.{ap, sym, ◌∙◌, arith}
use Rattle.scop_lexer.specs.Tokens.{token_of}
use Rattle.scop_lexer.proofs.Splits.{end-behind}
use Rattle.scop_lexer.proofs.lexer.token_at.Goals as goal

pub returns-then-text-at : goal.returns-then-text-at
returns-then-text-at c =
    c.nothing.ensures ∙ ap (token_of c.args.at) (sym (end-behind c.args.text.now c.args.at (omega arith)))
