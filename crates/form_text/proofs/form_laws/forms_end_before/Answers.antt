use Rattle.form_text.proofs.Ends.{ends_nothing, ends_at_least, ends_equal, ends_comma, ends_parenthesis, ends_bracket}
use Rattle.form_text.proofs.Ends.{ends_semicolon, ends_divisor, ends_multiple}
use Rattle.form_text.proofs.form_laws.forms_end_before.Goals as goal

pub returns-clause-nothing : goal.returns-clause-nothing
returns-clause-nothing c = ends_nothing

pub returns-clause-at_least : goal.returns-clause-at_least
returns-clause-at_least c = ends_at_least

pub returns-clause-equal : goal.returns-clause-equal
returns-clause-equal c = ends_equal

pub returns-clause-comma : goal.returns-clause-comma
returns-clause-comma c = ends_comma

pub returns-clause-parenthesis : goal.returns-clause-parenthesis
returns-clause-parenthesis c = ends_parenthesis

pub returns-clause-bracket : goal.returns-clause-bracket
returns-clause-bracket c = ends_bracket

pub returns-clause-semicolon : goal.returns-clause-semicolon
returns-clause-semicolon c = ends_semicolon

pub returns-clause-divisor : goal.returns-clause-divisor
returns-clause-divisor c = ends_divisor

pub returns-clause-multiple : goal.returns-clause-multiple
returns-clause-multiple c = ends_multiple
