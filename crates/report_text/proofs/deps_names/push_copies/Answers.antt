-- One name more, and at the end all of them.
use Rattle.scop_syntax.proofs.Common.{◌∙◌, ◌∷◌, [], ◌+◌, ◌++◌, ap, drop, get_or, drop_of_length-le}
use Rattle.quast_text.specs.Text.{texts_of}
use Rattle.report_text.proofs.AppendedTexts.{next_appended, last_appended}
use Rattle.report_text.proofs.DepsLemmas.{texts_next}
use Rattle.report_text.proofs.deps_names.push_copies.Goals as goal

pub loop-name-preserved : goal.loop-name-preserved
loop-name-preserved c =
    let copied = c.args.copied.now in
    let at = c.loop-name.name-index in
    let names = texts_of c.loop-name.names.items in
    next_appended names (texts_of c.push_name.new.names.items) ((get_or copied at c.name-item.result).items ∷ [])
    (texts_of (drop (at + 1) copied)) _
    (c.in_ok-push_name.ensures ∙ ap (λ t. names ++ t ∷ [])
    (c.in_ok-copy.ensures.items ∙ (c.deref.ensures.value ∙ ap (λ n. n.items) c.name-item.is)))
    (ap (λ ts. names ++ ts) (texts_next copied at c.name-item.result c.loop-name-test.true) ∙ c.loop-name.invariant)

pub returns : goal.returns
returns c =
    let copied = c.args.copied.now in
    let at = c.loop-name.name-index in
    last_appended (texts_of c.loop-name.names.items) (texts_of (drop at copied)) _
    (ap texts_of (drop_of_length-le copied c.loop-name-test.false)) c.loop-name.invariant
