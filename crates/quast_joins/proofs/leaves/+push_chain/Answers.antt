use Rattle.quast_joins.proofs.Common.{rules, ◌≡◌, ◌<◌, ◌∷◌, length, get_or, ap, sym, ◌∙◌, arith, on_ok_weaker, Forms}
use Rattle.quast_joins.proofs.Common.{Tree, standing}
use Rattle.quast_joins.proofs.Chains.{chain_last, chain_put, forms_at, form_fits}
use Rattle.quast_joins.proofs.leaves.+push_chain.Goals as goal

pub returns-then-at-common : goal.returns-then-at-common
returns-then-at-common t c =
    let end = chain_last c.args.way c.args.first.now c.args.second.now c.args.at c.args.common c.requires.common
    c.if-at-common.true c.requires.at in
    on_ok_weaker c.push_last.result (λ h. h ∙ ap (λ (z : Tree). z ∷ standing c.args.builder.now) (sym end))
    c.push_last.ensures

pub index-ours-requires : goal.index-ours-requires
index-ours-requires t c =
    let a = c.args.first.now in
    let b = c.args.second.now in
    let h = c.if-at-common.false in
    let less : c.args.at < c.args.common = omega arith in
    let few = forms_at a b c.args.at c.args.common c.requires.common less in
    let inside = few.0 in
    let same : length c.first.inside.forms.items ≡ length c.args.first.now.forms =
    ap (λ (l : Forms). length l.forms) c.first.view_is in
    let room : c.args.at < length c.first.inside.forms.items = omega arith in
    search rules

pub index-theirs-requires : goal.index-theirs-requires
index-theirs-requires t c =
    let a = c.args.first.now in
    let b = c.args.second.now in
    let h = c.if-at-common.false in
    let less : c.args.at < c.args.common = omega arith in
    let few = forms_at a b c.args.at c.args.common c.requires.common less in
    let inside = few.1 in
    let same : length c.second.inside.forms.items ≡ length c.args.second.now.forms =
    ap (λ (l : Forms). length l.forms) c.second.view_is in
    let room : c.args.at < length c.second.inside.forms.items = omega arith in
    search rules

pub push_tests-requires-clause-variables : goal.push_tests-requires-clause-variables
push_tests-requires-clause-variables t c =
    let a = c.args.first.now in
    let b = c.args.second.now in
    let h = c.if-at-common.false in
    let less : c.args.at < c.args.common = omega arith in
    let few = forms_at a b c.args.at c.args.common c.requires.common less in
    let x = c.index-ours.result.now in
    let own-x : x ≡ get_or c.first.inside.forms.items c.args.at x = search rules in
    let is-x : x ≡ get_or c.args.first.now.forms c.args.at x =
    own-x ∙ ap (λ (l : Forms). get_or l.forms c.args.at x) c.first.view_is in
    let y = c.index-theirs.result.now in
    let own-y : y ≡ get_or c.second.inside.forms.items c.args.at y = search rules in
    let is-y : y ≡ get_or c.args.second.now.forms c.args.at y =
    own-y ∙ ap (λ (l : Forms). get_or l.forms c.args.at y) c.second.view_is in
    (form_fits b c.args.at y c.requires.second few.1 is-y).1
    ∙ (sym c.requires.variables ∙ sym (form_fits a c.args.at x c.requires.first few.0 is-x).1)

pub push_tests-requires-clause-first : goal.push_tests-requires-clause-first
push_tests-requires-clause-first t c =
    let a = c.args.first.now in
    let b = c.args.second.now in
    let h = c.if-at-common.false in
    let less : c.args.at < c.args.common = omega arith in
    let few = forms_at a b c.args.at c.args.common c.requires.common less in
    let x = c.index-ours.result.now in
    let own-x : x ≡ get_or c.first.inside.forms.items c.args.at x = search rules in
    let is-x : x ≡ get_or c.args.first.now.forms c.args.at x =
    own-x ∙ ap (λ (l : Forms). get_or l.forms c.args.at x) c.first.view_is in
    (form_fits a c.args.at x c.requires.first few.0 is-x).0

pub push_tests-requires-clause-second : goal.push_tests-requires-clause-second
push_tests-requires-clause-second t c =
    let a = c.args.first.now in
    let b = c.args.second.now in
    let h = c.if-at-common.false in
    let less : c.args.at < c.args.common = omega arith in
    let few = forms_at a b c.args.at c.args.common c.requires.common less in
    let y = c.index-theirs.result.now in
    let own-y : y ≡ get_or c.second.inside.forms.items c.args.at y = search rules in
    let is-y : y ≡ get_or c.args.second.now.forms c.args.at y =
    own-y ∙ ap (λ (l : Forms). get_or l.forms c.args.at y) c.second.view_is in
    (form_fits b c.args.at y c.requires.second few.1 is-y).0

pub returns : goal.returns
returns t c =
    let a = c.args.first.now in
    let b = c.args.second.now in
    let h = c.if-at-common.false in
    let less : c.args.at < c.args.common = omega arith in
    let x = c.index-ours.result.now in
    let own-x : x ≡ get_or c.first.inside.forms.items c.args.at x = search rules in
    let is-x : x ≡ get_or c.args.first.now.forms c.args.at x =
    own-x ∙ ap (λ (l : Forms). get_or l.forms c.args.at x) c.first.view_is in
    let y = c.index-theirs.result.now in
    let own-y : y ≡ get_or c.second.inside.forms.items c.args.at y = search rules in
    let is-y : y ≡ get_or c.args.second.now.forms c.args.at y =
    own-y ∙ ap (λ (l : Forms). get_or l.forms c.args.at y) c.second.view_is in
    on_ok_weaker c.push_tests.result (λ tests. chain_put c.args.way a b c.args.at c.args.common x y
    (standing c.args.builder.now) (standing c.push_both.new.builder) (standing c.push_chain.new.builder)
    (standing c.push_tests.new.builder) c.requires.common less is-x is-y c.in_ok-push_both.ensures
    c.in_ok-push_chain.ensures tests) c.push_tests.ensures
