use Rattle.scop_syntax.proofs.Common.{◌≡◌, ◌++◌, [], ◌∷◌, ◌∙◌, rules}
use Rattle.split_scan.proofs.copies.push_shadow.Goals as goal

pub returns : goal.returns
returns c =
    let pushed : c.push.new.self.items ≡ c.args.out.now.items ++ c.with_numbers.result ∷ [] = search rules in
    let made = c.with_numbers.ensures in (
      c.with_numbers.result,
      pushed,
      record {
        rows = made.rows ∙ c.in_ok-rows.ensures ∙ c.deref.ensures.value;
        low = made.low;
        high = made.high;
      },
    )
