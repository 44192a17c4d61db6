-- Each argument is added to the command that stands.
use Rattle.scop_syntax.proofs.Common.{codes}
use Rattle.clap.specs.Words.{App, new_app, with_rule}
use Rattle.command_line.specs.Stated.{IsCommand, most_size, wanted, wanted_number}
use Rattle.command_line.proofs.stated.gen_arguments.Goals as goal

pub returns : goal.returns
returns c =
    let bare : App = new_app (codes "gen") in
    let made : IsCommand bare c.new.result = record { app = c.new.ensures.app; plain = c.new.ensures.local } in
    let kind = wanted (codes "kind") in
    let seed = wanted_number (codes "seed") 0 18446744073709551615 in
    let size = wanted_number (codes "size") 1 most_size in
    let with_kind = c.with_argument-with_kind.ensures bare kind made c.wanted.ensures in
    let with_seed = c.with_argument-with_seed.ensures (with_rule bare kind) seed with_kind c.wanted_number.ensures in
    c.with_argument.ensures (with_rule (with_rule bare kind) seed) size with_seed c.wanted_number-2.ensures
