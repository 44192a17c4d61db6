use Rattle.scop_syntax.proofs.Common.{◌∙◌, map, string_bytes, Ok, Err}
use Rattle.clap.specs.Words.{fault_of}
use Rattle.clap.specs.declared.parser.matches.ArgMatches.{ArgMatches}
use Rattle.command_line.specs.Stated.{tool}
use Rattle.command_line.proofs.ParseResults.{fails, finds, refused}
use Rattle.command_line.proofs.taken.matches_of.Goals as goal

pub returns-in-Ok-try_get_matches_from-clause-faultless : goal.returns-in-Ok-try_get_matches_from-clause-faultless
returns-in-Ok-try_get_matches_from-clause-faultless c =
    fails (map string_bytes c.args.words.now) c.in-Ok.tool (Ok c.in-Ok-try_get_matches_from.matches) c.in-Ok.ensures
    c.in-Ok-try_get_matches_from.ensures.kinds

pub returns-in-Ok-try_get_matches_from-clause-command : goal.returns-in-Ok-try_get_matches_from-clause-command
returns-in-Ok-try_get_matches_from-clause-command c =
    finds (map string_bytes c.args.words.now) c.in-Ok.tool c.in-Ok-try_get_matches_from.matches c.in-Ok.ensures
    c.in-Ok-try_get_matches_from.ensures.matches

pub returns : goal.returns
returns c =
    let words = map string_bytes c.args.words.now in
    let error = c.in-Err-try_get_matches_from.error in
    let failed = fails {T = ArgMatches} words c.in-Ok.tool (Err error) c.in-Ok.ensures c.in-Err-try_get_matches_from.ensures.kinds in
    record {
      faultless = tt;
      command = tt;
      usage = λ usage none. refused (fault_of tool words) error failed
          (λ is. c.in_default.not-OutOfMemory (c.kind.ensures ∙ is)) none;
    }
