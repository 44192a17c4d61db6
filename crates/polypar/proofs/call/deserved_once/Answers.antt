use Rattle.polypar.proofs.OnceLemmas.{words_once}
use Rattle.polypar.proofs.VerdictLemmas.{words_deserve}
use Rattle.polypar.proofs.call.deserved_once.Goals as goal

pub returns-clause-one : goal.returns-clause-one
returns-clause-one c = words_once (record {
  inside = c.failures_are_the_first.ensures.none;
  program = c.texts_spell_one_program.ensures;
  fault = c.faults_leave_no_program.ensures;
  refusal = c.texts_have_one_first_fault.ensures.refusal;
  case = c.said_once.ensures.once;
  no_case = c.said_once.ensures.excluded;
})

pub returns-clause-some : goal.returns-clause-some
returns-clause-some c = words_deserve (record {
  text = c.texts_spell_a_program_or_have_a_fault.ensures;
  kernel = c.spelled_programs_are_kernels.ensures.kernel;
  said = c.said_once.ensures.total;
  described = c.texts_say_what_lines_describe.ensures.says;
  ranked = c.accesses_have_the_ranks_of_arrays.ensures;
  inside = c.failures_are_the_first.ensures.inside;
})
