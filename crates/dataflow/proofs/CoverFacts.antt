-- What the laws of walks, quasts and points say of covers, from the laws themselves.
use Rattle.dataflow.proofs.Common.{ℕ, ℤ, pos, ◌≤ℤ◌, ◌<ℤ◌, ◌^◌, List, All, refl, HasParameters, In, Placed, Program}
use Rattle.dataflow.proofs.Common.{Runs, params_not_negative, statements_of, model_of, one_model}
use Rattle.dataflow.proofs.AccessSides.{CoverLaws, PathLaws}
use Rattle.dataflow.proofs.AccessWriters.{Laws, small_turns, writer_is_point}
use Rattle.dataflow.proofs.HeldCovers.{all_up}
use Rattle.dataflow.proofs.QuastSigns.{resolved_up, turns_up}
use Rattle.dataflow.proofs.ResolvedWriters.{access_at, resolved_wanted}
use Rattle.dataflow.proofs.TellableSources.{loops_are, quast_over}

pub cover_laws : (program : Program) (params : List ℤ) (budget : ℕ) → HasParameters program params
    → Laws program params
    → ((q : Program) (ps xs : List ℤ) (p : Placed) → HasParameters q ps → In p (statements_of q) → Runs p.scopes ps xs
    → All (λ x. (pos 0 ≤ℤ x) × (x <ℤ pos (2 ^ 46))) xs)
    → PathLaws → CoverLaws program params budget
cover_laws program params budget has laws values paths =
    let small = small_turns program params has laws values in
    let walk = laws.places.walk in
    let up = params_not_negative params has.parameters in
    record {
      walk = walk;
      number = laws.number;
      model = one_model program has.kernel walk.same laws.number;
      count = has.count;
      range = has.parameters;
      up = up;
      turns = λ v walked. all_up v.turns (turns_up v.turns (small v walked));
      points = λ way j k w b cell touches h. writer_is_point way program params j k w b cell laws.places has.count up
          touches h;
      names = λ way j w a cell t touches run. resolved_wanted way program params j w a cell budget t
          (access_at program params j w a cell has laws small touches) run;
      signs = λ way j w a cell t touches run. resolved_up way program params j w a cell budget t
          (access_at program params j w a cell has laws small touches) run;
      speaks = λ way statement a t run. (quast_over way (model_of program) budget statement a t
          (loops_are program (model_of program) refl laws.places.loops) run).0.0;
      stands = laws.kernel.stands;
      paths = paths;
    }
