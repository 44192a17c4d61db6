-- What is told of a program's model is what a command asks of the program.
use Rattle.scop_syntax.proofs.Common.{◌≡◌, sym, subst, ℕ, Result, Ok, Err, IfOk, Program}
use Rattle.iteration_domains.specs.Model.{KernelModel, model_of}
use Rattle.command_line.specs.declared.command.KernelCommand.{KernelCommand}
use Rattle.command_line.specs.declared.command.KernelCommand.TheVariants.{Schedule}
use Rattle.plan_search.specs.Planning.{IsPlanOf}
use Rattle.polypar.specs.declared.told.Told as code
use Rattle.polypar.specs.Told.{told_of, IsTextAlone}
use Rattle.polypar.specs.KernelText.{IsTextFor}

-- of `schedule`
pub plan_asked : {E : Type 0} (asked : KernelCommand) (budget : ℕ) (program : Program) (model : KernelModel)
    (result : Result code.Told E) → asked ≡ Schedule budget → model ≡ model_of program
    → IfOk result (λ told. IsTextAlone (IsPlanOf budget model) (told_of told))
    → IfOk result (λ told. IsTextFor asked program (told_of told))
plan_asked asked budget program model (Ok told) schedule own is =
    subst (λ command. IsTextFor command program (told_of told)) (sym schedule)
    (subst (λ m. IsTextAlone (IsPlanOf budget m) (told_of told)) own is)
plan_asked asked budget program model (Err e) schedule own is = tt
