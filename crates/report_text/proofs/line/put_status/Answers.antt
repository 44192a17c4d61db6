use Rattle.scop_syntax.proofs.Common.{sym, ap, Bor, program_of}
use Rattle.std.proofs.Common.{option_map}
use Rattle.scop_syntax.specs.declared.tree.Kernel.{Kernel}
use Rattle.report_text.specs.StatusText.{status_text}
use Rattle.report_text.proofs.Lines.{puts_as}
use Rattle.report_text.proofs.line.put_status.Goals as goal

pub returns-in-Done : goal.returns-in-Done
returns-in-Done g c =
    puts_as _ _ _ _ _ _ _
    (sym (ap (status_text (option_map (λ (k : Bor Kernel). program_of k.now) c.args.kernel)) c.in-Done.is))
    c.put.ensures

pub returns-in-Usage : goal.returns-in-Usage
returns-in-Usage g c =
    puts_as _ _ _ _ _ _ _
    (sym (ap (status_text (option_map (λ (k : Bor Kernel). program_of k.now) c.args.kernel)) c.in-Usage.is))
    c.put-in-Usage.ensures

pub returns-in-Refused : goal.returns-in-Refused
returns-in-Refused g c =
    puts_as _ _ _ _ _ _ _
    (sym (ap (status_text (option_map (λ (k : Bor Kernel). program_of k.now) c.args.kernel)) c.in-Refused.is))
    c.put_refusal.ensures

pub returns-in-BadData : goal.returns-in-BadData
returns-in-BadData g c =
    puts_as _ _ _ _ _ _ _
    (sym (ap (status_text (option_map (λ (k : Bor Kernel). program_of k.now) c.args.kernel)) c.in-BadData.is))
    c.put_data.ensures

pub returns-in-Outside : goal.returns-in-Outside
returns-in-Outside g c =
    puts_as _ _ _ _ _ _ _
    (sym (ap (status_text (option_map (λ (k : Bor Kernel). program_of k.now) c.args.kernel)) c.in-Outside.is))
    c.put_outside.ensures

pub returns-in-ReadFault : goal.returns-in-ReadFault
returns-in-ReadFault g c =
    puts_as _ _ _ _ _ _ _
    (sym (ap (status_text (option_map (λ (k : Bor Kernel). program_of k.now) c.args.kernel)) c.in-ReadFault.is))
    c.put-in-ReadFault.ensures

pub returns-in-WriteFault : goal.returns-in-WriteFault
returns-in-WriteFault g c =
    puts_as _ _ _ _ _ _ _
    (sym (ap (status_text (option_map (λ (k : Bor Kernel). program_of k.now) c.args.kernel)) c.in-WriteFault.is))
    c.put-in-WriteFault.ensures

pub returns-in-NoMemory : goal.returns-in-NoMemory
returns-in-NoMemory g c =
    puts_as _ _ _ _ _ _ _
    (sym (ap (status_text (option_map (λ (k : Bor Kernel). program_of k.now) c.args.kernel)) c.in-NoMemory.is))
    c.put-in-NoMemory.ensures

pub returns-in-Rejected : goal.returns-in-Rejected
returns-in-Rejected g c =
    puts_as _ _ _ _ _ _ _
    (sym (ap (status_text (option_map (λ (k : Bor Kernel). program_of k.now) c.args.kernel)) c.in-Rejected.is))
    c.put_rejection.ensures
