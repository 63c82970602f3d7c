use Rattle.std.proofs.Common.{rules, tests}
use Rattle.bundle.specs.declared.refusal.Fault.TheVariants as fault
use Rattle.decode.specs.Words.{rom_read, word_count}
use Rattle.decode.proofs.Asking.{never_refused}
use Rattle.decode.proofs.stages.read_memories.Goals as goal

pub returns-in_err-read_all : goal.returns-in_err-read_all
returns-in_err-read_all c =
    absurd (never_refused fault.Words 0 (word_count c.args.rom.now) _
    (c.in_err-read_all.ensures.refusal (rom_read c.args.rom.now) (record { each = λ i l o q. search (rules, tests) })))
