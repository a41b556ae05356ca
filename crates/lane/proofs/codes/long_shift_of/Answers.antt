-- `codes::long_shift_of` meets its contract. Assumes nothing.
use Rattle.word.specs.declared.long.LongShift.TheVariants.{Asl, Lsl, Rrl, Asr, Lsr, Rrr}
use Rattle.lane.proofs.Extended.{read_long}
use Rattle.lane.proofs.codes.long_shift_of.Goals as goal

pub returns-in-2049 : goal.returns-in-2049
returns-in-2049 c = read_long Asl c.args.word c.in-2049.is

pub returns-in-2050 : goal.returns-in-2050
returns-in-2050 c = read_long Lsl c.args.word c.in-2050.is

pub returns-in-2052 : goal.returns-in-2052
returns-in-2052 c = read_long Rrl c.args.word c.in-2052.is

pub returns-in-2081 : goal.returns-in-2081
returns-in-2081 c = read_long Asr c.args.word c.in-2081.is

pub returns-in-2082 : goal.returns-in-2082
returns-in-2082 c = read_long Lsr c.args.word c.in-2082.is

pub returns-in-2084 : goal.returns-in-2084
returns-in-2084 c = read_long Rrr c.args.word c.in-2084.is
