-- The rule of each instruction, and of a step: what 01's section "Instructions built" says, in its order.
--     memory_way, memory_word                memory reference
--     data_map, arithmetic_way .. extended_action    the extended codes
--     action, act, rule                    what an instruction asks for, its accesses, and both
--     action_words, jumping                 how many words an action's instruction has, and whether P leaves their order
--     holds, trap_rule                      the word of a trap cell
--     step_act                              one step: fetch, then what was read
-- Assumes nothing.
use Rattle.std.specs.Prelude.{ℕ, ◌+◌, ◌*◌, ◌/◌, ◌%◌, Bool, true, false, cond, ◌&&◌, eqb}
use Rattle.word.specs.Words.{bit, weight}
use Rattle.word.specs.Sums.{incremented, decremented, address}
use Rattle.maps.specs.Pages.{protecting}
use Rattle.maps.specs.declared.pages.Map.{Map}
use Rattle.maps.specs.declared.pages.Map.TheVariants.{Execute, Data1, Data2}
use Rattle.code.specs.Codes.{privileged}
use Rattle.code.specs.Instructions.{operation_code, reading}
use Rattle.acts.specs.Record.{with_p, with_trap, in_index}
use Rattle.acts.specs.Acts.{Act, fin, stop, violate, load, save, follow, operand}
use Rattle.effects.specs.Ways.{way_act}
use Rattle.effects.specs.Group.{shift_rotated, alter_skipped, long_rotated, copied_to_index, copied_from_index, exchanged, index_stepped, io_act}
use Rattle.strings.specs.Strings.{byte_loaded, byte_stored, move_act, compare_act, mask_act}
use Rattle.acts.specs.declared.record.Registers.{Registers}
use Rattle.acts.specs.declared.replies.Refusal.{Refusal}
use Rattle.code.specs.declared.codes.Register.{Register}
use Rattle.code.specs.declared.codes.Register.TheVariants.{A, B}
use Rattle.code.specs.declared.codes.Index.{Index}
use Rattle.code.specs.declared.codes.Data.{Data}
use Rattle.code.specs.declared.codes.Data.TheVariants.{One, Two}
use Rattle.code.specs.declared.codes.Extended.{Extended}
use Rattle.code.specs.declared.codes.Cross.{Cross}
use Rattle.code.specs.declared.codes.Cross.TheVariants.{Xl, Xs, Xc}
use Rattle.code.specs.declared.codes.Transfer.{Transfer}
use Rattle.code.specs.declared.codes.Transfer.TheVariants.{Sax, Cax, Lax, Cxa, Xax}
use Rattle.code.specs.declared.codes.Indexing.{Indexing}
use Rattle.code.specs.declared.codes.Indexing.TheVariants.{Stx, Ldx, Adx, Isx, Dsx}
use Rattle.code.specs.declared.codes.Arithmetic.{Arithmetic}
use Rattle.code.specs.declared.codes.Arithmetic.TheVariants.{Mpy, Div, Dld, Dst}
use Rattle.code.specs.declared.codes.Bytes.{Bytes}
use Rattle.code.specs.declared.codes.Bytes.TheVariants.{Lbt, Sbt, Mbt, Cbt}
use Rattle.code.specs.declared.codes.Words.{Words}
use Rattle.code.specs.declared.codes.Words.TheVariants.{Cmw, Mvw}
use Rattle.code.specs.declared.instructions.Operation.{Operation}
use Rattle.code.specs.declared.instructions.Instruction.{Instruction}
use Rattle.effects.specs.declared.ways.Taking.{Taking}
use Rattle.effects.specs.declared.ways.Source.{Source}
use Rattle.effects.specs.declared.ways.Addressing.TheVariants.{Plain, Indexed}
use Rattle.effects.specs.declared.ways.Way.{Way}
use Rattle.effects.specs.declared.ways.Way.TheVariants.{Take, Put, LoadDouble, StoreDouble, StepAndSkip, Jump, JumpSaving}
use Rattle.strings.specs.declared.strings.Element.{Element}
use Rattle.rules.specs.declared.actions.Operand.{Operand}
use Rattle.rules.specs.declared.actions.Operand.TheVariants.{Made, Next}
use Rattle.rules.specs.declared.actions.Action.{Action}
use Rattle.rules.specs.declared.actions.Action.TheVariants.{At, CopyToIndex, CopyFromIndex, Exchange, CountUp, CountDown, LoadByte, StoreByte, Move, Compare, Mask}

-- AND JSB XOR JMP IOR ISZ ADA ADB CPA CPB LDA LDB STA STB
abbrev pub memory_way : Operation → Way
memory_way Operation.And = Take Taking.And Execute Plain
memory_way Operation.Jsb = JumpSaving
memory_way Operation.Xor = Take Taking.Xor Execute Plain
memory_way Operation.Jmp = Jump
memory_way Operation.Ior = Take Taking.Ior Execute Plain
memory_way Operation.Isz = StepAndSkip
memory_way Operation.Ada = Take (Taking.Add A) Execute Plain
memory_way Operation.Adb = Take (Taking.Add B) Execute Plain
memory_way Operation.Cpa = Take (Taking.Compare A) Execute Plain
memory_way Operation.Cpb = Take (Taking.Compare B) Execute Plain
memory_way Operation.Lda = Take (Taking.Load A) Execute Plain
memory_way Operation.Ldb = Take (Taking.Load B) Execute Plain
memory_way Operation.Sta = Put (Source.Register A) Execute Plain
memory_way Operation.Stb = Put (Source.Register B) Execute Plain

-- 01, Addresses and chains: "bit 10 set means the page of the instruction, clear means page 0, bit 15 indirect": as an address
-- word, whose bit 15 asks for a level
abbrev pub memory_word : Bool → Bool → ℕ → ℕ → ℕ
memory_word indirect current offset p = weight indirect * 0o100000 + cond current (p / 1024 % 32 * 1024) 0 + offset % 1024

-- DATA1, DATA2
abbrev pub data_map : Data → Map
data_map One = Data1
data_map Two = Data2

-- MPY, DIV, DLD, DST "each with an address word"
abbrev pub arithmetic_way : Arithmetic → Way
arithmetic_way Mpy = Take Taking.Multiply Execute Plain
arithmetic_way Div = Take Taking.Divide Execute Plain
arithmetic_way Dld = LoadDouble
arithmetic_way Dst = StoreDouble

-- the cross codes: "Only the last access uses DATA1 or DATA2."
abbrev pub cross_way : Cross → Register → Data → Way
cross_way Xl g d = Take (Taking.Load g) (data_map d) Plain
cross_way Xs g d = Put (Source.Register g) (data_map d) Plain
cross_way Xc g d = Take (Taking.Compare g) (data_map d) Plain

-- where an instruction finds its address word: it is made from the instruction itself, or is the next word
abbrev pub reached : Operand → Registers → (ℕ → Act) → Act
reached (Made word) r k = follow word k
reached Next r k = operand 1 r k

abbrev pub words_of : Operand → ℕ
words_of (Made word) = 1
words_of Next = 2

abbrev pub transfer_action : Transfer → Register → Index → Action
transfer_action Sax g i = At (Put (Source.Register g) Execute (Indexed i)) Next
transfer_action Cax g i = CopyToIndex g i
transfer_action Lax g i = At (Take (Taking.Load g) Execute (Indexed i)) Next
transfer_action Cxa g i = CopyFromIndex g i
transfer_action Xax g i = Exchange g i

abbrev pub indexing_action : Indexing → Index → Action
indexing_action Stx i = At (Put (Source.Index i) Execute Plain) Next
indexing_action Ldx i = At (Take (Taking.LoadIndex i) Execute Plain) Next
indexing_action Adx i = At (Take (Taking.AddIndex i) Execute Plain) Next
indexing_action Isx i = CountUp i
indexing_action Dsx i = CountDown i

abbrev pub bytes_action : Bytes → Action
bytes_action Lbt = LoadByte
bytes_action Sbt = StoreByte
bytes_action Mbt = Move Element.Byte
bytes_action Cbt = Compare Element.Byte

abbrev pub words_action : Words → Action
words_action Cmw = Compare Element.Word
words_action Mvw = Move Element.Word

abbrev pub extended_action : Extended → Action
extended_action (Extended.Cross x g d) = At (cross_way x g d) Next
extended_action (Extended.Transfer x g i) = transfer_action x g i
extended_action (Extended.Indexing x i) = indexing_action x i
extended_action (Extended.Arithmetic x) = At (arithmetic_way x) Next
extended_action (Extended.Bytes x) = bytes_action x
extended_action (Extended.Bits x) = Mask x
extended_action (Extended.Words x) = words_action x

-- what an instruction at p asks for
abbrev pub action : Instruction → ℕ → Action
action (Instruction.MemoryReference m) p =
    At (memory_way m.operation) (Made (memory_word m.indirect m.current m.offset p))
action (Instruction.ShiftRotate i) p = Action.ShiftRotate i
action (Instruction.AlterSkip i) p = Action.AlterSkip i
action (Instruction.InputOutput io) p = Action.InputOutput io
action (Instruction.LongShift kind n) p = Action.LongShift kind n
action (Instruction.Extended x) p = extended_action x
action (Instruction.NotBuilt w) p = Action.NotBuilt w

-- the accesses of each
abbrev pub act : Action → Registers → Act
act (At way from) r = reached from r (λ m. way_act way r m (words_of from))
act (Action.ShiftRotate i) r = fin (shift_rotated i)
act (Action.AlterSkip i) r = fin (alter_skipped i)
act (Action.InputOutput io) r = io_act io r
act (Action.LongShift kind n) r = fin (long_rotated kind n)
act (CopyToIndex g i) r = fin (copied_to_index g i)
act (CopyFromIndex g i) r = fin (copied_from_index g i)
act (Exchange g i) r = fin (exchanged g i)
act (CountUp i) r = fin (index_stepped i (incremented (in_index i r)).word)
act (CountDown i) r = fin (index_stepped i (decremented (in_index i r)).word)
act LoadByte r = byte_loaded r
act StoreByte r = byte_stored r
act (Move u) r = move_act u r
act (Compare u) r = compare_act u r
act (Mask x) r = mask_act x r
-- 01, Violation: "codes 105700 to 105711 are violations. With protection off .. 105700 to 105711 reply 6."
act (Action.NotBuilt w) r = cond (protecting r.wmap && privileged w) violate (stop Refusal.NotBuilt)

-- how many words the instruction of each has; that the table of the codes has the same is in proofs/Lengths.antt
abbrev pub action_words : Action → ℕ
action_words (At way from) = words_of from
action_words (Action.ShiftRotate i) = 1
action_words (Action.AlterSkip i) = 1
action_words (Action.InputOutput io) = 1
action_words (Action.LongShift kind n) = 1
action_words (CopyToIndex g i) = 1
action_words (CopyFromIndex g i) = 1
action_words (Exchange g i) = 1
action_words (CountUp i) = 1
action_words (CountDown i) = 1
action_words LoadByte = 1
action_words StoreByte = 1
action_words (Move u) = 3
action_words (Compare u) = 3
action_words (Mask x) = 3
action_words (Action.NotBuilt w) = 1

-- JMP and JSB alone leave P elsewhere than past these words, or past one or two words more: proofs/Lengths.antt
abbrev pub jumps : Way → Bool
jumps (Take t map x) = false
jumps (Put s map x) = false
jumps LoadDouble = false
jumps StoreDouble = false
jumps StepAndSkip = false
jumps Jump = true
jumps JumpSaving = true

abbrev pub jumping : Action → Bool
jumping (At way from) = jumps way
jumping (Action.ShiftRotate i) = false
jumping (Action.AlterSkip i) = false
jumping (Action.InputOutput io) = false
jumping (Action.LongShift kind n) = false
jumping (CopyToIndex g i) = false
jumping (CopyFromIndex g i) = false
jumping (Exchange g i) = false
jumping (CountUp i) = false
jumping (CountDown i) = false
jumping LoadByte = false
jumping StoreByte = false
jumping (Move u) = false
jumping (Compare u) = false
jumping (Mask x) = false
jumping (Action.NotBuilt w) = false

abbrev pub rule : Instruction → Registers → Act
rule i r = act (action i r.p) r

-- 01: "The next step executes the word at Execute address 7, as an instruction on page 0, without moving P. JSB stores P itself
-- as the return address. The trap is then 0." A cell that "holds neither JMP nor JSB" replies 7.
abbrev pub holds : Operation → ℕ → Bool
holds operation word = eqb (word / 0o4000 % 16 * 0o4000) (operation_code operation)

unfoldable pub trap_rule : ℕ → Registers → Act
trap_rule w r =
    let word : ℕ = memory_word (bit 15 w) (bit 10 w) (w % 0o2000) 0 in
    cond (holds Operation.Jmp w) (follow word (λ m. fin (λ s. with_trap (with_p s m) 0)))
    (cond (holds Operation.Jsb w) (follow word (λ m. save Execute m r.p (fin (λ s. with_trap (with_p s (address m 1)) 0))))
    (stop Refusal.TrapCell))

-- 01, "Order inside a step: fetch; with a trap waiting, the cell's kind (7); .."
abbrev pub step_act : Registers → Act
step_act r = cond (eqb r.trap 0) (load Execute r.p (λ w. rule (reading w) r)) (load Execute r.trap (λ w. trap_rule w r))
