-- The kinds of an extended code, and when two are the same. A kind has a number, made of small numbers,
--     group * 64 + operation * 4 + register * 2 + index register or map
-- so one more operation of a group, of which there is room for 16, moves no other number:
--     number                   of a kind
--     same                     whether two kinds are the same, told by their numbers
--     registers, register_at   A and B in their order, and the register at a number
-- That no two kinds have the same number is in proofs/Table.antt, the way back in Numbers.antt. The table is in Codes. Assumes nothing.
use Rattle.std.specs.Prelude.{ℕ, ◌+◌, Bool, List, [], ◌∷◌, eqb, get_or}
use Rattle.word.specs.declared.long.LongShift.{LongShift}
use Rattle.word.specs.declared.long.LongShift.TheVariants.{Asl, Lsl, Rrl, Asr, Lsr, Rrr}
use Rattle.code.specs.declared.codes.Register.{Register}
use Rattle.code.specs.declared.codes.Register.TheVariants.{A, B}
use Rattle.code.specs.declared.codes.Index.{Index}
use Rattle.code.specs.declared.codes.Index.TheVariants.{X, Y}
use Rattle.code.specs.declared.codes.Data.{Data}
use Rattle.code.specs.declared.codes.Data.TheVariants.{One, Two}
use Rattle.code.specs.declared.codes.Cross as enum_cross
use Rattle.code.specs.declared.codes.Cross.TheVariants.{Xl, Xs, Xc}
use Rattle.code.specs.declared.codes.Transfer as enum_transfer
use Rattle.code.specs.declared.codes.Transfer.TheVariants.{Sax, Cax, Lax, Cxa, Xax}
use Rattle.code.specs.declared.codes.Indexing as enum_indexing
use Rattle.code.specs.declared.codes.Indexing.TheVariants.{Stx, Ldx, Adx, Isx, Dsx}
use Rattle.code.specs.declared.codes.Arithmetic as enum_arithmetic
use Rattle.code.specs.declared.codes.Arithmetic.TheVariants.{Mpy, Div, Dld, Dst}
use Rattle.code.specs.declared.codes.Bytes as enum_bytes
use Rattle.code.specs.declared.codes.Bytes.TheVariants.{Lbt, Sbt, Mbt, Cbt}
use Rattle.code.specs.declared.codes.Bits as enum_bits
use Rattle.code.specs.declared.codes.Bits.TheVariants.{Sbs, Cbs, Tbs}
use Rattle.code.specs.declared.codes.Words as enum_words
use Rattle.code.specs.declared.codes.Words.TheVariants.{Cmw, Mvw}
use Rattle.code.specs.declared.codes.Extended.{Extended}
use Rattle.code.specs.declared.codes.Extended.TheVariants.{Cross, Transfer, Indexing, Arithmetic, Bytes, Bits, Words}
use Rattle.code.specs.declared.codes.Kind.{Kind}
use Rattle.code.specs.declared.codes.Kind.TheVariants.{Exact, Long}

abbrev pub register_number : Register → ℕ
register_number A = 0
register_number B = 2

abbrev pub index_number : Index → ℕ
index_number X = 0
index_number Y = 1

abbrev pub data_number : Data → ℕ
data_number One = 0
data_number Two = 1

abbrev pub cross_number : enum_cross.Cross → ℕ
cross_number Xl = 0o000
cross_number Xs = 0o004
cross_number Xc = 0o010

abbrev pub transfer_number : enum_transfer.Transfer → ℕ
transfer_number Sax = 0o100
transfer_number Cax = 0o104
transfer_number Lax = 0o110
transfer_number Cxa = 0o114
transfer_number Xax = 0o120

abbrev pub indexing_number : enum_indexing.Indexing → ℕ
indexing_number Stx = 0o200
indexing_number Ldx = 0o204
indexing_number Adx = 0o210
indexing_number Isx = 0o214
indexing_number Dsx = 0o220

abbrev pub arithmetic_number : enum_arithmetic.Arithmetic → ℕ
arithmetic_number Mpy = 0o300
arithmetic_number Div = 0o304
arithmetic_number Dld = 0o310
arithmetic_number Dst = 0o314

abbrev pub bytes_number : enum_bytes.Bytes → ℕ
bytes_number Lbt = 0o400
bytes_number Sbt = 0o404
bytes_number Mbt = 0o410
bytes_number Cbt = 0o414

abbrev pub bits_number : enum_bits.Bits → ℕ
bits_number Sbs = 0o500
bits_number Cbs = 0o504
bits_number Tbs = 0o510

abbrev pub words_number : enum_words.Words → ℕ
words_number Cmw = 0o600
words_number Mvw = 0o604

abbrev pub long_number : LongShift → ℕ
long_number Asl = 0o700
long_number Lsl = 0o704
long_number Rrl = 0o710
long_number Asr = 0o714
long_number Lsr = 0o720
long_number Rrr = 0o724

abbrev pub extended_number : Extended → ℕ
extended_number (Cross o r d) = cross_number o + register_number r + data_number d
extended_number (Transfer o r x) = transfer_number o + register_number r + index_number x
extended_number (Indexing o x) = indexing_number o + index_number x
extended_number (Arithmetic o) = arithmetic_number o
extended_number (Bytes o) = bytes_number o
extended_number (Bits o) = bits_number o
extended_number (Words o) = words_number o

abbrev pub number : Kind → ℕ
number (Exact e) = extended_number e
number (Long s) = long_number s

abbrev pub same : Kind → Kind → Bool
same j k = eqb (number j) (number k)

-- The registers in their order; past the last it is the last.

abbrev pub registers : List Register
registers = A ∷ B ∷ []

abbrev pub register_at : ℕ → Register
register_at n = get_or registers n B
