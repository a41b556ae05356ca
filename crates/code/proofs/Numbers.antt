-- From a number to its kind, by the parts that specs/Kinds makes it of: the choices in their order, and past them the last.
--     kind_of      the kind of a group, an operation, a register and an index register or map
--     kind_at      the kind at a number
--     at_number    each kind is the one at its number
-- Assumes nothing.
use Rattle.std.proofs.Common.{◌≡◌, ℕ, ◌/◌, ◌%◌, Bool, true, [], ◌∷◌, get_or, T, eqb-true}
use Rattle.word.specs.declared.long.LongShift.{LongShift}
use Rattle.word.specs.declared.long.LongShift.TheVariants.{Asl, Lsl, Rrl, Asr, Lsr, Rrr}
use Rattle.code.specs.declared.codes.Index.{Index}
use Rattle.code.specs.declared.codes.Index.TheVariants.{X, Y}
use Rattle.code.specs.declared.codes.Data.{Data}
use Rattle.code.specs.declared.codes.Data.TheVariants.{One, Two}
use Rattle.code.specs.declared.codes.Cross as enum_cross
use Rattle.code.specs.declared.codes.Cross.TheVariants.{Xl, Xs, Xc}
use Rattle.code.specs.declared.codes.Transfer as enum_transfer
use Rattle.code.specs.declared.codes.Transfer.TheVariants.{Sax, Cax, Lax, Cxa, Xax}
use Rattle.code.specs.declared.codes.Indexing as enum_indexing
use Rattle.code.specs.declared.codes.Indexing.TheVariants.{Stx, Ldx, Adx, Isx, Dsx}
use Rattle.code.specs.declared.codes.Arithmetic as enum_arithmetic
use Rattle.code.specs.declared.codes.Arithmetic.TheVariants.{Mpy, Div, Dld, Dst}
use Rattle.code.specs.declared.codes.Bytes as enum_bytes
use Rattle.code.specs.declared.codes.Bytes.TheVariants.{Lbt, Sbt, Mbt, Cbt}
use Rattle.code.specs.declared.codes.Bits as enum_bits
use Rattle.code.specs.declared.codes.Bits.TheVariants.{Sbs, Cbs, Tbs}
use Rattle.code.specs.declared.codes.Words as enum_words
use Rattle.code.specs.declared.codes.Words.TheVariants.{Cmw, Mvw}
use Rattle.code.specs.declared.codes.Extended.TheVariants.{Cross, Transfer, Indexing, Arithmetic, Bytes, Bits, Words}
use Rattle.code.specs.declared.codes.Kind.{Kind}
use Rattle.code.specs.declared.codes.Kind.TheVariants.{Exact, Long}
use Rattle.code.specs.declared.codes.Entry.{Entry}
use Rattle.code.specs.Kinds.{number, same, register_at}
use Rattle.code.specs.Codes.{rows}
use Rattle.code.proofs.Search.{every}
use Rattle.code.proofs.Table.{once, in_table}

abbrev pub index_at : ℕ → Index
index_at n = get_or (X ∷ []) n Y

abbrev pub data_at : ℕ → Data
data_at n = get_or (One ∷ []) n Two

abbrev pub cross_at : ℕ → enum_cross.Cross
cross_at n = get_or (Xl ∷ Xs ∷ []) n Xc

abbrev pub transfer_at : ℕ → enum_transfer.Transfer
transfer_at n = get_or (Sax ∷ Cax ∷ Lax ∷ Cxa ∷ []) n Xax

abbrev pub indexing_at : ℕ → enum_indexing.Indexing
indexing_at n = get_or (Stx ∷ Ldx ∷ Adx ∷ Isx ∷ []) n Dsx

abbrev pub arithmetic_at : ℕ → enum_arithmetic.Arithmetic
arithmetic_at n = get_or (Mpy ∷ Div ∷ Dld ∷ []) n Dst

abbrev pub bytes_at : ℕ → enum_bytes.Bytes
bytes_at n = get_or (Lbt ∷ Sbt ∷ Mbt ∷ []) n Cbt

abbrev pub bits_at : ℕ → enum_bits.Bits
bits_at n = get_or (Sbs ∷ Cbs ∷ []) n Tbs

abbrev pub words_at : ℕ → enum_words.Words
words_at n = get_or (Cmw ∷ []) n Mvw

abbrev pub long_at : ℕ → LongShift
long_at n = get_or (Asl ∷ Lsl ∷ Rrl ∷ Asr ∷ Lsr ∷ []) n Rrr

-- of a group, an operation, a register and an index register or map
abbrev pub kind_of : ℕ → ℕ → ℕ → ℕ → Kind
kind_of group operation register index =
    get_or
    (Exact (Cross (cross_at operation) (register_at register) (data_at index))
    ∷ Exact (Transfer (transfer_at operation) (register_at register) (index_at index))
    ∷ Exact (Indexing (indexing_at operation) (index_at index))
    ∷ Exact (Arithmetic (arithmetic_at operation))
    ∷ Exact (Bytes (bytes_at operation))
    ∷ Exact (Bits (bits_at operation))
    ∷ Exact (Words (words_at operation))
    ∷ []) group (Long (long_at operation))

abbrev pub kind_at : ℕ → Kind
kind_at n = kind_of (n / 64) (n / 4 % 16) (n / 2 % 2) (n % 2)

-- the kind at a row's number is the row's: a test of each row

abbrev numbered : Entry → Bool
numbered e = same (kind_at (number e.kind)) e.kind

all_numbered : T (every numbered rows)
unfolding rows
all_numbered = tt

numbered_kind : (e : Entry) → numbered e ≡ true → kind_at (number e.kind) ≡ e.kind
numbered_kind e h = once (kind_at (number e.kind)) e.kind (eqb-true (number (kind_at (number e.kind))) (number e.kind) h)

pub at_number : (k : Kind) → kind_at (number k) ≡ k
at_number k = let r = in_table numbered all_numbered k in rw r.2 at (numbered_kind r.0 r.3)
