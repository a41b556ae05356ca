-- The extended codes, 01 "Instructions built":
--     rows          the table of code, length and kind, by rising code
--     find_word     the row of a word, if one has it
--     find_kind     the row of a kind
--     length_of     how many words an exact code takes
--     privileged    105700 to 105711, known to the privilege test and not built
-- What the words of the other groups mean is in Instructions.
-- Assumes nothing.
use Rattle.std.specs.Prelude.{ℕ, ◌/◌, Bool, false, cond, List, [], ◌∷◌, Option, Some, None, eqb, leb}
use Rattle.std.specs.List.{find}
use Rattle.word.specs.declared.long.LongShift.TheVariants.{Asl, Lsl, Rrl, Asr, Lsr, Rrr}
use Rattle.code.specs.declared.codes.Register.TheVariants.{A, B}
use Rattle.code.specs.declared.codes.Index.TheVariants.{X, Y}
use Rattle.code.specs.declared.codes.Data.TheVariants.{One, Two}
use Rattle.code.specs.declared.codes.Cross.TheVariants.{Xl, Xs, Xc}
use Rattle.code.specs.declared.codes.Transfer.TheVariants.{Sax, Cax, Lax, Cxa, Xax}
use Rattle.code.specs.declared.codes.Indexing.TheVariants.{Stx, Ldx, Adx, Isx, Dsx}
use Rattle.code.specs.declared.codes.Arithmetic.TheVariants.{Mpy, Div, Dld, Dst}
use Rattle.code.specs.declared.codes.Bytes.TheVariants.{Lbt, Sbt, Mbt, Cbt}
use Rattle.code.specs.declared.codes.Bits.TheVariants.{Sbs, Cbs, Tbs}
use Rattle.code.specs.declared.codes.Words.TheVariants.{Cmw, Mvw}
use Rattle.code.specs.declared.codes.Extended.{Extended}
use Rattle.code.specs.declared.codes.Extended.TheVariants.{Cross, Transfer, Indexing, Arithmetic, Bytes, Bits, Words}
use Rattle.code.specs.declared.codes.Kind.{Kind}
use Rattle.code.specs.declared.codes.Kind.TheVariants.{Exact, Long}
use Rattle.code.specs.declared.codes.Entry.{Entry}
use Rattle.code.specs.Kinds.{same}

abbrev pub row : ℕ → ℕ → Kind → Entry
row code length kind = record { code = code; length = length; kind = kind }

-- "The extended codes stand in one table of code, length and kind."
unfoldable pub rows : List Entry
rows =
    row 0o100020 1 (Long Asl)
    ∷ row 0o100040 1 (Long Lsl)
    ∷ row 0o100100 1 (Long Rrl)
    ∷ row 0o100200 2 (Exact (Arithmetic Mpy))
    ∷ row 0o100400 2 (Exact (Arithmetic Div))
    ∷ row 0o101020 1 (Long Asr)
    ∷ row 0o101040 1 (Long Lsr)
    ∷ row 0o101100 1 (Long Rrr)
    ∷ row 0o101721 2 (Exact (Cross Xl A Two))
    ∷ row 0o101722 2 (Exact (Cross Xs A Two))
    ∷ row 0o101723 2 (Exact (Cross Xc A Two))
    ∷ row 0o101724 2 (Exact (Cross Xl A One))
    ∷ row 0o101725 2 (Exact (Cross Xs A One))
    ∷ row 0o101726 2 (Exact (Cross Xc A One))
    ∷ row 0o101740 2 (Exact (Transfer Sax A X))
    ∷ row 0o101741 1 (Exact (Transfer Cax A X))
    ∷ row 0o101742 2 (Exact (Transfer Lax A X))
    ∷ row 0o101744 1 (Exact (Transfer Cxa A X))
    ∷ row 0o101747 1 (Exact (Transfer Xax A X))
    ∷ row 0o101750 2 (Exact (Transfer Sax A Y))
    ∷ row 0o101751 1 (Exact (Transfer Cax A Y))
    ∷ row 0o101752 2 (Exact (Transfer Lax A Y))
    ∷ row 0o101754 1 (Exact (Transfer Cxa A Y))
    ∷ row 0o101757 1 (Exact (Transfer Xax A Y))
    ∷ row 0o104200 2 (Exact (Arithmetic Dld))
    ∷ row 0o104400 2 (Exact (Arithmetic Dst))
    ∷ row 0o105721 2 (Exact (Cross Xl B Two))
    ∷ row 0o105722 2 (Exact (Cross Xs B Two))
    ∷ row 0o105723 2 (Exact (Cross Xc B Two))
    ∷ row 0o105724 2 (Exact (Cross Xl B One))
    ∷ row 0o105725 2 (Exact (Cross Xs B One))
    ∷ row 0o105726 2 (Exact (Cross Xc B One))
    ∷ row 0o105740 2 (Exact (Transfer Sax B X))
    ∷ row 0o105741 1 (Exact (Transfer Cax B X))
    ∷ row 0o105742 2 (Exact (Transfer Lax B X))
    ∷ row 0o105743 2 (Exact (Indexing Stx X))
    ∷ row 0o105744 1 (Exact (Transfer Cxa B X))
    ∷ row 0o105745 2 (Exact (Indexing Ldx X))
    ∷ row 0o105746 2 (Exact (Indexing Adx X))
    ∷ row 0o105747 1 (Exact (Transfer Xax B X))
    ∷ row 0o105750 2 (Exact (Transfer Sax B Y))
    ∷ row 0o105751 1 (Exact (Transfer Cax B Y))
    ∷ row 0o105752 2 (Exact (Transfer Lax B Y))
    ∷ row 0o105753 2 (Exact (Indexing Stx Y))
    ∷ row 0o105754 1 (Exact (Transfer Cxa B Y))
    ∷ row 0o105755 2 (Exact (Indexing Ldx Y))
    ∷ row 0o105756 2 (Exact (Indexing Adx Y))
    ∷ row 0o105757 1 (Exact (Transfer Xax B Y))
    ∷ row 0o105760 1 (Exact (Indexing Isx X))
    ∷ row 0o105761 1 (Exact (Indexing Dsx X))
    ∷ row 0o105763 1 (Exact (Bytes Lbt))
    ∷ row 0o105764 1 (Exact (Bytes Sbt))
    ∷ row 0o105765 3 (Exact (Bytes Mbt))
    ∷ row 0o105766 3 (Exact (Bytes Cbt))
    ∷ row 0o105770 1 (Exact (Indexing Isx Y))
    ∷ row 0o105771 1 (Exact (Indexing Dsx Y))
    ∷ row 0o105773 3 (Exact (Bits Sbs))
    ∷ row 0o105774 3 (Exact (Bits Cbs))
    ∷ row 0o105775 3 (Exact (Bits Tbs))
    ∷ row 0o105776 3 (Exact (Words Cmw))
    ∷ row 0o105777 3 (Exact (Words Mvw))
    ∷ []

-- "An extended code is its exact word, a long shift's low four bits aside."
abbrev pub covers : ℕ → Entry → Bool
covers word e = elim e.kind [ Exact _ ↦ eqb word e.code | Long _ ↦ eqb (word / 16) (e.code / 16) ]

unfoldable pub find_word : ℕ → Option Entry
find_word word = find (covers word) rows

unfoldable pub find_kind : Kind → Option Entry
find_kind kind = find (λ e. same e.kind kind) rows

unfoldable pub length_of : Extended → ℕ
length_of extended = elim (find_kind (Exact extended)) [ Some e ↦ e.length | None ↦ 0 ]

abbrev pub privileged : ℕ → Bool
privileged word = cond (leb 0o105700 word) (leb word 0o105711) false
