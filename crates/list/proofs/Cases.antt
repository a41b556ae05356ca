-- Listings worked out by hand, against the definitions by computation: two images, as words, and what they print.
--     example          01's image
--     flags            that of the program `listing_flags`: E and O different, a count of three digits, bit 15 of A set
--     prints           what both print
--     other_lengths    what an input of another length prints
-- Assumes nothing.
use Prim.Native.Nat.{ℕ, ◌/◌, ◌%◌}
use mathlib.Core.Path.{◌≡◌, refl}
use mathlib.Core.Bool.{false}
use mathlib.Core.List.{List, [], ◌∷◌, ◌++◌}
use lib.ListN.{length, replicate}
use Rattle.word.specs.Sums.{sum}
use Rattle.maps.specs.Pages.{is_open, presence, spot, place}
use Rattle.maps.specs.Access.{fetched}
use Rattle.maps.specs.Chains.{chased, chain}
use Rattle.code.specs.Instructions.{memory_reference, alter_skip, input_output, reading}
use Rattle.effects.specs.Group.{alter_skips, alter_ended, alter_skipped, io_act}
use Rattle.acts.specs.Acts.{exec}
use Rattle.machine.specs.Step.{stepped, running, ran}
use Rattle.list.specs.Image.{tabulated, is_whole}
use Rattle.list.specs.Text.{quoted, digits_within}
use Rattle.list.specs.Line.{line_of, listing}

abbrev pub bytes_of : List ℕ → List ℕ
bytes_of [] = []
bytes_of (w ∷ l) = w / 256 ∷ w % 256 ∷ bytes_of l

-- "Input all zero but word 2 = 060005, 3 = 002004, 4 = 102077, 5 = 000051"
abbrev pub example : List ℕ
example = bytes_of (replicate 2 0 ++ (0o060005 ∷ 0o002004 ∷ 0o102077 ∷ 0o000051 ∷ []) ++ replicate 1018 0)

-- words 2 to 7, 100 to 103 and 1234
abbrev pub flags : List ℕ
flags =
    bytes_of
    (replicate 2 0
    ++ (0o060100 ∷ 0o040101 ∷ 0o064102 ∷ 0o034103 ∷ 0o024005 ∷ 0o025234 ∷ [])
    ++ replicate 56 0
    ++ (0o045670 ∷ 0o055566 ∷ 0o076543 ∷ 0o177676 ∷ [])
    ++ replicate 600 0
    ++ (0o102000 ∷ [])
    ++ replicate 355 0)

-- "prints exactly"
pub prints : (listing example ≡ quoted "answer steps P A B E O\n2 2 000004 000052 000000 0 0\n")
    × (listing flags ≡ quoted "answer steps P A B E O\n2 135 001234 123456 076543 0 1\n")
unfolding listing line_of digits_within tabulated ran running stepped exec fetched place is_open presence spot chain chased reading memory_reference alter_skip input_output sum alter_skipped alter_skips alter_ended io_act
prints = (refl, refl)

-- "Other lengths print the header and 8 0 000002 000000 000000 0 0"
pub other_lengths : (bytes : List ℕ) → is_whole (length bytes) ≡ false
    → listing bytes ≡ quoted "answer steps P A B E O\n8 0 000002 000000 000000 0 0\n"
unfolding listing line_of digits_within
other_lengths bytes h = rw h refl
