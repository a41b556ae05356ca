-- C12 of 01 on the definitions, by computation: a word that a move stored is read again. Assumes nothing.
use Rattle.std.proofs.Common.{◌≡◌, ℕ, List, [], ◌∷◌, ◌++◌, replicate, refl}
use Rattle.maps.specs.declared.pages.Map.{Map}
use Rattle.acts.specs.Record.{with_a, with_b, with_p, fresh}
use Rattle.acts.specs.Acts.{fin, done, exec}
use Rattle.strings.specs.Strings.{touches, opens_all, present_all, moving, moved, past_ranges}
use Rattle.acts.specs.declared.record.Registers.{Registers}
use Rattle.strings.specs.declared.moves.Move.{Move}
use Rattle.strings.specs.declared.strings.Element.{Element}
use Rattle.maps.specs.Pages.{is_open, presence, spot, place}
use Rattle.maps.specs.Access.{fetched}

-- one page of memory with four words from 100 on
abbrev holding : ℕ → ℕ → ℕ → ℕ → List ℕ
holding v w x y = replicate 0o100 0 ++ (v ∷ w ∷ x ∷ y ∷ replicate 956 0)

abbrev start : Registers
start = with_b (with_a fresh 0o100) 0o101

abbrev job : Move
job = record { element = Element.Word; from = Map.Execute; to = Map.Execute; source = 0o100; target = 0o101; count = 3 }

-- "MVW, A 100, B 101, count 3, words 100 to 103 holding 7, 1, 2, 3: all 7; A 103, B 104"
pub c12 : exec (0 ∷ []) (moved job (fin (past_ranges job))) start (holding 7 1 2 3)
    ≡ done (with_p (with_b (with_a start 0o103) 0o104) 5) (holding 7 7 7 7)
unfolding exec touches opens_all present_all moving is_open presence spot place fetched
c12 = refl
