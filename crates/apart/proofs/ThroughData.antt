-- Examples where a page is open through DATA1 alone, and through DATA2 alone. Execute is map 0, DATA1 map 1, DATA2 map 2. Of
-- three pages of memory the first has a program, the second is named by one of the data maps alone and holds z, the third is
-- named by Execute alone, closed to reading and open to storing, and holds any x.
--     pages, memory, start      the machine
--     example                   the theorem applied to two that differ on the third page
--     ended                     the run by computation: a cross load takes z, and stores it on the third page
--     differs                   so what the second page holds is seen, and has to agree
-- Assumes nothing.
use Prim.Native.Nat.{ℕ, ◌<◌, ◌/◌}
use native.Mathlib.Omega.{arith}
use mathlib.Core.Path.{◌≡◌, refl, sym, ◌∙◌}
use mathlib.Core.Bool.{Bool, true, false, ◌||◌}
use mathlib.Core.List.{List, ◌∷◌, ◌++◌}
use lib.Dec.{T, ltb, ltb→lt}
use lib.ListN.{length, replicate, get_or-append}
use Rattle.maps.specs.Pages.{physical_page, read_protected, page_register, is_open, presence, spot, place}
use Rattle.maps.specs.Access.{fetched}
use Rattle.maps.specs.Chains.{chased, chain}
use Rattle.maps.specs.Open.{Agree}
use Rattle.maps.specs.declared.pages.Map.{Map}
use Rattle.maps.specs.declared.pages.Map.TheVariants.{Execute, Data1, Data2}
use Rattle.code.specs.Codes.{rows, find_word}
use Rattle.code.specs.Instructions.{memory_reference, input_output, extended, reading}
use Rattle.code.specs.declared.codes.Data.{Data}
use Rattle.code.specs.declared.codes.Data.TheVariants.{One, Two}
use Rattle.code.proofs.Digits.{below, under}
use Rattle.code.proofs.Truth.{is_true}
use Rattle.acts.specs.Record.{with_a, with_p, interrupted}
use Rattle.acts.specs.Acts.{exec}
use Rattle.effects.specs.Group.{io_act, panel_act}
use Rattle.machine.specs.Step.{stepped, ending, running, ran}
use Rattle.acts.specs.declared.record.Registers.{Registers}
use Rattle.acts.specs.declared.replies.Reply.{Reply}
use Rattle.apart.specs.Alike.{Apart}
use Rattle.apart.proofs.Apart.{run_apart}
use Rattle.apart.proofs.Examples as plain

-- register 1 of map 0, of map 1 and of map 2; every other names the first page
abbrev table : ℕ → ℕ → ℕ → List ℕ
table execute data1 data2 = 0 ∷ execute ∷ (replicate 30 0 ++ (0 ∷ data1 ∷ (replicate 30 0 ++ (0 ∷ data2 ∷ replicate 958 0))))

abbrev pages : Data → List ℕ
pages One = table 0o100002 1 0
pages Two = table 0o100002 0 1

-- XLA1, XLA2
abbrev code : Data → ℕ
code One = 0o101724
code Two = 0o101721

-- the cross load of 2000; STA 103,I, where 103 holds 2000; HLT
abbrev program : Data → List ℕ
program d = 0 ∷ 0 ∷ code d ∷ 0o2000 ∷ 0o170103 ∷ 0o102000 ∷ (replicate 61 0 ++ (0o2000 ∷ replicate 956 0))

abbrev seen : Data → ℕ → List ℕ
seen d z = program d ++ replicate 1024 z

abbrev memory : Data → ℕ → ℕ → List ℕ
memory d z x = seen d z ++ replicate 1024 x

abbrev start : Registers
start = plain.start 0o104040

-- a page register leaves its page closed to reading, or names one of the first two
abbrev first_two : ℕ → Bool
first_two register = read_protected register || ltb (physical_page register) 2

tested : (d : Data) (map : Map) → T (below (λ n. first_two (page_register (pages d) 0o104040 map n)) 32)
tested One Execute = tt
tested One Data1 = tt
tested One Data2 = tt
tested Two Execute = tt
tested Two Data1 = tt
tested Two Data2 = tt

open_first : (register page : ℕ) → first_two register ≡ true → read_protected register ≡ false → physical_page register ≡ page → page < 2
open_first register page t o e = ltb→lt page 2 (is_true (rw (o, e) at t))

first : (d : Data) (z index : ℕ) → index / 1024 < 2 → index < length (seen d z)
first One z index f = omega arith
first Two z index f = omega arith

lengths : (d : Data) (z x y : ℕ) → length (memory d z x) ≡ length (memory d z y)
lengths One z x y = refl
lengths Two z x y = refl

agree : (d : Data) (z x y : ℕ) → Agree (pages d) 0o104040 (memory d z x) (memory d z y)
agree d z x y =
    record {
      lengths = lengths d z x y;
      words = λ index o.
          let f = open_first _ _ (under (λ n. first_two (page_register (pages d) 0o104040 o.map n)) 32 (tested d o.map) o.logical o.within) o.leaves o.names in
          get_or-append (seen d z) (replicate 1024 x) 0 index (first d z index f) ∙ sym (get_or-append (seen d z) (replicate 1024 y) 0 index (first d z index f));
    }

pub example : (d : Data) (z x y budget : ℕ) → Apart (pages d) 0o104040 (memory d z x) (memory d z y)
    (ran (pages d) budget start (memory d z x)).ran (ran (pages d) budget start (memory d z y)).ran
    (ran (pages d) budget start (memory d z x)).memory (ran (pages d) budget start (memory d z y)).memory
example d z x y budget =
    run_apart (pages d) (pages d) start start (memory d z x) (memory d z y)
    (record { registers = refl; maps = refl; protected = refl; opens = agree d z x y }) budget

pub ended : (d : Data) (z x : ℕ) → ran (pages d) 10 start (memory d z x)
    ≡ ending Reply.Violation 3 (interrupted (with_p (with_a start z) 5)) (seen d z ++ (z ∷ replicate 1023 x))
unfolding ran running stepped exec reading memory_reference input_output extended find_word rows fetched chain chased place is_open presence spot io_act panel_act
ended One z x = refl
ended Two z x = refl

pub differs : (d : Data) (z x : ℕ) → (ran (pages d) 1 start (memory d z x)).ran.registers.a ≡ z
unfolding ran running stepped exec reading memory_reference input_output extended find_word rows fetched chain chased place is_open presence spot
differs One z x = refl
differs Two z x = refl
