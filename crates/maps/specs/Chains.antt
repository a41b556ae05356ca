-- Indirect chains.
--     going_on, chased         where an address word leads, over any way to read a word
--     execute_word, chain      the same in the Execute map
-- The first trouble met decides: a closed or an absent word ends the chain. A and B in a chain are the words that they hold.
-- Assumes nothing.
use Rattle.std.specs.Prelude.{ℕ, zero, suc, ◌%◌, true, false, cond, List}
use Rattle.word.specs.Words.{bit}
use Rattle.maps.specs.Access.{fetched}
use Rattle.maps.specs.declared.pages.Map.{Map}
use Rattle.maps.specs.declared.troubles.Trouble.{Trouble}
use Rattle.std.specs.Prelude.{Result, Ok, Err}

-- 01: "An indirect word gives a 15-bit address, and its bit 15 asks for one more level."
-- `read` is the word at an address, `left` how many words more may be read.
abbrev pub going_on : Result ℕ Trouble → (ℕ → Result ℕ Trouble) → Result ℕ Trouble
going_on (Ok next) from = from next
going_on (Err trouble) from = Err trouble

unfoldable pub chased : (ℕ → Result ℕ Trouble) → ℕ → ℕ → Result ℕ Trouble
chased read zero word = cond (bit 15 word) (Err Trouble.Endless) (Ok (word % 0o100000))
chased read (suc left) word =
    elim (bit 15 word) [
      | true ↦ going_on (read word) (chased read left)
      | false ↦ Ok (word % 0o100000)
    ]

-- 01: "A chain whose first 32,768 words all ask for more never ends. All chains go through the Execute map."
abbrev pub execute_word : List ℕ → List ℕ → ℕ → ℕ → ℕ → ℕ → Result ℕ Trouble
execute_word pages memory wmap a b address = fetched pages memory wmap Map.Execute address a b

unfoldable pub chain : List ℕ → List ℕ → ℕ → ℕ → ℕ → ℕ → Result ℕ Trouble
chain pages memory wmap word a b = chased (execute_word pages memory wmap a b) 32768 word
