-- A listing's image, page registers and run: 01, "The listing program".
--     tabulated            f at 0, 1, .. below n
--     image_word, image    the words of bytes
--     page_names           the page registers
--     is_whole, listed     which lengths are run, and what is printed
-- Assumes nothing.
use Rattle.std.specs.Prelude.{ℕ, ◌+◌, ◌*◌, ◌/◌, ◌%◌, Bool, cond, ◌&&◌, List, eqb, leb, length, get_or, map}
use Rattle.std.specs.List.{range_with_len}
use Rattle.acts.specs.Record.{fresh}
use Rattle.machine.specs.Step.{ran}
use Rattle.acts.specs.declared.replies.Reply.{Reply}
use Rattle.acts.specs.declared.replies.Ran.{Ran}

unfoldable pub tabulated : (ℕ → ℕ) → ℕ → List ℕ
tabulated f n = map f (range_with_len 0 n)

-- "high byte first"
abbrev pub image_word : List ℕ → ℕ → ℕ
image_word bytes i = get_or bytes (2 * i) 0 * 256 + get_or bytes (2 * i + 1) 0

abbrev pub image : List ℕ → List ℕ
image bytes = tabulated (image_word bytes) (length bytes / 2)

-- "every map names page n for page n, unprotected"
abbrev pub page_name : ℕ → ℕ
page_name i = i % 32

abbrev pub page_names : List ℕ
page_names = tabulated page_name 1024

-- "1 to 8 whole pages"
abbrev pub is_whole : ℕ → Bool
is_whole bytes = eqb (bytes % 2048) 0 && leb 2048 bytes && leb bytes 16384

-- "fresh record, budget 1,000"; "Other lengths print the header and 8 0 000002 000000 000000 0 0"
abbrev pub listed : List ℕ → Ran
listed bytes =
    cond (is_whole (length bytes)) (ran page_names 1000 fresh (image bytes)).ran
    (record { reply = Reply.BadCall; count = 0; registers = fresh })
