-- Bytes of text.
--     Appends           one text is another with given bytes at its end, if there is room for them
--     quoted            the bytes of a quotation, in ASCII
--     decimal_digits    a number in decimal without leading zeros, in ASCII
-- Assumes nothing.
use Rattle.std.specs.Prelude.{◌≡◌, ℕ, zero, suc, ◌+◌, ◌/◌, ◌%◌, ◌≤◌, cond, List, [], ◌∷◌, ◌++◌, ltb, length}
use Rattle.std.specs.Fmt.InlineText.{inline_text}
use Rattle.std.specs.declared.fmt.InlineText.{InlineText}
use Prim.Native.Char.{code}
use Prim.Native.String.{String, [] as []ᶜ, ◌∷◌ as ◌∷ᶜ◌}

-- u is t with l at its end
pub record Appends (t : InlineText 80) (l : List ℕ) (u : InlineText 80) : Type 0 where
  pub if_room : length (inline_text t) + length l ≤ 80 → inline_text u ≡ inline_text t ++ l

abbrev pub quoted : String → List ℕ
quoted []ᶜ = []
quoted (c ∷ᶜ s) = code c ∷ quoted s

abbrev pub digit : ℕ → List ℕ
digit d = (48 + d) ∷ []

-- with up to k digits; the number n has no more than n + 1
unfoldable pub digits_within : ℕ → ℕ → List ℕ
digits_within zero n = []
digits_within (suc k) n = cond (ltb n 10) (digit n) (digits_within k (n / 10) ++ digit (n % 10))

abbrev pub decimal_digits : ℕ → List ℕ
decimal_digits n = digits_within (suc n) n
