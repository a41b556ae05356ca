-- 01, CMW and CBT: "CMW compares signed, CBT unsigned": the first against the second. Assumes nothing.
use Rattle.std.specs.Prelude.{ℕ}
use Rattle.std.specs.Int.{w16}
use Rattle.std.specs.Ordering.{nat_cmp, int_cmp}
use Rattle.std.specs.declared.cmp.Ordering.{Ordering}
use Rattle.word.specs.Signed.{signed}

unfoldable pub order_of_words : ℕ → ℕ → Ordering
order_of_words a b = int_cmp (signed w16 a) (signed w16 b)

abbrev pub order_of_bytes : ℕ → ℕ → Ordering
order_of_bytes a b = nat_cmp a b
