-- A table, and which lengths are run.
--     tabulated_more    a table of one word more
--     take_tabulated    a table's first words
--     most              a length of whole pages is not past 8 pages
-- Assumes nothing.
use Rattle.std.proofs.Common.{◌≡◌, ℕ, suc, ◌+◌, ◌≤◌, [], ◌∷◌, ◌++◌, take, map, true, arith, ap, ◌∙◌}
use Rattle.std.specs.List.{range_with_len}
use Rattle.std.proofs.lemmas.Bool.Decides.{nat_tests}
use Rattle.std.proofs.lemmas.List.FromFn.{map-range_with_len_more, take-map-range_with_len}
use Rattle.list.specs.Image.{tabulated, is_whole}

pub tabulated_more : (f : ℕ → ℕ) (n : ℕ) → tabulated f (suc n) ≡ tabulated f n ++ (f n ∷ [])
unfolding tabulated
tabulated_more f n =
    let e : suc n ≡ n + 1 = omega arith in
    ap (λ (k : ℕ). map f (range_with_len 0 k)) e ∙ map-range_with_len_more f 0 n n (omega arith)

pub take_tabulated : (f : ℕ → ℕ) (n m : ℕ) → n ≤ m → take n (tabulated f m) ≡ tabulated f n
unfolding tabulated
take_tabulated f n m h = take-map-range_with_len f 0 m n h

pub most : (n : ℕ) → is_whole n ≡ true → n ≤ 16384
most n h = grind (arith, nat_tests)
