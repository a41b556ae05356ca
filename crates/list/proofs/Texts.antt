-- Bytes at the end of a text, and a number in decimal.
--     uncut           and_str of up to 80 bytes cuts nothing off where there is room
--     joined          bytes at the end, and bytes behind them
--     one_digit       a number below 10 is its digit
--     more_digits     another number is its digits but the last, and that digit behind them
--     decimal_text    what `{}` writes of a number
--     fewest          the digits of specs/Text are the last digits of the number, as many as it has
--     most_digits     a number below 10 ^ k has up to k digits, k not 0
-- Assumes nothing.
use Rattle.std.proofs.Common.{◌≡◌, refl, sym, ap, ◌∙◌, ℕ, zero, suc, ◌+◌, ◌-◌, ◌/◌, ◌%◌, ◌^◌, ◌<◌, ◌≤◌, Bool, true, false, cond, List, [], ◌∷◌, ◌++◌, length, arith, le-leb}
use Rattle.std.specs.Fmt.{decimal}
use Rattle.std.specs.Fmt.InlineText.{inline_text}
use Rattle.std.specs.Fmt.Cut.{cut_to}
use Rattle.std.specs.declared.fmt.InlineText.{InlineText}
use Rattle.std.proofs.Math.Nat.{pow-suc, one-le-pow, mod-eq_of_lt}
use Rattle.std.proofs.Math.Dec.{ltb}
use Rattle.std.proofs.lemmas.Bool.{ltb-false, lt-ltb, le-ltb}
use Rattle.std.proofs.lemmas.List.{length-append, append_assoc}
use Rattle.std.proofs.lemmas.Fmt.{AppendsLastDigit, decimal_from_appends, length-decimal-le_succ}
use Rattle.list.specs.Text.{Appends, digit, digits_within, decimal_digits}

pub uncut : (t : InlineText 80) (l : List ℕ) (u : InlineText 80) → inline_text u ≡ cut_to 80 (inline_text t ++ l) → Appends t l u
unfolding cut_to
uncut t l u e =
    record {
      if_room = λ h.
          let fits : length (inline_text t ++ l) ≤ 80 = omega (arith, length-append (inline_text t) l) in
          e ∙ rw (le-leb (length (inline_text t ++ l)) 80 fits) refl;
    }

pub joined : {t u v : InlineText 80} {l m : List ℕ} → Appends t l u → Appends u m v → Appends t (l ++ m) v
joined {t = t} {u = u} {v = v} {l = l} {m = m} p q =
    record {
      if_room = λ h.
          let both = length-append l m in
          let first : inline_text u ≡ inline_text t ++ l = p.if_room (omega arith) in
          q.if_room (omega (arith, ap length first, length-append (inline_text t) l)) ∙ rw (first, append_assoc) refl;
    }

one_branch : (b : Bool) (x y z : List ℕ) → (b ≡ false → y ≡ z) → cond b x y ≡ cond b x z
one_branch true x y z h = refl
one_branch false x y z h = h refl

-- digits_within gives the same with any two numbers that are enough
enough : (k f n : ℕ) → n < k → n < f → digits_within k n ≡ digits_within f n
unfolding digits_within
enough zero f n h u = absurd (omega arith)
enough (suc k) zero n h u = absurd (omega arith)
enough (suc k) (suc f) n h u =
    one_branch (ltb n 10) _ _ _
    (λ e. let ten : 10 ≤ n = ltb-false n 10 e in rw (enough k f (n / 10) (omega arith) (omega arith)) refl)

pub one_digit : (n : ℕ) → n < 10 → digit n ≡ decimal_digits n
unfolding digits_within
one_digit n h = rw (lt-ltb n 10 h) refl

pub more_digits : (n : ℕ) → 10 ≤ n → decimal_digits (n / 10) ++ digit (n % 10) ≡ decimal_digits n
unfolding digits_within
more_digits n h = rw (le-ltb n 10 h, enough n (suc (n / 10)) (n / 10) (omega arith) (omega arith)) refl

appends : AppendsLastDigit digits_within
unfolding digits_within
appends = record {
  one = λ k n h. rw (lt-ltb n 10 h) refl;
  more = λ k n h. rw (le-ltb n 10 h) refl;
}

pub decimal_text : (n : ℕ) → n < 2 ^ 64 → decimal n ≡ decimal_digits n
decimal_text n h = sym (decimal_from_appends digits_within appends (suc n) n h (omega (arith, length-decimal-le_succ n h)))

-- the last k digits of n in base b, as their bytes, the most significant first
abbrev last_digits : ℕ → ℕ → ℕ → List ℕ
last_digits b zero n = []
last_digits b (suc k) n = last_digits b k (n / b) ++ (cond (ltb (n % b) 10) (48 + n % b) (87 + n % b) ∷ [])

-- n takes k digits in base b, when padded to `width` digits
abbrev IsDigitCount : ℕ → ℕ → ℕ → ℕ → Type 0
IsDigitCount b width n k = (width ≤ k) × (n < b ^ k) × (width < k → b ^ (k - 1) ≤ n)

spelled : (k f n : ℕ) → n < f → n < 10 ^ suc k → (0 < k → 10 ^ k ≤ n) → last_digits 10 (suc k) n ≡ digits_within f n
unfolding digits_within
spelled k zero n h u l = absurd (omega arith)
spelled zero (suc f) n h u l = rw (mod-eq_of_lt u, lt-ltb n 10 u) refl
spelled (suc k) (suc f) n h u l =
    let low : 10 ^ suc k ≤ n = l (omega arith) in
    let ten : 10 ≤ n = omega (arith, pow-suc 10 k, one-le-pow k 10 (omega arith)) in
    rw (
      le-ltb n 10 ten,
      lt-ltb (n % 10) 10 (omega arith),
      ← spelled k f (n / 10) (omega arith) (omega (arith, pow-suc 10 (suc k))) (λ z. omega (arith, pow-suc 10 k)),
    )
    refl

pub fewest : (k n : ℕ) → IsDigitCount 10 1 n k → last_digits 10 k n ≡ decimal_digits n
fewest zero n e = absurd (omega arith)
fewest (suc k) n e =
    let last : suc k - 1 ≡ k = omega arith in
    spelled k (suc n) n (omega arith) e.1 (λ z. rw last at (e.2 (omega arith)))

either : (b : Bool) (x y : List ℕ) (k : ℕ) → length x ≤ k → length y ≤ k → length (cond b x y) ≤ k
either true x y k p q = p
either false x y k p q = q

pub most_digits : (k f n : ℕ) → n < 10 ^ suc k → length (digits_within f n) ≤ suc k
unfolding digits_within
most_digits k zero n h = omega arith
most_digits zero (suc f) n h = rw (lt-ltb n 10 h) (omega arith)
most_digits (suc k) (suc f) n h =
    either (ltb n 10) _ _ _ (omega arith)
    (rw length-append (omega (arith, most_digits k f (n / 10) (omega (arith, pow-suc 10 (suc k))))))
