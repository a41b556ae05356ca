-- A text has room for a listing: the header, and the line of a run whose count has 32 bits.
--     room     they are no longer than 80 bytes
--     whole    at the end of a blank text, they are what it holds
-- Assumes nothing.
use Rattle.std.proofs.Common.{◌≡◌, ap, suc, ◌^◌, ◌<◌, ◌≤◌, arith, [], ◌++◌, length}
use Rattle.std.proofs.lemmas.List.{length-append}
use Rattle.std.specs.Fmt.InlineText.{inline_text}
use Rattle.std.specs.declared.fmt.InlineText.{InlineText}
use Rattle.acts.specs.Replies.{number}
use Rattle.acts.specs.declared.replies.Ran.{Ran}
use Rattle.acts.specs.declared.replies.Reply.{Reply}
use Rattle.acts.specs.declared.replies.Reply.TheVariants.{Completed, Violation, Refused, BadCall}
use Rattle.acts.specs.declared.replies.Refusal.TheVariants.{InputOutput, Endless, Absent, InRegisters, NotBuilt, TrapCell}
use Rattle.list.specs.Text.{Appends}
use Rattle.list.specs.Line.{header, line_of}
use Rattle.list.proofs.Texts.{joined, most_digits}

one_digit : (r : Reply) → number r < 10
one_digit Completed = omega arith
one_digit Violation = omega arith
one_digit (Refused InputOutput) = omega arith
one_digit (Refused Endless) = omega arith
one_digit (Refused (Absent page)) = omega arith
one_digit (Refused InRegisters) = omega arith
one_digit (Refused NotBuilt) = omega arith
one_digit (Refused TrapCell) = omega arith
one_digit BadCall = omega arith

room : (s : Ran) → s.count < 2 ^ 32 → length (header ++ line_of s) ≤ 80
unfolding line_of
room s h =
    let n = number s.reply in
    simp length-append
    (omega (arith, most_digits 0 (suc n) n (one_digit s.reply), most_digits 9 (suc s.count) s.count (omega arith)))

pub whole : {t u v : InlineText 80} (s : Ran) → s.count < 2 ^ 32 → inline_text t ≡ []
    → Appends t header u → Appends u (line_of s) v → inline_text v ≡ header ++ line_of s
whole {t = t} {v = v} s h blank first second =
    let both : Appends t (header ++ line_of s) v = joined first second in
    rw blank at (both.if_room (omega (arith, ap length blank, room s h)))
