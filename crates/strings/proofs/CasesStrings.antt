-- 01: "C13 SBT, B 000041, A 000001, word 20 holding 123456: word 20 is 123401, B 000042." By computation on the definitions, with
-- every map naming page 0. Assumes nothing.
use Rattle.std.proofs.Common.{◌≡◌, ℕ, List, set, replicate, refl}
use Rattle.maps.specs.Pages.{is_open, presence, spot, place}
use Rattle.maps.specs.Access.{fetched}
use Rattle.acts.specs.Record.{with_a, with_b, with_p, fresh}
use Rattle.acts.specs.Acts.{done, exec}
use Rattle.strings.specs.Strings.{byte_stored}
use Rattle.acts.specs.declared.record.Registers.{Registers}

abbrev registers : ℕ → Registers
registers b = with_b (with_a fresh 0o1) b

abbrev holding : ℕ → List ℕ
holding w = set (replicate 1024 0) 0o20 w

pub c13 : exec (replicate 1024 0) (byte_stored (registers 0o41)) (registers 0o41) (holding 0o123456)
    ≡ done (with_p (registers 0o42) 3) (holding 0o123401)
unfolding exec fetched place is_open presence spot
c13 = refl
