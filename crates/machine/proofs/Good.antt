-- A step keeps what a good call asks for, the length of memory and a valid record; and where it replies 0 it keeps WMAP.
--     stepped_length             a step leaves as many words as it found
--     good_stepped, good_kept    the step of a good call, and the call that follows it
--     step_stays                 a step that replies 0 leaves WMAP as it was
-- Assumes nothing.
use Prim.Native.Nat.{ℕ}
use mathlib.Core.Path.{◌≡◌, refl, sym}
use mathlib.Core.Bool.{Bool, true, false, cond, ◌&&◌}
use mathlib.Core.List.{List}
use lib.Dec.{eqb}
use lib.ListN.{length}
use Rattle.acts.specs.Record.{valid}
use Rattle.acts.specs.Replies.{number}
use Rattle.acts.specs.Acts.{bad_call, exec, answer, left}
use Rattle.rules.specs.Rules.{step_act}
use Rattle.machine.specs.Step.{whole_pages, good_call, stepped}
use Rattle.acts.specs.declared.record.Registers.{Registers}
use Rattle.code.proofs.Truth.{never}
use Rattle.acts.proofs.Keeping.{left_length}
use Rattle.rules.proofs.Valid.{step_sound, step_valid}

pub stepped_length : (pages : List ℕ) (r : Registers) (m : List ℕ) → length (left m (stepped pages r m)) ≡ length m
unfolding stepped
stepped_length pages r m = go (good_call (length pages) (length m) r)
  where
    go : (b : Bool) → length (left m (cond b (exec pages (step_act r) r m) bad_call)) ≡ length m
    go true = left_length pages (step_act r) r m
    go false = refl

both : (a b : Bool) → (a && b) ≡ true → (a ≡ true) × (b ≡ true)
both true b e = (refl, e)
both false b e = never (sym e)

pub good_valid : (registers words : ℕ) (r : Registers) → good_call registers words r ≡ true → valid r ≡ true
good_valid registers words r h = (both (eqb registers 1024 && whole_pages words) (valid r) h).1

pub good_stepped : (pages : List ℕ) (r : Registers) (m : List ℕ) → good_call (length pages) (length m) r ≡ true
    → stepped pages r m ≡ exec pages (step_act r) r m
unfolding stepped
good_stepped pages r m h = rw h

pub good_kept : (pages : List ℕ) (r : Registers) (m : List ℕ) → good_call (length pages) (length m) r ≡ true
    → good_call (length pages) (length (left m (stepped pages r m))) (answer r (stepped pages r m)).registers ≡ true
good_kept pages r m h =
    let b = both (eqb (length pages) 1024 && whole_pages (length m)) (valid r) h in
    rw (good_stepped pages r m h, left_length pages (step_act r) r m, b.0) (step_valid pages r m b.1)

pub step_stays : (pages : List ℕ) (r : Registers) (m : List ℕ) → eqb (number (answer r (stepped pages r m)).reply) 0 ≡ true
    → (answer r (stepped pages r m)).registers.wmap ≡ r.wmap
unfolding stepped
step_stays pages r m = go (good_call (length pages) (length m) r) refl
  where
    go : (b : Bool) → good_call (length pages) (length m) r ≡ b
        → eqb (number (answer r (cond b (exec pages (step_act r) r m) bad_call)).reply) 0 ≡ true
        → (answer r (cond b (exec pages (step_act r) r m) bad_call)).registers.wmap ≡ r.wmap
    go true e = (step_sound pages r m (good_valid (length pages) (length m) r e)).1
    go false e = λ q. refl
