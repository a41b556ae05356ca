-- A step that is refused leaves the record's words as given.
--     one_number        one number stored in a slice of one
--     refusal_kept      a step that replies 2 or more leaves the record and memory as given
-- The record as words, and back, is in proofs/Words of the crate `acts`. Assumes nothing.
use Prim.Native.Nat.{ℕ, ◌≤◌}
use native.Mathlib.Omega.{arith}
use mathlib.Core.Path.{◌≡◌, refl}
use mathlib.Core.List.{List, [], ◌∷◌}
use lib.ListN.{length, set}
use Rattle.acts.specs.Replies.{number}
use Rattle.acts.specs.Acts.{Outcome, done, violated, refused, bad_call, answer, left}
use Rattle.machine.specs.Step.{stepped}
use Rattle.acts.specs.declared.record.Registers.{Registers}
use Rattle.std.specs.Prelude.{Option}
use Rattle.std.specs.Prelude.{Some, None}
use Rattle.acts.specs.Record.{words_of, registers_of}
use Rattle.acts.proofs.Words.{words_again}
use Rattle.a400.specs.Calls.{step_call}

pub one_number : (l : List ℕ) (v : ℕ) → length l ≡ 1 → set l 0 v ≡ v ∷ []
one_number [] v h = absurd (omega arith)
one_number (x ∷ []) v h = refl
one_number (x ∷ y ∷ l) v h = absurd (omega arith)

module _ (w pages m : List ℕ) where
  of_result : (r : Registers) → words_of r ≡ w → (x : Outcome) → 2 ≤ number (answer r x).reply
      → (words_of (answer r x).registers ≡ w) × (left m x ≡ m)
  of_result r e (done s n) h = absurd (omega arith)
  of_result r e violated h = absurd (omega arith)
  of_result r e (refused refusal) h = (e, refl)
  of_result r e bad_call h = (e, refl)

  pub refusal_kept : 2 ≤ (step_call w pages m).reply → ((step_call w pages m).words ≡ w) × ((step_call w pages m).memory ≡ m)
  unfolding step_call
  refusal_kept = go (registers_of w) refl
    where
      go : (t : Option Registers) → registers_of w ≡ t → 2 ≤ (step_call w pages m).reply
          → ((step_call w pages m).words ≡ w) × ((step_call w pages m).memory ≡ m)
      go (Some r) e = rw (e, step_call) (of_result r (words_again w r e) (stepped pages r m))
      go None e = rw (e, step_call) (λ h. (refl, refl))
