-- A call put together from what the machine promises: of words that are a record, and of words that are none.
-- Assumes nothing.
use Prim.Native.Nat.{ℕ}
use mathlib.Core.Path.{◌≡◌, refl, ap, ◌∙◌}
use mathlib.Core.List.{List, [], ◌∷◌}
use lib.ListN.{length, set}
use borrow.Author.Tests.{eq-eqb, ne_eqb}
use Rattle.acts.specs.Replies.{number}
use Rattle.machine.specs.Step.{Runs}
use Rattle.machine.proofs.Running.{ran_one}
use Rattle.acts.specs.declared.record.Registers.{Registers}
use Rattle.acts.specs.declared.replies.Ran.{Ran}
use Rattle.std.specs.Prelude.{Option}
use Rattle.std.specs.Prelude.{Some, None}
use Rattle.acts.specs.Record.{words_of, registers_of}
use Rattle.a400.specs.Calls.{step_call, run_call, RunCalls}
use Rattle.a400.proofs.Records.{one_number}

module _ (w pages m : List ℕ) (budget : ℕ) where
  pub run_called : {r : Registers} {s : Ran} {words later n : List ℕ} {k : ℕ}
      → registers_of w ≡ Some r → Runs pages budget r m s later n → words ≡ words_of s.registers → k ≡ number s.reply
      → RunCalls (run_call w pages m budget (0 ∷ [])) pages k words later n (s.count ∷ [])
  unfolding run_call
  run_called t h e f =
      rw (t, run_call) (record {
        calls = record {
          outcome = f ∙ ap (λ (s : Ran). number s.reply) h.goes.outcome;
          words = e ∙ ap (λ (s : Ran). words_of s.registers) h.goes.outcome;
          registers = h.registers;
          memory = h.goes.memory;
        };
        count = ap (λ (s : Ran). s.count ∷ []) h.goes.outcome;
      })

  pub run_refused : registers_of w ≡ None → RunCalls (run_call w pages m budget (0 ∷ [])) pages 8 w pages m (0 ∷ [])
  unfolding run_call
  run_refused t =
      rw (t, run_call) (record { calls = record { outcome = refl; words = refl; registers = refl; memory = refl }; count = refl })

  -- with a count of any one number
  pub counted : (count : List ℕ) {k x : ℕ} {words later n : List ℕ} → length count ≡ 1
      → RunCalls (run_call w pages m budget (0 ∷ [])) pages k words later n (x ∷ [])
      → RunCalls (run_call w pages m budget count) pages k words later n (set count 0 x)
  unfolding run_call
  counted count {x = x} l h = rw (eq-eqb _ _ l) (record { calls = h.calls; count = one_number count x l ∙ h.count })

  pub uncounted : (count : List ℕ) → (length count ≡ 1 → ⊥) → RunCalls (run_call w pages m budget count) pages 8 w pages m count
  unfolding run_call
  uncounted count l =
      rw (ne_eqb _ _ l) (record { calls = record { outcome = refl; words = refl; registers = refl; memory = refl }; count = refl })

-- a step is a run of one
pub step_as_run : (w pages m : List ℕ) → step_call w pages m ≡ (run_call w pages m 1 (0 ∷ [])).call
unfolding step_call run_call
step_as_run w pages m = go (registers_of w) refl
  where
    go : (t : Option Registers) → registers_of w ≡ t → step_call w pages m ≡ (run_call w pages m 1 (0 ∷ [])).call
    go (Some r) e = rw (e, step_call, run_call, ran_one pages r m)
    go None e = rw (e, step_call, run_call)
