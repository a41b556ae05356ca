-- The theorems of specs/Apart, by name.
--     both_stored, step_alike, run_alike     from one list of stores to two machines apart
--     itself                                 what a run makes of its own memory, seen as two
-- Assumes nothing.
use Prim.Native.Nat.{ℕ, ◌/◌}
use mathlib.Core.Path.{◌≡◌, refl}
use mathlib.Core.Bool.{Bool, true, false, not, ◌&&◌, ◌||◌}
use mathlib.Core.List.{List, []}
use lib.Dec.{eqb, ltb}
use Rattle.maps.specs.Pages.{protecting}
use Rattle.maps.specs.Open.{Agree}
use Rattle.acts.specs.Acts.{Outcome, done, violated, refused, bad_call, answer, left}
use Rattle.acts.specs.Replies.{number}
use Rattle.machine.specs.Step.{stepped, ran}
use Rattle.acts.specs.declared.record.Registers.{Registers}
use Rattle.apart.specs.Alike.{Store, stored_by, Within, both_by, Kept, Apart, OneList, all_by}
use Rattle.apart.specs.Apart.{StepApart, RunApart, StepPromise, RunPromise, StepStores, RunStores, RunDepends, RunKeeps, RunSize, JobsApart, StepTrouble, NoTrap}
use Rattle.apart.proofs.Stores.{stores_kept, Results, all_done, all_ended, ended_left, step_results, Answers, all_ran, ran_answers}

-- two memories that one list of stores was made in
both_stored : {X : Type 0} (pages : List ℕ) (wmap : ℕ) (m m' : List ℕ) {x x' : X} {n n' : List ℕ} (l : List Store) → Within pages wmap l
    → Agree pages wmap m m' → x ≡ x' → n ≡ stored_by l m → n' ≡ stored_by l m' → Apart pages wmap m m' x x' n n'
both_stored pages wmap m m' l h agree e p q =
    record { answers = e; stores = both_by l h p q; memories = rw (p, q) (stores_kept pages wmap l m m' h agree) }

same : (pages : List ℕ) (wmap : ℕ) (m : List ℕ) → Agree pages wmap m m
same pages wmap m = record { lengths = refl; words = λ index o. refl }

step_alike : (pages : List ℕ) (r : Registers) (m m' : List ℕ) → Agree pages r.wmap m m' → Results pages r.wmap m (stepped pages r)
    → Apart pages r.wmap m m'
    (answer r (stepped pages r m)) (answer r (stepped pages r m')) (left m (stepped pages r m)) (left m' (stepped pages r m'))
unfolding stored_by
step_alike pages r m m' agree (all_done s l h f) =
    rw (f m (same pages r.wmap m), f m' agree) (both_stored pages r.wmap m m' l h agree refl refl refl)
step_alike pages r m m' agree (all_ended x h f) =
    rw (f m (same pages r.wmap m), f m' agree) (both_stored pages r.wmap m m' [] tt agree refl (ended_left x m h) (ended_left x m' h))

run_alike : (pages : List ℕ) (budget : ℕ) (r : Registers) (m m' : List ℕ) → Agree pages r.wmap m m'
    → Answers pages r.wmap m (ran pages budget r)
    → Apart pages r.wmap m m'
    (ran pages budget r m).ran (ran pages budget r m').ran (ran pages budget r m).memory (ran pages budget r m').memory
run_alike pages budget r m m' agree (all_ran x l h f) =
    rw (f m (same pages r.wmap m), f m' agree) (both_stored pages r.wmap m m' l h agree refl refl refl)

pub step_apart : StepApart
step_apart pages pages' r r' m m' alike =
    rw (← alike.registers, ← alike.maps) (step_alike pages r m m' alike.opens (step_results pages r m alike.protected))

pub run_apart : RunApart
run_apart pages pages' r r' m m' alike budget =
    rw (← alike.registers, ← alike.maps) (run_alike pages budget r m m' alike.opens (ran_answers pages budget r m alike.protected))

pub step_promise : StepPromise
step_promise pages pages' r r' m m' alike s s' later later' n n' p q =
    rw (p.outcome, q.outcome, p.memory, q.memory) (step_apart pages pages' r r' m m' alike)

pub run_promise : RunPromise
run_promise pages pages' r r' m m' alike budget s s' later later' n n' p q =
    rw (p.goes.outcome, q.goes.outcome, p.goes.memory, q.goes.memory) (run_apart pages pages' r r' m m' alike budget)

pub step_stores : StepStores
unfolding stored_by
step_stores pages r m on = go (step_results pages r m on)
  where
    go : Results pages r.wmap m (stepped pages r) → OneList pages r.wmap m (λ m'. left m' (stepped pages r m'))
    go (all_done s l h f) = all_by l h (λ m' a. rw (f m' a))
    go (all_ended x h f) = all_by [] tt (λ m' a. rw (f m' a) (ended_left x m' h))

pub run_stores : RunStores
run_stores pages budget r m on = go (ran_answers pages budget r m on)
  where
    go : Answers pages r.wmap m (ran pages budget r) → OneList pages r.wmap m (λ m'. (ran pages budget r m').memory)
    go (all_ran x l h f) = all_by l h (λ m' a. rw (f m' a))

pub run_depends : RunDepends
run_depends pages r on budget m m' agree = (run_alike pages budget r m m' agree (ran_answers pages budget r m on)).answers

itself : (pages : List ℕ) (r : Registers) → protecting r.wmap ≡ true → (budget : ℕ) (m : List ℕ)
    → Kept pages r.wmap m m (ran pages budget r m).memory (ran pages budget r m).memory
itself pages r on budget m = (run_alike pages budget r m m (same pages r.wmap m) (ran_answers pages budget r m on)).memories

pub run_keeps : RunKeeps
run_keeps pages r on budget m index shut = ((itself pages r on budget m).closed index shut).0

pub run_size : RunSize
run_size pages r on budget m = (itself pages r on budget m).size

pub jobs_apart : JobsApart
jobs_apart pages r q on on' disjoint budget budget' m =
    run_depends pages q on' budget' _ m
    (record {
      lengths = run_size pages r on budget m;
      words = λ index o. run_keeps pages r on budget m index (disjoint (index / 1024) o);
    })

trouble : (r : Registers) (m : List ℕ) (x : Outcome) → (number (answer r x).reply ≡ 0 → ⊥) → left m x ≡ m
trouble r m (done s n) h = absurd (h refl)
trouble r m violated h = refl
trouble r m (refused refusal) h = refl
trouble r m bad_call h = refl

pub step_trouble : StepTrouble
step_trouble pages r m h = trouble r m (stepped pages r m) h

right_of : (x y : Bool) → x && y ≡ true → y ≡ true
right_of true y e = e
right_of false true e = refl
right_of false false e = e

waits_not : (none some : Bool) → none || some && false ≡ true → none ≡ true
waits_not true some e = refl
waits_not false true e = e
waits_not false false e = e

pub no_trap : NoTrap
no_trap r v on =
    waits_not (eqb r.trap 0) (eqb r.trap 7) (rw on at
    (right_of (ltb r.p 0o100000 && ltb r.violation 0o100000 && (eqb r.interrupt 0 || eqb r.interrupt 7))
    (eqb r.trap 0 || eqb r.trap 7 && not (protecting r.wmap)) v))
