-- Demand 3: what a closed page holds can make no difference. What is claimed; the proofs are in proofs/Apart.
--     StepApart, RunApart              two machines alike: a step, and a run up to its first interrupt
--     StepPromise, RunPromise          the same of what `step` and `run` promise; page registers stay by the promises themselves
--     StepStores, RunStores            of one machine: which words a step and a run store depends on no closed page
--     RunDepends, RunKeeps, RunSize    of one machine: what a run depends on, and what it does not change
--     JobsApart                        two jobs on one memory
--     StepTrouble                      a step that does not reply 0 changes no word
--     NoTrap                           why "valid" and "no trap waiting" are not asked
-- The words are in `Alike`.
-- Assumes nothing.
use Rattle.std.specs.Prelude.{ℕ, ◌/◌, ◌≡◌, true, List, eqb, length, get_or}
use Rattle.maps.specs.Pages.{protecting}
use Rattle.maps.specs.Open.{OpenToRead, OpenToStore, Agree}
use Rattle.acts.specs.Acts.{answer, left}
use Rattle.acts.specs.Replies.{number}
use Rattle.acts.specs.Record.{valid}
use Rattle.machine.specs.Step.{stepped, Steps, ran, Runs}
use Rattle.acts.specs.declared.record.Registers.{Registers}
use Rattle.acts.specs.declared.replies.Stepped.{Stepped}
use Rattle.acts.specs.declared.replies.Ran.{Ran}
use Rattle.apart.specs.Alike.{Alike, Apart, OneList}

-- one step
abbrev pub StepApart : Type 0
StepApart =
    (pages pages' : List ℕ) (r r' : Registers) (m m' : List ℕ) → Alike pages pages' r r' m m'
    → Apart pages r.wmap m m'
    (answer r (stepped pages r m)) (answer r' (stepped pages' r' m'))
    (left m (stepped pages r m)) (left m' (stepped pages' r' m'))

-- a run: it ends at its first interrupt, if its budget reaches one
abbrev pub RunApart : Type 0
RunApart =
    (pages pages' : List ℕ) (r r' : Registers) (m m' : List ℕ) → Alike pages pages' r r' m m' → (budget : ℕ)
    → Apart pages r.wmap m m'
    (ran pages budget r m).ran (ran pages' budget r' m').ran
    (ran pages budget r m).memory (ran pages' budget r' m').memory

abbrev pub StepPromise : Type 0
StepPromise =
    (pages pages' : List ℕ) (r r' : Registers) (m m' : List ℕ) → Alike pages pages' r r' m m'
    → (s s' : Stepped) (later later' n n' : List ℕ) → Steps pages r m s later n → Steps pages' r' m' s' later' n'
    → Apart pages r.wmap m m' s s' n n'

abbrev pub RunPromise : Type 0
RunPromise =
    (pages pages' : List ℕ) (r r' : Registers) (m m' : List ℕ) → Alike pages pages' r r' m m' → (budget : ℕ)
    → (s s' : Ran) (later later' n n' : List ℕ) → Runs pages budget r m s later n → Runs pages' budget r' m' s' later' n'
    → Apart pages r.wmap m m' s s' n n'

-- one list of stores for every memory that agrees on the pages open to reading
abbrev pub StepStores : Type 0
StepStores =
    (pages : List ℕ) (r : Registers) (m : List ℕ) → protecting r.wmap ≡ true
    → OneList pages r.wmap m (λ m'. left m' (stepped pages r m'))

abbrev pub RunStores : Type 0
RunStores =
    (pages : List ℕ) (budget : ℕ) (r : Registers) (m : List ℕ) → protecting r.wmap ≡ true
    → OneList pages r.wmap m (λ m'. (ran pages budget r m').memory)

-- reply, count and registers of a run depend only on the words of pages open to reading
abbrev pub RunDepends : Type 0
RunDepends =
    (pages : List ℕ) (r : Registers) → protecting r.wmap ≡ true → (budget : ℕ) (m m' : List ℕ)
    → Agree pages r.wmap m m' → (ran pages budget r m).ran ≡ (ran pages budget r m').ran

-- it changes no word of a page that is not open to storing
abbrev pub RunKeeps : Type 0
RunKeeps =
    (pages : List ℕ) (r : Registers) → protecting r.wmap ≡ true → (budget : ℕ) (m : List ℕ) (index : ℕ)
    → (OpenToStore pages r.wmap (index / 1024) → ⊥) → get_or (ran pages budget r m).memory index 0 ≡ get_or m index 0

abbrev pub RunSize : Type 0
RunSize =
    (pages : List ℕ) (r : Registers) → protecting r.wmap ≡ true → (budget : ℕ) (m : List ℕ)
    → length (ran pages budget r m).memory ≡ length m

-- a job q that reads no page on which a job r may store runs after r as it runs without it
abbrev pub JobsApart : Type 0
JobsApart =
    (pages : List ℕ) (r q : Registers) → protecting r.wmap ≡ true → protecting q.wmap ≡ true
    → ((page : ℕ) → OpenToRead pages q.wmap page → OpenToStore pages r.wmap page → ⊥)
    → (budget budget' : ℕ) (m : List ℕ)
    → (ran pages budget' q (ran pages budget r m).memory).ran ≡ (ran pages budget' q m).ran

-- also where stores came before: a move that meets a violation has moved nothing
abbrev pub StepTrouble : Type 0
StepTrouble =
    (pages : List ℕ) (r : Registers) (m : List ℕ)
    → (number (answer r (stepped pages r m)).reply ≡ 0 → ⊥) → left m (stepped pages r m) ≡ m

-- a valid record has no trap waiting while protection is on, and a step or run from another is a bad call in both
abbrev pub NoTrap : Type 0
NoTrap = (r : Registers) → valid r ≡ true → protecting r.wmap ≡ true → eqb r.trap 0 ≡ true
