-- What stands behind `Apart`: one induction over access programs and one over the budget, each for every memory that agrees with
-- one memory on the pages open to reading.
--     storing_on, storing_length, storing_agrees     stores one after another: their order, the length, agreement
--     one_kept, then_kept, stores_kept               what a list of stores keeps of two memories
--     Results, result_of, exec_results               the results of a program
--     step_results                                   those of a step
--     Answers, running_answers, ran_answers          the answers of a run
-- Assumes nothing.
use Prim.Native.Nat.{ℕ, zero, suc, ◌/◌}
use mathlib.Core.Path.{◌≡◌, refl, sym, ◌∙◌, ap, subst}
use mathlib.Core.Logic.{inl, inr, ⊎_elim}
use mathlib.Core.Bool.{Bool, true, false, cond, ◌&&◌}
use mathlib.Core.List.{List, [], ◌∷◌, ◌++◌}
use lib.Dec.{eqb, leb}
use lib.ListN.{length, set}
use Rattle.word.specs.Words.{weight}
use Rattle.maps.specs.Pages.{protecting, is_open, presence, place}
use Rattle.maps.specs.Access.{fetched}
use Rattle.maps.specs.Chains.{chain}
use Rattle.maps.specs.Open.{OpenToStore, Agree}
use Rattle.maps.proofs.Laws.{put_length, put_either, put_elsewhere, put_agree, place_open, fetched_agree, chain_agree}
use Rattle.maps.specs.declared.pages.Purpose.{Purpose}
use Rattle.maps.specs.declared.pages.Place.{Place}
use Rattle.maps.specs.declared.troubles.Trouble.{Trouble}
use Rattle.acts.specs.Record.{with_a, with_b}
use Rattle.acts.specs.Acts.{Act, fin, stop, violate, load, save, follow, opened, present, Outcome, done, violated, refused, bad_call, troubled, on_got, on_place, on_open, on_tested, exec, answer, left}
use Rattle.acts.specs.Replies.{number}
use Rattle.rules.specs.Rules.{step_act}
use Rattle.machine.specs.Step.{good_call, stepped, Leaves, ending, counting, running, ran}
use Rattle.acts.specs.declared.record.Registers.{Registers}
use Rattle.acts.specs.declared.replies.Refusal.{Refusal}
use Rattle.acts.specs.declared.replies.Reply.{Reply}
use Rattle.acts.specs.declared.replies.Stepped.{Stepped}
use Rattle.acts.specs.declared.replies.Ran.{Ran}
use Rattle.apart.specs.Alike.{Store, stored_by, Within, Kept}
use Rattle.machine.proofs.Good.{step_stays}
use Rattle.std.specs.Prelude.{Result, Ok, Err}

-- Stores, one after another.

pub storing_on : (l k : List Store) (m : List ℕ) → stored_by (l ++ k) m ≡ stored_by k (stored_by l m)
unfolding stored_by
storing_on [] k m = refl
storing_on (s ∷ l) k m = storing_on l k (set m s.index s.word)

pub within_on : (pages : List ℕ) (wmap : ℕ) (l k : List Store) → Within pages wmap l → Within pages wmap k → Within pages wmap (l ++ k)
within_on pages wmap [] k p q = q
within_on pages wmap (s ∷ l) k p q = (p.0, within_on pages wmap l k p.1 q)

pub storing_agrees : (pages : List ℕ) (wmap : ℕ) (l : List Store) (m m' : List ℕ)
    → Agree pages wmap m m' → Agree pages wmap (stored_by l m) (stored_by l m')
unfolding stored_by
storing_agrees pages wmap [] m m' agree = agree
storing_agrees pages wmap (s ∷ l) m m' agree =
    storing_agrees pages wmap l _ _ (put_agree pages wmap (Ok (Place.Memory s.index)) m m' s.word agree)

-- What they keep of two memories.

one_kept : (pages : List ℕ) (wmap : ℕ) (s : Store) (m m' : List ℕ) → OpenToStore pages wmap (s.index / 1024)
    → Agree pages wmap m m' → Kept pages wmap m m' (set m s.index s.word) (set m' s.index s.word)
one_kept pages wmap s m m' o agree =
    let p : Result Place Trouble = Ok (Place.Memory s.index) in
    record {
      size = put_length p m s.word;
      opens = put_agree pages wmap p m m' s.word agree;
      others = λ index. put_either p m m' s.word index agree.lengths;
      closed = λ index shut. (
        put_elsewhere p m s.word index (λ e. shut (reopen index e)),
        put_elsewhere p m' s.word index (λ e. shut (reopen index e)),
      );
    }
  where
    reopen : (index : ℕ) → ◌≡◌ {A = Result Place Trouble} (Ok (Place.Memory s.index)) (Ok (Place.Memory index)) → OpenToStore pages wmap (index / 1024)
    reopen index e = let z : s.index ≡ index = cc in rw z at o

then_kept : (pages : List ℕ) (wmap : ℕ) (m m' n n' o o' : List ℕ)
    → Kept pages wmap m m' n n' → Kept pages wmap n n' o o' → Kept pages wmap m m' o o'
then_kept pages wmap m m' n n' o o' k l =
    record {
      size = l.size ∙ k.size;
      opens = l.opens;
      others = λ index. ⊎_elim
          (λ w. ⊎_elim (λ x. inl (w.0 ∙ x.0, w.1 ∙ x.1)) (λ e. inr (w.0 ∙ e ∙ sym w.1)) (k.others index))
          inr (l.others index);
      closed = λ index c. ((l.closed index c).0 ∙ (k.closed index c).0, (l.closed index c).1 ∙ (k.closed index c).1);
    }

pub stores_kept : (pages : List ℕ) (wmap : ℕ) (l : List Store) (m m' : List ℕ) → Within pages wmap l
    → Agree pages wmap m m' → Kept pages wmap m m' (stored_by l m) (stored_by l m')
unfolding stored_by
stores_kept pages wmap [] m m' h agree =
    record { size = refl; opens = agree; others = λ index. inl (refl, refl); closed = λ index o. (refl, refl) }
stores_kept pages wmap (s ∷ l) m m' h agree =
    let first = one_kept pages wmap s m m' h.0 agree in
    then_kept pages wmap m m' _ _ _ _ first (stores_kept pages wmap l _ _ h.1 first.opens)

-- a result that completes nothing
abbrev pub Ended : Outcome → Type 0
Ended (done s m) = ⊥
Ended violated = Unit
Ended (refused refusal) = Unit
Ended bad_call = Unit

pub ended_left : (x : Outcome) (m : List ℕ) → Ended x → left m x ≡ m
ended_left (done s n) m h = absurd h
ended_left violated m h = refl
ended_left (refused refusal) m h = refl
ended_left bad_call m h = refl

ended_number : (r : Registers) (x : Outcome) → Ended x → eqb (number (answer r x).reply) 0 ≡ false
ended_number r (done s n) h = absurd h
ended_number r violated h = refl
ended_number r (refused Refusal.InputOutput) h = refl
ended_number r (refused Refusal.Endless) h = refl
ended_number r (refused (Refusal.Absent page)) h = refl
ended_number r (refused Refusal.InRegisters) h = refl
ended_number r (refused Refusal.NotBuilt) h = refl
ended_number r (refused Refusal.TrapCell) h = refl
ended_number r bad_call h = refl

-- The results of a program, over every memory that agrees with m on the open pages: one ending, and one list of stores.
pub data Results (pages : List ℕ) (wmap : ℕ) (m : List ℕ) (k : List ℕ → Outcome) : Type 0 where
  all_done : (s : Registers) (l : List Store) → Within pages wmap l
      → ((m' : List ℕ) → Agree pages wmap m m' → k m' ≡ done s (stored_by l m')) → Results pages wmap m k
  all_ended : (x : Outcome) → Ended x → ((m' : List ℕ) → Agree pages wmap m m' → k m' ≡ x) → Results pages wmap m k

module _ (pages : List ℕ) (wmap : ℕ) (m : List ℕ) where
  by_same : (k k' : List ℕ → Outcome) → ((m' : List ℕ) → Agree pages wmap m m' → k m' ≡ k' m') → Results pages wmap m k' → Results pages wmap m k
  by_same k k' e (all_done s l h f) = all_done s l h (λ m' a. e m' a ∙ f m' a)
  by_same k k' e (all_ended x h f) = all_ended x h (λ m' a. e m' a ∙ f m' a)

  -- by what an access answered
  on_trouble : (t : Trouble) → Results pages wmap m (λ m'. troubled t)
  on_trouble Trouble.Closed = all_ended violated tt (λ m' a. refl)
  on_trouble (Trouble.Absent page) = all_ended (refused (Refusal.Absent page)) tt (λ m' a. refl)
  on_trouble Trouble.Endless = all_ended (refused Refusal.Endless) tt (λ m' a. refl)
  on_trouble Trouble.InRegisters = all_ended (refused Refusal.InRegisters) tt (λ m' a. refl)

  on_got_lem : (x : Result ℕ Trouble) (k : ℕ → List ℕ → Outcome) → ((w : ℕ) → Results pages wmap m (k w)) → Results pages wmap m (λ m'. on_got x (λ w. k w m'))
  on_got_lem (Ok w) k h = h w
  on_got_lem (Err t) k h = on_trouble t

  on_open_lem : (x : Bool) (k : List ℕ → Outcome) → Results pages wmap m k → Results pages wmap m (λ m'. on_open x (k m'))
  on_open_lem true k h = h
  on_open_lem false k h = all_ended violated tt (λ m' a. refl)

  on_tested_lem : (x : Result Unit Trouble) (k : List ℕ → Outcome) → Results pages wmap m k → Results pages wmap m (λ m'. on_tested x (k m'))
  on_tested_lem (Ok tt) k h = h
  on_tested_lem (Err t) k h = on_trouble t

  -- the first store of a program, and those that follow
  on_store : (index v : ℕ) (k : List ℕ → Outcome) → OpenToStore pages wmap (index / 1024)
      → Results pages wmap (set m index v) k → Results pages wmap m (λ m'. k (set m' index v))
  unfolding stored_by
  on_store index v k o (all_done s l h f) =
      all_done s (record { index = index; word = v } ∷ l) (o, h) (λ m' a. f (set m' index v) (put_agree pages wmap (Ok (Place.Memory index)) m m' v a))
  on_store index v k o (all_ended x h f) =
      all_ended x h (λ m' a. f (set m' index v) (put_agree pages wmap (Ok (Place.Memory index)) m m' v a))

  on_place_lem : (p : Result Place Trouble) (v : ℕ) (k : Registers → List ℕ → Outcome) (s : Registers)
      → ((index : ℕ) → p ≡ Ok (Place.Memory index) → OpenToStore pages wmap (index / 1024))
      → Results pages wmap m (k (with_a s v)) → Results pages wmap m (k (with_b s v))
      → ((index : ℕ) → Results pages wmap (set m index v) (k s))
      → Results pages wmap m (λ m'. on_place p v k s m')
  on_place_lem (Ok Place.A) v k s o a b w = a
  on_place_lem (Ok Place.B) v k s o a b w = b
  on_place_lem (Ok (Place.Memory index)) v k s o a b w = on_store index v (k s) (o index refl) (w index)
  on_place_lem (Err t) v k s o a b w = on_trouble t

-- No instruction is looked at.
pub exec_results : (pages : List ℕ) (act : Act) (s : Registers) (m : List ℕ) → protecting s.wmap ≡ true
    → Results pages s.wmap m (exec pages act s)
unfolding exec stored_by
exec_results pages (fin f) s m on = all_done (f s) [] tt (λ m' a. refl)
exec_results pages (stop refusal) s m on = all_ended (refused refusal) tt (λ m' a. refl)
exec_results pages violate s m on = all_ended violated tt (λ m' a. refl)
exec_results pages (load map at k) s m on =
    by_same pages s.wmap m _ (λ m'. on_got (fetched pages m s.wmap map at s.a s.b) (λ w. exec pages (k w) s m'))
    (λ m' a. rw (fetched_agree pages s.wmap m m' map at s.a s.b on a))
    (on_got_lem pages s.wmap m (fetched pages m s.wmap map at s.a s.b) (λ w. exec pages (k w) s) (λ w. exec_results pages (k w) s m on))
exec_results pages (save map at v k) s m on =
    let p : Result Place Trouble = place pages s.wmap map Purpose.Store at (length m) in
    by_same pages s.wmap m _ (λ m'. on_place p v (exec pages k) s m')
    (λ m' a. rw a.lengths)
    (on_place_lem pages s.wmap m p v (exec pages k) s
    (λ index e. place_open pages s.wmap map Purpose.Store at (length m) index on e)
    (exec_results pages k (with_a s v) m on) (exec_results pages k (with_b s v) m on)
    (λ index. exec_results pages k s (set m index v) on))
exec_results pages (follow word k) s m on =
    by_same pages s.wmap m _ (λ m'. on_got (chain pages m s.wmap word s.a s.b) (λ at. exec pages (k at) s m'))
    (λ m' a. rw (chain_agree pages s.wmap m m' word s.a s.b on a))
    (on_got_lem pages s.wmap m (chain pages m s.wmap word s.a s.b) (λ at. exec pages (k at) s) (λ at. exec_results pages (k at) s m on))
exec_results pages (opened map purpose at k) s m on =
    on_open_lem pages s.wmap m (is_open pages s.wmap map purpose at) (exec pages k s) (exec_results pages k s m on)
exec_results pages (present map at k) s m on =
    by_same pages s.wmap m _ (λ m'. on_tested (presence pages s.wmap map at (length m)) (exec pages k s m'))
    (λ m' a. rw a.lengths)
    (on_tested_lem pages s.wmap m (presence pages s.wmap map at (length m)) (exec pages k s) (exec_results pages k s m on))

pub step_results : (pages : List ℕ) (r : Registers) (m : List ℕ) → protecting r.wmap ≡ true
    → Results pages r.wmap m (stepped pages r)
unfolding stepped
step_results pages r m on =
    by_same pages r.wmap m _ (λ m'. cond (good_call (length pages) (length m) r) (exec pages (step_act r) r m') bad_call)
    (λ m' a. rw a.lengths) (go (good_call (length pages) (length m) r))
  where
    go : (b : Bool) → Results pages r.wmap m (λ m'. cond b (exec pages (step_act r) r m') bad_call)
    go true = exec_results pages (step_act r) r m on
    go false = all_ended bad_call tt (λ m' a. refl)

-- The answers of a run, over every memory that agrees with m on the open pages: one answer, and one list of stores.
pub data Answers (pages : List ℕ) (wmap : ℕ) (m : List ℕ) (k : List ℕ → Leaves) : Type 0 where
  all_ran : (x : Ran) (l : List Store) → Within pages wmap l
      → ((m' : List ℕ) → Agree pages wmap m m' → k m' ≡ record { ran = x; memory = stored_by l m' }) → Answers pages wmap m k

abbrev counted : Ran → Ran
counted x = (counting (record { ran = x; memory = [] })).ran

pub running_answers : (pages : List ℕ) (budget : ℕ) (r : Registers) (m : List ℕ) → protecting r.wmap ≡ true
    → Answers pages r.wmap m (running pages budget r)
unfolding running stored_by
running_answers pages zero r m on = all_ran (ending Reply.Completed 0 r []).ran [] tt (λ m' a. refl)
running_answers pages (suc n) r m on = go (λ s k. running_answers pages n s k) (step_results pages r m on)
  where
    Rest : Type 0
    Rest = (s : Registers) (k : List ℕ) → protecting s.wmap ≡ true → Answers pages s.wmap k (running pages n s)

    -- a step that replied 0, and the steps after it
    goes_on : (s : Registers) (l : List Store) → Within pages r.wmap l
        → ((m' : List ℕ) → Agree pages r.wmap m m' → running pages (suc n) r m' ≡ counting (running pages n s (stored_by l m')))
        → Answers pages r.wmap (stored_by l m) (running pages n s) → Answers pages r.wmap m (running pages (suc n) r)
    goes_on s l h e (all_ran x k w f) =
        all_ran (counted x) (l ++ k) (within_on pages r.wmap l k h w)
        (λ m' a. e m' a ∙ ap counting (f (stored_by l m') (storing_agrees pages r.wmap l m m' a)) ∙ rw (storing_on l k m'))

    ends : (t : Stepped) → eqb (number t.reply) 0 ≡ false
        → ((m' : List ℕ) → Agree pages r.wmap m m' → (answer r (stepped pages r m') ≡ t) × (left m' (stepped pages r m') ≡ m'))
        → Answers pages r.wmap m (running pages (suc n) r)
    ends t z f =
        all_ran (ending t.reply (weight (eqb (number t.reply) 1)) t.registers []).ran [] tt
        (λ m' a. rw ((f m' a).0, (f m' a).1, z))

    go : Rest → Results pages r.wmap m (stepped pages r) → Answers pages r.wmap m (running pages (suc n) r)
    go rest (all_done s l h f) =
        let e : s.wmap ≡ r.wmap = rw (f m (record { lengths = refl; words = λ index o. refl })) at (step_stays pages r m) refl in
        goes_on s l h (λ m' a. rw (f m' a))
        (subst (λ (w : ℕ). Answers pages w (stored_by l m) (running pages n s)) e
        (rest s (stored_by l m) (ap protecting e ∙ on)))
    go rest (all_ended x h f) = ends (answer r x) (ended_number r x h) (λ m' a. rw (f m' a) (refl, ended_left x m' h))

pub ran_answers : (pages : List ℕ) (budget : ℕ) (r : Registers) (m : List ℕ) → protecting r.wmap ≡ true
    → Answers pages r.wmap m (ran pages budget r)
unfolding ran stored_by
ran_answers pages budget r m on = go (good_call (length pages) (length m) r && leb budget 1000000) refl
  where
    go : (b : Bool) → good_call (length pages) (length m) r && leb budget 1000000 ≡ b → Answers pages r.wmap m (ran pages budget r)
    go true e = run (running_answers pages budget r m on)
      where
        run : Answers pages r.wmap m (running pages budget r) → Answers pages r.wmap m (ran pages budget r)
        run (all_ran x l h f) = all_ran x l h (λ m' a. rw (← a.lengths, e) (f m' a))
    go false e = all_ran (ending Reply.BadCall 0 r []).ran [] tt (λ m' a. rw (← a.lengths, e))
