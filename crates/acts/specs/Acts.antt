-- What a rule is: a small program over logical addresses, and how one is run.
--     Act                the program: each access in its order, and how it ends
--     Outcome             what running one gives
--     exec               running one from registers and memory; page registers are only read
--     go_on              completed, with P elsewhere
--     operand            the address that an address word after the instruction's first leads to
--     answer, left       the reply and registers of an outcome, and the memory that it leaves
--     given, settled     what an instruction gives, and its answer
--     Performs, Gives    what a function promises that carries out a program, or the reading part of one
-- A program that ends in trouble has changed nothing, by `answer` and `left`: that is said here, once, for every rule.
-- Assumes nothing.
use Rattle.std.specs.Prelude.{ℕ, ◌≡◌, Bool, true, false, List, length, set}
use Rattle.word.specs.Sums.{address}
use Rattle.maps.specs.Pages.{is_open, presence, place}
use Rattle.maps.specs.Access.{fetched}
use Rattle.maps.specs.Chains.{chain}
use Rattle.maps.specs.declared.pages.Map.{Map}
use Rattle.maps.specs.declared.pages.Purpose.{Purpose}
use Rattle.maps.specs.declared.pages.Place.{Place}
use Rattle.maps.specs.declared.troubles.Trouble.{Trouble}
use Rattle.acts.specs.Record.{with_a, with_b, with_p, interrupted}
use Rattle.acts.specs.declared.record.Registers.{Registers}
use Rattle.acts.specs.declared.replies.Refusal.{Refusal}
use Rattle.acts.specs.declared.replies.Reply.{Reply}
use Rattle.acts.specs.declared.replies.Stepped.{Stepped}
use Rattle.acts.specs.declared.replies.Stop.{Stop}
use Rattle.std.specs.Prelude.{Result, Ok, Err}

pub data Act : Type 0 where
  -- completed: the registers that follow
  fin : (Registers → Registers) → Act
  -- refused
  stop : Refusal → Act
  -- a violation that is no access: HLT, I/O, a privileged code
  violate : Act
  -- read the word at an address of a map, and go on with it
  load : Map → ℕ → (ℕ → Act) → Act
  -- store a word there
  save : Map → ℕ → ℕ → Act → Act
  -- follow the chain from an address word, and go on with its address
  follow : ℕ → (ℕ → Act) → Act
  -- the tests of an access alone: protection, presence
  opened : Map → Purpose → ℕ → Act → Act
  present : Map → ℕ → Act → Act

-- a call that is no good has no program, and its result is named here with the others
pub data Outcome : Type 0 where
  done : Registers → List ℕ → Outcome
  violated : Outcome
  refused : Refusal → Outcome
  bad_call : Outcome

-- 01: a closed page is a violation, any other trouble a refusal
abbrev pub troubled : Trouble → Outcome
troubled Trouble.Closed = violated
troubled (Trouble.Absent page) = refused (Refusal.Absent page)
troubled Trouble.Endless = refused Refusal.Endless
troubled Trouble.InRegisters = refused Refusal.InRegisters

abbrev pub on_got : Result ℕ Trouble → (ℕ → Outcome) → Outcome
on_got (Ok v) k = k v
on_got (Err t) k = troubled t

-- a store goes on with the registers and the memory that it leaves
abbrev pub on_place : Result Place Trouble → ℕ → (Registers → List ℕ → Outcome) → Registers → List ℕ → Outcome
on_place (Ok Place.A) v k r m = k (with_a r v) m
on_place (Ok Place.B) v k r m = k (with_b r v) m
on_place (Ok (Place.Memory i)) v k r m = k r (set m i v)
on_place (Err t) v k r m = troubled t

abbrev pub on_open : Bool → Outcome → Outcome
on_open true k = k
on_open false k = violated

abbrev pub on_tested : Result Unit Trouble → Outcome → Outcome
on_tested (Ok tt) k = k
on_tested (Err t) k = troubled t

unfoldable pub exec : List ℕ → Act → Registers → List ℕ → Outcome
exec pages (fin f) r m = done (f r) m
exec pages (stop refusal) r m = refused refusal
exec pages violate r m = violated
exec pages (load map at k) r m = on_got (fetched pages m r.wmap map at r.a r.b) (λ w. exec pages (k w) r m)
exec pages (save map at v k) r m = on_place (place pages r.wmap map Purpose.Store at (length m)) v (λ s n. exec pages k s n) r m
exec pages (follow word k) r m = on_got (chain pages m r.wmap word r.a r.b) (λ at. exec pages (k at) r m)
exec pages (opened map purpose at k) r m = on_open (is_open pages r.wmap map purpose at) (exec pages k r m)
exec pages (present map at k) r m = on_tested (presence pages r.wmap map at (length m)) (exec pages k r m)

-- completed, with P at q
abbrev pub go_on : ℕ → Act
go_on q = fin (λ s. with_p s q)

-- 01: "the second word and its chain, the third word and its chain": the word n past the instruction's first, as an address word
abbrev pub operand : ℕ → Registers → (ℕ → Act) → Act
operand n r k = load Map.Execute (address r.p n) (λ w. follow w k)

-- 01, What a step replies, "Returned and left": a refusal leaves all as given, a violation the interrupt state
abbrev pub answer : Registers → Outcome → Stepped
answer r (done s m) = record { reply = Reply.Completed; registers = s }
answer r violated = record { reply = Reply.Violation; registers = interrupted r }
answer r (refused refusal) = record { reply = Reply.Refused refusal; registers = r }
answer r bad_call = record { reply = Reply.BadCall; registers = r }

-- "no memory word changed"; "all as given"
abbrev pub left : List ℕ → Outcome → List ℕ
left m (done s n) = n
left m violated = m
left m (refused refusal) = m
left m bad_call = m

-- what an instruction gives: the registers that follow, or why it was not completed
abbrev pub stopped : Trouble → Stop
stopped Trouble.Closed = Stop.Violation
stopped (Trouble.Absent page) = Stop.Refused (Refusal.Absent page)
stopped Trouble.Endless = Stop.Refused Refusal.Endless
stopped Trouble.InRegisters = Stop.Refused Refusal.InRegisters

abbrev pub given : Outcome → Result Registers Stop
given (done s m) = Ok s
given violated = Err Stop.Violation
given (refused refusal) = Err (Stop.Refused refusal)
given bad_call = Err Stop.BadCall

-- the answer by what it gave: that `settled r (given x)` is `answer r x` is in proofs/Operands
abbrev pub settled : Registers → Result Registers Stop → Stepped
settled r (Ok s) = record { reply = Reply.Completed; registers = s }
settled r (Err Stop.Violation) = record { reply = Reply.Violation; registers = interrupted r }
settled r (Err (Stop.Refused refusal)) = record { reply = Reply.Refused refusal; registers = r }
settled r (Err Stop.BadCall) = record { reply = Reply.BadCall; registers = r }

-- what a function that carries out a program promises: what it gives, and the memory that it leaves
pub record Ends (m : List ℕ) (x : Outcome) (s : Result Registers Stop) (n : List ℕ) : Type 0 where
  pub outcome : s ≡ given x
  pub memory : n ≡ left m x

abbrev pub Performs : List ℕ → Act → Registers → List ℕ → Result Registers Stop → List ℕ → Type 0
Performs pages act r m s n = Ends m (exec pages act r m) s n

-- what a function that carries out the reading part of a program promises: however the program goes on, it does so with the
-- value, or has ended
pub record Gives (pages : List ℕ) (part : (ℕ → Act) → Act) (r : Registers) (m : List ℕ) (g : Result ℕ Trouble) : Type 0 where
  pub goes : (k : ℕ → Act) → exec pages (part k) r m ≡ on_got g (λ v. exec pages (k v) r m)
