-- Each promise fixes its outcome: two outcomes that satisfy a function's own contract, as its `Reads` has it, are equal.
-- A function that lends nothing to be written has `OneResult` of the word layer. Maps::store, the only other, has in
-- store_tight the later memory beside the result. In the order of src/: pages, access, chains, bytes.
-- Assumes nothing.
use borrow.Fn.Kinds.{ended_of, res_t, Dens}
use denote.Triple.Clauses.{AtExit}
use contract.Lifetimes.{Lfts}
use mathlib.Core.Path.{◌≡◌, sym, ◌∙◌}
use Rattle.word.proofs.Tight.{OneResult}
use Rattle.maps.proofs.pages.Map.is_register.Kinds as is_register
use Rattle.maps.proofs.pages.Map.is_register.Reads as is_register_reads
use Rattle.maps.proofs.pages.is_protecting.Kinds as is_protecting
use Rattle.maps.proofs.pages.is_protecting.Reads as is_protecting_reads
use Rattle.maps.proofs.pages.switch_maps.Kinds as switch_maps
use Rattle.maps.proofs.pages.switch_maps.Reads as switch_maps_reads
use Rattle.maps.proofs.pages.Maps.is_open.Kinds as is_open
use Rattle.maps.proofs.pages.Maps.is_open.Reads as is_open_reads
use Rattle.maps.proofs.pages.Maps.presence.Kinds as presence
use Rattle.maps.proofs.pages.Maps.presence.Reads as presence_reads
use Rattle.maps.proofs.pages.Maps.place.Kinds as place
use Rattle.maps.proofs.pages.Maps.place.Reads as place_reads
use Rattle.maps.proofs.pages.Maps.read.Kinds as read
use Rattle.maps.proofs.pages.Maps.read.Reads as read_reads
use Rattle.maps.proofs.pages.Maps.store.Kinds as store_kinds
use Rattle.maps.proofs.pages.Maps.store.Reads as store_reads
use Rattle.maps.proofs.pages.Maps.follow.Kinds as follow
use Rattle.maps.proofs.pages.Maps.follow.Reads as follow_reads
use Rattle.maps.proofs.bytes.byte_word.Kinds as byte_word
use Rattle.maps.proofs.bytes.byte_word.Reads as byte_word_reads
use Rattle.maps.proofs.bytes.is_low_byte.Kinds as is_low_byte
use Rattle.maps.proofs.bytes.is_low_byte.Reads as is_low_byte_reads

pub is_register_tight : OneResult 0 is_register.ps is_register.r is_register_reads.Post
is_register_tight κs a x y s t p q = p ∙ sym q

pub is_protecting_tight : OneResult 0 is_protecting.ps is_protecting.r is_protecting_reads.Post
is_protecting_tight κs a x y s t p q = p ∙ sym q

pub switch_maps_tight : OneResult 0 switch_maps.ps switch_maps.r switch_maps_reads.Post
switch_maps_tight κs a x y s t p q = p ∙ sym q

pub is_open_tight : OneResult 1 is_open.ps is_open.r is_open_reads.Post
is_open_tight κs a x y s t p q = p ∙ sym q

pub presence_tight : OneResult 1 presence.ps presence.r presence_reads.Post
presence_tight κs a x y s t p q = p ∙ sym q

pub place_tight : OneResult 1 place.ps place.r place_reads.Post
place_tight κs a x y s t p q = p ∙ sym q

pub read_tight : OneResult 2 read.ps read.r read_reads.Post
read_tight κs a x y s t p q = p ∙ sym q

pub store_tight : (κs : Lfts 2) (a : Dens κs store_kinds.ps) (x y : (res_t store_kinds.r κs).Denot) (s t : AtExit (ended_of 2 store_kinds.ps store_kinds.r) κs)
    → store_reads.Post κs a x s → store_reads.Post κs a y t → (x ≡ y) × (s.1.1.1.1.0.now ≡ t.1.1.1.1.0.now)
store_tight κs a x y s t p q = (p.outcome ∙ sym q.outcome, p.memory ∙ sym q.memory)

pub follow_tight : OneResult 2 follow.ps follow.r follow_reads.Post
follow_tight κs a x y s t p q = p ∙ sym q

pub byte_word_tight : OneResult 0 byte_word.ps byte_word.r byte_word_reads.Post
byte_word_tight κs a x y s t p q = p ∙ sym q

pub is_low_byte_tight : OneResult 0 is_low_byte.ps is_low_byte.r is_low_byte_reads.Post
is_low_byte_tight κs a x y s t p q = p ∙ sym q
