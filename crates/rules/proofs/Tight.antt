-- Each promise fixes its outcome: two outcomes that satisfy a function's own contract, as its `Reads` has it, are equal. The
-- statements are of the word layer.
-- Assumes nothing.
use mathlib.Core.Path.{sym, ◌∙◌}
use Rattle.word.proofs.Tight.{OneResult}
use Rattle.rules.proofs.memory.memory_way.Kinds as memory_way
use Rattle.rules.proofs.memory.memory_way.Reads as memory_way_reads
use Rattle.rules.proofs.memory.memory_word.Kinds as memory_word
use Rattle.rules.proofs.memory.memory_word.Reads as memory_word_reads
use Rattle.rules.proofs.actions.action_of.Kinds as action_of
use Rattle.rules.proofs.actions.action_of.Reads as action_of_reads

pub memory_way_tight : OneResult 0 memory_way.ps memory_way.r memory_way_reads.Post
memory_way_tight κs a x y s t p q = p ∙ sym q

pub memory_word_tight : OneResult 0 memory_word.ps memory_word.r memory_word_reads.Post
memory_word_tight κs a x y s t p q = p ∙ sym q

pub action_of_tight : OneResult 0 action_of.ps action_of.r action_of_reads.Post
action_of_tight κs a x y s t p q = p ∙ sym q
