-- Each promise fixes its result: two results that satisfy a function's own contract, as its `Reads` has it, are equal.
-- No function is lent anything to be written, so each has `OneResult` of the word layer. In the order of src/: image, line.
-- That show writes out the text of what list_image gives no contract says; the programs `listing`, `listing_short` and
-- `listing_flags` compare it.
-- Assumes nothing.
use mathlib.Core.Path.{◌≡◌, sym, ◌∙◌, ap}
use borrow.Fn.Kinds.{ended_of, res_t, Dens}
use denote.Triple.Clauses.{AtExit}
use contract.Lifetimes.{Lfts}
use Rattle.std.specs.Fmt.InlineText.{inline_text}
use Rattle.word.proofs.Tight.{OneResult}
use Rattle.acts.specs.declared.replies.Ran.{Ran}
use Rattle.list.specs.Line.{listing}
use Rattle.list.proofs.image.page_registers.Kinds as page_registers
use Rattle.list.proofs.image.page_registers.Reads as page_registers_reads
use Rattle.list.proofs.image.image_words.Kinds as image_words
use Rattle.list.proofs.image.image_words.Reads as image_words_reads
use Rattle.list.proofs.image.run_image.Kinds as run_image
use Rattle.list.proofs.image.run_image.Reads as run_image_reads
use Rattle.list.proofs.line.Listing.text.Kinds as text
use Rattle.list.proofs.line.Listing.text.Reads as text_reads
use Rattle.list.proofs.line.list_image.Kinds as list_image
use Rattle.list.proofs.line.list_image.Reads as list_image_reads

pub page_registers_tight : OneResult 0 page_registers.ps page_registers.r page_registers_reads.Post
page_registers_tight κs a x y s t p q = p ∙ sym q

pub image_words_tight : OneResult 1 image_words.ps image_words.r image_words_reads.Post
image_words_tight κs a x y s t p q = p ∙ sym q

pub run_image_tight : OneResult 1 run_image.ps run_image.r run_image_reads.Post
run_image_tight κs a x y s t p q = p ∙ sym q

-- as bytes: what lies behind a text's end is no part of it
pub text_tight : (κs : Lfts 0) (a : Dens κs text.ps) (x y : (res_t text.r κs).Denot) (s t : AtExit (ended_of 0 text.ps text.r) κs)
    → text_reads.Post κs a x s → text_reads.Post κs a y t → inline_text x ≡ inline_text y
text_tight κs a x y s t p q = p ∙ sym q

pub list_image_tight : OneResult 1 list_image.ps list_image.r list_image_reads.Post
list_image_tight κs a x y s t p q = ap (λ (r : Ran). record { 0 = r }) (p.0 ∙ sym q.0)

-- with text: the bytes of an image's listing are fixed
pub listing_tight : (κs : Lfts 1) (a : Dens κs list_image.ps) (x : (res_t list_image.r κs).Denot)
    (s : AtExit (ended_of 1 list_image.ps list_image.r) κs)
    → list_image_reads.Post κs a x s
    → (ιs : Lfts 0) (b : Dens ιs text.ps) (y : (res_t text.r ιs).Denot) (t : AtExit (ended_of 0 text.ps text.r) ιs)
    → text_reads.Post ιs b y t → b.0 ≡ x → inline_text y ≡ listing a.0.now
listing_tight κs a x s p ιs b y t q e = rw e at q ∙ p.1.1
