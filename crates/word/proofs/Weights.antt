-- A bit weighs at most one. Assumes nothing.
use Rattle.std.proofs.Common.{◌<◌, Bool, true, false, lit<}
use Rattle.word.specs.Words.{weight}

pub weight_lt : (e : Bool) → weight e < 2
weight_lt true = lit< tt
weight_lt false = lit< tt
