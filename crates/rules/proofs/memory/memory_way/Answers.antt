-- `memory::memory_way` meets its contract: each arm answers as the definition does there, by what its calls ensure. Assumes nothing.
use Rattle.rules.proofs.memory.memory_way.Goals as goal

pub returns-in-And : goal.returns-in-And
returns-in-And c = rw c.in-And.is

pub returns-in-Xor : goal.returns-in-Xor
returns-in-Xor c = rw c.in-Xor.is

pub returns-in-Ior : goal.returns-in-Ior
returns-in-Ior c = rw c.in-Ior.is

pub returns-in-Ada : goal.returns-in-Ada
returns-in-Ada c = rw c.in-Ada.is

pub returns-in-Adb : goal.returns-in-Adb
returns-in-Adb c = rw c.in-Adb.is

pub returns-in-Cpa : goal.returns-in-Cpa
returns-in-Cpa c = rw c.in-Cpa.is

pub returns-in-Cpb : goal.returns-in-Cpb
returns-in-Cpb c = rw c.in-Cpb.is

pub returns-in-Lda : goal.returns-in-Lda
returns-in-Lda c = rw c.in-Lda.is

pub returns-in-Ldb : goal.returns-in-Ldb
returns-in-Ldb c = rw c.in-Ldb.is

pub returns-in-Sta : goal.returns-in-Sta
returns-in-Sta c = rw c.in-Sta.is

pub returns-in-Stb : goal.returns-in-Stb
returns-in-Stb c = rw c.in-Stb.is
