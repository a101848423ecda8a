-- `sort_and_bits` meets its contract, value by value.
use Rattle.host.specs.Hosting.{sort_of, bits_of}
use Rattle.host.proofs.answers.sort_and_bits.Goals as goal

pub returns-in-Int32 : goal.returns-in-Int32
unfolding sort_of bits_of
returns-in-Int32 c = rw c.in-Int32.is

pub returns-in-Int64 : goal.returns-in-Int64
unfolding sort_of bits_of
returns-in-Int64 c = rw c.in-Int64.is

pub returns-in-Real : goal.returns-in-Real
unfolding sort_of bits_of
returns-in-Real c = rw c.in-Real.is

pub returns-in-None : goal.returns-in-None
unfolding sort_of bits_of
returns-in-None c = rw c.in-None.is

pub returns-in-Null : goal.returns-in-Null
unfolding sort_of bits_of
returns-in-Null c = rw c.in-Null.is

pub returns-in-Object : goal.returns-in-Object
unfolding sort_of bits_of
returns-in-Object c = rw c.in-Object.is
