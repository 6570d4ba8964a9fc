-- The numbers of an image: what `byteorder` reads off bytes with the high one first is what std has.
use Rattle.std.proofs.Common.{◌≡◌, ℕ, List, arith}
use Rattle.std.specs.Int.{w16, w64, from_be_bytes}
use Rattle.byteorder.specs.Endian.{big_number}

pub two_read : (bytes : List ℕ) → big_number 2 bytes ≡ from_be_bytes w16 bytes
two_read bytes = omega arith

pub eight_read : (bytes : List ℕ) → big_number 8 bytes ≡ from_be_bytes w64 bytes
eight_read bytes = omega arith

pub ruleset numbers = (two_read, eight_read)
