use Rattle.std.proofs.Common.{◌≡◌, drop}
use Rattle.std.specs.List.{list_all}
use Rattle.mars_tokens.specs.Bytes.{is_prime_byte}
use Rattle.mars_tokens.proofs.words.are_primes.Given as goal

abbrev pub invariant-loop-b : goal.invariant-loop-b
invariant-loop-b l = list_all is_prime_byte l.bytes ≡ list_all is_prime_byte (drop l.b-index l.bytes)
