use Rattle.std.proofs.Common.{◌++◌, take, arith, length-append}
use Rattle.std.proofs.KnownBytes.{Consumes-trans}
use Rattle.std.proofs.lemmas.List.{length-take}
use Rattle.mars_io.proofs.whole.read_whole.Goals as goal

pub returns-in_err-extend_from_slice-in-Got-clause-taken : goal.returns-in_err-extend_from_slice-in-Got-clause-taken
returns-in_err-extend_from_slice-in-Got-clause-taken g c =
    let before = c.turns.bytes.items in
    let piece = take c.in-Got.count c.read.new.into in
    record {
      bytes = before ++ piece;
      consumed = Consumes-trans _ _ _ _ _ c.turns.invariant.consumed c.in-Got.ensures.bytes;
      bound = omega (arith, length-append before piece, length-take c.in-Got.count c.read.new.into, length-take c.min-want.result c.deref_mut.result.now, c.in-Got.ensures.bound, c.read.auto.into, c.turns-test.true);
    }
