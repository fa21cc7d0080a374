use Rattle.std.proofs.Common.{◌≡◌, ◌+◌, cond, List, [], ◌∷◌, ◌++◌, length, Some, sym, ap, ◌∙◌, arith, length-append}
use Rattle.mars_rows.specs.IndexInside.{same_key, Pair, rows_under, put}
use Rattle.mars_rows.proofs.Indexed.{put_last, put_same}
use Rattle.mars_rows.proofs.index.put_entries.Goals as goal

pub loop-key-preserved-in-Ok : goal.loop-key-preserved-in-Ok
loop-key-preserved-in-Ok c =
    let rest = c.loop-key.rest.items in
    let left = c.pop.new.self.items in
    let pair : Pair = (c.in-Some.key, c.in-Some.numbers) in
    let old : List Pair = c.loop-key.index.entries in
    let whole : rest ≡ left ++ pair ∷ [] = c.in-Some.ensures.items in
    let size : length rest ≡ length left + 1 = ap length whole ∙ length-append left (pair ∷ []) in
    record {
      leads = λ key.
          put_same left (rows_under c.insert.new.self.entries) (λ k. cond (same_key pair.0 k) (Some pair.1) (rows_under old k)) c.in-Ok.ensures.updates.0 key
          ∙ sym (put_last left pair (rows_under old) key) ∙ ap (λ es. put es (rows_under old) key) (sym whole) ∙ c.loop-key.invariant.leads key;
      room = omega (arith, c.in-Ok.ensures.spare, c.loop-key.invariant.room, size);
    }

pub loop-key-preserved-in-Ok-2 : goal.loop-key-preserved-in-Ok-2
loop-key-preserved-in-Ok-2 c =
    let rest = c.loop-key.rest.items in
    let left = c.pop.new.self.items in
    let pair : Pair = (c.in-Some.key, c.in-Some.numbers) in
    let old : List Pair = c.loop-key.index.entries in
    let whole : rest ≡ left ++ pair ∷ [] = c.in-Some.ensures.items in
    let size : length rest ≡ length left + 1 = ap length whole ∙ length-append left (pair ∷ []) in
    record {
      leads = λ key.
          put_same left (rows_under c.insert.new.self.entries) (λ k. cond (same_key pair.0 k) (Some pair.1) (rows_under old k)) c.in-Ok.ensures.updates.0 key
          ∙ sym (put_last left pair (rows_under old) key) ∙ ap (λ es. put es (rows_under old) key) (sym whole) ∙ c.loop-key.invariant.leads key;
      room = omega (arith, c.in-Ok.ensures.spare, c.loop-key.invariant.room, size);
    }
